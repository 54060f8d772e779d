-- What the shape of tables tells of a volume is told by the head and the list of the volume that the shelf has.
use Rattle.std.proofs.Common.{ℕ, ◌≡◌, ◌+◌, ◌==◌, not, cond, List, [], ◌∷◌, map, length, count_by, Option, Some, None, option_map, refl, sym, ap, ◌∙◌}
use Rattle.std.specs.Prelude.{IsSome}
use Rattle.std.proofs.lemmas.List.{length-map}
use Rattle.std.proofs.lemmas.List.Sums.{sum_by-cons}
use Rattle.vv_flat.specs.Lists.{if_found}
use Rattle.vv_flat.specs.State.{Volume, Durable, volume_of, map_volume}
use Rattle.vv_flat.specs.Chunks.{Entry, shape_of_tables}
use Rattle.vv_flat.specs.Changes.{size_of, allocated_of, metadata_of}
use Rattle.vv_tables.proofs.Walks.{find_mapped}

abbrev pub shaped : Volume Entry → Volume ℕ
shaped v = map_volume (λ (e : Entry). e.stamp) v

abbrev pub headless : Volume Entry → Volume Entry
headless v = record v { chunks = [] }

-- a volume of the shape
pub shape_found : (d : Durable Entry) (n : ℕ) → volume_of (shape_of_tables d) n ≡ option_map shaped (volume_of d n)
shape_found d n = find_mapped shaped (λ (v : Volume Entry). v.number == n) (λ (v : Volume ℕ). v.number == n) (λ v. refl) d.volumes

module _ (d : Durable Entry) (n : ℕ) where
  -- What is asked of a volume of the shape, where it doesn't look at the chunks, is asked of the volume without them.
  pub of_some : {A : Type 0} (w : Volume Entry) (f : Volume ℕ → A) (other : A) → Some w ≡ option_map headless (volume_of d n)
      → ((v : Volume Entry) → f (shaped v) ≡ f (shaped (headless v))) → f (shaped w) ≡ if_found (volume_of (shape_of_tables d) n) f other
  of_some {A} w f other e same = go (volume_of d n) e ∙ ap (λ (o : Option (Volume ℕ)). if_found o f other) (sym (shape_found d n))
    where
      go : (o : Option (Volume Entry)) → Some w ≡ option_map headless o → f (shaped w) ≡ if_found (option_map shaped o) f other
      go None e = absurd (cc)
      go (Some v) e = let is : w ≡ headless v = cc in ap (λ u. f (shaped u)) is ∙ sym (same v)

  no_volume : None ≡ option_map headless (volume_of d n) → volume_of d n ≡ None
  no_volume e = go (volume_of d n) e
    where
      go : (o : Option (Volume Entry)) → None ≡ option_map headless o → o ≡ None
      go None e = refl
      go (Some v) e = absurd (cc)

  pub of_none : {A : Type 0} (f : Volume ℕ → A) (other : A) → None ≡ option_map headless (volume_of d n) → other ≡ if_found (volume_of (shape_of_tables d) n) f other
  of_none f other e =
      ap (λ (o : Option (Volume Entry)). if_found (option_map shaped o) f other) (sym (no_volume e))
      ∙ ap (λ (o : Option (Volume ℕ)). if_found o f other) (sym (shape_found d n))

  -- a volume stands where its head is lent
  pub stands : (w : Volume Entry) → Some w ≡ option_map headless (volume_of d n) → IsSome (volume_of d n)
  stands w e = go (volume_of d n) e
    where
      go : (o : Option (Volume Entry)) → Some w ≡ option_map headless o → IsSome o
      go None e = absurd (cc)
      go (Some v) e = refl

  -- its size, how many of its chunks are allocated, and how many pairs it has
  pub size_is : if_found (volume_of d n) (λ (v : Volume Entry). length v.chunks) 0 ≡ size_of (shape_of_tables d) n
  size_is = go (volume_of d n) ∙ ap (λ (o : Option (Volume ℕ)). length (if_found o (λ v. v.chunks) [])) (sym (shape_found d n))
    where
      go : (o : Option (Volume Entry)) → if_found o (λ (v : Volume Entry). length v.chunks) 0 ≡ length (if_found (option_map shaped o) (λ v. v.chunks) [])
      go None = refl
      go (Some v) = sym (length-map v.chunks (λ (e : Entry). e.stamp))

  allocated_stamps : (chunks : List Entry) → count_by (λ (e : Entry). not (e.stamp == 0)) chunks ≡ count_by (λ s. not (s == 0)) (map (λ (e : Entry). e.stamp) chunks)
  allocated_stamps [] = refl
  allocated_stamps (e ∷ es) =
      sum_by-cons (λ (x : Entry). cond (not (x.stamp == 0)) 1 0) e es
      ∙ ap (λ k. cond (not (e.stamp == 0)) 1 0 + k) (allocated_stamps es)
      ∙ sym (sum_by-cons (λ s. cond (not (s == 0)) 1 0) e.stamp (map (λ (x : Entry). x.stamp) es))

  pub allocated_is : count_by (λ (e : Entry). not (e.stamp == 0)) (if_found (volume_of d n) (λ (v : Volume Entry). v.chunks) []) ≡ allocated_of (shape_of_tables d) n
  allocated_is = go (volume_of d n) ∙ ap (λ (o : Option (Volume ℕ)). count_by (λ s. not (s == 0)) (if_found o (λ v. v.chunks) [])) (sym (shape_found d n))
    where
      go : (o : Option (Volume Entry)) → count_by (λ (e : Entry). not (e.stamp == 0)) (if_found o (λ (v : Volume Entry). v.chunks) [])
          ≡ count_by (λ s. not (s == 0)) (if_found (option_map shaped o) (λ v. v.chunks) [])
      go None = refl
      go (Some v) = allocated_stamps v.chunks

  pub pairs_is : if_found (volume_of d n) (λ (v : Volume Entry). length v.metadata) 0 ≡ length (metadata_of (shape_of_tables d) n)
  pairs_is = go (volume_of d n) ∙ ap (λ (o : Option (Volume ℕ)). length (if_found o (λ v. v.metadata) [])) (sym (shape_found d n))
    where
      go : (o : Option (Volume Entry)) → if_found o (λ (v : Volume Entry). length v.metadata) 0 ≡ length (if_found (option_map shaped o) (λ v. v.metadata) [])
      go None = refl
      go (Some v) = refl

  -- .. where there is no such volume
  pub no_size : None ≡ option_map headless (volume_of d n) → 0 ≡ size_of (shape_of_tables d) n
  no_size e = ap (λ (o : Option (Volume Entry)). if_found o (λ v. length v.chunks) 0) (sym (no_volume e)) ∙ size_is

  pub none_allocated : None ≡ option_map headless (volume_of d n) → 0 ≡ allocated_of (shape_of_tables d) n
  none_allocated e = ap (λ (o : Option (Volume Entry)). count_by (λ (e : Entry). not (e.stamp == 0)) (if_found o (λ v. v.chunks) [])) (sym (no_volume e)) ∙ allocated_is
