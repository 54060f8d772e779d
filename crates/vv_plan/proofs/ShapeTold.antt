-- What queries tell of the shape of tables, by what the tables answer.
use Rattle.std.proofs.Common.{ℕ, ◌≡◌, ◌+◌, ◌==◌, not, cond, List, [], ◌∷◌, map, length, sum_by, Option, Some, None, option_map, refl, sym, ap, ◌∙◌, arith}
use Rattle.std.proofs.lemmas.List.{length-map}
use Rattle.std.proofs.lemmas.List.Sums.{sum_by-cons}
use Rattle.vv_flat.specs.Lists.{if_found}
use Rattle.vv_flat.specs.State.{Volume, RunningClone, RunningCopy, Durable, volume_of, map_volume, map_clone, map_copy}
use Rattle.vv_flat.specs.Chunks.{Entry, shape_of_tables}
use Rattle.vv_flat.specs.Space.{used, reserved, free, entries}
use Rattle.vv_flat.specs.Changes.{size_of, allocated_of}
use Rattle.vv_vols.specs.declared.head.Head.{Head}
use Rattle.vv_vols.specs.Rows.{volume_with}
use Rattle.vv_tables.proofs.HeldSums.{sum_mapped}
use Rattle.vv_tables.proofs.ShapeVolumes.{shaped, headless, shape_found}
use Rattle.vv_reply.specs.declared.reply.Answer.TheVariants as answer
use Rattle.vv_reply.specs.declared.reply.Reply.{Reply}
use Rattle.vv_reply.specs.declared.reply.Reply.TheVariants.{Done}
use Rattle.vv_meaning.specs.Calls.{pool_told, volume_told}

abbrev stamp : Entry → ℕ
stamp e = e.stamp

same_sum : {A : Type 0} (f g : A → ℕ) → ((x : A) → f x ≡ g x) → (xs : List A) → sum_by f xs ≡ sum_by g xs
same_sum f g same [] = refl
same_sum f g same (x ∷ xs) =
    sum_by-cons f x xs ∙ ap (λ n. n + sum_by f xs) (same x) ∙ ap (λ n. g x + n) (same_sum f g same xs) ∙ sym (sum_by-cons g x xs)

mapped_sum : {A B : Type 0} (f : A → B) (p : B → ℕ) (q : A → ℕ) → ((x : A) → p (f x) ≡ q x) → (xs : List A) → sum_by p (map f xs) ≡ sum_by q xs
mapped_sum f p q same xs = sum_mapped p f xs ∙ same_sum (λ x. p (f x)) q same xs

-- the entries of all lists are as many as their stamps
pub shape_entries : (d : Durable Entry) → entries d ≡ entries (shape_of_tables d)
unfolding entries
shape_entries d =
    let v : sum_by (λ (v : Volume ℕ). length v.chunks) (map (map_volume stamp) d.volumes) ≡ sum_by (λ (v : Volume Entry). length v.chunks) d.volumes =
    mapped_sum (map_volume stamp) (λ (v : Volume ℕ). length v.chunks) (λ (v : Volume Entry). length v.chunks) (λ v. length-map v.chunks stamp) d.volumes in
    let c : sum_by (λ (c : RunningClone ℕ). length c.image + length c.target) (map (map_clone stamp) d.clones) ≡ sum_by (λ (c : RunningClone Entry). length c.image + length c.target) d.clones =
    mapped_sum (map_clone stamp) (λ (c : RunningClone ℕ). length c.image + length c.target) (λ (c : RunningClone Entry). length c.image + length c.target)
    (λ c. ap (λ n. n + length (map stamp c.target)) (length-map c.image stamp) ∙ ap (λ n. length c.image + n) (length-map c.target stamp)) d.clones in
    let p : sum_by (λ (c : RunningCopy ℕ). length c.pieces) (map (map_copy stamp) d.copies) ≡ sum_by (λ (c : RunningCopy Entry). length c.pieces) d.copies =
    mapped_sum (map_copy stamp) (λ (c : RunningCopy ℕ). length c.pieces) (λ (c : RunningCopy Entry). length c.pieces) (λ c. length-map c.pieces _) d.copies in
    omega (arith, v, c, p)

pub pool_is : (d : Durable Entry) (chunks e f r u : ℕ) → chunks ≡ d.geometry.pool_chunks → e ≡ entries d → f ≡ free (shape_of_tables d)
    → r ≡ reserved (shape_of_tables d) → u ≡ used (shape_of_tables d) → Done (answer.Pool chunks e f r u) ≡ pool_told (shape_of_tables d)
unfolding pool_told
pool_is d chunks e f r u is_chunks is_entries is_free is_reserved is_used =
    ap (λ n. Done (answer.Pool n e f r u)) is_chunks
    ∙ ap (λ n. Done (answer.Pool d.geometry.pool_chunks n f r u)) (is_entries ∙ shape_entries d)
    ∙ ap (λ n. Done (answer.Pool d.geometry.pool_chunks (entries (shape_of_tables d)) n r u)) is_free
    ∙ ap (λ n. Done (answer.Pool d.geometry.pool_chunks (entries (shape_of_tables d)) (free (shape_of_tables d)) n u)) is_reserved
    ∙ ap (λ n. Done (answer.Pool d.geometry.pool_chunks (entries (shape_of_tables d)) (free (shape_of_tables d)) (reserved (shape_of_tables d)) n)) is_used

module _ (d : Durable Entry) (n : ℕ) where
  pub no_volume : {A : Type 0} (f : Volume ℕ → A) (other : A) → None ≡ option_map headless (volume_of d n) → other ≡ if_found (volume_of (shape_of_tables d) n) f other
  no_volume f other e = go (volume_of d n) e ∙ ap (λ (o : Option (Volume ℕ)). if_found o f other) (sym (shape_found d n))
    where
      go : (o : Option (Volume Entry)) → None ≡ option_map headless o → other ≡ if_found (option_map shaped o) f other
      go None e = refl
      go (Some v) e = absurd (cc)

  -- a volume as it is told, with its head and the numbers of its chunks
  pub volume_is : (head : Head) (allocated size : ℕ) (other : Reply) → Some (volume_with n head []) ≡ option_map headless (volume_of d n)
      → allocated ≡ allocated_of (shape_of_tables d) n → size ≡ size_of (shape_of_tables d) n
      → Done (answer.Volume allocated size head.container head.kind head.metadata head.needs head.reverted head.vtype)
      ≡ if_found (volume_of (shape_of_tables d) n) volume_told other
  volume_is head allocated size other e is_allocated is_size =
      ap (λ k. Done (answer.Volume k size head.container head.kind head.metadata head.needs head.reverted head.vtype)) is_allocated
      ∙ ap (λ k. Done (answer.Volume (allocated_of (shape_of_tables d) n) k head.container head.kind head.metadata head.needs head.reverted head.vtype)) is_size
      ∙ ap (λ (o : Option (Volume ℕ)). Done (answer.Volume (count (chunks o)) (length (chunks o)) head.container head.kind head.metadata head.needs head.reverted head.vtype)) (shape_found d n)
      ∙ go (volume_of d n) e
      ∙ ap (λ (o : Option (Volume ℕ)). if_found o volume_told other) (sym (shape_found d n))
    where
      chunks : Option (Volume ℕ) → List ℕ
      chunks o = if_found o (λ v. v.chunks) []

      count : List ℕ → ℕ
      count stamps = sum_by (λ s. cond (not (s == 0)) 1 0) stamps

      go : (o : Option (Volume Entry)) → Some (volume_with n head []) ≡ option_map headless o
          → Done (answer.Volume (count (chunks (option_map shaped o))) (length (chunks (option_map shaped o))) head.container head.kind head.metadata head.needs head.reverted head.vtype)
          ≡ if_found (option_map shaped o) volume_told other
      go None e = absurd (cc)
      go (Some v) e =
          let is : volume_with n head [] ≡ headless v = cc in
          ap (λ (w : Volume Entry). Done (answer.Volume (count (map stamp v.chunks)) (length (map stamp v.chunks)) (record { 0 = w.container }) w.kind w.metadata w.needs w.reverted w.vtype)) is
