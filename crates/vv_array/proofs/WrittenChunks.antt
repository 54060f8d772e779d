-- What writes of chunks at some places leave of a content and of images. It serves the writing of chunks one after the other:
-- what changed at the place of each of them changed at one of all these places.
use Rattle.std.proofs.Common.{◌≡◌, ◌≢◌, ◌==◌, ◌||◌, ℕ, zero, suc, ◌+◌, ◌-◌, ◌<◌, ◌≤◌, Bool, true, false, List, [], ◌∷◌, length, get_or, take, drop, replicate, Option, None, Some, Result, Ok, Err, OnOk, OnErr, IfSome, refl, sym, ap, ◌∙◌, subst, arith}
use Rattle.std.specs.Prelude.{IsSomeAnd, option_map}
use Rattle.std.specs.List.{list_any}
use Rattle.std.proofs.lemmas.Bool.{eqb-false}
use Rattle.vv_units.specs.declared.geometry.Geometry.{Geometry}
use Rattle.vv_units.specs.declared.numbers.Place.{Place}
use Rattle.vv_disk.specs.Images.{bytes_at, overwritten, DiffersWithin, ToldWithin, EachImage, LeavesOnly}
use Rattle.vv_disk.specs.ImageLaws.{overwritten_within}
use Rattle.vv_disk.proofs.Moments.{started, leaves_weaker, leaves_joined}
use Rattle.vv_data.specs.Layout.{chunk_bytes, chunks_at, disk_len, place_range}
use Rattle.vv_data.proofs.Places.{chunk_kept, front_kept, chunk_written}
use Rattle.vv_image.specs.Standing.{bytes_at_place}
use Rattle.vv_array.specs.Chunks.{DiffersAt, ToldAt}
use Rattle.vv_array.specs.ChunkBytes.{place_number, stored, ChangedAt}

-- whether a place is one of some
abbrev pub is_among : List ℕ → ℕ → Bool
is_among places place = list_any (λ p. p == place) places

-- what is none of the many is none of the few
abbrev pub Wider : List ℕ → List ℕ → Type 0
Wider few many = (q : ℕ) → is_among many q ≡ false → is_among few q ≡ false

or_left : (a b : Bool) → (a || b) ≡ false → a ≡ false
or_left true b e = absurd (cc)
or_left false b e = refl

or_right : (a b : Bool) → (a || b) ≡ false → b ≡ false
or_right true b e = absurd (cc)
or_right false b e = e

or_none : (a b : Bool) → a ≡ false → b ≡ false → (a || b) ≡ false
or_none true b e f = absurd (cc)
or_none false b e f = f

-- one of the places alone
pub one_of : (places : List ℕ) (k place : ℕ) → k < length places → get_or places k 0 ≡ place → Wider (place ∷ []) places
one_of [] k place lt at q out = absurd (omega (arith, lt))
one_of (x ∷ xs) zero place lt at q out =
    let same : x ≡ place = at in
    or_none (place == q) false (ap (λ p. p == q) (sym same) ∙ or_left (x == q) (is_among xs q) out) refl
one_of (x ∷ xs) (suc k) place lt at q out = one_of xs k place (omega (arith, lt)) at q (or_right (x == q) (is_among xs q) out)

take_zeros : (k m : ℕ) → k ≤ m → take {A = ℕ} k (replicate m 0) ≡ replicate {A = ℕ} k 0
take_zeros zero m le = refl
take_zeros (suc k) zero le = absurd (omega (arith, le))
take_zeros (suc k) (suc m) le = ap (λ (l : List ℕ). 0 ∷ l) (take_zeros k m (omega (arith, le)))

drop_zeros : (k m : ℕ) → k ≤ m → drop {A = ℕ} k (replicate m 0) ≡ replicate {A = ℕ} (m - k) 0
drop_zeros zero m le = let same : m ≡ m - 0 = omega arith in ap (λ j. replicate {A = ℕ} j 0) same
drop_zeros (suc k) zero le = absurd (omega (arith, le))
drop_zeros (suc k) (suc m) le = let same : m - k ≡ suc m - suc k = omega arith in drop_zeros k m (omega (arith, le)) ∙ ap (λ j. replicate {A = ℕ} j 0) same

zeros_within : (at k m : ℕ) → at + k ≤ m → bytes_at at k (replicate m 0) ≡ replicate {A = ℕ} k 0
zeros_within at k m le = ap (λ (l : List ℕ). take k l) (drop_zeros at m (omega (arith, le))) ∙ take_zeros k (m - at) (omega (arith, le))

-- a part of a chunk without a place
pub zeros_stored : (g : Geometry) (place : Option Place) (told : Option (List ℕ)) (got : List ℕ) (at k : ℕ) → place ≡ None → at + k ≤ chunk_bytes g → got ≡ replicate {A = ℕ} k 0
    → IfSome told (λ c. got ≡ bytes_at at k (stored g c (place_number place)))
zeros_stored g place None got at k none le is = tt
zeros_stored g place (Some c) got at k none le is =
    is ∙ sym (zeros_within at k (chunk_bytes g) le) ∙ ap (λ (p : Option Place). bytes_at at k (stored g c (place_number p))) (sym none)

module _ (g : Geometry) where
  differs_same : (places c : List ℕ) → DiffersAt g places c c
  differs_same places c = record { size = refl; front = refl; others = λ place lt out. refl }

  differs_more : (few many a b : List ℕ) → Wider few many → DiffersAt g few a b → DiffersAt g many a b
  differs_more few many a b wider is = record { size = is.size; front = is.front; others = λ place lt out. is.others place lt (wider place out) }

  differs_then : (places a b c : List ℕ) → DiffersAt g places a b → DiffersAt g places b c → DiffersAt g places a c
  differs_then places a b c first second = record {
    size = second.size ∙ first.size;
    front = second.front ∙ first.front;
    others = λ place lt out. second.others place lt out ∙ first.others place lt out;
  }

  -- what changed within the chunk of a place
  pub within_differs : (place : Place) (a b : List ℕ) → DiffersWithin (place_range g place).at (place_range g place).len a b → DiffersAt g (place.0 ∷ []) a b
  within_differs place a b is = record {
    size = is.size;
    front = front_kept g place 0 (chunks_at g) a b (omega arith) is;
    others = λ q lt out. chunk_kept g place (record { 0 = q }) a b (other q out) is;
  }
    where
      other : (q : ℕ) → is_among (place.0 ∷ []) q ≡ false → q ≢ place.0
      other q out = let apart : place.0 ≡ q → ⊥ = eqb-false place.0 q (or_left (place.0 == q) false out) in λ e. apart (sym e)

  -- ---- contents that may be told

  pub told_same : (places : List ℕ) (t0 t1 : Option (List ℕ)) → t1 ≡ t0 → ToldAt g places t0 t1
  told_same places None t1 is = is
  told_same places (Some c) t1 is = subst (λ t. IsSomeAnd t (DiffersAt g places c)) (sym is) (differs_same places c)

  pub told_within : (place : Place) (t0 t1 : Option (List ℕ)) → ToldWithin (place_range g place).at (place_range g place).len t0 t1 → ToldAt g (place.0 ∷ []) t0 t1
  told_within place None t1 is = is
  told_within place (Some c) None is = is
  told_within place (Some c) (Some d) is = within_differs place c d is

  -- what a write of a chunk tells, failed or not
  pub told_put : {T E : Type 0} (r : Result T E) (place : Place) (bytes : List ℕ) (t0 t1 : Option (List ℕ)) → length bytes ≡ (place_range g place).len
      → OnOk r (t1 ≡ option_map (λ c. overwritten c (place_range g place).at bytes) t0) → OnErr r (ToldWithin (place_range g place).at (place_range g place).len t0 t1) → ToldAt g (place.0 ∷ []) t0 t1
  told_put (Err e) place bytes t0 t1 long ok err = told_within place t0 t1 err
  told_put (Ok x) place bytes None t1 long ok err = ok
  told_put (Ok x) place bytes (Some c) t1 long ok err =
      let within : DiffersWithin (place_range g place).at (place_range g place).len c (overwritten c (place_range g place).at bytes) =
      subst (λ n. DiffersWithin (place_range g place).at n c (overwritten c (place_range g place).at bytes)) long (overwritten_within c (place_range g place).at bytes) in
      subst (λ t. IsSomeAnd t (DiffersAt g (place.0 ∷ []) c)) (sym ok) (within_differs place c (overwritten c (place_range g place).at bytes) within)

  -- and where it succeeds, the chunk stands there
  pub new_put : {T E : Type 0} (r : Result T E) (place : Place) (bytes : List ℕ) (t0 t1 : Option (List ℕ)) → length bytes ≡ (place_range g place).len → place.0 < g.pool_chunks
      → ((c : List ℕ) → t0 ≡ Some c → length c ≡ disk_len g)
      → OnOk r (t1 ≡ option_map (λ c. overwritten c (place_range g place).at bytes) t0) → OnOk r (IfSome t1 (λ c. bytes_at_place g c place.0 ≡ bytes))
  new_put (Err e) place bytes t0 t1 long lt fits ok = tt
  new_put (Ok x) place bytes None t1 long lt fits ok = subst (λ t. IfSome t (λ c. bytes_at_place g c place.0 ≡ bytes)) (sym ok) tt
  new_put (Ok x) place bytes (Some c) t1 long lt fits ok =
      subst (λ t. IfSome t (λ c. bytes_at_place g c place.0 ≡ bytes)) (sym ok) (chunk_written g place c bytes (fits c refl) lt long)

  pub told_more : (few many : List ℕ) (t0 t1 : Option (List ℕ)) → Wider few many → ToldAt g few t0 t1 → ToldAt g many t0 t1
  told_more few many None t1 wider is = is
  told_more few many (Some c) None wider is = is
  told_more few many (Some c) (Some d) wider is = differs_more few many c d wider is

  pub told_then : (places : List ℕ) (t0 t1 t2 : Option (List ℕ)) → ToldAt g places t0 t1 → ToldAt g places t1 t2 → ToldAt g places t0 t2
  told_then places None t1 t2 first second = subst (λ t. ToldAt g places t t2) first second
  told_then places (Some c) None t2 first second = absurd first
  told_then places (Some c) (Some d) None first second = second
  told_then places (Some c) (Some d) (Some e) first second = differs_then places c d e first second

  -- ---- images

  pub changed_same : (places : List ℕ) (images : List ℕ → Type 0) → EachImage (ChangedAt g places images) images
  changed_same places images image is = (image, is, differs_same places image)

  pub changed_within : (place : Place) (images : List ℕ → Type 0) (image : List ℕ) → (earlier : List ℕ) × images earlier × DiffersWithin (place_range g place).at (place_range g place).len earlier image
      → ChangedAt g (place.0 ∷ []) images image
  changed_within place images image from = (from.0, from.1, within_differs place from.0 image from.2)

  changed_more : (few many : List ℕ) (images : List ℕ → Type 0) → Wider few many → EachImage (ChangedAt g many images) (ChangedAt g few images)
  changed_more few many images wider image changed = (changed.0, changed.1, differs_more few many changed.0 image wider changed.2)

  changed_then : (places : List ℕ) (first second : List ℕ → Type 0) → EachImage (ChangedAt g places first) second → EachImage (ChangedAt g places first) (ChangedAt g places second)
  changed_then places first second each image changed =
      let earlier = each changed.0 changed.1 in
      (earlier.0, earlier.1, differs_then places earlier.0 changed.0 image earlier.2 changed.2)

  -- a change at one place of those that changed already
  pub changed_further : (few many : List ℕ) (first second : List ℕ → Type 0) → Wider few many → EachImage (ChangedAt g many first) second → EachImage (ChangedAt g many first) (ChangedAt g few second)
  changed_further few many first second wider each image changed = changed_then many first second each image (changed_more few many second wider image changed)

  -- ---- moments
  module _ {D : Type 0} (moment : D → ℕ) (left_since : D → ℕ → List ℕ → Type 0) where
    -- before the first call
    pub begun_at : (disk : D) (places : List ℕ) (images : List ℕ → Type 0) → ((image : List ℕ) → left_since disk (moment disk) image → images image) → LeavesOnly moment left_since disk disk (ChangedAt g places images)
    begun_at disk places images now = started moment left_since disk (ChangedAt g places images) (λ image left. changed_same places images image (now image left))

    -- what a read leaves
    pub read_at : (old new : D) (places : List ℕ) (images : List ℕ → Type 0) → LeavesOnly moment left_since old new images → LeavesOnly moment left_since old new (ChangedAt g places images)
    read_at old new places images leaves = leaves_weaker moment left_since old new images (ChangedAt g places images) (changed_same places images) leaves

    -- and then a chunk is written
    pub then_at : (old mid new : D) (few many : List ℕ) (images mids : List ℕ → Type 0) → Wider few many → EachImage (ChangedAt g many images) mids
        → LeavesOnly moment left_since old mid (ChangedAt g many images) → LeavesOnly moment left_since mid new (ChangedAt g few mids) → LeavesOnly moment left_since old new (ChangedAt g many images)
    then_at old mid new few many images mids wider each so_far leaves =
        leaves_joined moment left_since old mid new (ChangedAt g many images) so_far
        (leaves_weaker moment left_since mid new (ChangedAt g few mids) (ChangedAt g many images) (changed_further few many images mids wider each) leaves)
