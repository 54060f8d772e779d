-- What a crash may leave while an image is formatted: before the format's byte is cleared, while the rest is written
-- behind a cleared byte, and while the byte is set again.
use Rattle.std.proofs.Common.{◌≡◌, ◌≢◌, ◌⊎◌, inl, inr, ⊎_elim, ℕ, ◌-◌, ◌<◌, Bool, true, false, eqb, List, [], ◌∷◌, length, get_or, Option, Some, refl, sym, ap, ◌∙◌, subst, arith}
use Rattle.std.proofs.lemmas.Bool.{eq-eqb, eqb-true}
use Rattle.vv_units.specs.declared.geometry.Geometry.{Geometry}
use Rattle.vv_disk.specs.Images.{overwritten, DiffersWithin, EachImage, OnlyTold}
use Rattle.vv_disk.proofs.Bytes.{byte_before}
use Rattle.vv_data.specs.Layout.{half_at}
use Rattle.vv_journal.specs.Log.{Holds, fresh_log}
use Rattle.vv_journal.specs.Calls.{ChangedWithin, IsBeingMade}
use Rattle.vv_journal.proofs.Bytes.{byte_written}
use Rattle.vv_journal.proofs.Crash.{changed_wider, changed_twice}

nothing_written : (disk : List ℕ) → overwritten disk 0 [] ≡ disk
nothing_written [] = refl
nothing_written (x ∷ disk) = refl

-- an image that differs in its first byte alone is the other one with that byte written
one_byte : (disk image : List ℕ) (byte : ℕ) → 0 < length disk → DiffersWithin 0 1 disk image → get_or image 0 0 ≡ byte → image ≡ overwritten disk 0 (byte ∷ [])
one_byte [] image byte long within is = absurd (omega (arith, long))
one_byte (y ∷ disk) [] byte long within is = absurd (omega (arith, within.size))
one_byte (y ∷ disk) (x ∷ image) byte long within is =
    ap (λ (b : ℕ). b ∷ image) is ∙ ap (λ (rest : List ℕ). byte ∷ rest) (within.behind ∙ sym (nothing_written disk))

is_or_not : (b : Bool) (n m : ℕ) → eqb n m ≡ b → (n ≢ m) ⊎ (n ≡ m)
is_or_not true n m is = inr (eqb-true n m is)
is_or_not false n m is = inl (λ same. let yes_ = eq-eqb n m same in cc)

module _ (geometry : Geometry) (tables : List ℕ) (images : List ℕ → Type 0) where
  -- the byte was cleared, or not
  pub being_cleared : EachImage (IsBeingMade geometry tables images) (ChangedWithin 0 1 images)
  being_cleared image changed = (inl changed, changed_wider 0 1 0 (half_at geometry 1) images (omega arith) (omega arith) image changed)

  -- and then all else is written
  pub being_filled : (disk : List ℕ) (told : Option (List ℕ)) (mids : List ℕ → Type 0) → 0 < length disk → told ≡ Some (overwritten disk 0 (0 ∷ [])) → OnlyTold told mids → EachImage (ChangedWithin 0 (half_at geometry 1) images) mids
      → EachImage (IsBeingMade geometry tables images) (ChangedWithin 1 (half_at geometry 1 - 1) mids)
  being_filled disk told mids long is only each image changed =
      let same : changed.0 ≡ overwritten disk 0 (0 ∷ []) = let e = only changed.0 changed.1 in cc in
      let cleared : get_or image 0 0 ≡ 0 = byte_before 1 (half_at geometry 1 - 1) 0 changed.0 image (omega arith) changed.2 ∙ ap (λ (d : List ℕ). get_or d 0 0) same ∙ byte_written disk 0 0 long in (
        inr (inl (λ set. absurd (omega (arith, cleared, set)))),
        changed_twice 1 (half_at geometry 1 - 1) 0 (half_at geometry 1) images mids (omega arith) (omega arith) each image changed,
      )

  -- and then the byte is set, or not
  pub being_set : (disk : List ℕ) (told : Option (List ℕ)) (mids : List ℕ → Type 0) → 0 < length disk → told ≡ Some disk → Holds (fresh_log geometry tables) (overwritten disk 0 (165 ∷ [])) → OnlyTold told mids
      → EachImage (ChangedWithin 0 (half_at geometry 1) images) mids → EachImage (IsBeingMade geometry tables images) (ChangedWithin 0 1 mids)
  being_set disk told mids long is holds only each image changed =
      let same : changed.0 ≡ disk = let e = only changed.0 changed.1 in cc in
      let within : DiffersWithin 0 1 disk image = subst (λ d. DiffersWithin 0 1 d image) same changed.2 in (
        inr (⊎_elim (λ unset. inl unset) (λ set. inr (subst (Holds (fresh_log geometry tables)) (sym (one_byte disk image 165 long within set)) holds)) (is_or_not (eqb (get_or image 0 0) 165) (get_or image 0 0) 165 refl)),
        changed_twice 0 1 0 (half_at geometry 1) images mids (omega arith) (omega arith) each image changed,
      )
