-- What calls of a disk in memory do to its images.
use Rattle.std.proofs.Common.{◌≡◌, ℕ, Bool, true, false, List, [], ◌∷◌, ◌++◌, length, refl, sym, subst, if◌then◌else◌}
use Rattle.vv_disk.specs.declared.span.Span.{Span}
use Rattle.vv_disk.specs.declared.mem_disk.Keep.{Keep}
use Rattle.vv_disk.specs.declared.mem_disk.Keep.TheVariants.{Old, New, Torn}
use Rattle.vv_disk.specs.Images.{DiffersWithin, Follows}
use Rattle.vv_disk.specs.ImageLaws.{DiffersWithin-same}
use Rattle.vv_disk.specs.MemDisk.{MemState, DiskState, Wrote, Synced, kept, IsTorn, IsLeft, state_now, raised, fails_at, after_call}
use Rattle.vv_disk.specs.MemDiskLaws.{torn_none, torn_filled, content_left}
use Rattle.vv_disk.proofs.Keeping.{after_push}

-- the last of the ranges is torn last
pub torn_last : (old : List ℕ) (spans : List Span) (span : Span) → Follows (DiffersWithin span.at span.len) (IsTorn old spans) (IsTorn old (spans ++ span ∷ []))
torn_last old [] span image is = (old, refl, subst (λ (l : List ℕ). DiffersWithin span.at span.len old l) (sym is.2) is.1)
torn_last old (s ∷ spans) span image is =
    let last = torn_last is.0 spans span image is.2 in
    (last.0, (is.0, is.1, last.1), last.2)

write_image : (disk : MemState) (at : ℕ) (bytes : List ℕ) (fails : Bool) → Follows (DiffersWithin at (length bytes)) (IsLeft (state_now disk))
    (IsLeft (state_now (if fails then record disk { calls = raised disk.calls; write_faults = raised disk.write_faults } else record disk { calls = raised disk.calls; done = disk.done ++ Wrote at bytes ∷ [] })))
write_image disk at bytes true image is = (image, is, DiffersWithin-same at (length bytes) image)
write_image disk at bytes false image is =
    torn_last (state_now disk).synced (state_now disk).pending (record { at = at; len = length bytes }) image
    (subst (λ (s : DiskState). IsLeft s image) (after_push disk.first disk.done (Wrote at bytes)) is)

-- a write tears its own range, whether it fails or not
pub write_images : (old new : MemState) (at : ℕ) (bytes : List ℕ) → new ≡ after_call old (Wrote at bytes) → Follows (DiffersWithin at (length bytes)) (IsLeft (state_now old)) (IsLeft (state_now new))
write_images old new at bytes is =
    subst (λ (d : MemState). Follows (DiffersWithin at (length bytes)) (IsLeft (state_now old)) (IsLeft (state_now d))) (sym is) (write_image old at bytes (fails_at old (Wrote at bytes)))

sync_image : (disk : MemState) (fails : Bool) (image : List ℕ)
    → IsLeft (state_now (if fails then record disk { calls = raised disk.calls; write_faults = raised disk.write_faults } else record disk { calls = raised disk.calls; done = disk.done ++ Synced ∷ [] })) image
    → IsLeft (state_now disk) image
sync_image disk true image is = is
sync_image disk false image is =
    let now : image ≡ (state_now disk).content = subst (λ (s : DiskState). IsLeft s image) (after_push disk.first disk.done Synced) is in
    subst (λ (l : List ℕ). IsLeft (state_now disk) l) (sym now) (content_left disk.first disk.done)

-- what a crash may leave after a sync it might have left before
pub sync_images : (old new : MemState) → new ≡ after_call old Synced → (image : List ℕ) → IsLeft (state_now new) image → IsLeft (state_now old) image
sync_images old new is image left = sync_image old (fails_at old Synced) image (subst (λ (d : MemState). IsLeft (state_now d) image) is left)

-- what a crash leaves is an image
pub kept_left : (keep : Keep) (disk : MemState) → IsLeft (state_now disk) (kept keep (state_now disk))
kept_left Old disk = torn_none (state_now disk).synced (state_now disk).pending
kept_left New disk = content_left disk.first disk.done
kept_left (Torn byte) disk = torn_filled byte (state_now disk).synced (state_now disk).pending
