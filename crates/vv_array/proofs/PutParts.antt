-- What the steps of putting an event on the disk say together, by how they went. It serves `put_ahead`, `put_event` and what
-- calls them.
use Rattle.std.proofs.Common.{◌≡◌, ◌⊎◌, inl, inr, ℕ, ◌+◌, ◌≤◌, true, false, Bool, List, [], ◌∷◌, Option, Some, None, Result, Ok, Err, OnOk, OnErr, IfErr, refl, sym, ap, ◌∙◌, subst, arith}
use Rattle.std.specs.Prelude.{◌≢◌, ⊤}
use Rattle.vv_units.specs.Causes.{Rose, HasCause}
use Rattle.vv_units.specs.declared.damage.DiskFault.{DiskFault}
use Rattle.vv_units.specs.declared.damage.DiskFault.TheVariants as fault
use Rattle.vv_disk.specs.Images.{EachImage}
use Rattle.vv_flat.specs.State.{Array}
use Rattle.vv_flat.specs.Chunks.{ChunkValue}
use Rattle.vv_array.specs.Standing.{StandsKept}
use Rattle.vv_array.specs.DiskCauses.{HasCauses}
use Rattle.vv_array.specs.Puts.{UnlessWrite, OnRead, LeftWhen}

pub unless_write : {T : Type 0} (r : Result T DiskFault) (P : Type 0) → P → UnlessWrite r P
unless_write (Ok x) P p = p
unless_write (Err fault.Read) P p = p
unless_write (Err fault.Write) P p = tt

pub on_write : {T : Type 0} (r : Result T DiskFault) (f : DiskFault) (P : Type 0) → r ≡ Err f → f ≡ fault.Write → UnlessWrite r P
on_write {T} r f P e is = subst (λ (x : Result T DiskFault). UnlessWrite x P) (sym (e ∙ ap (λ (y : DiskFault). Err y) is)) tt

-- a fault of a write is none of a read
pub never_read : {T : Type 0} (r : Result T DiskFault) (P : Type 0) → IfErr r (λ f. f ≡ fault.Write) → OnRead r P
never_read (Ok x) P is = tt
never_read (Err fault.Read) P is = absurd (cc)
never_read (Err fault.Write) P is = tt

pub read_of : (T U : Type 0) (f : DiskFault) (P Q : Type 0) → (P → Q) → UnlessWrite {T = T} (Err f) P → OnRead {T = U} (Err f) Q
read_of T U fault.Read P Q then p = then p
read_of T U fault.Write P Q then p = tt

-- ---- what a crash may leave

pub left_first : {T : Type 0} (r : Result T DiskFault) (before after : Array ChunkValue) → EachImage (LeftWhen r before after) (StandsKept before)
left_first (Ok x) before after image stands = inl stands
left_first (Err fault.Read) before after image stands = stands
left_first (Err fault.Write) before after image stands = inl stands

pub left_either : {T : Type 0} (r : Result T DiskFault) (before after : Array ChunkValue) → IfErr r (λ f. f ≡ fault.Write)
    → EachImage (LeftWhen r before after) (λ image. StandsKept before image ⊎ StandsKept after image)
left_either (Ok x) before after is image stands = stands
left_either (Err fault.Read) before after is image stands = absurd (cc)
left_either (Err fault.Write) before after is image stands = stands

-- ---- causes

pub write_causes : {T : Type 0} (r : Result T DiskFault) (reads reads_now writes writes_now : ℕ) → IfErr r (λ f. f ≡ fault.Write) → HasCause writes writes_now r → reads_now ≡ reads
    → HasCauses reads reads_now writes writes_now r
write_causes (Ok x) reads reads_now writes writes_now is cause same = record {
  reads = omega arith;
  writes = cause.later;
  read = tt;
  write = tt;
  kept = (same, cause.kept);
}
write_causes (Err f) reads reads_now writes writes_now is cause same = record {
  reads = omega arith;
  writes = cause.later;
  read = λ read. let wrong : fault.Read ≡ fault.Write = sym read ∙ is in absurd (cc);
  write = λ write. cause.failed;
  kept = tt;
}

pub causes_then : {T U : Type 0} (first : Result T DiskFault) (second : Result U DiskFault) (x : T) (r0 r1 r2 w0 w1 w2 : ℕ) → first ≡ Ok x → HasCauses r0 r1 w0 w1 first → HasCauses r1 r2 w1 w2 second
    → HasCauses r0 r2 w0 w2 second
causes_then {T} {U} first second x r0 r1 r2 w0 w1 w2 e before after =
    let kept : (r1 ≡ r0) × (w1 ≡ w0) = subst (λ (r : Result T DiskFault). OnOk r ((r1 ≡ r0) × (w1 ≡ w0))) e before.kept in
    subst (λ (n : ℕ). HasCauses n r2 w0 w2 second) kept.0 (subst (λ (n : ℕ). HasCauses r1 r2 n w2 second) kept.1 after)

-- ---- what comes of a success

pub ok_then : {T : Type 0} (r : Result T DiskFault) (P Q : Type 0) → OnOk r P → (P → Q) → OnOk r Q
ok_then (Ok x) P Q has then = then has
ok_then (Err f) P Q has then = tt

pub left_fault : (T : Type 0) (f : DiskFault) (before after : Array ChunkValue) → EachImage (LeftWhen {T = T} (Err f) before after) (StandsKept before)
left_fault T fault.Read before after image stands = stands
left_fault T fault.Write before after image stands = inl stands

pub on_read : {T : Type 0} (r : Result T DiskFault) (P : Type 0) → P → OnRead r P
on_read (Ok x) P p = tt
on_read (Err fault.Read) P p = p
on_read (Err fault.Write) P p = tt
