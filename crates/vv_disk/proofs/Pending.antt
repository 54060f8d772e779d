-- What stands at each byte of what a crash leaves: bytes that are not pending stay.
use Rattle.std.proofs.Common.{◌≡◌, ◌⊎◌, inl, inr, ℕ, zero, suc, ◌+◌, ◌<◌, ◌≤◌, Bool, true, false, ◌||◌, List, [], ◌∷◌, length, get_or, replicate, refl, ◌∙◌, sym, arith}
use Rattle.std.specs.List.{list_any}
use Rattle.std.proofs.lemmas.List.{length-replicate}
use Rattle.std.proofs.lemmas.List.Folds.{list_any-append}
use Rattle.std.proofs.lemmas.Bool.{cases_lt, or_parts}
use Rattle.std.proofs.lemmas.Bool.Decides.{nat_tests}
use Rattle.vv_disk.specs.declared.span.Span.{Span}
use Rattle.vv_disk.specs.declared.mem_disk.Keep.{Keep}
use Rattle.vv_disk.specs.declared.mem_disk.Keep.TheVariants.{Old, New, Torn}
use Rattle.vv_disk.specs.Images.{overwritten}
use Rattle.vv_disk.specs.ImageLaws.{length-overwritten, overwritten_within}
use Rattle.vv_disk.specs.MemDisk.{DiskState, Done, Wrote, Synced, step, after, filled, kept, is_within, is_pending}
use Rattle.vv_disk.specs.MemDiskLaws.{steps_keep, after_sized}
use Rattle.vv_disk.proofs.Bytes.{byte_before, byte_behind}

behind_it : (span : Span) (k : ℕ) → is_within k span ≡ false → span.at ≤ k → span.at + span.len ≤ k
behind_it span k not_in le = grind (arith, nat_tests)

inside_it : (span : Span) (k : ℕ) → is_within k span ≡ true → (span.at ≤ k) × (k < span.at + span.len)
inside_it span k in' = grind (arith, nat_tests)

apart : (old : List ℕ) (span : Span) (bytes : List ℕ) (k : ℕ) → length bytes ≡ span.len → is_within k span ≡ false → (k < span.at) ⊎ (span.at ≤ k) → get_or (overwritten old span.at bytes) k 0 ≡ get_or old k 0
apart old span bytes k size not_in (inl lt) = byte_before span.at (length bytes) k old (overwritten old span.at bytes) lt (overwritten_within old span.at bytes)
apart old span bytes k size not_in (inr le) = byte_behind span.at (length bytes) k old (overwritten old span.at bytes) (omega (arith, size, behind_it span k not_in le)) (overwritten_within old span.at bytes)

-- a byte outside a range that is written stays
outside : (old : List ℕ) (span : Span) (bytes : List ℕ) (k : ℕ) → length bytes ≡ span.len → is_within k span ≡ false → get_or (overwritten old span.at bytes) k 0 ≡ get_or old k 0
outside old span bytes k size not_in = apart old span bytes k size not_in (cases_lt k span.at)

-- a byte inside a range that is filled
inside : (old : List ℕ) (at n byte k : ℕ) → at ≤ k → k < at + n → k < length old → get_or (overwritten old at (replicate n byte)) k 0 ≡ byte
inside [] at n byte k from to lt = absurd (omega arith)
inside (x ∷ old) zero zero byte k from to lt = absurd (omega arith)
inside (x ∷ old) zero (suc n) byte zero from to lt = refl
inside (x ∷ old) zero (suc n) byte (suc k) from to lt = inside old zero n byte k (omega arith) (omega arith) (omega arith)
inside (x ∷ old) (suc at) n byte zero from to lt = absurd (omega arith)
inside (x ∷ old) (suc at) n byte (suc k) from to lt = inside old at n byte k (omega arith) (omega arith) (omega arith)

filled_outside : (byte : ℕ) (old : List ℕ) (spans : List Span) (k : ℕ) → list_any (is_within k) spans ≡ false → get_or (filled byte old spans) k 0 ≡ get_or old k 0
filled_outside byte old [] k not_in = refl
filled_outside byte old (span ∷ spans) k not_in =
    let parts = or_parts (is_within k span) (list_any (is_within k) spans) not_in in
    filled_outside byte (overwritten old span.at (replicate span.len byte)) spans k parts.1 ∙ outside old span (replicate span.len byte) k (length-replicate span.len byte) parts.0

-- it stands in the first range, or in a later one
either : (byte k : ℕ) (old : List ℕ) (span : Span) (spans : List Span) (now later : Bool) → is_within k span ≡ now → list_any (is_within k) spans ≡ later → (now || later) ≡ true → k < length old
    → (list_any (is_within k) spans ≡ true → get_or (filled byte (overwritten old span.at (replicate span.len byte)) spans) k 0 ≡ byte) → get_or (filled byte (overwritten old span.at (replicate span.len byte)) spans) k 0 ≡ byte
either byte k old span spans now true in' later some lt there = there later
either byte k old span spans true false in' later some lt there =
    let two = inside_it span k in' in
    filled_outside byte (overwritten old span.at (replicate span.len byte)) spans k later ∙ inside old span.at span.len byte k two.0 two.1 lt
either byte k old span spans false false in' later some lt there = absurd (cc)

filled_inside : (byte : ℕ) (old : List ℕ) (spans : List Span) (k : ℕ) → k < length old → list_any (is_within k) spans ≡ true → get_or (filled byte old spans) k 0 ≡ byte
filled_inside byte old [] k lt some = absurd (cc)
filled_inside byte old (span ∷ spans) k lt some =
    either byte k old span spans (is_within k span) (list_any (is_within k) spans) refl refl some lt
    (filled_inside byte (overwritten old span.at (replicate span.len byte)) spans k (omega (arith, length-overwritten old span.at (replicate span.len byte))))

-- a byte that is not pending is as the last sync left it
abbrev Settled : DiskState → Type 0
Settled state = (k : ℕ) → is_pending state k ≡ false → get_or state.synced k 0 ≡ get_or state.content k 0

settled_step : (state : DiskState) (next : Done) → Settled state → Settled (step state next)
settled_step state (Wrote at bytes) is k none =
    let span : Span = record { at = at; len = length bytes } in
    let parts = or_parts (list_any (is_within k) state.pending) (list_any (is_within k) (span ∷ [])) (sym (list_any-append (is_within k) state.pending (span ∷ [])) ∙ none) in
    let last = or_parts (is_within k span) false parts.1 in
    is k parts.0 ∙ sym (outside state.content span bytes k refl last.0)
settled_step state Synced is k none = refl

settled : (first : List ℕ) (done : List Done) → Settled (after first done)
settled first done = steps_keep Settled settled_step (record { synced = first; content = first; pending = [] }) done (λ k none. refl)

-- bytes that are not pending stay
pub kept_others : (keep : Keep) (first : List ℕ) (done : List Done) (k : ℕ) → is_pending (after first done) k ≡ false → get_or (kept keep (after first done)) k 0 ≡ get_or (after first done).content k 0
kept_others Old first done k none = settled first done k none
kept_others New first done k none = refl
kept_others (Torn byte) first done k none = filled_outside byte (after first done).synced (after first done).pending k none ∙ settled first done k none

-- all pending bytes are this one
pub kept_torn : (byte : ℕ) (first : List ℕ) (done : List Done) (k : ℕ) → k < length first → is_pending (after first done) k ≡ true → get_or (kept (Torn byte) (after first done)) k 0 ≡ byte
kept_torn byte first done k lt some = filled_inside byte (after first done).synced (after first done).pending k (omega (arith, (after_sized first done).synced)) some
