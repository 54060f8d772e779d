use Rattle.std.proofs.Common.{◌≡◌, ◌≢◌, ℕ, ◌+◌, ◌≤◌, List, ◌++◌, Some, length, get_or, take, drop, IfSome, ◌∙◌, sym, ap, subst, arith}
use Rattle.std.proofs.lemmas.List.{take_at, length-take}
use Rattle.vv_disk.specs.Images.{bytes_at}
use Rattle.vv_journal.specs.Half.{payload_at, payload_limit}
use Rattle.vv_journal.specs.Header.{number_at}
use Rattle.vv_journal.specs.Openings.{StandsNext}
use Rattle.vv_journal.specs.declared.reading.SlotRead.TheVariants.{Bad, Payload}
use Rattle.vv_journal.proofs.Opened.{told_three, gate_read, slot_bad, slot_good}
use Rattle.vv_journal.proofs.journal.Journal.read_slot.Goals as goal

pub returns-then-number_of_4-ne0-clause-slot : goal.returns-then-number_of_4-ne0-clause-slot
returns-then-number_of_4-ne0-clause-slot g c =
    let told = g.D.Disk.content c.args.disk.now in
    let journal = c.args.self.now in
    let gate = c.get.new.into in
    let head = c.get-2.new.into in
    let P : List ℕ → Type 0 = λ d. gate ≡ bytes_at c.next_gate.result 1 d in
    let Q : List ℕ → Type 0 = λ d. head ≡ bytes_at c.next_slot-slot.result 8 d in
    let one : get_or gate 0 0 ≡ 1 = c.if-gate-ne-OPEN.false in
    let bad : number_at 4 4 head ≢ 0 = λ zero. c.if-number_of_4-ne0.true (c.number_of_4.ensures ∙ zero) in
    let head_read : IfSome told Q = subst (λ t. IfSome t Q) c.get.ensures.content c.in_ok-get-2.ensures.bytes in
    told_three told P Q Q (StandsNext journal c.args.into.now Bad) c.in_ok-get.ensures.bytes head_read head_read
    (λ d gate_is head_is again. (
      ap (λ (k : ℕ). get_or d k 0) (sym c.next_gate.ensures.start) ∙ gate_read c.next_gate.result gate d gate_is one,
      ap (λ (k : ℕ). payload_at k d) (sym c.next_slot-slot.ensures.start) ∙ slot_bad c.next_slot-slot.result head d head_is bad,
    ))

pub returns-clause-slot : goal.returns-clause-slot
returns-clause-slot g c =
    let told = g.D.Disk.content c.args.disk.now in
    let journal = c.args.self.now in
    let gate = c.get.new.into in
    let head = c.get-2.new.into in
    let got = c.get-3.new.into in
    let len = c.number_of_4-len.result in
    let slot = c.next_slot-slot.result in
    let whole = got ++ drop len c.args.into.now in
    let P : List ℕ → Type 0 = λ d. gate ≡ bytes_at c.next_gate.result 1 d in
    let Q : List ℕ → Type 0 = λ d. head ≡ bytes_at slot 8 d in
    let R : List ℕ → Type 0 = λ d. got ≡ bytes_at (slot + 8) len d in
    let one : get_or gate 0 0 ≡ 1 = c.if-gate-ne-OPEN.false in
    let few : len ≤ payload_limit = c.if-len-gt-PAYLOAD_LIMIT.false in
    let zeros : number_at 4 4 head ≡ 0 = sym c.number_of_4.ensures ∙ c.if-number_of_4-ne0.false in
    let size : length (take len c.args.into.now) ≡ len = omega (arith, length-take len c.args.into.now, few, c.requires.into) in
    let head_read : IfSome told Q = subst (λ t. IfSome t Q) c.get.ensures.content c.in_ok-get-2.ensures.bytes in
    let got_read : IfSome told R = subst (λ t. IfSome t R) (c.get-2.ensures.content ∙ c.get.ensures.content) (subst (λ n. IfSome (g.D.Disk.content c.get-2.new.disk) (λ d. got ≡ bytes_at (slot + 8) n d)) size c.in_ok-get-3.ensures.bytes) in
    let got_size : length got ≡ len = omega (arith, c.get-3.auto.into, size) in
    told_three told P Q R (StandsNext journal whole (Payload len)) c.in_ok-get.ensures.bytes head_read got_read
    (λ d gate_is head_is got_is. (
      ap (λ (k : ℕ). get_or d k 0) (sym c.next_gate.ensures.start) ∙ gate_read c.next_gate.result gate d gate_is one,
      ap (λ (k : ℕ). payload_at k d) (sym c.next_slot-slot.ensures.start)
          ∙ slot_good slot len head got d head_is (sym c.number_of_4-len.ensures) few zeros got_is
          ∙ ap (λ (l : List ℕ). Some l) (sym (take_at got (drop len c.args.into.now) len got_size)),
    ))
