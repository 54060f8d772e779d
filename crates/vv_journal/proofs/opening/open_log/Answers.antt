use Rattle.std.proofs.Common.{◌≡◌, inr, ℕ, ◌%◌, List, Some, get_or, IfSome, ◌∙◌, sym, ap, subst, arith}
use Rattle.vv_units.specs.declared.damage.Part.TheVariants.{Area as in_area}
use Rattle.vv_disk.specs.Images.{bytes_at}
use Rattle.vv_journal.specs.declared.opening.LogHead.{LogHead}
use Rattle.vv_journal.specs.declared.opening.OpenFault.{OpenFault}
use Rattle.vv_journal.specs.declared.opening.OpenFault.TheVariants.{NotFormatted}
use Rattle.vv_journal.specs.Header.{Header, number_at}
use Rattle.vv_journal.specs.Openings.{damaged, open_fault, HasHead}
use Rattle.vv_journal.proofs.Opened.{told_length, told_sized, told_three_sized, too_short, not_formatted, wrong_header, fields_give, wrong_length, wrong_area, head_stands, no_cause, byte_read, number_read}
use Rattle.vv_journal.proofs.opening.open_log.Goals as goal

pub returns-then-len-lt-HEADER_BYTES-clause-fault : goal.returns-then-len-lt-HEADER_BYTES-clause-fault
returns-then-len-lt-HEADER_BYTES-clause-fault g c =
    let told = g.D.Disk.content c.settle.new.disk in
    let size = g.D.Disk.size c.settle.new.disk in
    inr (told_length told size (λ d. open_fault d ≡ Some (NotFormatted c.len-len.result)) (λ d is. g.met.D.Disk.content_fits c.settle.new.disk d is) (λ d long. too_short d c.len-len.result (long ∙ sym c.len-len.ensures) c.if-len-lt-HEADER_BYTES.true))

pub returns-then-bytes-clause-fault : goal.returns-then-bytes-clause-fault
returns-then-bytes-clause-fault g c =
    let told = g.D.Disk.content c.settle.new.disk in
    let size = g.D.Disk.size c.settle.new.disk in
    let bytes = c.get.new.into in
    let P : List ℕ → Type 0 = λ d. bytes ≡ bytes_at 0 32 d in
    let Q : List ℕ → Type 0 = λ d. open_fault d ≡ Some (NotFormatted c.from.result) in
    inr (subst (λ t. IfSome t Q) (sym c.get.ensures.content) (told_sized told size P Q (λ d is. g.met.D.Disk.content_fits c.settle.new.disk d is) c.in_ok-get.ensures.bytes (λ d long is. not_formatted bytes d c.from.result is (omega (arith, long, c.len-len.ensures, c.if-len-lt-HEADER_BYTES.false)) c.if-bytes.true c.from.ensures)))

pub returns-in-Err-clause-fault : goal.returns-in-Err-clause-fault
returns-in-Err-clause-fault g c =
    let told = g.D.Disk.content c.settle.new.disk in
    let size = g.D.Disk.size c.settle.new.disk in
    let bytes = c.get.new.into in
    let P : List ℕ → Type 0 = λ d. bytes ≡ bytes_at 0 32 d in
    let Q : List ℕ → Type 0 = λ d. open_fault d ≡ Some c.in-Err.fault in
    inr (subst (λ t. IfSome t Q) (sym c.get.ensures.content) (told_sized told size P Q (λ d is. g.met.D.Disk.content_fits c.settle.new.disk d is) c.in_ok-get.ensures.bytes (λ d long is. wrong_header c.in-Err.fault bytes d is (omega (arith, long, c.len-len.ensures, c.if-len-lt-HEADER_BYTES.false)) c.if-bytes.false c.in-Err.ensures.fault)))

pub returns-in-Err-clause-cause : goal.returns-in-Err-clause-cause
returns-in-Err-clause-cause g c = no_cause c.in-Err.fault _ _ _ _ c.in-Err.ensures.damage

pub returns-then-len-needed-clause-fault : goal.returns-then-len-needed-clause-fault
returns-then-len-needed-clause-fault g c =
    let told = g.D.Disk.content c.settle.new.disk in
    let size = g.D.Disk.size c.settle.new.disk in
    let bytes = c.get.new.into in
    let P : List ℕ → Type 0 = λ d. bytes ≡ bytes_at 0 32 d in
    let Q : List ℕ → Type 0 = λ d. open_fault d ≡ Some c.damaged.result in
    let header : Header = record { geometry = c.in-Ok.fields.geometry; version = c.in-Ok.fields.version } in
    inr (subst (λ t. IfSome t Q) (sym c.get.ensures.content) (told_sized told size P Q (λ d is. g.met.D.Disk.content_fits c.settle.new.disk d is) c.in_ok-get.ensures.bytes
    (λ d long is. wrong_length header bytes d c.disk_len-needed.result c.len-len.result is (omega (arith, long, c.len-len.ensures, c.if-len-lt-HEADER_BYTES.false)) c.if-bytes.false (fields_give c.in-Ok.fields bytes d is (omega (arith, long, c.len-len.ensures, c.if-len-lt-HEADER_BYTES.false)) c.if-bytes.false c.in-Ok.ensures.fields)
    c.disk_len-needed.ensures (long ∙ sym c.len-len.ensures) c.if-len-needed.true ∙ ap (λ (f : OpenFault). Some f) (sym c.damaged.ensures))))

pub returns-then-len-needed-clause-only : goal.returns-then-len-needed-clause-only
returns-then-len-needed-clause-only g c =
    rw c.damaged.ensures
    (λ honest image left. c.get.ensures.content ∙ c.in_ok-settle.ensures.ok honest image ((c.get.ensures.images image).0 left))

pub returns-then-not-may_be_area-clause-only : goal.returns-then-not-may_be_area-clause-only
returns-then-not-may_be_area-clause-only g c =
    rw c.damaged-then-not-may_be_area.ensures
    (λ honest image left. c.get-3.ensures.content ∙ c.get-2.ensures.content ∙ c.get.ensures.content
    ∙ c.in_ok-settle.ensures.ok honest image ((c.get.ensures.images image).0 ((c.get-2.ensures.images image).0 ((c.get-3.ensures.images image).0 left))))

pub returns-then-not-may_be_area-clause-fault : goal.returns-then-not-may_be_area-clause-fault
returns-then-not-may_be_area-clause-fault g c =
    let told = g.D.Disk.content c.settle.new.disk in
    let size = g.D.Disk.size c.settle.new.disk in
    let bytes = c.get.new.into in
    let P : List ℕ → Type 0 = λ d. bytes ≡ bytes_at 0 32 d in
    let selector = c.get-2.new.into in
    let measure = c.get-3.new.into in
    let half = get_or selector 0 0 % 2 in
    let start = c.half_start.result in
    let S : List ℕ → Type 0 = λ d. selector ≡ bytes_at 512 1 d in
    let M : List ℕ → Type 0 = λ d. measure ≡ bytes_at start 8 d in
    let header : Header = record { geometry = c.in-Ok.fields.geometry; version = c.in-Ok.fields.version } in
    let there = c.get-3.ensures.content ∙ c.get-2.ensures.content ∙ c.get.ensures.content in
    let selector_read : IfSome told S = subst (λ t. IfSome t S) c.get.ensures.content c.in_ok-get-2.ensures.bytes in
    let measure_read : IfSome told M = subst (λ t. IfSome t M) (c.get-2.ensures.content ∙ c.get.ensures.content) c.in_ok-get-3.ensures.bytes in
    let Q : List ℕ → Type 0 = λ d. open_fault d ≡ Some c.damaged-then-not-may_be_area.result in
    inr (subst (λ t. IfSome t Q) (sym there) (told_three_sized told size P S M Q (λ d is. g.met.D.Disk.content_fits c.settle.new.disk d is) c.in_ok-get.ensures.bytes selector_read measure_read
    (λ d long is select measured. wrong_area header bytes d half c.number_of_8-field.result is (omega (arith, long, c.len-len.ensures, c.if-len-lt-HEADER_BYTES.false)) c.if-bytes.false (fields_give c.in-Ok.fields bytes d is (omega (arith, long, c.len-len.ensures, c.if-len-lt-HEADER_BYTES.false)) c.if-bytes.false c.in-Ok.ensures.fields) (long ∙ sym c.len-len.ensures ∙ c.if-len-needed.false ∙ c.disk_len-needed.ensures) (ap (λ (b : ℕ). b % 2) (byte_read 512 selector d select)) (ap (λ (k : ℕ). number_at 8 k d) (sym c.half_start.ensures.start) ∙ number_read start measure d measured ∙ sym c.number_of_8-field.ensures)
    (sym c.may_be_area.ensures ∙ c.if-not-may_be_area.true) ∙ ap (λ (k : ℕ). Some (damaged in_area 0 k)) (sym c.from-then-not-may_be_area.ensures) ∙ ap (λ (f : OpenFault). Some f) (sym c.damaged-then-not-may_be_area.ensures))))

pub returns-clause-head : goal.returns-clause-head
returns-clause-head g c =
    let told = g.D.Disk.content c.settle.new.disk in
    let size = g.D.Disk.size c.settle.new.disk in
    let bytes = c.get.new.into in
    let P : List ℕ → Type 0 = λ d. bytes ≡ bytes_at 0 32 d in
    let selector = c.get-2.new.into in
    let measure = c.get-3.new.into in
    let half = get_or selector 0 0 % 2 in
    let start = c.half_start.result in
    let S : List ℕ → Type 0 = λ d. selector ≡ bytes_at 512 1 d in
    let M : List ℕ → Type 0 = λ d. measure ≡ bytes_at start 8 d in
    let header : Header = record { geometry = c.in-Ok.fields.geometry; version = c.in-Ok.fields.version } in
    let there = c.get-3.ensures.content ∙ c.get-2.ensures.content ∙ c.get.ensures.content in
    let selector_read : IfSome told S = subst (λ t. IfSome t S) c.get.ensures.content c.in_ok-get-2.ensures.bytes in
    let measure_read : IfSome told M = subst (λ t. IfSome t M) (c.get-2.ensures.content ∙ c.get.ensures.content) c.in_ok-get-3.ensures.bytes in
    let head : LogHead = record { geometry = c.in-Ok.fields.geometry; half = half; spelling = c.spelling_of.result; area_len = c.tables_len.result } in
    subst (λ t. IfSome t (HasHead head)) (sym there) (told_three_sized told size P S M (HasHead head) (λ d is. g.met.D.Disk.content_fits c.settle.new.disk d is) c.in_ok-get.ensures.bytes selector_read measure_read
    (λ d long is select measured. head_stands head c.in-Ok.fields.version d c.number_of_8-field.result (fields_give c.in-Ok.fields bytes d is (omega (arith, long, c.len-len.ensures, c.if-len-lt-HEADER_BYTES.false)) c.if-bytes.false c.in-Ok.ensures.fields) (ap (λ (b : ℕ). b % 2) (byte_read 512 selector d select)) (long ∙ sym c.len-len.ensures ∙ c.if-len-needed.false ∙ c.disk_len-needed.ensures) (ap (λ (k : ℕ). number_at 8 k d) (sym c.half_start.ensures.start) ∙ number_read start measure d measured ∙ sym c.number_of_8-field.ensures)
    (sym c.may_be_area.ensures ∙ c.if-not-may_be_area.false) (sym c.spelling_of.ensures.spelling) (sym c.tables_len.ensures.len)))
