use Rattle.std.proofs.Common.{◌≡◌, ◌+◌, ◌*◌, ◌/◌, ◌<◌, ◌++◌, length, replicate, Some, arith, sym, ap, ◌∙◌, length-append}
use Rattle.std.proofs.lemmas.Bool.{eqb-true, eqb-false}
use Rattle.std.specs.List.{concat}
use Rattle.serde_json.specs.View.{view}
use Rattle.vv_calls.specs.Payload.{payload_limit, joined_onto}
use Rattle.vv_calls.specs.Hexadecimal.{hex_bytes}
use Rattle.vv_calls.proofs.Pairs.{empty_pair, good_pair, long_pair, refused_onto, appended_onto, length-hex_bytes, within_room}
use Rattle.vv_calls.proofs.Repeats.{length-repeated}
use Rattle.vv_calls.proofs.payload.append_pair.Goals as goal
use Rattle.vv_calls.proofs.payload.append_pair.Goals.{then-is_empty-via-then-is_empty, then-is_empty-via-else-is_empty+then-saturating_mul-room}

pub returns-then-is_empty-clause-bytes : goal.returns-then-is_empty-clause-bytes
returns-then-is_empty-clause-bytes c =
    let front = c.args.payload.now.items in
    let pair = view c.args.pair.now in
    let digits = c.in-Some.digits.now in
    elim c.then-is_empty.branch [
      | then-is_empty-via-then-is_empty w ↦
          let none = empty_pair pair digits c.in-Some.times (sym c.in-Some.ensures) (eqb-true (length digits) 0 (sym w.if-is_empty.ensures)) in
          λ rest. refused_onto front pair rest none
      | then-is_empty-via-else-is_empty+then-saturating_mul-room w ↦
          let long : payload_limit < length front + length digits / 2 * c.in-Some.times = omega (arith, w.saturating_mul.ensures, c.args.payload.now.ok.0) in
          λ rest. long_pair front pair rest digits c.in-Some.times (sym c.in-Some.ensures) long
    ]

pub returns-clause-limited : goal.returns-clause-limited
returns-clause-limited c =
    let front = c.args.payload.now.items in
    let digits = c.in-Some.digits.now in
    let bytes = c.in-Some-2.bytes.items in
    let times = c.in-Some.times in
    let spelled : Some bytes ≡ hex_bytes digits = rw c.in-Some-2.is at c.in_ok-bytes.ensures.spelled in
    let half = length-hex_bytes digits bytes (sym spelled) in
    let product : c.saturating_mul.result ≡ length digits / 2 * times = omega (arith, c.saturating_mul.ensures) in
    let room = within_room payload_limit (length front) (length digits) times (length bytes) c.saturating_mul.result half product (omega (arith, c.args.payload.now.ok.0)) (omega (arith, c.args.payload.now.ok.0)) in
    let items : c.append_repeated.new.payload.items ≡ front ++ concat (replicate times bytes) = rw c.as_slice.ensures.value at c.in_ok-append_repeated.ensures in
    let count : length c.append_repeated.new.payload.items ≡ length front + times * length bytes =
    ap length items ∙ length-append front (concat (replicate times bytes)) ∙ ap (λ n. length front + n) (length-repeated times bytes)
    in
    omega (arith, room, count, c.append_repeated.new.payload.ok.0)

pub returns-clause-bytes : goal.returns-clause-bytes
returns-clause-bytes c =
    let front = c.args.payload.now.items in
    let pair = view c.args.pair.now in
    let digits = c.in-Some.digits.now in
    let bytes = c.in-Some-2.bytes.items in
    let times = c.in-Some.times in
    let spelled : Some bytes ≡ hex_bytes digits = rw c.in-Some-2.is at c.in_ok-bytes.ensures.spelled in
    let some : 0 < length digits = let other = eqb-false (length digits) 0 (sym c.if-is_empty.ensures) in omega arith in
    let here = good_pair pair digits times bytes (sym c.in-Some.ensures) some (sym spelled) in
    let items : c.append_repeated.new.payload.items ≡ front ++ concat (replicate times bytes) = rw c.as_slice.ensures.value at c.in_ok-append_repeated.ensures in
    λ rest. appended_onto front (concat (replicate times bytes)) pair rest here ∙ ap (λ all. joined_onto all rest) (sym items)
