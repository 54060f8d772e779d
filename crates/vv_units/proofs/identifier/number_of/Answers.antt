use Rattle.std.proofs.Common.{inl, inr, sym, arith}
use Rattle.vv_units.proofs.IdentifierLemmas.{number_in-inside, number_in-outside}
use Rattle.vv_units.proofs.identifier.number_of.Goals as goal
use Rattle.vv_units.proofs.identifier.number_of.Goals.{then-value-lt-FIRST_UUID-via-then-value-lt-FIRST_UUID, then-value-lt-FIRST_UUID-via-else-value-lt-FIRST_UUID+then-value}

pub returns-then-value-lt-FIRST_UUID : goal.returns-then-value-lt-FIRST_UUID
returns-then-value-lt-FIRST_UUID c =
    elim c.then-value-lt-FIRST_UUID.branch [
      | then-value-lt-FIRST_UUID-via-then-value-lt-FIRST_UUID w ↦ sym (number_in-outside c.args.uuid c.as_u128-value.result c.as_u128-value.ensures (inl w.if-value-lt-FIRST_UUID.true))
      | then-value-lt-FIRST_UUID-via-else-value-lt-FIRST_UUID+then-value w ↦ sym (number_in-outside c.args.uuid c.as_u128-value.result c.as_u128-value.ensures (inr w.if-value.true))
    ]

pub returns : goal.returns
returns c = sym (number_in-inside c.args.uuid c.as_u128-value.result c.as_u128-value.ensures (omega arith) (omega arith))
