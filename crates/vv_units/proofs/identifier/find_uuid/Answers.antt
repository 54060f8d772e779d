use Rattle.std.proofs.Common.{sym, ◌∙◌, drop}
use Rattle.vv_units.proofs.IdentifierLemmas.{uuid_in-length, uuid_in-no_prefix, uuid_in-parsed, parse_found}
use Rattle.vv_units.proofs.identifier.find_uuid.Goals as goal
use Rattle.vv_units.proofs.identifier.find_uuid.Goals.{then-text-ne-TEXT_LENGTH-via-then-text-ne-TEXT_LENGTH, then-text-ne-TEXT_LENGTH-via-else-text-ne-TEXT_LENGTH+then-not-has_prefix}

pub returns-then-text-ne-TEXT_LENGTH : goal.returns-then-text-ne-TEXT_LENGTH
returns-then-text-ne-TEXT_LENGTH c =
    elim c.then-text-ne-TEXT_LENGTH.branch [
      | then-text-ne-TEXT_LENGTH-via-then-text-ne-TEXT_LENGTH w ↦ sym (uuid_in-length c.args.text.now w.if-text-ne-TEXT_LENGTH.true)
      | then-text-ne-TEXT_LENGTH-via-else-text-ne-TEXT_LENGTH+then-not-has_prefix w ↦ sym (uuid_in-no_prefix c.args.text.now (sym w.has_prefix.ensures ∙ w.if-not-has_prefix.true))
    ]

pub returns : goal.returns
returns c =
    c.ok.ensures.value
    ∙ parse_found c.try_parse_ascii.result (drop 8 c.args.text.now) (rw c.split_at.ensures.back at c.try_parse_ascii.ensures.ok) (rw c.split_at.ensures.back at c.try_parse_ascii.ensures.bytes)
    ∙ sym (uuid_in-parsed c.args.text.now c.if-text-ne-TEXT_LENGTH.false (sym c.has_prefix.ensures ∙ c.if-not-has_prefix.false))
