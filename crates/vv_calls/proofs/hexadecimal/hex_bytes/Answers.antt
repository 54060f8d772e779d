use Rattle.std.proofs.Common.{◌≡◌, Some, sym, inl, inr}
use Rattle.vv_calls.specs.Hexadecimal.{hex_bytes}
use Rattle.vv_calls.proofs.Spelling.{decoded_spells}
use Rattle.vv_calls.proofs.Pairs.{length-hex_bytes}
use Rattle.vv_calls.proofs.hexadecimal.hex_bytes.Goals as goal

pub returns-in-Ok-clause-spelled : goal.returns-in-Ok-clause-spelled
returns-in-Ok-clause-spelled c = let spelled = decoded_spells c.args.text.now in rw c.in-Ok.ensures.ok at spelled

pub returns-in-Ok-clause-half : goal.returns-in-Ok-clause-half
returns-in-Ok-clause-half c =
    let spelled = decoded_spells c.args.text.now in
    let is : Some c.in-Ok.bytes.items ≡ hex_bytes c.args.text.now = rw c.in-Ok.ensures.ok at spelled in
    length-hex_bytes c.args.text.now c.in-Ok.bytes.items (sym is)

pub returns-in_default-clause-spelled : goal.returns-in_default-clause-spelled
returns-in_default-clause-spelled c =
    let spelled = decoded_spells c.args.text.now in
    elim c.in-Err.ensures.err [
      | inl memory ↦ absurd (c.in_default.not-OutOfMemory memory)
      | inr refused ↦ rw refused at spelled
    ]
