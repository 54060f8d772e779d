use Rattle.std.proofs.Common.{rules, ◌≡◌, ◌-◌, drop, ap, ◌∙◌}
use Rattle.std.specs.Int.{bytes_high_first}
use Rattle.vv_fields.specs.Fields.{be_bytes}
use Rattle.vv_spell.specs.Window.{seen, behind}
use Rattle.vv_spell.proofs.WindowLemmas.{lowest_bytes}
use Rattle.vv_spell.proofs.window.Window.put_number.Goals as goal

pub returns : goal.returns
unfolding be_bytes
returns c =
    let all : c.to_be_bytes-bytes.result ≡ bytes_high_first 8 c.args.number = search rules in
    let low : c.split_at.result.1.now ≡ bytes_high_first c.args.length c.args.number = c.split_at.ensures.back ∙ ap (drop (8 - c.args.length)) all ∙ lowest_bytes 8 c.args.length c.args.number c.requires in
    c.put_bytes.ensures ∙ ap (behind (seen c.args.self.now c.args.into.now)) low
