use Rattle.std.proofs.Common.{rules, ◌≤◌, ◌-◌, length, ap, sym, ◌∙◌, arith}
use Rattle.vv_spell.specs.Window.{WindowState, seen}
use Rattle.vv_spell.proofs.WindowLemmas.{behind_ahead}
use Rattle.vv_spell.proofs.window.Window.pass.Goals as goal

pub returns-then-bytes-self-clause-passed : goal.returns-then-bytes-self-clause-passed
returns-then-bytes-self-clause-passed c is text long =
    let within : c.args.bytes ≤ c.args.self.now.ahead = search rules in
    let le : length text ≤ c.args.self.now.ahead = omega (arith, long, within) in
    let w : WindowState = seen c.args.self.now c.args.into.now in
    ap (λ n. record w { ahead = w.ahead - n }) (sym long) ∙ sym (behind_ahead w text le)
