use Rattle.std.proofs.Common.{rules, ◌≡◌, ◌≤◌, length}
use Rattle.vv_laws.proofs.ListParts.{drop-past}
use Rattle.vv_spell.specs.Window.{seen}
use Rattle.vv_spell.proofs.WindowLemmas.{behind_full}
use Rattle.vv_spell.proofs.window.Window.is_full.Goals as goal

pub returns-then-self-eq0 : goal.returns-then-self-eq0
returns-then-self-eq0 c full text =
    let le : length c.args.into.now ≤ c.args.self.now.written = search (rules, full) in
    let none : c.args.self.now.ahead ≡ 0 = search rules in
    behind_full (seen c.args.self.now c.args.into.now) text none (drop-past c.args.self.now.written c.args.into.now le)
