use Rattle.std.proofs.Common.{ap, sym, ◌∙◌, arith}
use Rattle.vv_core.specs.Turns.{next_of}
use Rattle.vv_core.proofs.TurnWalk.{takes_index}
use Rattle.vv_core.proofs.turns.with_chunk.Goals as goal

pub returns-in-Ok : goal.returns-in-Ok
returns-in-Ok c rest =
    takes_index c.args.indexes.now.items c.args.ahead c.args.index c.args.stamp rest c.if-stamp-eq0.false (omega (arith, c.if-ahead-gt0.false)) c.requires
    ∙ ap (λ xs. next_of xs 0 rest) (sym c.in-Ok.ensures.items)
