use Rattle.std.proofs.Common.{ℕ, ap, ◌∙◌}
use Rattle.vv_journal.specs.Geometries.{geometry_of}
use Rattle.vv_run.proofs.WordLemmas.{made_sizes}
use Rattle.vv_run.proofs.words.geometry_of.Goals as goal

pub returns : goal.returns
returns c =
    made_sizes c.new.result c.in-Ok.blocks c.in-Ok-try_from.chunks c.in-Ok-try_from-2.map c.new.ensures.valid c.new.ensures.value
    ∙ ap (λ (n : ℕ). geometry_of n c.in-Ok-try_from.chunks c.in-Ok-try_from-2.map) c.in-Ok.ensures.1
    ∙ ap (λ (n : ℕ). geometry_of c.args.blocks n c.in-Ok-try_from-2.map) c.in-Ok-try_from.ensures.1
    ∙ ap (λ (n : ℕ). geometry_of c.args.blocks c.args.chunks n) c.in-Ok-try_from-2.ensures.1
