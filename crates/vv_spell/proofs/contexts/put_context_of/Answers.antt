use Rattle.std.proofs.Common.{◌∙◌, ap, sym, refl}
use Rattle.std.specs.Prelude.{Option}
use Rattle.std.specs.List.{flat_map}
use Rattle.vv_flat.specs.State.{Context}
use Rattle.vv_flat.specs.Bindings.{context_of}
use Rattle.vv_area.specs.Spelling.{context_spelling}
use Rattle.vv_spell.specs.declared.window.Window.{Window}
use Rattle.vv_spell.specs.Window.{seen, behind}
use Rattle.vv_spell.specs.Hosts.{found_in}
use Rattle.vv_spell.proofs.WindowLemmas.{put_none}
use Rattle.vv_spell.proofs.HostContexts.{length-found}
use Rattle.vv_spell.proofs.contexts.put_context_of.Goals as goal

pub returns-then-pass : goal.returns-then-pass
returns-then-pass c =
    let o : Option Context = context_of c.args.tables.now.durable.contexts c.args.host.0 in
    c.if-pass.ensures.passed refl (flat_map context_spelling (found_in o)) (length-found o ∙ sym c.context_len.ensures)

pub returns-in-None : goal.returns-in-None
returns-in-None c =
    ap (λ (w : Window). seen w c.args.into.now) (c.if-pass.ensures.stayed refl)
    ∙ put_none (seen c.args.window.now c.args.into.now)
    ∙ ap (λ (o : Option Context). behind (seen c.args.window.now c.args.into.now) (flat_map context_spelling (found_in o))) c.in-None.ensures
