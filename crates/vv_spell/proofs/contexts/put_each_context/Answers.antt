use Rattle.std.proofs.Common.{rules, ◌≡◌, ◌∙◌, ap, sym, List, arith}
use Rattle.std.proofs.lemmas.Grind.{flat_map-append}
use Rattle.std.specs.Prelude.{Option}
use Rattle.std.specs.List.{flat_map}
use Rattle.vv_flat.specs.State.{Context}
use Rattle.vv_flat.specs.Bindings.{context_of}
use Rattle.vv_area.specs.Spelling.{context_spelling}
use Rattle.vv_spell.specs.Window.{seen, behind}
use Rattle.vv_spell.specs.Hosts.{contexts_below, found_in}
use Rattle.vv_spell.proofs.WindowLemmas.{put_none, put_two}
use Rattle.vv_spell.proofs.HostContexts.{contexts_rise, none_first, all_last, below_more}
use Rattle.vv_spell.proofs.contexts.put_each_context.Goals as goal

pub loop-host-init : goal.loop-host-init
loop-host-init c =
    let s = seen c.args.window.now c.args.into.now in
    record {
      text = put_none s ∙ ap (λ (cs : List Context). behind s (flat_map context_spelling cs)) (sym (none_first c.args.tables.now.durable c.lsn-well_formed.ensures.well));
      from_one = omega arith;
    }

pub loop-host-preserved : goal.loop-host-preserved
loop-host-preserved c =
    let cs = c.args.tables.now.durable.contexts in
    let h = c.loop-host.host in
    let o : Option Context = context_of cs h in
    let s = seen c.args.window.now c.args.into.now in
    record {
      text =
          put_two s (seen c.loop-host.window c.loop-host.into) (seen c.put_context_of.new.window c.put_context_of.new.into)
          (flat_map context_spelling (contexts_below h cs)) (flat_map context_spelling (found_in o)) c.loop-host.invariant.text c.put_context_of.ensures
          ∙ ap (behind s) (sym (flat_map-append context_spelling (contexts_below h cs) (found_in o)))
          ∙ ap (λ (xs : List Context). behind s (flat_map context_spelling xs)) (sym (below_more cs h (contexts_rise c.args.tables.now.durable c.lsn-well_formed.ensures.well)));
      from_one = omega arith;
    }

pub returns : goal.returns
returns c =
    let last : c.loop-host.host ≡ 65 = search rules in
    let cs = c.args.tables.now.durable.contexts in
    let s = seen c.args.window.now c.args.into.now in
    c.loop-host.invariant.text ∙ ap (λ n. behind s (flat_map context_spelling (contexts_below n cs))) last
    ∙ ap (λ (xs : List Context). behind s (flat_map context_spelling xs)) (all_last c.args.tables.now.durable c.lsn-well_formed.ensures.well)
