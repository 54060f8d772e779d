use Rattle.std.proofs.Common.{◌∙◌, sym, ap, subst, refl, get_or, take}
use Rattle.std.proofs.lemmas.List.{take_all}
use Rattle.vv_vols.specs.Shelf.{ShelfState, HeldName}
use Rattle.vv_vols.specs.Calls.{with_piece}
use Rattle.vv_vols.specs.Rows.{seen_entry, seen_entries}
use Rattle.vv_tables.specs.Giving.{MayGiveOne, with_given}
use Rattle.vv_tables.proofs.GivenEntries.{no_entry, none_given, may_next, next_given}
use Rattle.vv_tables.proofs.giving.give_entries.Goals as goal

pub loop-i-init : goal.loop-i-init
loop-i-init g c = record {
  shelf = sym (none_given c.args.shelf.now.shelf c.args.held.now.number);
  rooms = refl;
  held = refl;
  taken = refl;
}

pub give_entry-requires-clause-may : goal.give_entry-requires-clause-may
give_entry-requires-clause-may g c =
    let at = c.loop-i in
    let s = c.args.shelf.now.shelf in
    let n = c.args.held.now.number in
    let e = seen_entry (get_or c.args.entries.now at.i no_entry) in
    let number = ap (λ (h : HeldName). h.number) at.invariant.held in
    subst (λ (t : ShelfState). MayGiveOne t at.held.number at.i e) (sym at.invariant.shelf)
    (subst (λ k. MayGiveOne (with_given s n (seen_entries (take at.i c.args.entries.now))) k at.i e) (sym number)
    (may_next c.args.entries.now at.i c.loop-i-test.true s n c.requires.may))

pub loop-i-preserved : goal.loop-i-preserved
loop-i-preserved g c =
    let at = c.loop-i in
    let s = c.args.shelf.now.shelf in
    let n = c.args.held.now.number in
    let e = seen_entry (get_or c.args.entries.now at.i no_entry) in
    let number = ap (λ (h : HeldName). h.number) at.invariant.held in
    record {
      shelf = c.give_entry.ensures.shelf
          ∙ ap (λ (t : ShelfState). with_piece t at.held.number at.i e) at.invariant.shelf
          ∙ ap (λ k. with_piece (with_given s n (seen_entries (take at.i c.args.entries.now))) k at.i e) number
          ∙ next_given c.args.entries.now at.i c.loop-i-test.true s n;
      rooms = c.give_entry.ensures.rooms ∙ at.invariant.rooms;
      held = c.give_entry.ensures.held ∙ at.invariant.held;
      taken = c.give_entry.ensures.taken ∙ at.invariant.taken;
    }

pub returns-clause-shelf : goal.returns-clause-shelf
returns-clause-shelf g c =
    let at = c.loop-i in
    at.invariant.shelf
    ∙ ap (λ es. with_given c.args.shelf.now.shelf c.args.held.now.number (seen_entries es)) (take_all at.i c.args.entries.now c.loop-i-test.false)
