use Rattle.std.proofs.Common.{ℕ, ◌≡◌, ◌+◌, ◌/◌, ◌%◌, [], ◌∷◌, set, slice_index, sym, subst, ap, ◌∙◌, arith, length-set}
use Rattle.vv_map.specs.Rooms.{MapState}
use Rattle.vv_map.specs.Pages.{StoreState, page_at}
use Rattle.vv_map.proofs.MapLemmas.{page_within, place_within, entry_at}
use Rattle.vv_entries.specs.declared.entry.Entry.{Entry}
use Rattle.vv_entries.specs.Entries.{IsTidy, named, named_in}
use Rattle.vv_entries.specs.Changes.{Exchanges}
use Rattle.vv_entries.proofs.Shared.{within_counts}
use Rattle.vv_entries.proofs.Written.{exchanges-written, tidy-written, named-written}
use Rattle.vv_entries.proofs.writing.replace.Goals as goal
use Rattle.vv_entries.proofs.writing.replace.Goals.{After-set}

-- the counts when the entry is written
written : (c : After-set) (p : ℕ) → named_in c.set.new.self p + named p (c.get-before.result ∷ []) ≡ named_in c.args.store.now p + named p (c.args.entry ∷ [])
written c p =
    let store = c.args.store.now in
    let map = c.args.map.now in
    let q = slice_index map.numbers (c.args.at / 64) in
    let one = c.requires.alone in
    let within = within_counts store q (omega arith) in
    ap (λ (s : StoreState Entry). named_in s p + named p (c.get-before.result ∷ [])) c.set.ensures.written
    ∙ named-written store q (c.args.at % 64) p c.args.entry c.get-before.result (omega (arith, c.requires.counted.tidy.same))
    (place_within store map c.requires.of c.args.at c.requires.within)
    (sym (entry_at store map c.requires.of c.args.at c.requires.within) ∙ c.get-before.ensures)

pub lower_entry-requires : goal.lower_entry-requires
lower_entry-requires c = λ p h.
    let now = written (goal.at.lower_entry-requires c).After-set p in
    let was = c.requires.counted.counted p in
    omega arith

pub returns-clause-counted : goal.returns-clause-counted
returns-clause-counted c =
    let before = (goal.at.returns-clause-counted c).After-set in
    let store = c.args.store.now in
    let map = c.args.map.now in
    let q = slice_index map.numbers (c.args.at / 64) in
    let small = c.requires.counted.tidy.small q in
    record {
      tidy = subst (λ (s : StoreState Entry). IsTidy s) (sym c.set.ensures.written)
          (tidy-written store map.numbers (c.args.at / 64) (set (page_at store q) (c.args.at % 64) c.args.entry) (page_within store map c.requires.of c.args.at c.requires.within) c.requires.alone
          (omega (arith, length-set (page_at store q) (c.args.at % 64) c.args.entry)) c.requires.counted.tidy);
      counted = λ p.
          let now = written before p in
          let was = c.requires.counted.counted p in
          let low = c.lower_entry.ensures.counts p in
          omega arith;
    }

pub returns-clause-others : goal.returns-clause-others
returns-clause-others c =
    let store = c.args.store.now in
    let map = c.args.map.now in
    let q = slice_index map.numbers (c.args.at / 64) in
    subst (λ (m : MapState). Exchanges store c.set.new.self map.numbers m.numbers) (sym c.set.ensures.same)
    (subst (λ (s : StoreState Entry). Exchanges store s map.numbers map.numbers) (sym c.set.ensures.written)
    (exchanges-written store map.numbers (c.args.at / 64) (set (page_at store q) (c.args.at % 64) c.args.entry) (page_within store map c.requires.of c.args.at c.requires.within) c.requires.alone))
