use Rattle.std.proofs.Common.{[], sym, subst, ◌∙◌}
use Rattle.vv_map.specs.Pages.{StoreState, IsMapOf, all_raised}
use Rattle.vv_map.proofs.MapLemmas.{number_within, pages-all_raised}
use Rattle.vv_entries.specs.declared.entry.Entry.{Entry}
use Rattle.vv_entries.specs.Entries.{EntriesState, IsCounted}
use Rattle.vv_entries.specs.Changes.{Exchanges}
use Rattle.vv_entries.proofs.Named.{named_in-pages}
use Rattle.vv_entries.proofs.Shared.{exchanges-raised, tidy-raised}
use Rattle.vv_entries.proofs.entry_store.EntryStore.share.Goals as goal

pub invariant_of-self : goal.invariant_of-self
invariant_of-self g c =
    let old = c.self.inside.store in
    let map = c.args.map.now in
    let of = subst (λ (s : EntriesState). IsMapOf s.store map) (sym c.self.view_is) c.requires.of in
    subst (λ (s : StoreState Entry). IsCounted s c.self.inside.pool) (sym c.share.ensures.raised)
    (record {
      tidy = tidy-raised old map.numbers (number_within old map of) c.self.invariant.tidy;
      counted = λ p. c.self.invariant.counted p ∙ sym (named_in-pages old (all_raised old map.numbers) p (pages-all_raised old map.numbers));
    })

pub returns-clause-others : goal.returns-clause-others
returns-clause-others g c =
    let old = c.self.inside.store in
    let map = c.args.map.now in
    let of = subst (λ (s : EntriesState). IsMapOf s.store map) (sym c.self.view_is) c.requires.of in
    subst (λ (s : EntriesState). Exchanges s.store c.share.new.self [] map.numbers) c.self.view_is
    (subst (λ (s : StoreState Entry). Exchanges old s [] map.numbers) (sym c.share.ensures.raised) (exchanges-raised old map.numbers (number_within old map of)))
