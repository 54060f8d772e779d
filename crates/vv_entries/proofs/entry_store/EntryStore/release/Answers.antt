use Rattle.std.proofs.Common.{[], sym, subst, ap, arith}
use Rattle.vv_map.specs.Pages.{StoreState, IsMapOf}
use Rattle.vv_entries.specs.declared.entry.Entry.{Entry}
use Rattle.vv_entries.specs.Entries.{EntriesState, IsCounted, named}
use Rattle.vv_entries.specs.Changes.{Exchanges}
use Rattle.vv_entries.proofs.Ended.{covers-map, named-all_lowered}
use Rattle.vv_entries.proofs.Shared.{exchanges-lowered, tidy-all_lowered}
use Rattle.vv_entries.proofs.entry_store.EntryStore.release.Goals as goal

pub lower_ended-requires : goal.lower_ended-requires
lower_ended-requires c = λ p.
    let old = c.self.inside.store in
    let map = c.args.map in
    let of = subst (λ (s : EntriesState). IsMapOf s.store map) (sym c.self.view_is) c.requires in
    let all = named-all_lowered old map.numbers p c.self.invariant.tidy of.apart (covers-map old map of) in
    let ended = ap (named p) c.release-ended.ensures.ended in
    let was = c.self.invariant.counted p in
    omega arith

pub invariant_of-self : goal.invariant_of-self
invariant_of-self c =
    let old = c.self.inside.store in
    let map = c.args.map in
    let of = subst (λ (s : EntriesState). IsMapOf s.store map) (sym c.self.view_is) c.requires in
    subst (λ (s : StoreState Entry). IsCounted s c.lower_ended.new.pool) (sym c.release-ended.ensures.lowered)
    (record {
      tidy = tidy-all_lowered old map.numbers (covers-map old map of) c.self.invariant.tidy;
      counted = λ p.
          let all = named-all_lowered old map.numbers p c.self.invariant.tidy of.apart (covers-map old map of) in
          let ended = ap (named p) c.release-ended.ensures.ended in
          let was = c.self.invariant.counted p in
          let now = c.lower_ended.ensures.counts p in
          omega arith;
    })

pub returns-clause-others : goal.returns-clause-others
returns-clause-others c =
    let old = c.self.inside.store in
    let map = c.args.map in
    let of = subst (λ (s : EntriesState). IsMapOf s.store map) (sym c.self.view_is) c.requires in
    subst (λ (s : EntriesState). Exchanges s.store c.release-ended.new.self map.numbers []) c.self.view_is
    (subst (λ (s : StoreState Entry). Exchanges old s map.numbers []) (sym c.release-ended.ensures.lowered) (exchanges-lowered old map.numbers (covers-map old map of)))
