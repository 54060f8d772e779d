use Rattle.std.proofs.Common.{ap, arith, [], sym, subst, ◌∙◌}
use Rattle.vv_map.specs.Pages.{Appends, count_at}
use Rattle.vv_entries.specs.declared.entry.Entry.{Entry}
use Rattle.vv_entries.specs.Entries.{EntriesState}
use Rattle.vv_entries.specs.Changes.{Exchanges}
use Rattle.vv_entries.proofs.Added.{exchanges-appended, named-appended, takes-appended, tidy-appended}
use Rattle.vv_entries.proofs.entry_store.EntryStore.make.Goals as goal

pub invariant_of-self : goal.invariant_of-self
invariant_of-self c =
    let old = c.self.inside.store in
    let new = c.make.new.self in
    let numbers = c.make.result.numbers in
    let added = subst (λ (e : Entry). Appends old new [] numbers c.args.n e) c.unmapped.ensures c.make.ensures.added in
    record {
      tidy = tidy-appended old new [] numbers c.args.n added c.self.invariant.tidy;
      counted = λ p. c.self.invariant.counted p ∙ sym (named-appended old new [] numbers c.args.n added p c.self.invariant.tidy);
    }

pub returns-clause-others : goal.returns-clause-others
returns-clause-others c =
    let old = c.self.inside.store in
    let new = c.make.new.self in
    let numbers = c.make.result.numbers in
    let added = subst (λ (e : Entry). Appends old new [] numbers c.args.n e) c.unmapped.ensures c.make.ensures.added in
    subst (λ (s : EntriesState). Exchanges s.store new [] numbers) c.self.view_is (exchanges-appended old new [] numbers c.args.n added)

pub returns-clause-taken : goal.returns-clause-taken
returns-clause-taken c = λ n some.
    let old = c.self.inside.store in
    let numbers = c.make.result.numbers in
    let added = subst (λ (e : Entry). Appends old c.make.new.self [] numbers c.args.n e) c.unmapped.ensures c.make.ensures.added in
    let same = ap (λ (s : EntriesState). count_at s.store n) c.self.view_is in
    takes-appended old c.make.new.self [] numbers c.args.n added n (omega arith)
