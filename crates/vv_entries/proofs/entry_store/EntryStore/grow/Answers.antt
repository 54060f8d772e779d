use Rattle.std.proofs.Common.{ap, arith, ⊎_elim}
use Rattle.std.proofs.lemmas.Bool.{cases_lt}
use Rattle.vv_map.specs.Pages.{count_at}
use Rattle.vv_entries.specs.Entries.{EntriesState}
use Rattle.vv_entries.proofs.Times.{times_apart}
use Rattle.vv_entries.proofs.entry_store.EntryStore.grow.Goals as goal

pub returns-clause-taken : goal.returns-clause-taken
returns-clause-taken g c = λ n some.
    let same = ap (λ (s : EntriesState). count_at s.store n) c.self.view_is in
    let own = c.own_last_page.ensures.taken n (omega arith) in
    let counts = c.own_last_page.ensures.others.counts n in
    let most = times_apart n c.append.new.map.numbers c.append.ensures.of.apart in
    ⊎_elim
    (λ counted. let further = c.append.ensures.taken n counted in omega arith)
    (λ none. omega arith)
    (cases_lt 0 (count_at c.own_last_page.new.store n))
