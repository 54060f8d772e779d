use Rattle.std.proofs.Common.{◌+◌, arith, sym, subst, ◌∙◌}
use Rattle.vv_map.specs.Pages.{StoreState, last_filled, Appends}
use Rattle.vv_entries.specs.declared.entry.Entry.{Entry}
use Rattle.vv_entries.specs.Entries.{unmapped}
use Rattle.vv_entries.proofs.Added.{exchanges-appended, named-appended, takes-appended, tidy-appended, exchanges-filled, named-filled, tidy-filled}
use Rattle.vv_entries.proofs.Written.{exchanges-joined}
use Rattle.vv_entries.proofs.writing.append_one.Goals as goal

pub returns-clause-counted : goal.returns-clause-counted
returns-clause-counted c =
    let old = c.args.store.now in
    let map = c.args.map.now in
    let n = c.args.map.now.len + 1 in
    let mid : StoreState Entry = last_filled old map n unmapped in
    let added = subst (λ (e : Entry). Appends (last_filled old map n e) c.append.new.self map.numbers c.append.new.map.numbers n e) c.unmapped.ensures c.append.ensures.added in
    let tidy = tidy-filled old map n c.requires.of (omega arith) c.requires.alone c.requires.counted.tidy in
    record {
      tidy = tidy-appended mid c.append.new.self map.numbers c.append.new.map.numbers n added tidy;
      counted = λ p. c.requires.counted.counted p
          ∙ sym (named-filled old map n c.requires.of (omega arith) c.requires.alone p c.requires.counted.tidy)
          ∙ sym (named-appended mid c.append.new.self map.numbers c.append.new.map.numbers n added p tidy);
    }

pub returns-clause-others : goal.returns-clause-others
returns-clause-others c =
    let old = c.args.store.now in
    let map = c.args.map.now in
    let n = c.args.map.now.len + 1 in
    let mid : StoreState Entry = last_filled old map n unmapped in
    let added = subst (λ (e : Entry). Appends (last_filled old map n e) c.append.new.self map.numbers c.append.new.map.numbers n e) c.unmapped.ensures c.append.ensures.added in
    exchanges-joined old mid c.append.new.self map.numbers map.numbers c.append.new.map.numbers
    (exchanges-filled old map n c.requires.of (omega arith) c.requires.alone)
    (exchanges-appended mid c.append.new.self map.numbers c.append.new.map.numbers n added)

pub returns-clause-taken : goal.returns-clause-taken
returns-clause-taken c = λ k some.
    let old = c.args.store.now in
    let map = c.args.map.now in
    let n = c.args.map.now.len + 1 in
    let mid : StoreState Entry = last_filled old map n unmapped in
    let added = subst (λ (e : Entry). Appends (last_filled old map n e) c.append.new.self map.numbers c.append.new.map.numbers n e) c.unmapped.ensures c.append.ensures.added in
    let filled = exchanges-filled old map n c.requires.of (omega arith) c.requires.alone in
    let same = filled.counts k in
    takes-appended mid c.append.new.self map.numbers c.append.new.map.numbers n added k (omega arith)
