use Rattle.std.proofs.Common.{◌≡◌, ◌/◌, length, slice_index, refl, ap, ◌∙◌, arith, get_or-set_other}
use Rattle.vv_map.specs.Pages.{page_at}
use Rattle.vv_map.proofs.MapLemmas.{page_within}
use Rattle.vv_entries.specs.Entries.{named}
use Rattle.vv_entries.proofs.Named.{named-le-named_in, named_in-few}
use Rattle.vv_entries.proofs.Written.{page_own, exchanges-unshared, named-unshared, takes-unshared, tidy-unshared}
use Rattle.vv_entries.proofs.writing.own_page.Given.{Over}
use Rattle.vv_entries.proofs.writing.own_page.Goals as goal
use Rattle.vv_entries.proofs.writing.own_page.Goals.{After-page}

-- the page that was copied
page_is : (g : Over) (c : After-page g) → c.page.result.now ≡ page_at c.args.store.now (slice_index c.args.map.now.numbers (c.args.at / 64))
page_is g c =
    let old = c.args.store.now in
    let map = c.args.map.now in
    c.page.ensures
    ∙ page_own old c.unshare.new.self map c.unshare.new.map (c.args.at / 64) c.if-unshare.ensures.unshared (c.if-unshare.ensures.copied.0 refl) (page_within old map c.requires.of c.args.at c.requires.within)

pub raise_page-requires-clause-counted : goal.raise_page-requires-clause-counted
raise_page-requires-clause-counted g c = λ p h.
    let page = ap (named p) (page_is g (goal.at.raise_page-requires-clause-counted g c).After-page) in
    let all = named-le-named_in c.args.store.now (slice_index c.args.map.now.numbers (c.args.at / 64)) p in
    let was = c.requires.counted.counted p in
    omega arith

pub raise_page-requires-clause-small : goal.raise_page-requires-clause-small
raise_page-requires-clause-small g c = λ p.
    let page = ap length (page_is g (goal.at.raise_page-requires-clause-small g c).After-page) in
    let small = c.requires.counted.tidy.small (slice_index c.args.map.now.numbers (c.args.at / 64)) in
    let few = named_in-few c.args.store.now p c.requires.counted.tidy in
    let was = c.requires.counted.counted p in
    omega arith

pub returns-then-unshare-clause-counted : goal.returns-then-unshare-clause-counted
returns-then-unshare-clause-counted g c =
    let old = c.args.store.now in
    let map = c.args.map.now in
    let within = page_within old map c.requires.of c.args.at c.requires.within in
    let two = c.if-unshare.ensures.copied.0 refl in
    record {
      tidy = tidy-unshared old c.unshare.new.self map c.unshare.new.map (c.args.at / 64) c.if-unshare.ensures.unshared two within c.requires.counted.tidy;
      counted = λ p.
          let page = ap (named p) (page_is g (goal.at.returns-then-unshare-clause-counted g c).After-page) in
          let now = named-unshared old c.unshare.new.self map c.unshare.new.map (c.args.at / 64) c.if-unshare.ensures.unshared two within p c.requires.counted.tidy in
          let up = c.raise_page.ensures.raised.counts p in
          let was = c.requires.counted.counted p in
          omega arith;
    }

pub returns-then-unshare-clause-others : goal.returns-then-unshare-clause-others
returns-then-unshare-clause-others g c =
    let old = c.args.store.now in
    let map = c.args.map.now in
    exchanges-unshared old c.unshare.new.self map c.unshare.new.map (c.args.at / 64) c.if-unshare.ensures.unshared (c.if-unshare.ensures.copied.0 refl) (page_within old map c.requires.of c.args.at c.requires.within)

pub returns-then-unshare-clause-taken : goal.returns-then-unshare-clause-taken
returns-then-unshare-clause-taken g c =
    let old = c.args.store.now in
    let map = c.args.map.now in
    takes-unshared old c.unshare.new.self map c.unshare.new.map (c.args.at / 64) c.if-unshare.ensures.unshared (c.if-unshare.ensures.copied.0 refl) (page_within old map c.requires.of c.args.at c.requires.within)

pub returns-then-unshare-clause-pages : goal.returns-then-unshare-clause-pages
returns-then-unshare-clause-pages g c = λ j ne.
    let map = c.args.map.now in
    let un = c.if-unshare.ensures.unshared in
    ap (λ ns. slice_index ns j) un.numbers
    ∙ get_or-set_other map.numbers (c.args.at / 64) j (slice_index c.unshare.new.map.numbers (c.args.at / 64)) 0 ne
