use Rattle.std.proofs.Common.{ℕ, ◌≡◌, ◌-◌, ◌*◌, List, length, min, replicate, ap, sym, subst, ◌∙◌, arith}
use Rattle.vv_map.specs.Pages.{Appends, with_page}
use Rattle.vv_map.proofs.MapLemmas.{appends-more}
use Rattle.vv_map.proofs.page_store.PageStore.append_pages.Goals as goal

pub loop-i-preserved : goal.loop-i-preserved
loop-i-preserved g c =
    let store = c.args.self.now in
    let mid = c.loop-i.self in
    let ns = c.loop-i.numbers.items in
    let n = c.args.n in
    let entry = c.args.entry in
    let q : ℕ = c.place-number.result in
    let size_is : c.min-size.result ≡ min 64 (n - 64 * length ns) = omega (arith, c.min-size.ensures, c.loop-i.invariant.place, c.loop-i.numbers.ok.0) in
    let page_is = c.filled.ensures ∙ ap (λ k. replicate k entry) size_is in
    record {
      added = subst (λ (xs : List ℕ). Appends store c.place-number.new.self c.args.numbers.now.items xs n entry) (sym c.push_reserved.ensures.items)
          (appends-more store mid c.place-number.new.self c.args.numbers.now.items ns n q entry c.loop-i.invariant.added
          c.place-number.ensures.within c.place-number.ensures.page c.place-number.ensures.unused
          (c.place-number.ensures.placed ∙ ap (λ (page : List g.row.E.Denot). with_page mid q page 1) page_is) c.place-number.ensures.left);
      place = omega (arith, c.push_reserved.ensures.len, c.loop-i.invariant.place);
      memory = c.push_reserved.ensures.capacity ∙ c.loop-i.invariant.memory;
      room = omega (arith, ap (λ r. r.pages) c.take_blank.ensures, c.loop-i.invariant.room, c.requires.pages, c.div_ceil-pages.ensures, c.loop-i-test.true);
    }
