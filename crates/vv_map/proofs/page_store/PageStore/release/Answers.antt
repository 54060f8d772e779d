use Rattle.std.proofs.Common.{◌≡◌, ◌<◌, List, [], ◌∷◌, ◌++◌, length, get_or, slice_index, take, vec_len, vec_capacity, ap, sym, subst, ◌∙◌, arith}
use Rattle.std.specs.List.{flat_map, All}
use Rattle.std.proofs.lemmas.List.Elements.{All-push}
use Rattle.std.proofs.lemmas.List.Sums.{fold_more}
use Rattle.vv_map.specs.Pages.{StoreState, count_at, page_at, lowered, all_lowered, ending_entries}
use Rattle.vv_map.proofs.MapLemmas.{lowered_before, page_some, ending_more_yes, ending_more_no, joined_more}
use Rattle.vv_map.proofs.page_store.PageStore.release.Goals as goal
use Rattle.vv_map.proofs.page_store.PageStore.release.Goals.{in-Some, in_default}

pub lower-requires : goal.lower-requires
lower-requires g c =
    let store = c.args.self.now in
    let map = c.args.map in
    let i = c.loop-number.number-index in
    let x = get_or c.deref-number-items.result.now i 0 in
    let items : c.deref-number-items.result.now ≡ map.numbers = c.deref-number-items.ensures.value ∙ ap (λ m. m.numbers) c.map.view_is in
    let number_is : x ≡ slice_index map.numbers i = ap (λ xs. get_or xs i 0) items in
    let size = ap length items in
    let within : i < length map.numbers = omega (arith, c.loop-number-test.true, size) in
    let before = lowered_before store map c.requires i within in
    let same : count_at c.loop-number.self x ≡ count_at store (slice_index map.numbers i) =
    ap (λ (s : StoreState g.row.E.Denot). count_at s x) c.loop-number.invariant.lowered ∙ ap (count_at (all_lowered store (take i map.numbers))) number_is ∙ before.0 in
    omega (arith, same, c.requires.counted i within)

pub loop-number-preserved : goal.loop-number-preserved
loop-number-preserved g c =
    let store = c.args.self.now in
    let map = c.args.map in
    let i = c.loop-number.number-index in
    let x = get_or c.deref-number-items.result.now i 0 in
    let items : c.deref-number-items.result.now ≡ map.numbers = c.deref-number-items.ensures.value ∙ ap (λ m. m.numbers) c.map.view_is in
    let number_is : x ≡ slice_index map.numbers i = ap (λ xs. get_or xs i 0) items in
    let size = ap length items in
    let within : i < length map.numbers = omega (arith, c.loop-number-test.true, size) in
    let before = lowered_before store map c.requires i within in
    let count_is : count_at c.loop-number.self x ≡ count_at store (slice_index map.numbers i) =
    ap (λ (s : StoreState g.row.E.Denot). count_at s x) c.loop-number.invariant.lowered ∙ ap (count_at (all_lowered store (take i map.numbers))) number_is ∙ before.0 in
    let page_is : page_at c.loop-number.self x ≡ page_at store (slice_index map.numbers i) =
    ap (λ (s : StoreState g.row.E.Denot). page_at s x) c.loop-number.invariant.lowered ∙ ap (page_at (all_lowered store (take i map.numbers))) number_is ∙ before.1 in
    let low = c.lower.ensures.lowered ∙ ap (λ (s : StoreState g.row.E.Denot). lowered s x) c.loop-number.invariant.lowered
    ∙ ap (lowered (all_lowered store (take i map.numbers))) number_is ∙ sym (fold_more lowered store map.numbers i 0 within) in
    elim c.match-lower.branch [
      | in-Some w ↦
          let page : List g.row.E.Denot = w.in-Some.page in
          let is : page ≡ page_at store (slice_index map.numbers i) = w.in-Some.ensures.some.1 ∙ page_is in
          let now : c.match-lower.ended.items ≡ c.loop-number.ended.items ++ page ∷ [] = ap (λ v. v.items) w.ended-is ∙ w.push_reserved.ensures.items in
          record {
            lowered = low;
            ended = ap (flat_map (λ (p : List g.row.E.Denot). p)) now ∙ joined_more c.loop-number.ended.items page
                ∙ ap (λ es. es ++ page) c.loop-number.invariant.ended
                ∙ ap (λ es. ending_entries store (take i map.numbers) ++ es) is
                ∙ sym (ending_more_yes store map.numbers i within (sym count_is ∙ w.in-Some.ensures.some.0));
            some = subst (λ (ps : List (List g.row.E.Denot)). All (λ page. 0 < length page) ps) (sym now)
                (All-push (λ page. 0 < length page) c.loop-number.ended.items page c.loop-number.invariant.some (let n = ap length is in omega (arith, n, page_some store map c.requires i within)));
            fits = omega (arith, ap vec_len w.ended-is, w.push_reserved.ensures.len, c.loop-number.invariant.fits);
            memory = ap vec_capacity w.ended-is ∙ w.push_reserved.ensures.capacity ∙ c.loop-number.invariant.memory;
          }
      | in_default w ↦ record {
        lowered = low;
        ended = ap (λ v. flat_map (λ (p : List g.row.E.Denot). p) v.items) w.ended-is ∙ c.loop-number.invariant.ended
            ∙ sym (ending_more_no store map.numbers i within (λ e. let two = w.in_default.ensures.none in omega (arith, two, count_is, e)));
        some = subst (λ (ps : List (List g.row.E.Denot)). All (λ page. 0 < length page) ps) (sym (ap (λ v. v.items) w.ended-is)) c.loop-number.invariant.some;
        fits = omega (arith, ap vec_len w.ended-is, c.loop-number.invariant.fits);
        memory = ap vec_capacity w.ended-is ∙ c.loop-number.invariant.memory;
      }
    ]
