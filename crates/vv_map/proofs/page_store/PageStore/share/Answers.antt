use Rattle.std.proofs.Common.{◌≡◌, ◌<◌, [], ◌∷◌, ◌++◌, length, get_or, slice_index, take, take_all, vec_capacity, ap, sym, subst, ◌∙◌, arith}
use Rattle.std.specs.List.{flat_map}
use Rattle.std.proofs.lemmas.List.{take_more}
use Rattle.std.proofs.lemmas.List.Sums.{fold_more}
use Rattle.vv_map.specs.Rooms.{MapState}
use Rattle.vv_map.specs.Pages.{StoreState, IsMapOf, count_at, page_at, list_of, raised, all_raised}
use Rattle.vv_map.proofs.MapLemmas.{raised_before, is_map-same, list_of-all_raised, is_map-all_raised}
use Rattle.vv_map.proofs.page_store.PageStore.share.Goals as goal

pub raise-requires-clause-named : goal.raise-requires-clause-named
raise-requires-clause-named g c =
    let store = c.args.self.now in
    let map = c.args.map.now in
    let i = c.loop-number.number-index in
    let x = get_or c.deref-number-items.result.now i 0 in
    let items : c.deref-number-items.result.now ≡ map.numbers = c.deref-number-items.ensures.value ∙ ap (λ m. m.numbers) c.map.view_is in
    let number_is : x ≡ slice_index map.numbers i = ap (λ xs. get_or xs i 0) items in
    let size = ap length items in
    let within : i < length map.numbers = omega (arith, c.loop-number-test.true, size) in
    let same : count_at c.loop-number.self x ≡ count_at store (slice_index map.numbers i) =
    ap (λ (s : StoreState g.row.E.Denot). count_at s x) c.loop-number.invariant.raised ∙ ap (count_at (all_raised store (take i map.numbers))) number_is ∙ raised_before store map c.requires.of i within in
    omega (arith, same, c.requires.of.counted i within)

pub raise-requires-clause-small : goal.raise-requires-clause-small
raise-requires-clause-small g c =
    let store = c.args.self.now in
    let map = c.args.map.now in
    let i = c.loop-number.number-index in
    let x = get_or c.deref-number-items.result.now i 0 in
    let items : c.deref-number-items.result.now ≡ map.numbers = c.deref-number-items.ensures.value ∙ ap (λ m. m.numbers) c.map.view_is in
    let number_is : x ≡ slice_index map.numbers i = ap (λ xs. get_or xs i 0) items in
    let size = ap length items in
    let within : i < length map.numbers = omega (arith, c.loop-number-test.true, size) in
    let same : count_at c.loop-number.self x ≡ count_at store (slice_index map.numbers i) =
    ap (λ (s : StoreState g.row.E.Denot). count_at s x) c.loop-number.invariant.raised ∙ ap (count_at (all_raised store (take i map.numbers))) number_is ∙ raised_before store map c.requires.of i within in
    omega (arith, same, c.requires.small i within)

pub loop-number-preserved : goal.loop-number-preserved
loop-number-preserved g c =
    let store = c.args.self.now in
    let map = c.args.map.now in
    let i = c.loop-number.number-index in
    let x = get_or c.deref-number-items.result.now i 0 in
    let items : c.deref-number-items.result.now ≡ map.numbers = c.deref-number-items.ensures.value ∙ ap (λ m. m.numbers) c.map.view_is in
    let number_is : x ≡ slice_index map.numbers i = ap (λ xs. get_or xs i 0) items in
    let size = ap length items in
    let within : i < length map.numbers = omega (arith, c.loop-number-test.true, size) in
    record {
      raised = c.raise.ensures ∙ ap (λ (s : StoreState g.row.E.Denot). raised s x) c.loop-number.invariant.raised
          ∙ ap (raised (all_raised store (take i map.numbers))) number_is ∙ sym (fold_more raised store map.numbers i 0 within);
      numbers = c.push_reserved.ensures.items ∙ ap (λ xs. xs ++ x ∷ []) c.loop-number.invariant.numbers
          ∙ ap (λ n. take i map.numbers ++ n ∷ []) number_is ∙ sym (take_more map.numbers i 0 within);
      steps = omega (arith, c.tick.ensures, c.loop-number.invariant.steps);
      memory = c.push_reserved.ensures.capacity ∙ c.loop-number.invariant.memory;
    }

pub returns-clause-numbers : goal.returns-clause-numbers
returns-clause-numbers g c =
    let map = c.args.map.now in
    let i = c.loop-number.number-index in
    let items : c.deref-number-items.result.now ≡ map.numbers = c.deref-number-items.ensures.value ∙ ap (λ m. m.numbers) c.map.view_is in
    let size = ap length items in
    c.loop-number.invariant.numbers ∙ take_all i map.numbers (omega (arith, c.loop-number-test.false, size))

pub returns-clause-list : goal.returns-clause-list
returns-clause-list g c =
    let store = c.args.self.now in
    let map = c.args.map.now in
    let i = c.loop-number.number-index in
    let items : c.deref-number-items.result.now ≡ map.numbers = c.deref-number-items.ensures.value ∙ ap (λ m. m.numbers) c.map.view_is in
    let size = ap length items in
    let all : c.loop-number.numbers.items ≡ map.numbers = c.loop-number.invariant.numbers ∙ take_all i map.numbers (omega (arith, c.loop-number-test.false, size)) in
    ap (flat_map (page_at c.loop-number.self)) all
    ∙ ap (λ (s : StoreState g.row.E.Denot). list_of s map) c.loop-number.invariant.raised
    ∙ list_of-all_raised store (take i map.numbers) map

pub returns-clause-of : goal.returns-clause-of
returns-clause-of g c =
    let store = c.args.self.now in
    let map = c.args.map.now in
    let i = c.loop-number.number-index in
    let items : c.deref-number-items.result.now ≡ map.numbers = c.deref-number-items.ensures.value ∙ ap (λ m. m.numbers) c.map.view_is in
    let size = ap length items in
    let all : c.loop-number.numbers.items ≡ map.numbers = c.loop-number.invariant.numbers ∙ take_all i map.numbers (omega (arith, c.loop-number-test.false, size)) in
    let result : MapState = record { numbers = c.loop-number.numbers.items; len = c.map.inside.len; memory = vec_capacity c.loop-number.numbers } in
    is_map-same c.loop-number.self map result all (ap (λ m. m.len) c.map.view_is)
    (subst (λ (s : StoreState g.row.E.Denot). IsMapOf s map) (sym c.loop-number.invariant.raised) (is_map-all_raised store (take i map.numbers) map c.requires.of))
