use Rattle.std.proofs.Common.{◌≡◌, ◌≤◌, ◌<◌, ◌-◌, length, slice_index, vec_capacity, sym, subst, ◌∙◌, arith, get_or-set_same}
use Rattle.std.proofs.lemmas.List.{get_or_default}
use Rattle.vv_map.specs.Pages.{StoreState}
use Rattle.vv_map.proofs.StoreLemmas.{unused_fits, kept-lowered, within_from_count}
use Rattle.vv_map.proofs.page_store.PageStore.lower.Goals as goal

pub push_reserved-requires : goal.push_reserved-requires
push_reserved-requires g c =
    let inside = c.self.inside in
    let some : 1 ≤ slice_index inside.counts.items c.args.number = subst (λ (s : StoreState g.row.E.Denot). 1 ≤ slice_index s.counts c.args.number) (sym c.self.view_is) c.requires in
    let fits = unused_fits inside.pages.items inside.counts.items inside.unused.items (vec_capacity inside.unused) c.args.number c.self.invariant some in
    omega (arith, fits)

pub invariant_of-self-2 : goal.invariant_of-self-2
invariant_of-self-2 g c =
    let inside = c.self.inside in
    let counts = inside.counts.items in
    let number = c.args.number in
    let x = c.index_mut.result.now in
    let some : 1 ≤ slice_index counts number = subst (λ (s : StoreState g.row.E.Denot). 1 ≤ slice_index s.counts number) (sym c.self.view_is) c.requires in
    let within : number < length counts = within_from_count counts number some in
    let read : x ≡ slice_index counts number = c.index_mut.ensures.value ∙ get_or_default counts number x 0 within in
    let after : c.index.result.now ≡ x - 1 = c.index.ensures ∙ get_or-set_same counts number (x - 1) c.index.result.now within in
    let none : x - 1 ≡ 0 = omega (arith, after, c.if-index-gt0.false) in
    let one : slice_index counts number ≡ 1 = omega (arith, read, none, some) in
    kept-lowered inside.pages.items counts inside.unused.items c.push_reserved.new.self.items (vec_capacity inside.unused) (vec_capacity c.push_reserved.new.self) number (x - 1) c.replace-page.new.dest c.self.invariant one none c.push_reserved.ensures.items c.push_reserved.ensures.capacity
