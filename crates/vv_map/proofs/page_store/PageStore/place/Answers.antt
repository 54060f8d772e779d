use Rattle.std.proofs.Common.{◌≡◌, ◌<◌, ◌+◌, length, slice_index, set, vec_capacity, subst, refl, arith}
use Rattle.vv_map.specs.Pages.{StoreState, unused_pages}
use Rattle.vv_map.proofs.StoreLemmas.{kept-placed, zeros, zeros-set, zero_bit_yes, zero_bit_no}
use Rattle.vv_map.proofs.page_store.PageStore.place.Goals as goal
use Rattle.vv_map.proofs.page_store.PageStore.place.Goals.{In-Some}

pub invariant_of-self : goal.invariant_of-self
invariant_of-self g c =
    let inside = c.self.inside in
    (kept-placed inside.pages.items inside.counts.items inside.unused.items c.pop.new.self.items (vec_capacity inside.unused) (vec_capacity c.pop.new.self) c.in-Some.number c.args.page c.self.invariant c.in-Some.ensures.items c.pop.ensures.capacity).2

pub returns-clause-within : goal.returns-clause-within
returns-clause-within g c =
    let inside = c.self.inside in
    let found = kept-placed inside.pages.items inside.counts.items inside.unused.items c.pop.new.self.items (vec_capacity inside.unused) (vec_capacity inside.unused) c.in-Some.number c.args.page c.self.invariant c.in-Some.ensures.items refl in
    subst (λ (s : StoreState g.row.E.Denot). c.in-Some.number < length s.counts) c.self.view_is found.0

pub returns-clause-unused : goal.returns-clause-unused
returns-clause-unused g c =
    let inside = c.self.inside in
    let found = kept-placed inside.pages.items inside.counts.items inside.unused.items c.pop.new.self.items (vec_capacity inside.unused) (vec_capacity inside.unused) c.in-Some.number c.args.page c.self.invariant c.in-Some.ensures.items refl in
    subst (λ (s : StoreState g.row.E.Denot). slice_index s.counts c.in-Some.number ≡ 0) c.self.view_is found.1

pub returns-clause-left : goal.returns-clause-left
returns-clause-left g c =
    let inside = c.self.inside in
    let number = c.in-Some.number in
    let found = kept-placed inside.pages.items inside.counts.items inside.unused.items c.pop.new.self.items (vec_capacity inside.unused) (vec_capacity inside.unused) number c.args.page c.self.invariant c.in-Some.ensures.items refl in
    let change = zeros-set inside.counts.items number 1 found.0 in
    let yes = zero_bit_yes (slice_index inside.counts.items number) found.1 in
    let no = zero_bit_no 1 (omega arith) in
    subst (λ (s : StoreState g.row.E.Denot). zeros (set inside.counts.items number 1) + 1 ≡ unused_pages s) c.self.view_is (omega (arith, change, yes, no))

pub returns-clause-page : goal.returns-clause-page
returns-clause-page g c =
    let inside = c.self.inside in
    let found = kept-placed inside.pages.items inside.counts.items inside.unused.items c.pop.new.self.items (vec_capacity inside.unused) (vec_capacity inside.unused) c.in-Some.number c.args.page c.self.invariant c.in-Some.ensures.items refl in
    let within : c.in-Some.number < length inside.pages.items = omega (arith, found.0, c.self.invariant.same) in
    subst (λ (s : StoreState g.row.E.Denot). c.in-Some.number < length s.pages) c.self.view_is within
