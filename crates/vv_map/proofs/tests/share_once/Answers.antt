use Rattle.std.proofs.Common.{ℕ, ◌≡◌, List, sym, subst, ap, ◌∙◌}
use Rattle.vv_map.specs.Rooms.{MapState}
use Rattle.vv_map.specs.Pages.{StoreState, IsMapOf, all_lowered}
use Rattle.vv_map.proofs.StoreLaws.{is_map-half_released}
use Rattle.vv_map.proofs.tests.share_once.Goals as goal

-- a list over the same pages, with other memory for their numbers
other_memory : (s : StoreState ℕ) (map : MapState) (memory : ℕ) → IsMapOf s map → let other : MapState = record { numbers = map.numbers; len = map.len; memory = memory } in IsMapOf s other
other_memory s map memory of = record { counted = of.counted; apart = of.apart; sizes = of.sizes; size = of.size }

same_list : (s : StoreState ℕ) (map other : MapState) → other.numbers ≡ map.numbers → other.len ≡ map.len → IsMapOf s map → IsMapOf s other
same_list s map other numbers len of =
    subst (λ (ns : List ℕ). let m : MapState = record { numbers = ns; len = other.len; memory = other.memory } in IsMapOf s m) (sym numbers)
    (subst (λ (n : ℕ). let m : MapState = record { numbers = map.numbers; len = n; memory = other.memory } in IsMapOf s m) (sym len)
    (other_memory s map other.memory of))

pub release-requires-2 : goal.release-requires-2
release-requires-2 g c =
    let map = c.args.map in
    same_list c.release.new.self map c.share-same.result c.share-same.ensures.numbers c.share-same.ensures.len
    (subst (λ (s : StoreState ℕ). IsMapOf s map) (sym (c.release.ensures.lowered ∙ ap (λ (s : StoreState ℕ). all_lowered s map.numbers) c.share-same.ensures.raised))
    (is_map-half_released c.args.store.now map c.requires.of))
