-- The entries of one page of a list: 64 of the list from its place on, or as many as are left.
use Rattle.std.proofs.Common.{ℕ, zero, suc, ◌≡◌, ◌+◌, ◌*◌, ◌<◌, ◌≤◌, List, [], ◌∷◌, ◌++◌, length, slice_index, take, drop, sym, ap, ◌∙◌, arith}
use Rattle.std.specs.List.{flat_map}
use Rattle.std.proofs.lemmas.List.{take_all, take_at, drop_at, drop-drop, append-nil}
use Rattle.vv_map.specs.Rooms.{MapState}
use Rattle.vv_map.specs.Pages.{StoreState, page_at, list_of, IsMapOf}

page_cut : {E : Type 0} (f : ℕ → List E) (numbers : List ℕ) (k : ℕ) → k < length numbers → ((j : ℕ) → suc j < length numbers → length (f (slice_index numbers j)) ≡ 64)
    → ((j : ℕ) → j < length numbers → length (f (slice_index numbers j)) ≤ 64) → take 64 (drop (64 * k) (flat_map f numbers)) ≡ f (slice_index numbers k)
page_cut f [] k lt full small = absurd (omega arith)
page_cut f (p ∷ []) zero lt full small = ap (take 64) (append-nil (f p)) ∙ take_all 64 (f p) (small 0 (omega arith))
page_cut f (p ∷ q ∷ ps) zero lt full small = take_at (f p) (flat_map f (q ∷ ps)) 64 (full 0 (omega arith))
page_cut f (p ∷ []) (suc k) lt full small = absurd (omega arith)
page_cut f (p ∷ q ∷ ps) (suc k) lt full small =
    let step : 64 * suc k ≡ 64 + 64 * k = omega arith in
    ap (λ n. take 64 (drop n (f p ++ flat_map f (q ∷ ps)))) step
    ∙ ap (take 64) (sym (drop-drop (64 * k) 64 (f p ++ flat_map f (q ∷ ps))))
    ∙ ap (λ es. take 64 (drop (64 * k) es)) (drop_at (f p) (flat_map f (q ∷ ps)) 64 (full 0 (omega arith)))
    ∙ page_cut f (q ∷ ps) k (omega arith) (λ j h. full (suc j) (omega arith)) (λ j h. small (suc j) (omega arith))

-- the entries of a page of a list
pub page_of_list : {E : Type 0} (store : StoreState E) (map : MapState) (k : ℕ) → IsMapOf store map → k < length map.numbers → take 64 (drop (64 * k) (list_of store map)) ≡ page_at store (slice_index map.numbers k)
page_of_list store map k of lt = page_cut (page_at store) map.numbers k lt
    (λ j h. let size = of.sizes j (omega arith) in let pages = of.size in omega arith)
    (λ j h. let size = of.sizes j h in omega arith)
