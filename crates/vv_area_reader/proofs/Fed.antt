-- Pieces fed one after the other, as a loop does.
use Rattle.std.proofs.Common.{◌≡◌, ℕ, suc, ◌+◌, ◌<◌, List, ◌∷◌, ◌++◌, length, get_or, drop, drop-cons, add-one, sym, ap, ◌∙◌, subst}
use Rattle.std.specs.List.{concat}
use Rattle.std.specs.Prelude.{Result}
use Rattle.vv_flat.specs.State.{Durable}
use Rattle.vv_flat.specs.Chunks.{Entry}
use Rattle.vv_area.specs.Area.{IsFaultOf}
use Rattle.vv_area.specs.declared.fault.AreaFault.{AreaFault}
use Rattle.vv_area_reader.specs.Told.{AreaReading, told}

-- one more piece was fed, and the fault is the one that is told in the end
pub fed_fails : (pieces : List (List ℕ)) (i : ℕ) (piece bytes : List ℕ) (r : AreaReading) (whole : Result (Durable Entry) ℕ) (e : AreaFault) → i < length pieces → piece ≡ get_or pieces i piece → bytes ≡ piece
    → told r (concat (drop i pieces)) ≡ whole → IsFaultOf e (told r (bytes ++ concat (drop (i + 1) pieces))) → IsFaultOf e whole
fed_fails pieces i piece bytes r whole e lt is same so_far fault =
    let split : drop i pieces ≡ piece ∷ drop (i + 1) pieces = rw (add-one, drop-cons pieces i piece) (ap (λ (p : List ℕ). p ∷ drop (suc i) pieces) (sym is)) in
    let joined : told r (bytes ++ concat (drop (i + 1) pieces)) ≡ whole =
    ap (λ (b : List ℕ). told r (b ++ concat (drop (i + 1) pieces))) same ∙ ap (λ (ps : List (List ℕ)). told r (concat ps)) (sym split) ∙ so_far
    in
    subst (λ (t : Result (Durable Entry) ℕ). IsFaultOf e t) joined fault
