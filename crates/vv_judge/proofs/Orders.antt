-- The order of checks: the first that refuses counts.
use Rattle.std.proofs.Common.{ℕ, ◌≡◌, ◌+◌, ◌<◌, ◌≤◌, true, false, List, ◌∷◌, map, length, drop, get_or, Option, Some, None, is_some, refl, ap, ◌∙◌, add-one, drop-cons}
use Rattle.std.proofs.lemmas.List.{drop_all}
use Rattle.vv_flat.specs.Refusals as flat
use Rattle.vv_flat.specs.Refusals.{first_refusal}
use Rattle.vv_judge.specs.declared.answer.Refusal.{Refusal}
use Rattle.vv_judge.specs.Seen.{seen_check, refused_by}

-- what the checks from a place on answer
abbrev pub from_on : ℕ → List (Option Refusal) → Option flat.Refusal
from_on i checks = refused_by (map seen_check (drop i checks))

head_ends : (c : Option Refusal) (rest : List (Option Refusal)) → is_some c ≡ true → refused_by (map seen_check (c ∷ rest)) ≡ seen_check c
unfolding refused_by
head_ends None rest e = absurd (cc)
head_ends (Some r) rest e = refl

head_passes : (c : Option Refusal) (rest : List (Option Refusal)) → is_some c ≡ false → refused_by (map seen_check (c ∷ rest)) ≡ refused_by (map seen_check rest)
unfolding refused_by
head_passes None rest e = refl
head_passes (Some r) rest e = absurd (cc)

at_place : (i : ℕ) (checks : List (Option Refusal)) → i < length checks → drop i checks ≡ get_or checks i None ∷ drop (i + 1) checks
at_place i checks h = rw (add-one, drop-cons checks i None) refl

-- the check at a place ends the walk
pub ends_there : (i : ℕ) (checks : List (Option Refusal)) → i < length checks → is_some (get_or checks i None) ≡ true
    → from_on i checks ≡ seen_check (get_or checks i None)
ends_there i checks h e =
    ap (λ (cs : List (Option Refusal)). refused_by (map seen_check cs)) (at_place i checks h) ∙ head_ends (get_or checks i None) (drop (i + 1) checks) e

-- it leaves the answer to those behind it
pub goes_on : (i : ℕ) (checks : List (Option Refusal)) → i < length checks → is_some (get_or checks i None) ≡ false
    → from_on i checks ≡ from_on (i + 1) checks
goes_on i checks h e =
    ap (λ (cs : List (Option Refusal)). refused_by (map seen_check cs)) (at_place i checks h) ∙ head_passes (get_or checks i None) (drop (i + 1) checks) e

-- behind the last one nothing is refused
pub all_pass : (i : ℕ) (checks : List (Option Refusal)) → length checks ≤ i → from_on i checks ≡ None
unfolding refused_by
all_pass i checks h = ap (λ (cs : List (Option Refusal)). first_refusal (map seen_check cs)) (drop_all i checks h)
