-- What an accepted change has passed: each of its checks.
use Rattle.std.proofs.Common.{◌≡◌, ◌≤◌, ℕ, zero, suc, ◌+◌, ◌==◌, refl, Bool, true, false, cond, List, [], ◌∷◌, arith}
use Rattle.std.specs.Prelude.{Option, Some, None, slice_index_or, nat_lt}
use Rattle.std.proofs.lemmas.Bool.{ltb-false, eqb-true}
use Rattle.vv_flat.specs.Lists.{if_found}
use Rattle.vv_flat.specs.State.{Durable}
use Rattle.vv_flat.specs.Space.{free, entries}
use Rattle.vv_flat.specs.Profiles.{Misfit}
use Rattle.vv_flat.specs.Refusals.{Refusal, Refuse, Nothing, Accept, first_refusal, refuse_if, PoolFull, MapFull, pool_full, map_full}
use Rattle.vv_flat.specs.Changes.{Change, judge, state_checks, changes_nothing, room_checks, where_positive}

verdict_room : (state : Option Refusal) (n : Bool) (room : Option Refusal)
    → if_found state Refuse (cond n Nothing (if_found room Refuse Accept)) ≡ Accept → room ≡ None
verdict_room None true room e = cc
verdict_room None false None e = refl
verdict_room None false (Some r) e = cc
verdict_room (Some r) n room e = cc

verdict_state : (state : Option Refusal) (n : Bool) (room : Option Refusal)
    → if_found state Refuse (cond n Nothing (if_found room Refuse Accept)) ≡ Accept → state ≡ None
verdict_state None n room e = refl
verdict_state (Some r) n room e = cc

-- the check at each place
none_at : (cs : List (Option Refusal)) (k : ℕ) → first_refusal cs ≡ None → slice_index_or cs k None ≡ None
none_at [] k e = refl
none_at (None ∷ cs) zero e = refl
none_at (None ∷ cs) (suc k) e = none_at cs k e
none_at (Some r ∷ cs) k e = cc

pub passed_state : (misfit : Option Misfit) (d : Durable ℕ) (c : Change) → judge misfit d c ≡ Accept
    → (k : ℕ) → slice_index_or (state_checks d c) k None ≡ None
unfolding judge
passed_state misfit d c e k =
    none_at (state_checks d c) k
    (verdict_state (first_refusal (state_checks d c)) (changes_nothing d c) (first_refusal (room_checks misfit d c)) e)

pub passed_room : (misfit : Option Misfit) (d : Durable ℕ) (c : Change) → judge misfit d c ≡ Accept
    → (k : ℕ) → slice_index_or (room_checks misfit d c) k None ≡ None
unfolding judge
passed_room misfit d c e k =
    none_at (room_checks misfit d c) k
    (verdict_room (first_refusal (state_checks d c)) (changes_nothing d c) (first_refusal (room_checks misfit d c)) e)

pub not_refused : (b : Bool) (r : Refusal) → refuse_if b r ≡ None → b ≡ false
not_refused true r e = cc
not_refused false r e = refl

pub within_map : (d : Durable ℕ) (asked : ℕ) → map_full d asked ≡ None → entries d + asked ≤ d.geometry.map_chunks
within_map d asked e =
    ltb-false d.geometry.map_chunks (entries d + asked)
    (not_refused (nat_lt d.geometry.map_chunks (entries d + asked)) (MapFull (entries d) asked d.geometry.map_chunks) e)

pub within_pool : (d : Durable ℕ) (asked : ℕ) → pool_full d asked ≡ None → asked ≤ free d
within_pool d asked e = ltb-false (free d) asked (not_refused (nat_lt (free d) asked) (PoolFull (free d) asked) e)

positive_step : (b : Bool) (c : Option Refusal) → cond b None c ≡ None → (b ≡ false → c ≡ None)
positive_step true c e f = cc
positive_step false c e f = e

-- what is asked for is there, where nothing may be asked for
pub within_map_positive : (d : Durable ℕ) (asked : ℕ) → where_positive asked (map_full d asked) ≡ None
    → entries d ≤ d.geometry.map_chunks → entries d + asked ≤ d.geometry.map_chunks
within_map_positive d asked e h = go (asked == 0) refl
  where
    go : (b : Bool) → (asked == 0) ≡ b → entries d + asked ≤ d.geometry.map_chunks
    go true is = let z : asked ≡ 0 = eqb-true asked 0 is in omega (arith, z, h)
    go false is = within_map d asked (positive_step (asked == 0) (map_full d asked) e is)
