-- The order of an answer: what is wrong, then whether nothing would change, then limits.
use Rattle.std.proofs.Common.{ℕ, ◌≡◌, Bool, true, false, cond, Option, Some, None, refl, sym, ap, ◌∙◌}
use Rattle.vv_flat.specs.Lists.{if_found}
use Rattle.vv_flat.specs.State.{Durable}
use Rattle.vv_flat.specs.Profiles.{Misfit}
use Rattle.vv_flat.specs.Refusals.{Refusal, Refuse, Nothing, Accept, verdict, first_refusal}
use Rattle.vv_flat.specs.Changes.{Change, judge, state_checks, changes_nothing, room_checks}
use Rattle.vv_judge.specs.Seen.{refused_by}

judged : (misfit : Option Misfit) (d : Durable ℕ) (change : Change)
    → judge misfit d change ≡ verdict (state_checks d change) (changes_nothing d change) (room_checks misfit d change)
unfolding judge state_checks changes_nothing room_checks
judged misfit d change = refl

-- what the three answers make together
parts : (misfit : Option Misfit) (d : Durable ℕ) (change : Change) (state room : Option Refusal) (nothing : Bool)
    → state ≡ refused_by (state_checks d change) → nothing ≡ changes_nothing d change → room ≡ refused_by (room_checks misfit d change)
    → if_found state Refuse (cond nothing Nothing (if_found room Refuse Accept)) ≡ judge misfit d change
unfolding refused_by
parts misfit d change state room nothing s n r =
    ap (λ (o : Option Refusal). if_found o Refuse (cond nothing Nothing (if_found room Refuse Accept))) s
    ∙ ap (λ b. if_found (first_refusal (state_checks d change)) Refuse (cond b Nothing (if_found room Refuse Accept))) n
    ∙ ap (λ (o : Option Refusal). if_found (first_refusal (state_checks d change)) Refuse (cond (changes_nothing d change) Nothing (if_found o Refuse Accept))) r
    ∙ sym (judged misfit d change)

pub refuses_first : (misfit : Option Misfit) (d : Durable ℕ) (change : Change) (r : Refusal)
    → Some r ≡ refused_by (state_checks d change) → Refuse r ≡ judge misfit d change
refuses_first misfit d change r s = parts misfit d change (Some r) (refused_by (room_checks misfit d change)) (changes_nothing d change) s refl refl

pub nothing_changes : (misfit : Option Misfit) (d : Durable ℕ) (change : Change)
    → None ≡ refused_by (state_checks d change) → true ≡ changes_nothing d change → Nothing ≡ judge misfit d change
nothing_changes misfit d change s n = parts misfit d change None (refused_by (room_checks misfit d change)) true s n refl

pub limits_answer : (misfit : Option Misfit) (d : Durable ℕ) (change : Change) (room : Option Refusal)
    → None ≡ refused_by (state_checks d change) → false ≡ changes_nothing d change → room ≡ refused_by (room_checks misfit d change)
    → if_found room Refuse Accept ≡ judge misfit d change
limits_answer misfit d change room s n r = parts misfit d change None room false s n r
