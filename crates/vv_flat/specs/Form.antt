-- The form that durable parts have by themselves, before any rule: the maps rise, container 0 is the first container,
-- and the running clones and copies are those of the running tasks. The spelling of an area gives no other form.
use Rattle.std.specs.Prelude.{ℕ, ◌==◌, ◌&&◌, Bool, true, false, not, List, [], ◌∷◌, map, filter}
use Rattle.vv_flat.specs.Lists.{numbers_eq, all_rising}
use Rattle.vv_flat.specs.State.{Container, Volume, Context, Address, Binding, Task, RunningClone, RunningCopy, Durable}
use Rattle.vv_flat.specs.Space.{is_running, is_clone}
use Rattle.vv_flat.specs.Bindings.{is_below}

abbrev pub all_below : Address → List Binding → Bool
all_below a [] = true
all_below a (b ∷ bs) = is_below a b.address && all_below b.address bs

abbrev pub bindings_rise : List Binding → Bool
bindings_rise [] = true
bindings_rise (b ∷ bs) = all_below b.address bs

abbrev pub begins_with_zero : List Container → Bool
begins_with_zero [] = false
begins_with_zero (k ∷ ks) = k.number == 0

-- the numbers of the running tasks whose job is a clone, or a copy
abbrev pub running_clones : List Task → List ℕ
running_clones tasks = map (λ (t : Task). t.number) (filter (λ t. is_running t && is_clone t.job) tasks)

abbrev pub running_copies : List Task → List ℕ
running_copies tasks = map (λ (t : Task). t.number) (filter (λ t. is_running t && not (is_clone t.job)) tasks)

unfoldable pub is_formed : {X : Type 0} → Durable X → Bool
is_formed {X} d =
    begins_with_zero d.containers
    && all_rising (map (λ (k : Container). k.number) d.containers)
    && all_rising (map (λ (v : Volume X). v.number) d.volumes)
    && all_rising (map (λ (c : Context). c.host) d.contexts)
    && bindings_rise d.bindings
    && all_rising (map (λ (t : Task). t.number) d.tasks)
    && numbers_eq (map (λ (c : RunningClone X). c.number) d.clones) (running_clones d.tasks)
    && numbers_eq (map (λ (c : RunningCopy X). c.number) d.copies) (running_copies d.tasks)
