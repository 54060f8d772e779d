-- For the invariant of a core: queues and attentions keep their form, over tables with entries for chunks.
use Rattle.std.proofs.Common.{ℕ, ◌≡◌, ◌==◌, ◌&&◌, ◌*◌, true, List, [], length, replicate, refl, sym, ap, ◌∙◌}
use Rattle.std.proofs.lemmas.Bool.{eq-eqb}
use Rattle.std.proofs.lemmas.List.{length-replicate}
use Rattle.vv_units.specs.Sizes.{block_bytes}
use Rattle.vv_flat.specs.State.{Address, Binding, Volatile, Durable, empty_volatile, host_limit, map_durable}
use Rattle.vv_flat.specs.Chunks.{ChunkValue, Entry, shape, shape_of_tables}
use Rattle.vv_flat.specs.Changes.{Change, MakeContainer, GrowVolume, Write, Unbind, UnbindAll, apply_shape, attentions_after}
use Rattle.vv_flat.specs.Flat.{flat_after, has_its_bytes}
use Rattle.vv_flat.specs.Replay.{fits, replayed}
use Rattle.vv_flat.specs.Restart.{interrupted_durable}
use Rattle.vv_flat.proofs.Shares.{and_right}
use Rattle.vv_flat.proofs.Steps.{flat_step, record_step}
use Rattle.vv_laws.specs.VolatileForm.{are_queues, are_attentions, has_volatile_form}
use Rattle.vv_laws.proofs.OtherContents.{map-durable_after}
use Rattle.vv_laws.proofs.VolatileForms.{change_form, interrupted_form}

-- where nothing waits
pub forgotten_form : (d : Durable Entry) → has_volatile_form (record { durable = d; volatile = empty_volatile }) ≡ true
unfolding has_volatile_form
forgotten_form d = refl

-- and where all running tasks end
pub interrupted_form_of : (d e : Durable Entry) (v : Volatile) → e ≡ interrupted_durable d → has_volatile_form (record { durable = d; volatile = v }) ≡ true
    → has_volatile_form (record { durable = e; volatile = v }) ≡ true
interrupted_form_of d e v is form =
    ap (λ (x : Durable Entry). has_volatile_form (record { durable = x; volatile = v })) is
    ∙ interrupted_form (record { durable = d; volatile = v }) form

-- The form goes by the bindings and by what waits.
by_bindings : {X Y : Type 0} (d : Durable X) (e : Durable Y) (v w : Volatile) → e.bindings ≡ d.bindings → w ≡ v
    → has_volatile_form (record { durable = d; volatile = v }) ≡ true → has_volatile_form (record { durable = e; volatile = w }) ≡ true
unfolding has_volatile_form
by_bindings {X} {Y} d e v w same is form =
    ap (λ (x : Volatile). (length x.queues == host_limit) && are_queues 1 x.queues && are_attentions e.bindings x.attentions) is
    ∙ ap (λ (bs : List Binding). (length v.queues == host_limit) && are_queues 1 v.queues && are_attentions bs v.attentions) same ∙ form

pub form_attentions : (d : Durable Entry) (v : Volatile) → has_volatile_form (record { durable = d; volatile = v }) ≡ true
    → are_attentions d.bindings v.attentions ≡ true
unfolding has_volatile_form
form_attentions d v form = and_right ((length v.queues == host_limit) && are_queues 1 v.queues) _ form

-- what becomes of attentions doesn't go by chunks
same_attentions : (d : Durable Entry) (change : Change) (xs : List Address)
    → attentions_after {X = ChunkValue} (map_durable {X = Entry} {Y = ChunkValue} (λ (e : Entry). record { stamp = e.stamp; bytes = [] }) d) change xs ≡ attentions_after {X = Entry} d change xs
unfolding attentions_after
same_attentions d (GrowVolume n chunks) xs = refl
same_attentions d (Unbind host endpoint secondary) xs = refl
same_attentions d (UnbindAll host) xs = refl
same_attentions d change xs = refl

-- bytes of a change, as many as it has
zeros : Change → List ℕ
zeros (Write n first blocks) = replicate (blocks * block_bytes) 0
zeros change = []

has_zeros : (change : Change) → has_its_bytes change (zeros change) ≡ true
unfolding zeros
has_zeros (Write n first blocks) = eq-eqb (length (replicate (blocks * block_bytes) 0)) (blocks * block_bytes) (length-replicate (blocks * block_bytes) 0)
has_zeros (MakeContainer quota offers) = refl
has_zeros change = refl

-- an event that fits keeps it, with what it does to the attentions
pub replayed_form : (d : Durable Entry) (v : Volatile) (change : Change) (places : List ℕ) → fits d change places ≡ true
    → has_volatile_form (record { durable = d; volatile = v }) ≡ true
    → has_volatile_form (record { durable = replayed d change places; volatile = record v { attentions = attentions_after d change v.attentions } }) ≡ true
replayed_form d v change places fit form =
    let flat : Durable ChunkValue = map_durable (λ (e : Entry). record { stamp = e.stamp; bytes = [] }) d in
    let bytes : List ℕ = zeros change in
    let after : Durable ChunkValue = flat_after flat change bytes in
    let stepped : shape after ≡ apply_shape (shape flat) change = flat_step flat change bytes (has_zeros change) in
    let shapes : shape flat ≡ shape_of_tables d =
    map-durable_after (λ (e : Entry). record { stamp = e.stamp; bytes = [] }) (λ (x : ChunkValue). x.stamp) (λ (e : Entry). e.stamp) (λ e. refl) d in
    let same : (replayed d change places).bindings ≡ after.bindings =
    ap (λ (s : Durable ℕ). s.bindings) (record_step d change places fit ∙ ap (λ (s : Durable ℕ). apply_shape s change) (sym shapes) ∙ sym stepped) in
    by_bindings after (replayed d change places) (record v { attentions = attentions_after flat change v.attentions }) (record v { attentions = attentions_after d change v.attentions })
    same (ap (λ (xs : List Address). record v { attentions = xs }) (sym (same_attentions d change v.attentions)))
    (change_form (record { durable = flat; volatile = v }) change bytes (by_bindings d flat v v refl refl form))
