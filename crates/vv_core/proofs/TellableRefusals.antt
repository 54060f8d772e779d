-- For telling refusals: one of a profile names one of its needs, which are few.
use Rattle.std.proofs.Common.{ℕ, suc, ◌≡◌, ◌≤◌, ◌<◌, ◌+◌, ◌-◌, ◌*◌, ◌^◌, ◌==◌, ◌||◌, Bool, true, false, not, cond, List, [], ◌∷◌, length, refl, subst, arith}
use Rattle.std.specs.Prelude.{Option, Some, None, is_none, nat_le, nat_lt}
use Rattle.std.specs.List.{list_any}
use Rattle.std.proofs.lemmas.Bool.{leb-true}
use Rattle.vv_units.specs.declared.field.Field.{Field}
use Rattle.vv_units.specs.declared.field.Field.TheVariants.{Container as in_container, Vvol as in_vvol, SizeInMb as in_size, Snapshot as in_snapshot, Source as in_source, Base as in_base, Target as in_target, Task as in_task, Endpoints as in_endpoints, Host as in_host, Secondary as in_secondary, Binding as in_binding, Count as in_count, Key as in_key, Pairs}
use Rattle.vv_units.specs.declared.volume.Offer.{Offer}
use Rattle.vv_units.specs.declared.volume.Need.{Need}
use Rattle.vv_units.specs.declared.volume.Why.{Why}
use Rattle.vv_flat.specs.Lists.{if_found}
use Rattle.vv_flat.specs.State.{Container, Binding, Piece, Durable, container_of, volume_of, task_of}
use Rattle.vv_flat.specs.Chunks.{volume_blocks, touched_indexes}
use Rattle.vv_flat.specs.Space.{free, entries, charge, pair_count, volume_count, running_count, allocating_pieces, is_volume_size}
use Rattle.vv_flat.specs.Bindings.{endpoints_of, keeps_bindings, binding_at, binding_of, is_bound}
use Rattle.vv_flat.specs.Tasks.{running_limit, is_busy, difference}
use Rattle.vv_flat.specs.Profiles.{Capability, Misfit, unmet, first_misfit, first_misfit_from}
use Rattle.vv_flat.specs.Refusals.{Refusal, NotFound, InvalidArgument, IncompatibleVolume, NoEndpoint, ResourceInUse, NotCancellable, OutOfRange, WriteProtected, Exhausted, TooMany, OverQuota, PoolFull, MapFull, Refuse, Nothing, Accept, last_lsn, pairs_limit, first_refusal, refuse_if, missing_volume, exhausted, too_many, too_many_pairs, misfits, over_quota, pool_full, map_full}
use Rattle.vv_flat.specs.Changes.{Change, MakeContainer, MakeVolume, DeleteVolume, GrowVolume, SetMetadata, Snapshot, FastClone, Revert, Write, Unmap, SetEndpoints, Bind, Unbind, UnbindAll, StartClone, StartCopy, Turn, Cancel, volume_limit, container_limit, binding_limit, bind_count_limit, key_limit, stamps_of, size_of, allocated_of, metadata_of, home_of, is_snapshot, is_snapshot_of, is_task_running, unmapped_count, added_pairs, too_many_bindings, missing_task, busy, bound_or_busy, too_many_volumes, judge, misfit_in, state_checks, changes_nothing, room_checks}
use Rattle.vv_judge.specs.declared.answer.Verdict.{Verdict as Answered}
use Rattle.vv_judge.specs.declared.answer.Verdict.TheVariants as answered
use Rattle.vv_judge.specs.Seen.{seen_refusal, seen_verdict}
use Rattle.vv_meaning.specs.Meaning.{verdict_on}
use Rattle.vv_core.specs.FormedChanges.{has_few_needs}
use Rattle.vv_core.specs.PlannedDeeds.{IsTellable, IsTellableVerdict}

-- the refusal of a check, if it refuses
abbrev Tellable : Option Refusal → Type 0
Tellable None = Unit {0}
Tellable (Some r) = IsTellable r

abbrev AllTellable : List (Option Refusal) → Type 0
AllTellable [] = Unit {0}
AllTellable (c ∷ cs) = Tellable c × AllTellable cs

told_if : (b : Bool) (r : Refusal) → IsTellable r → Tellable (cond b (Some r) None)
told_if true r h = h
told_if false r h = tt

told_where : (b : Bool) (c : Option Refusal) → Tellable c → Tellable (cond b None c)
told_where true c h = tt
told_where false c h = h

told_found : {A : Type 0} (o : Option A) (f : A → Option Refusal) (other : Option Refusal) → ((x : A) → Tellable (f x)) → Tellable other → Tellable (if_found o f other)
told_found None f other h k = k
told_found (Some x) f other h k = h x

told_misfit : (misfit : Option Misfit) → ((m : Misfit) → misfit ≡ Some m → m.at < 2 ^ 32) → Tellable (misfits misfit)
told_misfit None h = tt
told_misfit (Some m) h = h m refl

told_quota : (d : Durable ℕ) (k asked : ℕ) → Tellable (over_quota d k asked)
told_quota d k asked =
    told_found (container_of d k) (λ c. refuse_if (nat_lt c.quota (charge d k + asked)) (OverQuota (charge d k) asked c.quota)) None
    (λ c. told_if (nat_lt c.quota (charge d k + asked)) (OverQuota (charge d k) asked c.quota) tt) tt

told_many : (count limit : ℕ) (name : Field) → Tellable (too_many count limit name)
told_many count limit name = told_if (nat_le limit count) (TooMany name limit) tt

told_bindings : (d : Durable ℕ) (host n : ℕ) → Tellable (too_many_bindings d host n)
told_bindings d host n =
    told_found (binding_of d.bindings host n) (λ (b : Binding). too_many b.count bind_count_limit in_count) (too_many (length d.bindings) binding_limit in_binding)
    (λ b. told_many b.count bind_count_limit in_count) (told_many (length d.bindings) binding_limit in_binding)

told_missing : (d : Durable ℕ) (n : ℕ) (name : Field) → Tellable (missing_volume d n name)
told_missing d n name = told_if (is_none (volume_of d n)) (NotFound name) tt

told_busy : (d : Durable ℕ) (n : ℕ) → Tellable (busy d n)
told_busy d n = told_if (is_busy d n) (ResourceInUse in_vvol) tt

told_bound : (d : Durable ℕ) (n : ℕ) (name : Field) → Tellable (bound_or_busy d n name)
told_bound d n name = told_if (is_bound d.bindings n || is_busy d n) (ResourceInUse name) tt

told_snapshot : (d : Durable ℕ) (n : ℕ) (r : Refusal) → IsTellable r → Tellable (refuse_if (is_snapshot d n) r)
told_snapshot d n r h = told_if (is_snapshot d n) r h

told_task : (d : Durable ℕ) (n : ℕ) → Tellable (missing_task d n)
told_task d n = told_if (is_none (task_of d n)) (NotFound in_task) tt

told_log : (d : Durable ℕ) → Tellable (exhausted d)
told_log d = told_if (nat_le last_lsn d.lsn) Exhausted tt

told_map : (d : Durable ℕ) (asked : ℕ) → Tellable (map_full d asked)
told_map d asked = told_if (nat_lt d.geometry.map_chunks (entries d + asked)) (MapFull (entries d) asked d.geometry.map_chunks) tt

told_pool : (d : Durable ℕ) (asked : ℕ) → Tellable (pool_full d asked)
told_pool d asked = told_if (nat_lt (free d) asked) (PoolFull (free d) asked) tt

told_pairs : (d : Durable ℕ) (added : ℕ) → Tellable (too_many_pairs d added)
told_pairs d added = told_if (nat_lt pairs_limit (pair_count d + added)) (TooMany Pairs pairs_limit) tt

told_volumes : (d : Durable ℕ) → Tellable (too_many_volumes d)
told_volumes d = told_many (volume_count d) volume_limit in_vvol

-- the checks of names and of state
state_told : (d : Durable ℕ) (c : Change) → AllTellable (state_checks d c)
unfolding state_checks
state_told d (MakeContainer quota offers) = tt
state_told d (MakeVolume k vtype chunks needs) =
    (told_if (is_none (container_of d k)) (NotFound in_container) tt, (told_if (not (is_volume_size d.geometry.chunk_blocks chunks)) (InvalidArgument in_size) tt, tt))
state_told d (DeleteVolume n) = (told_missing d n in_vvol, (told_bound d n in_vvol, tt))
state_told d (GrowVolume n chunks) =
    (told_missing d n in_vvol, (told_if (not (is_volume_size d.geometry.chunk_blocks chunks) || nat_lt chunks (size_of d n)) (InvalidArgument in_size) tt, (told_snapshot d n (IncompatibleVolume in_vvol) tt, (told_busy d n, tt))))
state_told d (SetMetadata n key text) = (told_missing d n in_vvol, tt)
state_told d (Snapshot n) = (told_missing d n in_vvol, (told_snapshot d n (IncompatibleVolume in_vvol) tt, tt))
state_told d (FastClone n) = (told_missing d n in_vvol, tt)
state_told d (Revert n snapshot) =
    (told_missing d n in_vvol, (told_missing d snapshot in_snapshot, (told_if (not (is_snapshot_of d snapshot n)) (IncompatibleVolume in_snapshot) tt, (told_bound d n in_vvol, tt))))
state_told d (Write n first blocks) =
    (told_missing d n in_vvol, (told_if (nat_le (volume_blocks d.geometry.chunk_blocks (stamps_of d n)) first || nat_lt (volume_blocks d.geometry.chunk_blocks (stamps_of d n)) (first + blocks)) OutOfRange tt, (told_snapshot d n WriteProtected tt, (told_busy d n, tt))))
state_told d (Unmap n ranges) =
    (told_missing d n in_vvol, (told_if (list_any (λ (r : ℕ × ℕ). nat_lt (size_of d n) (r.0 + r.1)) ranges) OutOfRange tt, (told_snapshot d n WriteProtected tt, (told_busy d n, tt))))
state_told d (SetEndpoints host endpoints) = (told_if (not (keeps_bindings d.bindings host endpoints)) (ResourceInUse in_endpoints) tt, tt)
state_told d (Bind host n) =
    (told_missing d n in_vvol, (told_if (length (endpoints_of d.contexts host) == 0) (NoEndpoint in_host) tt, (told_busy d n, tt)))
state_told d (Unbind host endpoint secondary) =
    (told_if (is_none (binding_at d.bindings (record { host = host; endpoint = endpoint; secondary = secondary }))) (NotFound in_secondary) tt, tt)
state_told d (UnbindAll host) = tt
state_told d (StartClone n) = (told_missing d n in_vvol, tt)
state_told d (StartCopy source base target) =
    (told_missing d source in_source, (told_missing d base in_base, (told_missing d target in_target, (told_if ((target == source) || nat_lt (size_of d target) (size_of d source)) (InvalidArgument in_target) tt, (told_snapshot d target (IncompatibleVolume in_target) tt, (told_bound d target in_target, tt))))))
state_told d (Turn n) = (told_task d n, tt)
state_told d (Cancel n) = (told_task d n, (told_if (not (is_task_running d n)) (NotCancellable in_task) tt, tt))

-- those of limits
room_told : (misfit : Option Misfit) (d : Durable ℕ) (c : Change) → Tellable (misfits misfit) → AllTellable (room_checks misfit d c)
unfolding room_checks
room_told misfit d (MakeContainer quota offers) h = (told_log d, (told_many (length d.containers) container_limit in_container, tt))
room_told misfit d (MakeVolume k vtype chunks needs) h = (told_log d, (told_volumes d, (h, (told_map d chunks, tt))))
room_told misfit d (DeleteVolume n) h = (told_log d, tt)
room_told misfit d (GrowVolume n chunks) h = (told_log d, (told_map d (chunks - size_of d n), tt))
room_told misfit d (SetMetadata n key text) h =
    let added : ℕ = added_pairs (metadata_of d n) key text in
    (told_log d, (told_where (added == 0) (too_many (length (metadata_of d n)) key_limit in_key) (told_many (length (metadata_of d n)) key_limit in_key), (told_where (added == 0) (too_many_pairs d added) (told_pairs d added), tt)))
room_told misfit d (Snapshot n) h =
    (told_log d, (told_volumes d, (told_pairs d (length (metadata_of d n)), (told_quota d (home_of d n) (allocated_of d n), (told_map d (size_of d n), tt)))))
room_told misfit d (FastClone n) h =
    (told_log d, (told_volumes d, (told_pairs d (length (metadata_of d n)), (told_quota d (home_of d n) (allocated_of d n), (told_map d (size_of d n), tt)))))
room_told misfit d (Revert n snapshot) h =
    let allocated : ℕ = allocated_of d snapshot - allocated_of d n in
    let chunks : ℕ = size_of d snapshot - size_of d n in
    (told_log d, (told_where (allocated == 0) (over_quota d (home_of d n) allocated) (told_quota d (home_of d n) allocated), (told_where (chunks == 0) (map_full d chunks) (told_map d chunks), tt)))
room_told misfit d (Write n first blocks) h =
    let indexes : List ℕ = touched_indexes d.geometry.chunk_blocks first blocks in
    (told_log d, (told_quota d (home_of d n) (unmapped_count (stamps_of d n) indexes), (told_pool d (length indexes), tt)))
room_told misfit d (Unmap n ranges) h = (told_log d, tt)
room_told misfit d (SetEndpoints host endpoints) h = (told_log d, tt)
room_told misfit d (Bind host n) h = (told_log d, (told_bindings d host n, tt))
room_told misfit d (Unbind host endpoint secondary) h = (told_log d, tt)
room_told misfit d (UnbindAll host) h = (told_log d, tt)
room_told misfit d (StartClone n) h =
    (told_log d, (told_volumes d, (told_pairs d (length (metadata_of d n)), (told_many (running_count d) running_limit in_task, (told_quota d (home_of d n) (allocated_of d n), (told_pool d (allocated_of d n), (told_map d (2 * size_of d n), tt)))))))
room_told misfit d (StartCopy source base target) h =
    let differing : List (Piece ℕ) = difference (λ s. s) (stamps_of d source) (stamps_of d base) in
    (told_log d, (told_many (running_count d) running_limit in_task, (told_quota d (home_of d target) (allocating_pieces (stamps_of d target) differing), (told_map d (length differing), tt))))
room_told misfit d (Turn n) h = (told_log d, tt)
room_told misfit d (Cancel n) h = (told_log d, tt)

first_told : (cs : List (Option Refusal)) → AllTellable cs → Tellable (first_refusal cs)
first_told [] h = tt
first_told (None ∷ cs) h = first_told cs (h.1)
first_told (Some r ∷ cs) h = h.0

verdict_told : (state : Option Refusal) (n : Bool) (room : Option Refusal) (r : Refusal) → Tellable state → Tellable room
    → Refuse r ≡ if_found state Refuse (cond n Nothing (if_found room Refuse Accept)) → IsTellable r
verdict_told (Some s) n room r h k e = let same : s ≡ r = cc in subst IsTellable same h
verdict_told None true room r h k e = absurd (cc)
verdict_told None false (Some s) r h k e = let same : s ≡ r = cc in subst IsTellable same k
verdict_told None false None r h k e = absurd (cc)

-- What a profile lacks is one of its needs.
misfit_early : (capabilities : List Capability) (offers : List Offer) (at : ℕ) (needs : List Need) (m : Misfit) → first_misfit_from at capabilities offers needs ≡ Some m
    → m.at < at + length needs
misfit_early capabilities offers at [] m e = absurd (cc)
misfit_early capabilities offers at (need ∷ needs) m e =
    go (unmet capabilities offers need) (λ f. misfit_early capabilities offers (at + 1) needs m f) e
  where
    go : (o : Option Why) → (first_misfit_from (at + 1) capabilities offers needs ≡ Some m → m.at < at + 1 + length needs)
        → if_found o (λ why. Some (record { at = at; why = why })) (first_misfit_from (at + 1) capabilities offers needs) ≡ Some m → m.at < at + suc (length needs)
    go (Some why) rest e = let same : at ≡ m.at = cc in omega (arith, same)
    go None rest e = let h : m.at < at + 1 + length needs = rest e in omega (arith, h)

misfit_few : (capabilities : List Capability) (d : Durable ℕ) (c : Change) → has_few_needs c ≡ true → (m : Misfit) → misfit_in capabilities d c ≡ Some m → m.at < 2 ^ 32
unfolding misfit_in first_misfit
misfit_few capabilities d (MakeVolume k vtype chunks needs) few m e = go (container_of d k) e
  where
    go : (o : Option Container) → if_found o (λ (x : Container). first_misfit_from 0 capabilities x.offers needs) None ≡ Some m → m.at < 2 ^ 32
    go None e = absurd (cc)
    go (Some x) e =
        let early : m.at < 0 + length needs = misfit_early capabilities x.offers 0 needs m e in
        let short : length needs ≤ 8 = leb-true (length needs) 8 few in
        omega (arith, early, short)
misfit_few capabilities d _ few m e = absurd (cc)

-- So each refusal can be told.
refusal_told : (capabilities : List Capability) (d : Durable ℕ) (c : Change) (r : Refusal) → has_few_needs c ≡ true → Refuse r ≡ verdict_on capabilities d c → IsTellable r
unfolding verdict_on judge
refusal_told capabilities d c r few e =
    verdict_told (first_refusal (state_checks d c)) (changes_nothing d c) (first_refusal (room_checks (misfit_in capabilities d c) d c)) r
    (first_told (state_checks d c) (state_told d c))
    (first_told (room_checks (misfit_in capabilities d c) d c)
    (room_told (misfit_in capabilities d c) d c (told_misfit (misfit_in capabilities d c) (misfit_few capabilities d c few)))) e

-- .. as the judge answers
pub verdict_tellable : (capabilities : List Capability) (d : Durable ℕ) (c : Change) (v : Answered) → has_few_needs c ≡ true
    → seen_verdict v ≡ judge (misfit_in capabilities d c) d c → IsTellableVerdict v
unfolding verdict_on
verdict_tellable capabilities d c (answered.Refuse r) few e = refusal_told capabilities d c (seen_refusal r) few e
verdict_tellable capabilities d c answered.Nothing few e = tt
verdict_tellable capabilities d c answered.Accept few e = tt
