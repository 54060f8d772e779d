-- The two laws of spellings.
use Rattle.std.proofs.Common.{◌≡◌, ℕ, zero, suc, ◌≤◌, Bool, true, false, cond, eqb, List, [], ◌++◌, length, drop, Ok, Err, refl, sym, ap, subst, ◌∙◌, arith}
use Rattle.std.proofs.lemmas.Bool.{and_parts, and_from, eqb-true, eq-eqb}
use Rattle.std.proofs.lemmas.List.{append-nil, drop_all}
use Rattle.vv_fields.specs.Fields.{ReaderState, AreBytes, be_bytes}
use Rattle.vv_record.specs.declared.record.Event.{Event}
use Rattle.vv_record.specs.declared.record.Event.TheVariants.{MakeContainer, MakeVolume, DeleteVolume, GrowVolume, SetMetadata, Snapshot, FastClone, Revert, Write, Unmap, SetEndpoints, Bind, Unbind, UnbindAll, StartClone, StartCopy, Turn, Cancel}
use Rattle.vv_record.specs.declared.record.Record.{Record}
use Rattle.vv_record.specs.Reading.{Reading, Read, Fault, ◌>>=◌, done, is_within, number_within}
use Rattle.vv_record.specs.Records.{make_container, make_volume, delete_volume, grow_volume, set_metadata, snapshot, fast_clone, revert, write, unmap, set_endpoints, bind, unbind, unbind_all, start_clone, start_copy, turn, cancel, fields_of, record_form, ended, record_in}
use Rattle.vv_record.specs.Spelling.{kind_of, fields_spelling, mark_of, spelling, is_spellable_event, is_spellable}
use Rattle.vv_record.proofs.Passing.{between}
use Rattle.vv_record.proofs.Stands.{Stands, Stands-then, Stands-front, IsReader, moved, then_read_is}
use Rattle.vv_record.proofs.Spells.{number_spells, number_within_spells, took, done_is, takes_1, takes_2, takes_3, takes_4, again_1, again_2, again_3, again_4}
use Rattle.vv_record.proofs.FormLaws.{container_spells, copies_spells, endpoint_spells, endpoints_spells, host_spells, key_spells, needs_spells, offers_spells, optional_note_spells, places_spells, quota_spells, ranges_spells, secondary_spells, size_spells, task_spells, volume_spells, vvol_type_spells}

-- ---- the fields of each kind

-- an event of a kind was read
pub record IsRead (kind : ℕ) (reader : ReaderState) (e : Event) (behind : ReaderState) : Type 0 where
  pub stands : Stands reader (fields_spelling e) behind
  pub spellable : is_spellable_event e ≡ true
  pub kind_is : kind_of e ≡ kind

make_container_takes : (e : Event) (reader behind : ReaderState) → IsReader reader → make_container reader ≡ Read e behind → IsRead 1 reader e behind
unfolding make_container
make_container_takes e reader behind h read =
    let t = takes_2 quota_spells offers_spells MakeContainer e reader behind h read in
    subst (λ x. IsRead 1 reader x behind) t.2 (record { stands = t.3; spellable = and_from _ _ t.4 t.5; kind_is = refl })

make_volume_takes : (e : Event) (reader behind : ReaderState) → IsReader reader → make_volume reader ≡ Read e behind → IsRead 2 reader e behind
unfolding make_volume
make_volume_takes e reader behind h read =
    let t = takes_4 container_spells vvol_type_spells size_spells needs_spells MakeVolume e reader behind h read in
    subst (λ x. IsRead 2 reader x behind) t.4 (record { stands = t.5; spellable = and_from _ _ (and_from _ _ t.6 t.8) t.9; kind_is = refl })

delete_volume_takes : (e : Event) (reader behind : ReaderState) → IsReader reader → delete_volume reader ≡ Read e behind → IsRead 3 reader e behind
unfolding delete_volume
delete_volume_takes e reader behind h read =
    let t = takes_1 volume_spells DeleteVolume e reader behind h read in
    subst (λ x. IsRead 3 reader x behind) t.1 (record { stands = t.2; spellable = t.3; kind_is = refl })

grow_volume_takes : (e : Event) (reader behind : ReaderState) → IsReader reader → grow_volume reader ≡ Read e behind → IsRead 4 reader e behind
unfolding grow_volume
grow_volume_takes e reader behind h read =
    let t = takes_2 volume_spells size_spells GrowVolume e reader behind h read in
    subst (λ x. IsRead 4 reader x behind) t.2 (record { stands = t.3; spellable = and_from _ _ t.4 t.5; kind_is = refl })

set_metadata_takes : (e : Event) (reader behind : ReaderState) → IsReader reader → set_metadata reader ≡ Read e behind → IsRead 5 reader e behind
unfolding set_metadata
set_metadata_takes e reader behind h read =
    let t = takes_3 volume_spells key_spells optional_note_spells SetMetadata e reader behind h read in
    subst (λ x. IsRead 5 reader x behind) t.3 (record { stands = t.4; spellable = and_from _ _ (and_from _ _ t.5 t.6) t.7; kind_is = refl })

snapshot_takes : (e : Event) (reader behind : ReaderState) → IsReader reader → snapshot reader ≡ Read e behind → IsRead 6 reader e behind
unfolding snapshot
snapshot_takes e reader behind h read =
    let t = takes_1 volume_spells Snapshot e reader behind h read in
    subst (λ x. IsRead 6 reader x behind) t.1 (record { stands = t.2; spellable = t.3; kind_is = refl })

fast_clone_takes : (e : Event) (reader behind : ReaderState) → IsReader reader → fast_clone reader ≡ Read e behind → IsRead 7 reader e behind
unfolding fast_clone
fast_clone_takes e reader behind h read =
    let t = takes_1 volume_spells FastClone e reader behind h read in
    subst (λ x. IsRead 7 reader x behind) t.1 (record { stands = t.2; spellable = t.3; kind_is = refl })

revert_takes : (e : Event) (reader behind : ReaderState) → IsReader reader → revert reader ≡ Read e behind → IsRead 8 reader e behind
unfolding revert
revert_takes e reader behind h read =
    let t = takes_2 volume_spells volume_spells Revert e reader behind h read in
    subst (λ x. IsRead 8 reader x behind) t.2 (record { stands = t.3; spellable = and_from _ _ t.4 t.5; kind_is = refl })

write_takes : (e : Event) (reader behind : ReaderState) → IsReader reader → write reader ≡ Read e behind → IsRead 9 reader e behind
unfolding write
write_takes e reader behind h read =
    let t = takes_4 volume_spells (number_spells 8) (number_within_spells 4 1 2048 (omega arith)) places_spells Write e reader behind h read in
    subst (λ x. IsRead 9 reader x behind) t.4 (record { stands = t.5; spellable = and_from _ _ (and_from _ _ (and_from _ _ t.6 t.7) t.8) t.9; kind_is = refl })

unmap_takes : (e : Event) (reader behind : ReaderState) → IsReader reader → unmap reader ≡ Read e behind → IsRead 10 reader e behind
unfolding unmap
unmap_takes e reader behind h read =
    let t = takes_2 volume_spells ranges_spells Unmap e reader behind h read in
    subst (λ x. IsRead 10 reader x behind) t.2 (record { stands = t.3; spellable = and_from _ _ t.4 t.5; kind_is = refl })

set_endpoints_takes : (e : Event) (reader behind : ReaderState) → IsReader reader → set_endpoints reader ≡ Read e behind → IsRead 11 reader e behind
unfolding set_endpoints
set_endpoints_takes e reader behind h read =
    let t = takes_2 host_spells endpoints_spells SetEndpoints e reader behind h read in
    subst (λ x. IsRead 11 reader x behind) t.2 (record { stands = t.3; spellable = and_from _ _ t.4 t.5; kind_is = refl })

bind_takes : (e : Event) (reader behind : ReaderState) → IsReader reader → bind reader ≡ Read e behind → IsRead 12 reader e behind
unfolding bind
bind_takes e reader behind h read =
    let t = takes_2 host_spells volume_spells Bind e reader behind h read in
    subst (λ x. IsRead 12 reader x behind) t.2 (record { stands = t.3; spellable = and_from _ _ t.4 t.5; kind_is = refl })

unbind_takes : (e : Event) (reader behind : ReaderState) → IsReader reader → unbind reader ≡ Read e behind → IsRead 13 reader e behind
unfolding unbind
unbind_takes e reader behind h read =
    let t = takes_3 host_spells endpoint_spells secondary_spells Unbind e reader behind h read in
    subst (λ x. IsRead 13 reader x behind) t.3 (record { stands = t.4; spellable = and_from _ _ (and_from _ _ t.5 t.6) t.7; kind_is = refl })

unbind_all_takes : (e : Event) (reader behind : ReaderState) → IsReader reader → unbind_all reader ≡ Read e behind → IsRead 14 reader e behind
unfolding unbind_all
unbind_all_takes e reader behind h read =
    let t = takes_1 host_spells UnbindAll e reader behind h read in
    subst (λ x. IsRead 14 reader x behind) t.1 (record { stands = t.2; spellable = t.3; kind_is = refl })

start_clone_takes : (e : Event) (reader behind : ReaderState) → IsReader reader → start_clone reader ≡ Read e behind → IsRead 15 reader e behind
unfolding start_clone
start_clone_takes e reader behind h read =
    let t = takes_1 volume_spells StartClone e reader behind h read in
    subst (λ x. IsRead 15 reader x behind) t.1 (record { stands = t.2; spellable = t.3; kind_is = refl })

start_copy_takes : (e : Event) (reader behind : ReaderState) → IsReader reader → start_copy reader ≡ Read e behind → IsRead 16 reader e behind
unfolding start_copy
start_copy_takes e reader behind h read =
    let t = takes_3 volume_spells volume_spells volume_spells StartCopy e reader behind h read in
    subst (λ x. IsRead 16 reader x behind) t.3 (record { stands = t.4; spellable = and_from _ _ (and_from _ _ t.5 t.6) t.7; kind_is = refl })

turn_takes : (e : Event) (reader behind : ReaderState) → IsReader reader → turn reader ≡ Read e behind → IsRead 17 reader e behind
unfolding turn
turn_takes e reader behind h read =
    let t = takes_2 task_spells copies_spells Turn e reader behind h read in
    subst (λ x. IsRead 17 reader x behind) t.2 (record { stands = t.3; spellable = and_from _ _ t.4 t.5; kind_is = refl })

cancel_takes : (e : Event) (reader behind : ReaderState) → IsReader reader → cancel reader ≡ Read e behind → IsRead 18 reader e behind
unfolding cancel
cancel_takes e reader behind h read =
    let t = takes_1 task_spells Cancel e reader behind h read in
    subst (λ x. IsRead 18 reader x behind) t.1 (record { stands = t.2; spellable = t.3; kind_is = refl })

fields_take : (kind : ℕ) (e : Event) (reader behind : ReaderState) → is_within 1 18 kind ≡ true → IsReader reader → fields_of kind reader ≡ Read e behind → IsRead kind reader e behind
unfolding fields_of
fields_take zero e reader behind within h read = absurd (omega (arith, (between 1 18 0 within).from))
fields_take (suc zero) e reader behind within h read = make_container_takes e reader behind h read
fields_take (suc (suc zero)) e reader behind within h read = make_volume_takes e reader behind h read
fields_take (suc (suc (suc zero))) e reader behind within h read = delete_volume_takes e reader behind h read
fields_take (suc (suc (suc (suc zero)))) e reader behind within h read = grow_volume_takes e reader behind h read
fields_take (suc (suc (suc (suc (suc zero))))) e reader behind within h read = set_metadata_takes e reader behind h read
fields_take (suc (suc (suc (suc (suc (suc zero)))))) e reader behind within h read = snapshot_takes e reader behind h read
fields_take (suc (suc (suc (suc (suc (suc (suc zero))))))) e reader behind within h read = fast_clone_takes e reader behind h read
fields_take (suc (suc (suc (suc (suc (suc (suc (suc zero)))))))) e reader behind within h read = revert_takes e reader behind h read
fields_take (suc (suc (suc (suc (suc (suc (suc (suc (suc zero))))))))) e reader behind within h read = write_takes e reader behind h read
fields_take (suc (suc (suc (suc (suc (suc (suc (suc (suc (suc zero)))))))))) e reader behind within h read = unmap_takes e reader behind h read
fields_take (suc (suc (suc (suc (suc (suc (suc (suc (suc (suc (suc zero))))))))))) e reader behind within h read = set_endpoints_takes e reader behind h read
fields_take (suc (suc (suc (suc (suc (suc (suc (suc (suc (suc (suc (suc zero)))))))))))) e reader behind within h read = bind_takes e reader behind h read
fields_take (suc (suc (suc (suc (suc (suc (suc (suc (suc (suc (suc (suc (suc zero))))))))))))) e reader behind within h read = unbind_takes e reader behind h read
fields_take (suc (suc (suc (suc (suc (suc (suc (suc (suc (suc (suc (suc (suc (suc zero)))))))))))))) e reader behind within h read = unbind_all_takes e reader behind h read
fields_take (suc (suc (suc (suc (suc (suc (suc (suc (suc (suc (suc (suc (suc (suc (suc zero))))))))))))))) e reader behind within h read = start_clone_takes e reader behind h read
fields_take (suc (suc (suc (suc (suc (suc (suc (suc (suc (suc (suc (suc (suc (suc (suc (suc zero)))))))))))))))) e reader behind within h read = start_copy_takes e reader behind h read
fields_take (suc (suc (suc (suc (suc (suc (suc (suc (suc (suc (suc (suc (suc (suc (suc (suc (suc zero))))))))))))))))) e reader behind within h read = turn_takes e reader behind h read
fields_take (suc (suc (suc (suc (suc (suc (suc (suc (suc (suc (suc (suc (suc (suc (suc (suc (suc (suc zero)))))))))))))))))) e reader behind within h read = cancel_takes e reader behind h read
fields_take (suc (suc (suc (suc (suc (suc (suc (suc (suc (suc (suc (suc (suc (suc (suc (suc (suc (suc (suc n))))))))))))))))))) e reader behind within h read = let most : (suc (suc (suc (suc (suc (suc (suc (suc (suc (suc (suc (suc (suc (suc (suc (suc (suc (suc (suc n))))))))))))))))))) ≤ 18 = (between 1 18 (suc (suc (suc (suc (suc (suc (suc (suc (suc (suc (suc (suc (suc (suc (suc (suc (suc (suc (suc n))))))))))))))))))) within).to in absurd (omega arith)

fields_again : (e : Event) (reader behind : ReaderState) → is_spellable_event e ≡ true → Stands reader (fields_spelling e) behind → fields_of (kind_of e) reader ≡ Read e behind
unfolding fields_of make_container make_volume delete_volume grow_volume set_metadata snapshot fast_clone revert write unmap set_endpoints bind unbind unbind_all start_clone start_copy turn cancel
fields_again (MakeContainer quota offers) reader behind h p = again_2 quota_spells offers_spells MakeContainer quota offers reader behind (and_parts _ _ h).0 (and_parts _ _ h).1 p
fields_again (MakeVolume container vtype chunks needs) reader behind h p = again_4 container_spells vvol_type_spells size_spells needs_spells MakeVolume container vtype chunks needs reader behind (and_parts _ _ (and_parts _ _ h).0).0 refl (and_parts _ _ (and_parts _ _ h).0).1 (and_parts _ _ h).1 p
fields_again (DeleteVolume volume) reader behind h p = again_1 volume_spells DeleteVolume volume reader behind h p
fields_again (GrowVolume volume chunks) reader behind h p = again_2 volume_spells size_spells GrowVolume volume chunks reader behind (and_parts _ _ h).0 (and_parts _ _ h).1 p
fields_again (SetMetadata volume key optional) reader behind h p = again_3 volume_spells key_spells optional_note_spells SetMetadata volume key optional reader behind (and_parts _ _ (and_parts _ _ h).0).0 (and_parts _ _ (and_parts _ _ h).0).1 (and_parts _ _ h).1 p
fields_again (Snapshot volume) reader behind h p = again_1 volume_spells Snapshot volume reader behind h p
fields_again (FastClone volume) reader behind h p = again_1 volume_spells FastClone volume reader behind h p
fields_again (Revert volume older) reader behind h p = again_2 volume_spells volume_spells Revert volume older reader behind (and_parts _ _ h).0 (and_parts _ _ h).1 p
fields_again (Write volume first_block blocks places) reader behind h p = again_4 volume_spells (number_spells 8) (number_within_spells 4 1 2048 (omega arith)) places_spells Write volume first_block blocks places reader behind (and_parts _ _ (and_parts _ _ (and_parts _ _ h).0).0).0 (and_parts _ _ (and_parts _ _ (and_parts _ _ h).0).0).1 (and_parts _ _ (and_parts _ _ h).0).1 (and_parts _ _ h).1 p
fields_again (Unmap volume ranges) reader behind h p = again_2 volume_spells ranges_spells Unmap volume ranges reader behind (and_parts _ _ h).0 (and_parts _ _ h).1 p
fields_again (SetEndpoints host endpoints) reader behind h p = again_2 host_spells endpoints_spells SetEndpoints host endpoints reader behind (and_parts _ _ h).0 (and_parts _ _ h).1 p
fields_again (Bind host volume) reader behind h p = again_2 host_spells volume_spells Bind host volume reader behind (and_parts _ _ h).0 (and_parts _ _ h).1 p
fields_again (Unbind host endpoint secondary) reader behind h p = again_3 host_spells endpoint_spells secondary_spells Unbind host endpoint secondary reader behind (and_parts _ _ (and_parts _ _ h).0).0 (and_parts _ _ (and_parts _ _ h).0).1 (and_parts _ _ h).1 p
fields_again (UnbindAll host) reader behind h p = again_1 host_spells UnbindAll host reader behind h p
fields_again (StartClone volume) reader behind h p = again_1 volume_spells StartClone volume reader behind h p
fields_again (StartCopy source base target) reader behind h p = again_3 volume_spells volume_spells volume_spells StartCopy source base target reader behind (and_parts _ _ (and_parts _ _ h).0).0 (and_parts _ _ (and_parts _ _ h).0).1 (and_parts _ _ h).1 p
fields_again (Turn task copies) reader behind h p = again_2 task_spells copies_spells Turn task copies reader behind (and_parts _ _ h).0 (and_parts _ _ h).1 p
fields_again (Cancel task) reader behind h p = again_1 task_spells Cancel task reader behind h p

kind-within : (e : Event) → is_within 1 18 (kind_of e) ≡ true
kind-within (MakeContainer quota offers) = refl
kind-within (MakeVolume container vtype chunks needs) = refl
kind-within (DeleteVolume volume) = refl
kind-within (GrowVolume volume chunks) = refl
kind-within (SetMetadata volume key optional) = refl
kind-within (Snapshot volume) = refl
kind-within (FastClone volume) = refl
kind-within (Revert volume older) = refl
kind-within (Write volume first_block blocks places) = refl
kind-within (Unmap volume ranges) = refl
kind-within (SetEndpoints host endpoints) = refl
kind-within (Bind host volume) = refl
kind-within (Unbind host endpoint secondary) = refl
kind-within (UnbindAll host) = refl
kind-within (StartClone volume) = refl
kind-within (StartCopy source base target) = refl
kind-within (Turn task copies) = refl
kind-within (Cancel task) = refl

-- ---- records

mark_again : (n : ℕ) → n ≤ 1 → mark_of (eqb n 1) ≡ n
mark_again zero h = refl
mark_again (suc zero) h = refl
mark_again (suc (suc n)) h = absurd (omega arith)

again_mark : (mark : Bool) → eqb (mark_of mark) 1 ≡ mark
again_mark true = refl
again_mark false = refl

mark-within : (mark : Bool) → is_within 0 1 (mark_of mark) ≡ true
mark-within true = refl
mark-within false = refl

abbrev record_of : ℕ → Event → Record
record_of mark event = record { first_after_open = eqb mark 1; event = event }

record_there : (mark kind : ℕ) (event : Event) (reader first second behind : ReaderState) → is_within 0 1 mark ≡ true → Stands reader (be_bytes 1 mark) first → Stands first (be_bytes 1 kind) second → IsRead kind second event behind
    → Stands reader (spelling (record_of mark event)) behind
record_there mark kind event reader first second behind within p q fields =
    let front : Stands reader (be_bytes 1 (mark_of (eqb mark 1))) first = subst (λ n. Stands reader (be_bytes 1 n) first) (sym (mark_again mark (between 0 1 mark within).to)) p in
    let middle : Stands first (be_bytes 1 (kind_of event)) second = subst (λ n. Stands first (be_bytes 1 n) second) (sym fields.kind_is) q in
    Stands-then (Stands-then front middle) fields.stands

-- a record and a reader, given by others
same_record : (a b : Record) (reader behind_a behind_b : ReaderState) → a ≡ b → behind_a ≡ behind_b → Stands reader (spelling a) behind_a → is_spellable a ≡ true → Stands reader (spelling b) behind_b × (is_spellable b ≡ true)
same_record a b reader behind_a behind_b e f p h =
    (subst (λ r. Stands reader (spelling b) r) f (subst (λ x. Stands reader (spelling x) behind_a) e p), subst (λ x. is_spellable x ≡ true) e h)

record_takes : (r : Record) (reader behind : ReaderState) → IsReader reader → record_form reader ≡ Read r behind → Stands reader (spelling r) behind × (is_spellable r ≡ true)
unfolding record_form
record_takes r reader behind h read =
    let last = λ (mark : ℕ) (event : Event). done (record_of mark event) in
    let t = took (number_within_spells 1 0 1 (omega arith)) (λ mark. number_within 1 1 18 >>= λ kind. fields_of kind >>= last mark) r reader behind h read in
    let u = took (number_within_spells 1 1 18 (omega arith)) (λ kind. fields_of kind >>= last t.first) r t.middle behind t.is_reader t.rest in
    let v = then_read_is (fields_of u.first u.middle) (last t.first) r behind u.rest in
    let fields = fields_take u.first v.0 u.middle v.1 u.passes u.is_reader v.2 in
    let d = done_is (record_of t.first v.0) r v.1 behind v.3 in
    let whole = record_there t.first u.first v.0 reader t.middle u.middle v.1 t.passes t.stands u.stands fields in
    same_record (record_of t.first v.0) r reader v.1 behind d.0 d.1 whole fields.spellable

record_again : (r : Record) (reader behind : ReaderState) → is_spellable r ≡ true → Stands reader (spelling r) behind → record_form reader ≡ Read r behind
unfolding record_form
record_again r reader behind h p =
    let mark = be_bytes 1 (mark_of r.first_after_open) in
    let kind = be_bytes 1 (kind_of r.event) in
    let q = Stands-front reader (mark ++ kind) (fields_spelling r.event) behind p in
    let second = moved (length (mark ++ kind)) reader in
    let o = Stands-front reader mark kind second q.0 in
    let first = moved (length mark) reader in
    rw (
      (number_within_spells 1 0 1 (omega arith)).again (mark_of r.first_after_open) reader first (mark-within r.first_after_open) o.0,
      (number_within_spells 1 1 18 (omega arith)).again (kind_of r.event) first second (kind-within r.event) o.1,
      fields_again r.event second behind h q.1,
      again_mark r.first_after_open,
    ) refl

-- ---- all of the bytes

abbrev start : List ℕ → ReaderState
start bytes = record { bytes = bytes; at = 0 }

cond_ok : {A : Type 0} (b : Bool) (x y : A) (at : ℕ) → cond b (Ok x) (Err at) ≡ Ok y → (b ≡ true) × (x ≡ y)
cond_ok true x y at e = (refl, cc)
cond_ok false x y at e = absurd cc

ended_is : {A : Type 0} (reading : Reading A) (value : A) → ended reading ≡ Ok value → (behind : ReaderState) × (reading ≡ Read value behind) × (behind.at ≡ length behind.bytes)
ended_is (Read x behind) value e =
    let c = cond_ok (eqb behind.at (length behind.bytes)) x value behind.at e in
    (behind, ap (λ v. Read v behind) c.1, eqb-true _ _ c.0)
ended_is (Fault at) value e = absurd cc

pub read_is_spelled : (bytes : List ℕ) (r : Record) → AreBytes bytes → record_in bytes ≡ Ok r → (bytes ≡ spelling r) × (is_spellable r ≡ true)
unfolding record_in
read_is_spelled bytes r h e =
    let t = ended_is (record_form (start bytes)) r e in
    let behind = t.0 in
    let k = record_takes r (start bytes) behind (record { are_bytes = h; within = omega arith }) t.1 in
    let nothing : drop behind.at behind.bytes ≡ [] = drop_all behind.at behind.bytes (omega (arith, t.2)) in
    (k.0.rest ∙ ap (λ (x : List ℕ). spelling r ++ x) nothing ∙ append-nil (spelling r), k.1)

pub spelled_is_read : (r : Record) → is_spellable r ≡ true → record_in (spelling r) ≡ Ok r
unfolding record_in
spelled_is_read r h =
    let text = spelling r in
    let behind : ReaderState = record { bytes = text; at = length text } in
    let nothing : drop (length text) text ≡ [] = drop_all (length text) text (omega arith) in
    let p : Stands (start text) text behind = record { same = refl; place = omega arith; within = omega arith; rest = sym (ap (λ (x : List ℕ). text ++ x) nothing ∙ append-nil text) } in
    rw (record_again r (start text) behind h p, eq-eqb (length text) (length text) refl) refl
