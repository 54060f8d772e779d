-- What a unit does with a command fits: blocks that are read lie inside the volume, and no command moves too many blocks or
-- unmaps too many ranges.
use Rattle.std.proofs.Common.{ℕ, zero, suc, ◌≡◌, ◌+◌, ◌≤◌, ◌==◌, ◌&&◌, Bool, true, false, not, cond, List, [], ◌∷◌, length, drop, map, Option, None, Some, Result, Ok, Err, refl, sym, ap, subst, ◌∙◌, arith}
use Rattle.std.specs.Prelude.{nat_le, nat_lt, IfOk}
use Rattle.std.specs.List.{list_all, list_any, filter}
use Rattle.std.proofs.lemmas.List.{length-map}
use Rattle.std.proofs.lemmas.Bool.{or_parts, and_parts, and_from, le-leb, leb-true, ltb-true, lt-ltb, ltb-false, leb-false}
use Rattle.vv_flat.specs.Lists.{if_found}
use Rattle.vv_flat.specs.State.{Address, Binding, Durable, Array}
use Rattle.vv_flat.specs.Chunks.{volume_blocks, whole_chunks, unmap_ranges}
use Rattle.vv_flat.specs.Bindings.{binding_at}
use Rattle.vv_flat.specs.Changes.{stamps_of}
use Rattle.vv_flat.proofs.KeepLists.{length-filter_le}
use Rattle.vv_cdb.specs.declared.sense.Sense.{Sense}
use Rattle.vv_cdb.specs.declared.command.Command.{Command}
use Rattle.vv_cdb.specs.declared.command.Command.TheVariants as command
use Rattle.vv_cdb.specs.Senses.{parameter_list_length_error, invalid_field_in_parameter_list}
use Rattle.vv_cdb.specs.Cdbs.{IsLetThrough}
use Rattle.vv_cdb.specs.UnmapLists.{ranges_in, descriptors, descriptor_count, descriptor_limit}
use Rattle.vv_lun.specs.declared.unit.Action.{Action}
use Rattle.vv_lun.specs.declared.unit.Action.TheVariants as action
use Rattle.vv_lun.specs.Senses.{lba_out_of_range, write_protected}
use Rattle.vv_lun.specs.Actions.{done, refused, to_read, to_write, to_write_same, to_compare, to_unmap, attention_told}
use Rattle.vv_lun.specs.Commands.{is_outside, if_writable, unless_none, block_command, unmap_read}
use Rattle.vv_lun.specs.Units.{UnitState, Unbound, Endpoint, Bound}
use Rattle.vv_lun.specs.Decided.{decided, unbound_command, endpoint_command, volume_command}
use Rattle.vv_meaning.specs.Asks.{Deed}
use Rattle.vv_meaning.specs.Commands.{unit_at, is_endpoint_of_host, bound_unit, volume_in, deed_of}
use Rattle.vv_plan.specs.declared.asks.CommandAsk.{CommandAsk}
use Rattle.vv_plan.specs.CommandAsks.{deed_asked}
use Rattle.vv_plan.specs.FitDeeds.{is_readable, is_fit, block_limit, range_limit}

-- an action of a unit of so many blocks
abbrev pub fits_unit : ℕ → Action → Bool
fits_unit size (action.Reply bytes sense clears) = true
fits_unit size (action.Read first blocks) = is_readable size first blocks
fits_unit size (action.Write first blocks) = nat_le blocks block_limit
fits_unit size (action.Same first blocks) = nat_le blocks block_limit
fits_unit size (action.Compare first blocks) = nat_le blocks block_limit
fits_unit size (action.Unmap ranges) = nat_le (length ranges) range_limit

fit_either : (size : ℕ) (b : Bool) (x y : Action) → fits_unit size x ≡ true → fits_unit size y ≡ true → fits_unit size (cond b x y) ≡ true
fit_either size true x y e f = e
fit_either size false x y e f = f

fit_unbound : (size : ℕ) (c : Command) → fits_unit size (unbound_command c) ≡ true
fit_unbound size (command.Inquiry true page room) = refl
fit_unbound size (command.Inquiry false page room) = refl
fit_unbound size _ = refl

fit_endpoint : (size number : ℕ) (c : Command) → fits_unit size (endpoint_command number c) ≡ true
fit_endpoint size number command.TestReady = refl
fit_endpoint size number _ = refl

readable : (size lba n : ℕ) → is_outside size (lba, n) ≡ false → n ≤ 2048 → is_readable size lba n ≡ true
readable size lba n inside few =
    let parts = or_parts (nat_le size lba) (nat_lt size (lba + n)) inside in
    let begins = leb-false size lba parts.0 in
    let ends : lba + n ≤ size = ltb-false size (lba + n) parts.1 in
    and_from _ _ (and_from _ _ (lt-ltb lba size (omega (arith, begins))) (le-leb (lba + n) size ends)) (le-leb n 2048 few)

fit_reading : (size lba n : ℕ) → n ≤ 2048 → fits_unit size (cond (is_outside size (lba, n)) (refused lba_out_of_range) (unless_none n (to_read (lba, n)))) ≡ true
fit_reading size lba n few = go (is_outside size (lba, n)) refl
  where
    go : (b : Bool) → is_outside size (lba, n) ≡ b → fits_unit size (cond b (refused lba_out_of_range) (unless_none n (to_read (lba, n)))) ≡ true
    go true is = refl
    go false is = fit_either size (n == 0) done (to_read (lba, n)) refl (readable size lba n is few)

fit_writing : (size : ℕ) (snapshot : Bool) (range : ℕ × ℕ) (act : Action) → fits_unit size act ≡ true
    → fits_unit size (cond (is_outside size range) (refused lba_out_of_range) (if_writable snapshot act)) ≡ true
fit_writing size snapshot range act e =
    fit_either size (is_outside size range) (refused lba_out_of_range) (if_writable snapshot act) refl
    (fit_either size snapshot (refused write_protected) act refl e)

-- the ranges of a parameter list
few_read : Result (List (ℕ × ℕ)) Sense → Bool
few_read (Ok ranges) = nat_le (length ranges) 64
few_read (Err sense) = true

length-descriptors : (n : ℕ) (bytes : List ℕ) → length (descriptors n bytes) ≡ n
length-descriptors zero bytes = refl
length-descriptors (suc n) bytes = ap (λ k. suc k) (length-descriptors n (drop 16 bytes))

few_ranges : (list : List ℕ) → few_read (ranges_in list) ≡ true
unfolding ranges_in few_read
few_ranges list = go (length list == 0) (nat_lt (length list) 8) (nat_lt descriptor_limit (descriptor_count list)) refl
  where
    go : (a b c : Bool) → nat_lt descriptor_limit (descriptor_count list) ≡ c
        → few_read (cond a (Ok []) (cond b (Err parameter_list_length_error)
        (cond c (Err invalid_field_in_parameter_list) (Ok (descriptors (descriptor_count list) (drop 8 list)))))) ≡ true
    go true b c is = refl
    go false true c is = refl
    go false false true is = refl
    go false false false is =
        let few : descriptor_count list ≤ 64 = ltb-false 64 (descriptor_count list) is in
        let long : length (descriptors (descriptor_count list) (drop 8 list)) ≡ descriptor_count list = length-descriptors (descriptor_count list) (drop 8 list) in
        le-leb (length (descriptors (descriptor_count list) (drop 8 list))) 64 (omega (arith, few, long))

fit_unmap : (size : ℕ) (snapshot : Bool) (read : Result (List (ℕ × ℕ)) Sense) → few_read read ≡ true → fits_unit size (unmap_read size snapshot read) ≡ true
unfolding few_read
fit_unmap size snapshot (Err sense) few = refl
fit_unmap size snapshot (Ok ranges) few =
    let act : Action = unless_none (length ranges) (to_unmap ranges) in
    fit_either size (list_any (is_outside size) ranges) (refused lba_out_of_range) (if_writable snapshot act) refl
    (fit_either size snapshot (refused write_protected) act refl (fit_either size (length ranges == 0) done (to_unmap ranges) refl few))

fit_blocks : (payload : List ℕ) (size : ℕ) (snapshot : Bool) (c : Command) → IsLetThrough c → fits_unit size (block_command size snapshot c payload) ≡ true
fit_blocks payload size snapshot (command.Read lba n) h = fit_reading size lba n h
fit_blocks payload size snapshot (command.Write lba n) h =
    fit_writing size snapshot (lba, n) (unless_none n (to_write (lba, n))) (fit_either size (n == 0) done (to_write (lba, n)) refl (le-leb n 2048 h))
fit_blocks payload size snapshot (command.Compare lba n) h =
    fit_writing size snapshot (lba, n) (unless_none n (to_compare (lba, n)))
    (fit_either size (n == 0) done (to_compare (lba, n)) refl (le-leb n 2048 (omega (arith, h))))
fit_blocks payload size snapshot (command.Same lba n) h = fit_writing size snapshot (lba, n) (to_write_same (lba, n)) (le-leb n 2048 (h.1))
fit_blocks payload size snapshot (command.Sync lba n) h = fit_either size (is_outside size (lba, n)) (refused lba_out_of_range) done refl refl
fit_blocks payload size snapshot (command.Unmap n) h = fit_unmap size snapshot (ranges_in payload) (few_ranges payload)
fit_blocks payload size snapshot _ h = refl

fit_volume : (payload : List ℕ) (volume size : ℕ) (snapshot attention : Bool) (c : Command) → IsLetThrough c
    → fits_unit size (volume_command volume size snapshot attention c payload) ≡ true
fit_volume payload volume size snapshot attention (command.Inquiry evpd page room) h = refl
fit_volume payload volume size snapshot attention (command.RequestSense room) h = refl
fit_volume payload volume size snapshot attention c h =
    fit_either size attention attention_told (block_command size snapshot c payload) refl (fit_blocks payload size snapshot c h)

abbrev blocks_in : UnitState → ℕ
blocks_in (Bound volume blocks snapshot attention) = blocks
blocks_in _ = 0

decided_fits : (unit : UnitState) (read : Result Command Sense) (payload : List ℕ) → IfOk read IsLetThrough → fits_unit (blocks_in unit) (decided unit read payload) ≡ true
unfolding decided
decided_fits Unbound (Ok c) payload h = fit_unbound 0 c
decided_fits Unbound (Err sense) payload h = refl
decided_fits (Endpoint number) (Ok c) payload h = fit_endpoint 0 number c
decided_fits (Endpoint number) (Err sense) payload h = refl
decided_fits (Bound volume blocks snapshot attention) (Ok c) payload h = fit_volume payload volume blocks snapshot attention c h
decided_fits (Bound volume blocks snapshot attention) (Err sense) payload h = fit_either blocks attention attention_told (refused sense) refl refl

-- a unit has no more blocks than its volume
unit_within : (a : Array ℕ) (at : Address) → blocks_in (unit_at a at) ≤ volume_blocks a.durable.geometry.chunk_blocks (stamps_of a.durable (volume_in (unit_at a at)))
unfolding unit_at
unit_within a at = go (at.secondary == 0) (is_endpoint_of_host a.durable at) (binding_at a.durable.bindings at)
  where
    go : (s e : Bool) (o : Option Binding)
        → blocks_in (cond s (cond e (Endpoint at.endpoint) Unbound) (if_found o (bound_unit a at) Unbound))
        ≤ volume_blocks a.durable.geometry.chunk_blocks (stamps_of a.durable (volume_in (cond s (cond e (Endpoint at.endpoint) Unbound) (if_found o (bound_unit a at) Unbound))))
    go true true o = omega arith
    go true false o = omega arith
    go false e None = omega arith
    go false e (Some b) = omega arith

-- So does what is done with the data of a command.

all_pass : {A : Type 0} (p : A → Bool) (xs : List A) → list_all p (filter p xs) ≡ true
all_pass p [] = refl
all_pass p (x ∷ xs) = go (p x) refl (all_pass p xs)
  where
    go : (b : Bool) → p x ≡ b → list_all p (filter p xs) ≡ true → list_all p (cond b (x ∷ filter p xs) (filter p xs)) ≡ true
    go true is e = and_from (p x) _ is e
    go false is e = e

few_chunks : (B : ℕ) (ranges : List (ℕ × ℕ)) → length ranges ≤ 64 → length (unmap_ranges B ranges) ≤ 64
few_chunks B ranges few =
    let whole : List (ℕ × ℕ) = map (λ (r : ℕ × ℕ). whole_chunks B r.0 r.1) ranges in
    let less : length (unmap_ranges B ranges) ≤ length whole = length-filter_le (λ (r : ℕ × ℕ). not (r.1 == 0)) whole in
    let same : length whole ≡ length ranges = length-map ranges (λ (r : ℕ × ℕ). whole_chunks B r.0 r.1) in
    omega (arith, few, less, same)

inside_more : (size larger first blocks : ℕ) → size ≤ larger → is_readable size first blocks ≡ true → is_readable larger first blocks ≡ true
inside_more size larger first blocks le e =
    let both = and_parts (nat_lt first size && nat_le (first + blocks) size) (nat_le blocks 2048) e in
    let range = and_parts (nat_lt first size) (nat_le (first + blocks) size) both.0 in
    let begins = ltb-true first size range.0 in
    let ends : first + blocks ≤ size = leb-true (first + blocks) size range.1 in
    and_from _ _ (and_from _ _ (lt-ltb first larger (omega (arith, begins, le))) (le-leb (first + blocks) larger (omega (arith, ends, le)))) both.1

deed_fits : (d : Durable ℕ) (volume size : ℕ) (payload : List ℕ) (act : Action) → size ≤ volume_blocks d.geometry.chunk_blocks (stamps_of d volume)
    → fits_unit size act ≡ true → is_fit d (deed_of d.geometry.chunk_blocks volume payload act) ≡ true
deed_fits d volume size payload (action.Reply bytes sense clears) le e = refl
deed_fits d volume size payload (action.Read first blocks) le e =
    inside_more size (volume_blocks d.geometry.chunk_blocks (stamps_of d volume)) first blocks le e
deed_fits d volume size payload (action.Write first blocks) le e = e
deed_fits d volume size payload (action.Same first blocks) le e = e
deed_fits d volume size payload (action.Compare first blocks) le e = e
deed_fits d volume size payload (action.Unmap ranges) le e =
    let few : length ranges ≤ 64 = leb-true (length ranges) 64 e in
    and_from _ _ (le-leb (length (unmap_ranges d.geometry.chunk_blocks ranges)) 64 (few_chunks d.geometry.chunk_blocks ranges few))
    (all_pass (λ (r : ℕ × ℕ). not (r.1 == 0)) (map (λ (r : ℕ × ℕ). whole_chunks d.geometry.chunk_blocks r.0 r.1) ranges))

-- what a unit that is seen asks for
asked_fits : (a : Array ℕ) (at : Address) (unit : UnitState) (volume : ℕ) (read : Result Command Sense) (payload bytes : List ℕ) (act : Action) (deed : Deed)
    → unit ≡ unit_at a at → volume ≡ volume_in unit → IfOk read IsLetThrough → act ≡ decided unit read payload
    → deed ≡ deed_of a.durable.geometry.chunk_blocks volume bytes act → is_fit a.durable deed ≡ true
asked_fits a at unit volume read payload bytes act deed seen named through is asks =
    ap (is_fit a.durable) (asks ∙ ap (λ v. deed_of a.durable.geometry.chunk_blocks v bytes act) named)
    ∙ deed_fits a.durable (volume_in unit) (blocks_in unit) bytes act
    (subst (λ u. blocks_in u ≤ volume_blocks a.durable.geometry.chunk_blocks (stamps_of a.durable (volume_in u))) (sym seen) (unit_within a at))
    (ap (fits_unit (blocks_in unit)) is ∙ decided_fits unit read payload through)

-- .. where there is memory for it
pub result_fits : {E : Type 0} (a : Array ℕ) (at : Address) (unit : UnitState) (volume B : ℕ) (read : Result Command Sense) (payload : List ℕ) (act : Action)
    → unit ≡ unit_at a at → volume ≡ volume_in unit → B ≡ a.durable.geometry.chunk_blocks → IfOk read IsLetThrough → act ≡ decided unit read payload
    → (r : Result CommandAsk E) → IfOk r (λ ask. (bytes : List ℕ) → deed_asked bytes ask ≡ deed_of B volume bytes act)
    → IfOk r (λ ask. is_fit a.durable (deed_asked [] ask) ≡ true)
result_fits {E} a at unit volume B read payload act seen named size through is (Ok ask) h =
    asked_fits a at unit volume read payload [] act (deed_asked [] ask) seen named through is (h [] ∙ ap (λ b. deed_of b volume [] act) size)
result_fits {E} a at unit volume B read payload act seen named size through is (Err e) h = h
