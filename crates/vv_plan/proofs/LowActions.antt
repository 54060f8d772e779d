-- The ranges of blocks that a unit lets an UNMAP unmap lie inside its volume, and so end by 2^31.
use Rattle.std.proofs.Common.{ℕ, ◌≡◌, ◌+◌, ◌≤◌, ◌^◌, ◌==◌, ◌&&◌, Bool, true, false, cond, List, [], ◌∷◌, length, Result, Ok, Err, refl, ap, ◌∙◌, arith}
use Rattle.std.specs.Prelude.{nat_le, nat_lt}
use Rattle.std.specs.List.{list_any}
use Rattle.std.proofs.lemmas.Bool.{or_parts, ltb-false}
use Rattle.std.proofs.lemmas.Bool.Decides.{nat_tests}
use Rattle.vv_cdb.specs.declared.sense.Sense.{Sense}
use Rattle.vv_cdb.specs.declared.command.Command.{Command}
use Rattle.vv_cdb.specs.declared.command.Command.TheVariants as command
use Rattle.vv_cdb.specs.UnmapLists.{ranges_in}
use Rattle.vv_lun.specs.declared.unit.Action.{Action}
use Rattle.vv_lun.specs.Senses.{lba_out_of_range, write_protected}
use Rattle.vv_lun.specs.Actions.{done, refused, to_read, to_write, to_write_same, to_compare, to_unmap, attention_told}
use Rattle.vv_lun.specs.Commands.{is_outside, if_writable, unless_none, block_command, unmap_read}
use Rattle.vv_lun.specs.Units.{UnitState, Unbound, Endpoint, Bound, IsUnit}
use Rattle.vv_lun.specs.Decided.{decided, unbound_command, endpoint_command, volume_command}
use Rattle.vv_plan.specs.CommandAsks.{are_low, is_low}

low_either : (b : Bool) (x y : Action) → is_low x ≡ true → is_low y ≡ true → is_low (cond b x y) ≡ true
low_either true x y e f = e
low_either false x y e f = f

low_unbound : (c : Command) → is_low (unbound_command c) ≡ true
low_unbound (command.Inquiry true page room) = refl
low_unbound (command.Inquiry false page room) = refl
low_unbound _ = refl

low_endpoint : (number : ℕ) (c : Command) → is_low (endpoint_command number c) ≡ true
low_endpoint number command.TestReady = refl
low_endpoint number _ = refl

low_range : (blocks : ℕ) (r : ℕ × ℕ) → blocks ≤ 2 ^ 31 → is_outside blocks r ≡ false → nat_le (r.0 + r.1) (2 ^ 31) ≡ true
low_range blocks r few inside =
    let h : r.0 + r.1 ≤ blocks = ltb-false blocks (r.0 + r.1) ((or_parts (nat_le blocks r.0) (nat_lt blocks (r.0 + r.1)) inside).1) in
    grind (arith, nat_tests)

inside_low : (blocks : ℕ) → blocks ≤ 2 ^ 31 → (ranges : List (ℕ × ℕ)) → list_any (is_outside blocks) ranges ≡ false → are_low ranges ≡ true
inside_low blocks few [] e = refl
inside_low blocks few (r ∷ rs) e =
    let parts = or_parts (is_outside blocks r) (list_any (is_outside blocks) rs) e in
    ap (λ b. b && are_low rs) (low_range blocks r few (parts.0)) ∙ inside_low blocks few rs (parts.1)

low_unmap : (blocks : ℕ) (snapshot : Bool) → blocks ≤ 2 ^ 31 → (read : Result (List (ℕ × ℕ)) Sense) → is_low (unmap_read blocks snapshot read) ≡ true
low_unmap blocks snapshot few (Err sense) = refl
low_unmap blocks snapshot few (Ok ranges) = go (list_any (is_outside blocks) ranges) refl
  where
    go : (b : Bool) → list_any (is_outside blocks) ranges ≡ b
        → is_low (cond b (refused lba_out_of_range) (if_writable snapshot (unless_none (length ranges) (to_unmap ranges)))) ≡ true
    go true is = refl
    go false is =
        low_either snapshot (refused write_protected) (unless_none (length ranges) (to_unmap ranges)) refl
        (low_either (length ranges == 0) done (to_unmap ranges) refl (inside_low blocks few ranges is))

low_blocks : (payload : List ℕ) (blocks : ℕ) (snapshot : Bool) → blocks ≤ 2 ^ 31 → (c : Command) → is_low (block_command blocks snapshot c payload) ≡ true
low_blocks payload blocks snapshot few (command.Read lba n) =
    low_either (is_outside blocks (lba, n)) (refused lba_out_of_range) (unless_none n (to_read (lba, n))) refl
    (low_either (n == 0) done (to_read (lba, n)) refl refl)
low_blocks payload blocks snapshot few (command.Write lba n) =
    low_either (is_outside blocks (lba, n)) (refused lba_out_of_range) (if_writable snapshot (unless_none n (to_write (lba, n)))) refl
    (low_either snapshot (refused write_protected) (unless_none n (to_write (lba, n))) refl (low_either (n == 0) done (to_write (lba, n)) refl refl))
low_blocks payload blocks snapshot few (command.Compare lba n) =
    low_either (is_outside blocks (lba, n)) (refused lba_out_of_range) (if_writable snapshot (unless_none n (to_compare (lba, n)))) refl
    (low_either snapshot (refused write_protected) (unless_none n (to_compare (lba, n))) refl (low_either (n == 0) done (to_compare (lba, n)) refl refl))
low_blocks payload blocks snapshot few (command.Same lba n) =
    low_either (is_outside blocks (lba, n)) (refused lba_out_of_range) (if_writable snapshot (to_write_same (lba, n))) refl
    (low_either snapshot (refused write_protected) (to_write_same (lba, n)) refl refl)
low_blocks payload blocks snapshot few (command.Sync lba n) = low_either (is_outside blocks (lba, n)) (refused lba_out_of_range) done refl refl
low_blocks payload blocks snapshot few (command.Unmap n) = low_unmap blocks snapshot few (ranges_in payload)
low_blocks payload blocks snapshot few _ = refl

low_volume : (payload : List ℕ) (volume blocks : ℕ) (snapshot attention : Bool) → blocks ≤ 2 ^ 31 → (c : Command)
    → is_low (volume_command volume blocks snapshot attention c payload) ≡ true
low_volume payload volume blocks snapshot attention few (command.Inquiry evpd page room) = refl
low_volume payload volume blocks snapshot attention few (command.RequestSense room) = refl
low_volume payload volume blocks snapshot attention few c =
    low_either attention attention_told (block_command blocks snapshot c payload) refl (low_blocks payload blocks snapshot few c)

pub decided_low : (unit : UnitState) (read : Result Command Sense) (payload : List ℕ) → IsUnit unit → is_low (decided unit read payload) ≡ true
unfolding decided
decided_low Unbound (Ok c) payload is = low_unbound c
decided_low Unbound (Err sense) payload is = refl
decided_low (Endpoint number) (Ok c) payload is = low_endpoint number c
decided_low (Endpoint number) (Err sense) payload is = refl
decided_low (Bound volume blocks snapshot attention) (Ok c) payload is = low_volume payload volume blocks snapshot attention (is.1) c
decided_low (Bound volume blocks snapshot attention) (Err sense) payload is = low_either attention attention_told (refused sense) refl refl
