-- What changes of hosts ask of the table of bindings, from their fitting; and what they make of tables as they are seen.
use Rattle.std.proofs.Common.{ℕ, ◌≡◌, ◌+◌, ◌≤◌, ◌<◌, ◌==◌, ◌&&◌, not, true, false, cond, List, [], length, Option, Some, None, refl, ap, subst, ◌∙◌, arith}
use Rattle.std.specs.Prelude.{nat_le, nat_lt}
use Rattle.std.specs.List.{list_all}
use Rattle.std.proofs.lemmas.Bool.{leb-true, leb-false, lt-ltb, ne_eqb}
use Rattle.std.proofs.lemmas.List.{length-map}
use Rattle.vv_units.specs.declared.numbers.EndpointId.{EndpointId}
use Rattle.vv_units.specs.declared.field.Field.TheVariants.{Endpoints as in_endpoints, Host as in_host, Binding as in_binding, Count as in_count}
use Rattle.vv_flat.specs.Lists.{if_found, all_different}
use Rattle.vv_flat.specs.State.{Binding, Task, Durable}
use Rattle.vv_flat.specs.Chunks.{Entry, shape_of_tables}
use Rattle.vv_flat.specs.Bindings.{endpoints_of, binding_of, keeps_bindings, with_context, with_binding, without_binding, without_host}
use Rattle.vv_flat.specs.Refusals.{NoEndpoint as Endpointless, ResourceInUse, TooMany, Accept, too_many}
use Rattle.vv_flat.specs.Changes.{SetEndpoints, Bind, Unbind, UnbindAll, judge, state_checks, room_checks, effect, apply, bind_count_limit, binding_limit}
use Rattle.vv_flat.specs.Rules.{is_host}
use Rattle.vv_flat.specs.Replay.{fits, replayed}
use Rattle.vv_flat.specs.Fields.{change_has_forms, is_number, are_endpoints}
use Rattle.vv_flat.proofs.Shares.{and_left, and_right, list_all-follows}
use Rattle.vv_flat.proofs.Verdicts.{passed_state, passed_room, not_refused}
use Rattle.vv_flat.proofs.KeepRules.{fits_accepted}
use Rattle.vv_container.specs.Table.{ChargedContainer}
use Rattle.vv_bind.specs.Table.{BindState, IsHost, numbers, address, bind_fault}
use Rattle.vv_bind.specs.declared.fault.BindFault.TheVariants.{NoEndpoint, TooManyCount, TooManyBindings}
use Rattle.vv_vols.specs.Shelf.{ShelfState}
use Rattle.vv_tables.specs.declared.rows.CloneRow.{CloneRow}
use Rattle.vv_tables.specs.declared.rows.CopyRow.{CopyRow}
use Rattle.vv_tables.specs.Seen.{seen_durable}
use Rattle.vv_tables.proofs.RunningRows.{unnegated}

-- ---- forms
host_from : (host : ℕ) → is_host host ≡ true → IsHost host
host_from host e = record { from_one = leb-true 1 host (and_left (nat_le 1 host) (nat_le host 64) e); within = leb-true host 64 (and_right (nat_le 1 host) (nat_le host 64) e) }

pub bind_host : (host volume : ℕ) → change_has_forms (Bind host volume) ≡ true → IsHost host
unfolding change_has_forms
bind_host host volume e = host_from host e

pub unbind_host : (host endpoint secondary : ℕ) → change_has_forms (Unbind host endpoint secondary) ≡ true → IsHost host
unfolding change_has_forms
unbind_host host endpoint secondary e = host_from host (and_left _ _ (and_left _ _ e))

pub unbind_all_host : (host : ℕ) → change_has_forms (UnbindAll host) ≡ true → IsHost host
unfolding change_has_forms
unbind_all_host host e = host_from host e

module _ (host : ℕ) (endpoints : List EndpointId) (forms : change_has_forms (SetEndpoints host (numbers endpoints)) ≡ true) where
  pub set_host : IsHost host
  unfolding change_has_forms
  set_host = host_from host (and_left _ _ (and_left _ _ forms))

  pub set_few : length endpoints ≤ 8
  unfolding change_has_forms
  set_few =
      let few : length (numbers endpoints) ≤ 8 =
      leb-true (length (numbers endpoints)) 8
      (and_right (is_host host) (nat_le (length (numbers endpoints)) 8) (and_left (is_host host && nat_le (length (numbers endpoints)) 8) (are_endpoints (numbers endpoints)) forms)) in
      omega (arith, few, length-map endpoints (λ (e : EndpointId). e.0))

  pub set_different : all_different (numbers endpoints) ≡ true
  unfolding change_has_forms
  set_different = and_right _ _ (and_right _ _ forms)

  pub set_not_zero : list_all (λ e. nat_lt 0 e) (numbers endpoints) ≡ true
  unfolding change_has_forms
  set_not_zero =
      list_all-follows (λ e. is_number 16 e && nat_le 1 e) (λ e. nat_lt 0 e)
      (λ e h. let one : 1 ≤ e = leb-true 1 e (and_right (is_number 16 e) (nat_le 1 e) h) in let pos : 0 < e = omega (arith, one) in lt-ltb 0 e pos)
      (numbers endpoints) (and_left _ _ (and_right _ _ forms))

-- ---- checks
set_judged : (d : Durable ℕ) (host : ℕ) (endpoints : List ℕ) → judge None d (SetEndpoints host endpoints) ≡ Accept → keeps_bindings d.bindings host endpoints ≡ true
unfolding state_checks
set_judged d host endpoints e =
    unnegated (keeps_bindings d.bindings host endpoints)
    (not_refused (not (keeps_bindings d.bindings host endpoints)) (ResourceInUse in_endpoints) (passed_state None d (SetEndpoints host endpoints) e 0))

pub set_may : (d : Durable Entry) (host : ℕ) (endpoints places : List ℕ) → fits d (SetEndpoints host endpoints) places ≡ true → keeps_bindings d.bindings host endpoints ≡ true
set_may d host endpoints places fit = set_judged (shape_of_tables d) host endpoints (fits_accepted d (SetEndpoints host endpoints) places fit)

below : (limit n : ℕ) → nat_le limit n ≡ false → (n == limit) ≡ false
below limit n e = let lt : n < limit = leb-false limit n e in ne_eqb n limit (λ same. absurd (omega (arith, lt, same)))

bind_faultless : (bindings : List Binding) (o : Option Binding)
    → if_found o (λ (b : Binding). too_many b.count bind_count_limit in_count) (too_many (length bindings) binding_limit in_binding) ≡ None
    → if_found o (λ (b : Binding). cond (b.count == 65535) (Some TooManyCount) None) (cond (length bindings == 1024) (Some TooManyBindings) None) ≡ None
bind_faultless bindings (Some b) e =
    ap (λ c. cond c (Some TooManyCount) None) (below 65535 b.count (not_refused (nat_le 65535 b.count) (TooMany in_count 65535) e))
bind_faultless bindings None e =
    ap (λ c. cond c (Some TooManyBindings) None) (below 1024 (length bindings) (not_refused (nat_le 1024 (length bindings)) (TooMany in_binding 1024) e))

bind_judged : (d : Durable ℕ) (t : BindState) (host volume : ℕ) → d.contexts ≡ t.contexts → d.bindings ≡ t.bindings → judge None d (Bind host volume) ≡ Accept
    → bind_fault t host volume ≡ None
unfolding state_checks room_checks
bind_judged d t host volume contexts bindings e =
    let some : (length (endpoints_of t.contexts host) == 0) ≡ false =
    subst (λ cs. (length (endpoints_of cs host) == 0) ≡ false) contexts
    (not_refused (length (endpoints_of d.contexts host) == 0) (Endpointless in_host) (passed_state None d (Bind host volume) e 1)) in
    let room : if_found (binding_of t.bindings host volume) (λ (b : Binding). too_many b.count bind_count_limit in_count) (too_many (length t.bindings) binding_limit in_binding) ≡ None =
    subst (λ bs. if_found (binding_of bs host volume) (λ (b : Binding). too_many b.count bind_count_limit in_count) (too_many (length bs) binding_limit in_binding) ≡ None) bindings
    (passed_room None d (Bind host volume) e 1) in
    ap (λ c. cond c (Some NoEndpoint) (if_found (binding_of t.bindings host volume)
    (λ (b : Binding). cond (b.count == 65535) (Some TooManyCount) None) (cond (length t.bindings == 1024) (Some TooManyBindings) None))) some
    ∙ bind_faultless t.bindings (binding_of t.bindings host volume) room

-- ---- the tables after each
module _ (lsn : ℕ) (s : ShelfState) (containers : List ChargedContainer) (bindings : BindState) (tasks : List Task) (clones : List CloneRow) (copies : List CopyRow) where
  abbrev seen : Durable Entry
  seen = seen_durable lsn s containers bindings tasks clones copies

  pub bind_may : (host volume : ℕ) (places : List ℕ) → fits seen (Bind host volume) places ≡ true → bind_fault bindings host volume ≡ None
  bind_may host volume places fit = bind_judged (shape_of_tables seen) bindings host volume refl refl (fits_accepted seen (Bind host volume) places fit)

  pub endpoints_set : (host : ℕ) (endpoints : List ℕ) (next : BindState) → next ≡ record bindings { contexts = with_context bindings.contexts host endpoints }
      → seen_durable (lsn + 1) s containers next tasks clones copies ≡ replayed seen (SetEndpoints host endpoints) []
  unfolding replayed apply effect
  endpoints_set host endpoints next is = ap (λ b. seen_durable (lsn + 1) s containers b tasks clones copies) is

  pub bound : (host volume : ℕ) (next : BindState) → next ≡ record bindings { bindings = with_binding bindings.contexts bindings.bindings host volume }
      → seen_durable (lsn + 1) s containers next tasks clones copies ≡ replayed seen (Bind host volume) []
  unfolding replayed apply effect
  bound host volume next is = ap (λ b. seen_durable (lsn + 1) s containers b tasks clones copies) is

  pub unbound : (host endpoint secondary : ℕ) (next : BindState) → next ≡ record bindings { bindings = without_binding bindings.bindings (address host endpoint secondary) }
      → seen_durable (lsn + 1) s containers next tasks clones copies ≡ replayed seen (Unbind host endpoint secondary) []
  unfolding replayed apply effect
  unbound host endpoint secondary next is = ap (λ b. seen_durable (lsn + 1) s containers b tasks clones copies) is

  pub all_unbound : (host : ℕ) (next : BindState) → next ≡ record bindings { bindings = without_host bindings.bindings host }
      → seen_durable (lsn + 1) s containers next tasks clones copies ≡ replayed seen (UnbindAll host) []
  unfolding replayed apply effect
  all_unbound host next is = ap (λ b. seen_durable (lsn + 1) s containers b tasks clones copies) is
