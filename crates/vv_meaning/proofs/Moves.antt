-- Steps of the durable array, one after another.
use Rattle.std.proofs.Common.{◌≡◌, ◌≤◌, ℕ, ◌+◌, ◌&&◌, ◌⊎◌, refl, sym, ◌∙◌, subst, inl, inr, Bool, true, false, List, [], ◌∷◌, ◌++◌, arith, lit≤}
use Rattle.std.specs.Prelude.{Option, Some, None, Ok}
use Rattle.std.proofs.lemmas.Bool.{eqb-true}
use Rattle.vv_flat.specs.State.{Durable, Array}
use Rattle.vv_flat.specs.Chunks.{ChunkValue}
use Rattle.vv_flat.specs.Profiles.{Capability}
use Rattle.vv_flat.specs.Restart.{restarted}
use Rattle.vv_calls.specs.declared.call.Call.{Call}
use Rattle.vv_reply.specs.declared.reply.Reply.{Reply}
use Rattle.vv_meaning.specs.Meaning.{next}
use Rattle.vv_meaning.specs.Steps as steps
use Rattle.vv_meaning.specs.Asks.{Form, AsFault, AsSense}
use Rattle.vv_meaning.specs.Told.{read_failed_as, write_failed_as}
use Rattle.vv_meaning.specs.Steps.{State, Up, Down, IsState, least_number, is_well_formed_state, is_journaled, form_for, IsReopenFault, CallStep, ReopenedStep, Step, Report, Run}
use Rattle.vv_meaning.proofs.Deeds.{call_leaves, call_keeps_array}
use Rattle.vv_meaning.specs.Forms.{call_has_forms}
use Rattle.vv_calls.specs.Lines.{line_reading}
use Rattle.vv_meaning.proofs.Fitting.{reply_fits}
use Rattle.vv_flat.specs.FlatForm.{is_well_formed_array}
use Rattle.vv_flat.proofs.Shares.{and_left, and_right, and_both}
use Rattle.vv_reply.specs.Replies.{FitsReply}

pub journaled_number : (capabilities : List Capability) (a : Array ChunkValue) (c : Call) → is_journaled capabilities a c ≡ true
    → (next capabilities a c).durable.lsn ≡ a.durable.lsn + 1
unfolding is_journaled
journaled_number capabilities a c e = eqb-true (next capabilities a c).durable.lsn (a.durable.lsn + 1) e

call_state : (capabilities : List Capability) (m : Array ChunkValue) (c : Call) (answer : Reply) (new : State)
    → CallStep capabilities m c answer new → IsState new
call_state capabilities m c answer new (steps.Served e f) = subst IsState (sym f) tt
call_state capabilities m c answer new (steps.ReadFailed b e f) = subst IsState (sym f) tt
call_state capabilities m c answer new (steps.WriteFailed b e f) = subst IsState (sym f) (inr (journaled_number capabilities m c b))
call_state capabilities m c answer new (steps.WithoutMemory e f) = subst IsState (sym f) tt

reopened_state : (capabilities : List Capability) (m : Array ChunkValue) (c : Call) (answer : Reply) (new : State)
    → ReopenedStep capabilities m c answer new → IsState new
reopened_state capabilities m c answer new (steps.Restarted b e f) = subst IsState (sym f) tt
reopened_state capabilities m c answer new (steps.Called b step) = call_state capabilities m c answer new step

pub step_state : (capabilities : List Capability) (old : State) (line : List ℕ) (recovered : Option ℕ) (answer : Reply) (new : State)
    → Step capabilities old line recovered answer new → IsState old → IsState new
step_state capabilities old line recovered answer new (steps.Faulty cause r n e f) is = subst IsState (sym f) is
step_state capabilities old line recovered answer new (steps.NoMemory n e f) is = subst IsState (sym f) is
step_state capabilities old line recovered answer new (steps.RestartWithoutMemory m o r n e f) is = subst IsState (sym f) (inl refl)
step_state capabilities old line recovered answer new (steps.Called m c o r b n step) is = call_state capabilities m c answer new step
step_state capabilities old line recovered answer new (steps.RestartFailed m o r n e f) is = subst IsState (sym f) (inl refl)
step_state capabilities old line recovered answer new (steps.Restarted m o r n e f) is = subst IsState (sym f) tt
step_state capabilities old line recovered answer new (steps.ReopenFailed a b c o r n e f) is = subst IsState (sym f) (subst IsState o is)
step_state capabilities old line recovered answer new (steps.Reopened a b m c o r w n step) is = reopened_state capabilities (restarted m) c answer new step

-- A run goes on by one line.
pub run_goes_on : (capabilities : List Capability) (old mid new : State) (lines : List (List ℕ)) (reports : List Report) (line : List ℕ) (report : Report)
    → Run capabilities old lines reports mid → Step capabilities mid line report.recovered report.answer new
    → Run capabilities old (lines ++ line ∷ []) (reports ++ report ∷ []) new
run_goes_on capabilities old mid new [] [] line report run step = (new, subst (λ s. Step capabilities s line report.recovered report.answer new) run step, refl)
run_goes_on capabilities old mid new [] (r ∷ reports) line report run step = absurd run
run_goes_on capabilities old mid new (l ∷ lines) [] line report run step = absurd run
run_goes_on capabilities old mid new (l ∷ lines) (r ∷ reports) line report run step =
    (run.0, run.1, run_goes_on capabilities run.0 mid new lines reports line report run.2 step)

-- The states of a run stay states.
pub run_state : (capabilities : List Capability) (old new : State) (lines : List (List ℕ)) (reports : List Report)
    → Run capabilities old lines reports new → IsState old → IsState new
run_state capabilities old new [] [] run is = subst IsState (sym run) is
run_state capabilities old new [] (r ∷ reports) run is = absurd run
run_state capabilities old new (l ∷ lines) [] run is = absurd run
run_state capabilities old new (l ∷ lines) (r ∷ reports) run is =
    run_state capabilities run.0 new lines reports run.2 (step_state capabilities old l r.recovered r.answer run.0 run.1 is)

-- Log numbers never fall.

same : (n : ℕ) → n ≤ n
same n = omega arith

next_number : (capabilities : List Capability) (m : Array ChunkValue) (c : Call) → m.durable.lsn ≤ (next capabilities m c).durable.lsn
next_number capabilities m c = go (is_journaled capabilities m c) refl
  where
    go : (b : Bool) → is_journaled capabilities m c ≡ b → m.durable.lsn ≤ (next capabilities m c).durable.lsn
    go true is = let one : (next capabilities m c).durable.lsn ≡ m.durable.lsn + 1 = journaled_number capabilities m c is in omega (arith, one)
    go false is = subst (λ (d : Durable ChunkValue). m.durable.lsn ≤ d.lsn) (sym (call_leaves capabilities m c is)) (same m.durable.lsn)

call_number : (capabilities : List Capability) (m : Array ChunkValue) (c : Call) (answer : Reply) (new : State)
    → CallStep capabilities m c answer new → m.durable.lsn ≤ least_number new
call_number capabilities m c answer new (steps.Served e f) = subst (λ s. m.durable.lsn ≤ least_number s) (sym f) (next_number capabilities m c)
call_number capabilities m c answer new (steps.ReadFailed b e f) = subst (λ s. m.durable.lsn ≤ least_number s) (sym f) (same m.durable.lsn)
call_number capabilities m c answer new (steps.WriteFailed b e f) = subst (λ s. m.durable.lsn ≤ least_number s) (sym f) (same m.durable.lsn)
call_number capabilities m c answer new (steps.WithoutMemory e f) = subst (λ s. m.durable.lsn ≤ least_number s) (sym f) (same m.durable.lsn)

reopened_number : (capabilities : List Capability) (m : Array ChunkValue) (c : Call) (answer : Reply) (new : State)
    → ReopenedStep capabilities m c answer new → m.durable.lsn ≤ least_number new
reopened_number capabilities m c answer new (steps.Restarted b e f) = subst (λ s. m.durable.lsn ≤ least_number s) (sym f) (same m.durable.lsn)
reopened_number capabilities m c answer new (steps.Called b step) = call_number capabilities m c answer new step

-- the array that a reopening finds has no lower number
found_number : (a b m : Array ChunkValue) → (m ≡ a) ⊎ (m ≡ b) → IsState (Down a b) → a.durable.lsn ≤ m.durable.lsn
found_number a b m (inl e) is = subst (λ (x : Array ChunkValue). a.durable.lsn ≤ x.durable.lsn) (sym e) (same a.durable.lsn)
found_number a b m (inr e) (inl f) = subst (λ (x : Array ChunkValue). a.durable.lsn ≤ x.durable.lsn) (f ∙ sym e) (same a.durable.lsn)
found_number a b m (inr e) (inr f) = subst (λ (x : Array ChunkValue). a.durable.lsn ≤ x.durable.lsn) (sym e) (omega (arith, f))

through : {a b c : ℕ} → a ≤ b → b ≤ c → a ≤ c
through {a} {b} {c} e f = omega (arith, e, f)

pub step_number : (capabilities : List Capability) (old : State) (line : List ℕ) (recovered : Option ℕ) (answer : Reply) (new : State)
    → Step capabilities old line recovered answer new → IsState old → least_number old ≤ least_number new
step_number capabilities old line recovered answer new (steps.Faulty cause r n e f) is = subst (λ s. least_number old ≤ least_number s) (sym f) (same (least_number old))
step_number capabilities old line recovered answer new (steps.NoMemory n e f) is = subst (λ s. least_number old ≤ least_number s) (sym f) (same (least_number old))
step_number capabilities old line recovered answer new (steps.RestartWithoutMemory m o r n e f) is =
    subst (λ s. least_number s ≤ least_number new) (sym o) (subst (λ s. m.durable.lsn ≤ least_number s) (sym f) (same m.durable.lsn))
step_number capabilities old line recovered answer new (steps.Called m c o r b n step) is =
    subst (λ s. least_number s ≤ least_number new) (sym o) (call_number capabilities m c answer new step)
step_number capabilities old line recovered answer new (steps.RestartFailed m o r n e f) is =
    subst (λ s. least_number s ≤ least_number new) (sym o) (subst (λ s. m.durable.lsn ≤ least_number s) (sym f) (same m.durable.lsn))
step_number capabilities old line recovered answer new (steps.Restarted m o r n e f) is =
    subst (λ s. least_number s ≤ least_number new) (sym o) (subst (λ s. m.durable.lsn ≤ least_number s) (sym f) (same m.durable.lsn))
step_number capabilities old line recovered answer new (steps.ReopenFailed a b c o r n e f) is =
    subst (λ s. least_number s ≤ least_number new) (sym o) (subst (λ s. a.durable.lsn ≤ least_number s) (sym f) (same a.durable.lsn))
step_number capabilities old line recovered answer new (steps.Reopened a b m c o r w n step) is =
    subst (λ s. least_number s ≤ least_number new) (sym o)
    (through {a = a.durable.lsn} {b = m.durable.lsn} {c = least_number new} (found_number a b m w (subst IsState o is)) (reopened_number capabilities (restarted m) c answer new step))

-- Each reply of a step from well-formed arrays has a text.

read_failed_fits : (form : Form) → FitsReply (read_failed_as form)
read_failed_fits AsFault = tt
read_failed_fits AsSense = lit≤ tt

write_failed_fits : (form : Form) → FitsReply (write_failed_as form)
write_failed_fits AsFault = tt
write_failed_fits AsSense = lit≤ tt

call_fits : (capabilities : List Capability) (m : Array ChunkValue) (c : Call) (answer : Reply) (new : State)
    → CallStep capabilities m c answer new → is_well_formed_array m.durable ≡ true → FitsReply answer
call_fits capabilities m c answer new (steps.Served e f) well = subst FitsReply (sym e) (reply_fits capabilities m c well)
call_fits capabilities m c answer new (steps.ReadFailed b e f) well = subst FitsReply (sym e) (read_failed_fits (form_for m c))
call_fits capabilities m c answer new (steps.WriteFailed b e f) well = subst FitsReply (sym e) (write_failed_fits (form_for m c))
call_fits capabilities m c answer new (steps.WithoutMemory e f) well = subst FitsReply (sym e) tt

reopened_fits : (capabilities : List Capability) (m : Array ChunkValue) (c : Call) (answer : Reply) (new : State)
    → ReopenedStep capabilities m c answer new → is_well_formed_array m.durable ≡ true → FitsReply answer
reopened_fits capabilities m c answer new (steps.Restarted b e f) well = subst FitsReply (sym e) tt
reopened_fits capabilities m c answer new (steps.Called b step) well = call_fits capabilities m c answer new step well

fault_fits : (answer : Reply) → IsReopenFault answer → FitsReply answer
fault_fits answer (steps.ReadFault e) = subst FitsReply (sym e) tt
fault_fits answer (steps.WriteFault e) = subst FitsReply (sym e) tt
fault_fits answer (steps.Damaged damage e) = subst FitsReply (sym e) tt

found_well : (a b m : Array ChunkValue) → (m ≡ a) ⊎ (m ≡ b) → (is_well_formed_array a.durable && is_well_formed_array b.durable) ≡ true
    → is_well_formed_array m.durable ≡ true
found_well a b m (inl e) well = subst (λ (x : Array ChunkValue). is_well_formed_array x.durable ≡ true) (sym e) (and_left _ _ well)
found_well a b m (inr e) well = subst (λ (x : Array ChunkValue). is_well_formed_array x.durable ≡ true) (sym e) (and_right (is_well_formed_array a.durable) _ well)

pub step_fits : (capabilities : List Capability) (old : State) (line : List ℕ) (recovered : Option ℕ) (answer : Reply) (new : State)
    → Step capabilities old line recovered answer new → is_well_formed_state old ≡ true → FitsReply answer
step_fits capabilities old line recovered answer new (steps.Faulty cause r n e f) well = subst FitsReply (sym e) tt
step_fits capabilities old line recovered answer new (steps.NoMemory n e f) well = subst FitsReply (sym e) tt
step_fits capabilities old line recovered answer new (steps.RestartWithoutMemory m o r n e f) well = subst FitsReply (sym e) tt
step_fits capabilities old line recovered answer new (steps.Called m c o r b n step) well =
    call_fits capabilities m c answer new step (subst (λ s. is_well_formed_state s ≡ true) o well)
step_fits capabilities old line recovered answer new (steps.RestartFailed m o r n e f) well = fault_fits answer e
step_fits capabilities old line recovered answer new (steps.Restarted m o r n e f) well = subst FitsReply (sym e) tt
step_fits capabilities old line recovered answer new (steps.ReopenFailed a b c o r n e f) well = fault_fits answer e
step_fits capabilities old line recovered answer new (steps.Reopened a b m c o r w n step) well =
    reopened_fits capabilities (restarted m) c answer new step (found_well a b m w (subst (λ s. is_well_formed_state s ≡ true) o well))

-- A step keeps the arrays of a state well-formed, where the fields of its call have their forms.

call_well : (capabilities : List Capability) (m : Array ChunkValue) (c : Call) (answer : Reply) (new : State)
    → CallStep capabilities m c answer new → call_has_forms c ≡ true → is_well_formed_array m.durable ≡ true → is_well_formed_state new ≡ true
call_well capabilities m c answer new (steps.Served e f) forms well =
    subst (λ s. is_well_formed_state s ≡ true) (sym f) (call_keeps_array capabilities m c forms well)
call_well capabilities m c answer new (steps.ReadFailed b e f) forms well = subst (λ s. is_well_formed_state s ≡ true) (sym f) well
call_well capabilities m c answer new (steps.WriteFailed b e f) forms well =
    subst (λ s. is_well_formed_state s ≡ true) (sym f)
    (and_both (is_well_formed_array m.durable) (is_well_formed_array (next capabilities m c).durable) well (call_keeps_array capabilities m c forms well))
call_well capabilities m c answer new (steps.WithoutMemory e f) forms well = subst (λ s. is_well_formed_state s ≡ true) (sym f) well

reopened_well : (capabilities : List Capability) (m : Array ChunkValue) (c : Call) (answer : Reply) (new : State)
    → ReopenedStep capabilities m c answer new → call_has_forms c ≡ true → is_well_formed_array m.durable ≡ true → is_well_formed_state new ≡ true
reopened_well capabilities m c answer new (steps.Restarted b e f) forms well = subst (λ s. is_well_formed_state s ≡ true) (sym f) well
reopened_well capabilities m c answer new (steps.Called b step) forms well = call_well capabilities m c answer new step forms well

up_well : (old : State) (m : Array ChunkValue) → old ≡ Up m → is_well_formed_state old ≡ true → is_well_formed_array m.durable ≡ true
up_well old m o well = subst (λ s. is_well_formed_state s ≡ true) o well

both_well : (m : Array ChunkValue) → is_well_formed_array m.durable ≡ true → is_well_formed_state (Down m m) ≡ true
both_well m well = and_both (is_well_formed_array m.durable) (is_well_formed_array m.durable) well well

pub step_well : (capabilities : List Capability) (old : State) (line : List ℕ) (recovered : Option ℕ) (answer : Reply) (new : State)
    → Step capabilities old line recovered answer new → ((c : Call) → line_reading line ≡ Ok c → call_has_forms c ≡ true)
    → is_well_formed_state old ≡ true → is_well_formed_state new ≡ true
step_well capabilities old line recovered answer new (steps.Faulty cause r n e f) forms well = subst (λ s. is_well_formed_state s ≡ true) (sym f) well
step_well capabilities old line recovered answer new (steps.NoMemory n e f) forms well = subst (λ s. is_well_formed_state s ≡ true) (sym f) well
step_well capabilities old line recovered answer new (steps.RestartWithoutMemory m o r n e f) forms well =
    subst (λ s. is_well_formed_state s ≡ true) (sym f) (both_well m (up_well old m o well))
step_well capabilities old line recovered answer new (steps.Called m c o r b n step) forms well =
    call_well capabilities m c answer new step (forms c r) (up_well old m o well)
step_well capabilities old line recovered answer new (steps.RestartFailed m o r n e f) forms well =
    subst (λ s. is_well_formed_state s ≡ true) (sym f) (both_well m (up_well old m o well))
step_well capabilities old line recovered answer new (steps.Restarted m o r n e f) forms well =
    subst (λ s. is_well_formed_state s ≡ true) (sym f) (up_well old m o well)
step_well capabilities old line recovered answer new (steps.ReopenFailed a b c o r n e f) forms well =
    subst (λ s. is_well_formed_state s ≡ true) (sym f) (subst (λ s. is_well_formed_state s ≡ true) o well)
step_well capabilities old line recovered answer new (steps.Reopened a b m c o r w n step) forms well =
    reopened_well capabilities (restarted m) c answer new step (forms c r)
    (found_well a b m w (subst (λ s. is_well_formed_state s ≡ true) o well))

-- A recovered number is no lower than that of the state before, and no higher than that of the state after.

some_same : (a b : ℕ) → Some a ≡ Some b → a ≡ b
some_same a b e = cc

recovered_none : {A : Type 0} (recovered : Option ℕ) (n : ℕ) → recovered ≡ None → recovered ≡ Some n → A
recovered_none recovered n e f = cc

between : (m n : ℕ) (old new : State) → m ≡ n → least_number old ≤ m → m ≤ least_number new
    → (least_number old ≤ n) × (n ≤ least_number new)
between m n old new e below above = (omega (arith, e, below), omega (arith, e, above))

pub step_recovered : (capabilities : List Capability) (old : State) (line : List ℕ) (recovered : Option ℕ) (answer : Reply) (new : State) (n : ℕ)
    → Step capabilities old line recovered answer new → IsState old → recovered ≡ Some n → (least_number old ≤ n) × (n ≤ least_number new)
step_recovered capabilities old line recovered answer new n (steps.Faulty cause r none e f) is q = recovered_none recovered n none q
step_recovered capabilities old line recovered answer new n (steps.NoMemory none e f) is q = recovered_none recovered n none q
step_recovered capabilities old line recovered answer new n (steps.RestartWithoutMemory m o r none e f) is q = recovered_none recovered n none q
step_recovered capabilities old line recovered answer new n (steps.Called m c o r b none step) is q = recovered_none recovered n none q
step_recovered capabilities old line recovered answer new n (steps.RestartFailed m o r none e f) is q = recovered_none recovered n none q
step_recovered capabilities old line recovered answer new n (steps.Restarted m o r told e f) is q =
    between m.durable.lsn n old new (some_same m.durable.lsn n (sym told ∙ q))
    (subst (λ s. least_number s ≤ m.durable.lsn) (sym o) (same m.durable.lsn))
    (subst (λ s. m.durable.lsn ≤ least_number s) (sym f) (same m.durable.lsn))
step_recovered capabilities old line recovered answer new n (steps.ReopenFailed a b c o r none e f) is q = recovered_none recovered n none q
step_recovered capabilities old line recovered answer new n (steps.Reopened a b m c o r w told step) is q =
    between m.durable.lsn n old new (some_same m.durable.lsn n (sym told ∙ q))
    (subst (λ s. least_number s ≤ m.durable.lsn) (sym o) (found_number a b m w (subst IsState o is)))
    (reopened_number capabilities (restarted m) c answer new step)
