-- The first rule that fails, told one rule after the other.
use Rattle.std.proofs.Common.{◌≡◌, ℕ, ◌≤◌, Bool, true, false, cond, Option, Some, None, refl, sym, ◌∙◌, Result, Ok, Err}
use Rattle.vv_flat.specs.State.{Durable}
use Rattle.vv_flat.specs.Chunks.{Entry, shape_of_tables}
use Rattle.vv_flat.specs.Sharing.{shares, no_place}
use Rattle.vv_flat.specs.Rules.{numbers_rule, names_rule, limits_rule, sizes_rule, space_rule, bindings_rule, clones_rule, copies_rule, first_fault, RuleFault}
use Rattle.vv_area.specs.declared.fault.AreaFault.{AreaFault}
use Rattle.vv_area.specs.Ruled.{Judges, Expects, least_fault}
use Rattle.vv_area.proofs.SharingParts.{not_shared_where_some, found_is_least}

-- the rules up to some hold
pub record To1 (d : Durable Entry) : Type 0 where
  pub numbers : numbers_rule (shape_of_tables d) ≡ true

pub record To2 (d : Durable Entry) : Type 0 where
  pub before : To1 d
  pub names : names_rule (shape_of_tables d) ≡ true

pub record To3 (d : Durable Entry) : Type 0 where
  pub before : To2 d
  pub limits : limits_rule (shape_of_tables d) ≡ true

pub record To4 (d : Durable Entry) : Type 0 where
  pub before : To3 d
  pub sizes : sizes_rule (shape_of_tables d) ≡ true

pub record To5 (d : Durable Entry) : Type 0 where
  pub before : To4 d
  pub space : space_rule (shape_of_tables d) ≡ true

pub record To6 (d : Durable Entry) : Type 0 where
  pub before : To5 d
  pub shared : shares d ≡ true

pub record To7 (d : Durable Entry) : Type 0 where
  pub before : To6 d
  pub bindings : bindings_rule (shape_of_tables d) ≡ true

pub record To8 (d : Durable Entry) : Type 0 where
  pub before : To7 d
  pub clones : clones_rule (shape_of_tables d) ≡ true

abbrev at_rule : ℕ → ℕ → Option RuleFault
at_rule rule found = Some (record { rule = rule; found = found })

pub fails_1 : (d : Durable Entry) → numbers_rule (shape_of_tables d) ≡ false → first_fault d ≡ at_rule 1 0
unfolding first_fault
fails_1 d e = rw e

pub fails_2 : (d : Durable Entry) → To1 d → names_rule (shape_of_tables d) ≡ false → first_fault d ≡ at_rule 2 0
unfolding first_fault
fails_2 d t e = rw (t.numbers, e)

pub fails_3 : (d : Durable Entry) → To2 d → limits_rule (shape_of_tables d) ≡ false → first_fault d ≡ at_rule 3 0
unfolding first_fault
fails_3 d t e = rw (t.before.numbers, t.names, e)

pub fails_4 : (d : Durable Entry) → To3 d → sizes_rule (shape_of_tables d) ≡ false → first_fault d ≡ at_rule 4 0
unfolding first_fault
fails_4 d t e = rw (t.before.before.numbers, t.before.names, t.limits, e)

pub fails_5 : (d : Durable Entry) → To4 d → space_rule (shape_of_tables d) ≡ false → first_fault d ≡ at_rule 5 0
unfolding first_fault
fails_5 d t e = rw (t.before.before.before.numbers, t.before.before.names, t.before.limits, t.sizes, e)

pub fails_6 : (d : Durable Entry) → To5 d → (m : ℕ) → least_fault d ≡ Some m → m ≤ no_place → first_fault d ≡ at_rule 6 m
unfolding first_fault
fails_6 d t m e most =
    let shared = not_shared_where_some d m e in
    let least = found_is_least d m e most in
    rw (t.before.before.before.before.numbers, t.before.before.before.names, t.before.before.limits, t.before.sizes, t.space, shared, least)

pub fails_7 : (d : Durable Entry) → To6 d → bindings_rule (shape_of_tables d) ≡ false → first_fault d ≡ at_rule 7 0
unfolding first_fault
fails_7 d t e =
    rw (t.before.before.before.before.before.numbers, t.before.before.before.before.names, t.before.before.before.limits, t.before.before.sizes, t.before.space, t.shared, e)

pub fails_8 : (d : Durable Entry) → To7 d → clones_rule (shape_of_tables d) ≡ false → first_fault d ≡ at_rule 8 0
unfolding first_fault
fails_8 d t e =
    rw (
      t.before.before.before.before.before.before.numbers,
      t.before.before.before.before.before.names,
      t.before.before.before.before.limits,
      t.before.before.before.sizes,
      t.before.before.space,
      t.before.shared,
      t.bindings,
      e,
    )

-- the last rule decides
after_8 : (d : Durable Entry) → To8 d → (b : Bool) → copies_rule (shape_of_tables d) ≡ b → first_fault d ≡ cond b None (at_rule 9 0)
unfolding first_fault
after_8 d t b e =
    rw (
      t.before.before.before.before.before.before.before.numbers,
      t.before.before.before.before.before.before.names,
      t.before.before.before.before.before.limits,
      t.before.before.before.before.sizes,
      t.before.before.before.space,
      t.before.before.shared,
      t.before.bindings,
      t.clones,
      e,
    ) refl

pub last_decides : (d : Durable Entry) → To8 d → (holds : Bool) → holds ≡ copies_rule (shape_of_tables d) → (r : Result (Unit {0}) AreaFault) → Expects 9 holds r → Judges r (first_fault d)
last_decides d t holds e (Ok nothing) h = after_8 d t true (sym e ∙ h)
last_decides d t holds e (Err f) h = rw h.1 (after_8 d t false (sym e ∙ h.0))
