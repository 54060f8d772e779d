use Rattle.std.proofs.Common.{◌+◌, ◌≤◌, ℕ, ap, ◌∙◌, sym, subst}
use Rattle.vv_units.specs.declared.geometry.Geometry.{Geometry}
use Rattle.vv_data.specs.Layout.{area_bytes}
use Rattle.vv_journal.specs.Switches.{SwitchingState, other_half}
use Rattle.vv_array.proofs.KeptUp.{step_keeps, none_first}
use Rattle.vv_array.proofs.switching.begun_switch.Goals as goal

pub begin_switch-requires-clause-fits : goal.begin_switch-requires-clause-fits
begin_switch-requires-clause-fits g c =
    subst (λ (geometry : Geometry). 8 + c.area_len.result ≤ area_bytes geometry) (sym c.requires.sizes) c.area_len.ensures.fits

pub returns-in_err-switching-clause-keeps : goal.returns-in_err-switching-clause-keeps
returns-in_err-switching-clause-keeps g c = λ honest m up.
    step_keeps g.D.Disk.content g.D.Disk.is_image g.D.Disk.moment g.D.Disk.left_since c.args.disk.now c.begin_switch.new.disk c.args.journal.now c.args.core.now.array m up c.requires.sizes
    (c.begin_switch.ensures.each honest up.log up.continues up.holds) (c.begin_switch.ensures.any_moment honest up.log up.continues up.holds) c.begin_switch.ensures.told

pub returns-clause-keeps : goal.returns-clause-keeps
returns-clause-keeps g c = λ honest m up.
    step_keeps g.D.Disk.content g.D.Disk.is_image g.D.Disk.moment g.D.Disk.left_since c.args.disk.now c.begin_switch.new.disk c.args.journal.now c.args.core.now.array m up c.requires.sizes
    (c.begin_switch.ensures.each honest up.log up.continues up.holds) (c.begin_switch.ensures.any_moment honest up.log up.continues up.holds) c.begin_switch.ensures.told

pub returns-clause-is : goal.returns-clause-is
returns-clause-is g c =
    c.in_ok-switching.ensures.begun
    ∙ ap (λ (n : ℕ). let s : SwitchingState = record { geometry = c.args.journal.now.geometry; half = other_half c.args.journal.now.half; done = 0; len = n } in s) c.area_len.ensures.all

pub returns-clause-tables : goal.returns-clause-tables
returns-clause-tables g c =
    none_first c.in_ok-switching.switching c.args.core.now.array.durable (g.D.Disk.content c.begin_switch.new.disk)
    (ap (λ (s : SwitchingState). s.done) c.in_ok-switching.ensures.begun) c.in_ok-switching.ensures.tables
