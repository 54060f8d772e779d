use Rattle.std.proofs.Common.{ℕ, List, ap, ◌∙◌, subst}
use Rattle.vv_disk.specs.Images.{EachImage, LeavesOnly}
use Rattle.vv_journal.specs.Log.{Holds, fresh_log}
use Rattle.vv_journal.specs.Calls.{journal_of, IsBeingMade}
use Rattle.vv_array.proofs.formatting.write_image.Goals as goal

pub returns-in-Ok-clause-ok : goal.returns-in-Ok-clause-ok
returns-in-Ok-clause-ok g c = λ honest.
    subst (λ (area : List ℕ). EachImage (Holds (fresh_log c.args.geometry area)) (g.D.Disk.is_image c.format.new.disk)) c.requires.empty (c.in-Ok.ensures.ok honest)

pub returns-in-Ok-clause-journal : goal.returns-in-Ok-clause-journal
returns-in-Ok-clause-journal g c =
    c.in-Ok.ensures.journal ∙ ap (λ (area : List ℕ). journal_of (fresh_log c.args.geometry area)) c.requires.empty

pub returns-in-Ok-clause-made : goal.returns-in-Ok-clause-made
returns-in-Ok-clause-made g c = λ honest.
    subst (λ (area : List ℕ). LeavesOnly g.D.Disk.moment g.D.Disk.left_since c.args.disk.now c.format.new.disk (IsBeingMade c.args.geometry area (g.D.Disk.is_image c.args.disk.now))) c.requires.empty
    (c.format.ensures.any_moment honest)

pub returns-in-Err-clause-made : goal.returns-in-Err-clause-made
returns-in-Err-clause-made g c = λ honest.
    subst (λ (area : List ℕ). LeavesOnly g.D.Disk.moment g.D.Disk.left_since c.args.disk.now c.format.new.disk (IsBeingMade c.args.geometry area (g.D.Disk.is_image c.args.disk.now))) c.requires.empty
    (c.format.ensures.any_moment honest)
