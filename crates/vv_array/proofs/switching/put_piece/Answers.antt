use Rattle.std.proofs.Common.{ℕ, length, ap, ◌∙◌, arith}
use Rattle.vv_array.proofs.KeptUp.{piece_keeps, more_first}
use Rattle.vv_array.proofs.switching.put_piece.Goals as goal

pub returns-in_err-put-clause-keeps : goal.returns-in_err-put-clause-keeps
returns-in_err-put-clause-keeps g c = λ honest.
    piece_keeps g.D.Disk.content g.D.Disk.is_image g.D.Disk.moment g.D.Disk.left_since c.args.disk.now c.put.new.disk c.args.switching.now c.args.core.now.array c.requires.sizes
    (c.put.ensures.each honest) (c.put.ensures.any_moment honest) c.put.ensures.told

pub returns-clause-keeps : goal.returns-clause-keeps
returns-clause-keeps g c = λ honest.
    piece_keeps g.D.Disk.content g.D.Disk.is_image g.D.Disk.moment g.D.Disk.left_since c.args.disk.now c.put.new.disk c.args.switching.now c.args.core.now.array c.requires.sizes
    (c.put.ensures.each honest) (c.put.ensures.any_moment honest) c.put.ensures.told

pub returns-clause-counted : goal.returns-clause-counted
returns-clause-counted g c =
    c.in_ok-put.ensures.counted ∙ ap (λ (n : ℕ). record c.args.switching.now { done = n }) (omega arith)

pub returns-clause-tables : goal.returns-clause-tables
returns-clause-tables g c = λ has.
    more_first c.args.switching.now c.put.new.self c.args.core.now.array.durable (g.D.Disk.content c.args.disk.now) (g.D.Disk.content c.put.new.disk)
    c.area_piece.new.into c.args.at (length c.args.piece.now) c.requires.at (returns-clause-counted g c) c.area_piece.ensures.piece c.in_ok-put.ensures.tables has
