use Rattle.std.proofs.Common.{◌≡◌, length, ap, ◌∙◌, arith}
use Rattle.std.proofs.lemmas.List.{take_at}
use Rattle.vv_array.proofs.FreshUp.{whole_area, area_fits}
use Rattle.vv_array.proofs.formatting.area_of.Goals as goal

pub returns-clause-area : goal.returns-clause-area
returns-clause-area c =
    let size : length c.area_piece.new.into ≡ c.in_ok-area.area.len = omega (arith, c.in_ok-area.area.ok.0, c.in_ok-area.ensures.length) in
    take_at c.area_piece.new.into _ c.in_ok-area.area.len size
    ∙ whole_area c.args.geometry c.args.core.now.array c.area_piece.new.into (length c.deref_mut.result.now) c.requires.empty c.area_piece.ensures.piece (omega (arith, c.in_ok-area.ensures.length, c.area_len-len.ensures.all, c.deref_mut.ensures.len))

pub returns-clause-fits : goal.returns-clause-fits
returns-clause-fits c =
    let size : length c.area_piece.new.into ≡ c.in_ok-area.area.len = omega (arith, c.in_ok-area.area.ok.0, c.in_ok-area.ensures.length) in
    area_fits c.args.geometry c.args.core.now.array c.area_len-len.result _ c.requires.empty c.area_len-len.ensures.fits (ap length (take_at c.area_piece.new.into _ c.in_ok-area.area.len size) ∙ (omega (arith, c.in_ok-area.ensures.length, c.area_len-len.ensures.all)))
