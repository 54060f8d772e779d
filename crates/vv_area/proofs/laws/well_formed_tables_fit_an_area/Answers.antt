use Rattle.vv_area.proofs.AreaLengths.{fits_area}
use Rattle.vv_area.proofs.laws.well_formed_tables_fit_an_area.Goals as goal

pub returns : goal.returns
returns c d form rules forms = fits_area d form rules forms
