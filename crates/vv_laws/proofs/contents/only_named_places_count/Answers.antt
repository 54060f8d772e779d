use Rattle.vv_laws.proofs.OtherContents.{same_filled}
use Rattle.vv_laws.proofs.contents.only_named_places_count.Goals as goal

pub returns : goal.returns
returns c these those tables agree = same_filled these those tables agree
