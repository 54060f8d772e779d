use Rattle.vv_vols.proofs.Kept.{unmapped_shares}
use Rattle.vv_vols.proofs.laws.an_unmapped_chunk_shares.Goals as goal

pub returns : goal.returns
returns c s n index shares = unmapped_shares s shares n index
