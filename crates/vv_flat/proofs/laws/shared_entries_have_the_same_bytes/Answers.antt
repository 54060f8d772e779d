use Rattle.vv_flat.proofs.Shares.{sharing_tells_bytes}
use Rattle.vv_flat.proofs.laws.shared_entries_have_the_same_bytes.Goals as goal

pub returns : goal.returns
returns c bytes_at tables e = sharing_tells_bytes bytes_at tables e
