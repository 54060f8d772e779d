use Rattle.vv_meaning.proofs.Deeds.{replies_alike}
use Rattle.vv_meaning.proofs.meaning.arrays_of_one_shape_reply_alike_but_for_bytes.Goals as goal

pub returns : goal.returns
returns c capabilities a b call shaped same = replies_alike capabilities a b call shaped same
