use Rattle.vv_array.proofs.array.Array.reopen.Goals as goal

pub returns-in-Ok-clause-stands : goal.returns-in-Ok-clause-stands
returns-in-Ok-clause-stands g c = rw c.give_way_to.ensures c.in-Ok.ensures.stands
