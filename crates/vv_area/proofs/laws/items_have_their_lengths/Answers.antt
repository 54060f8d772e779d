use Rattle.vv_area.proofs.AreaLengths.{length-container, length-volume, length-entry, length-context, length-binding, length-task, length-clone, length-piece, length-copy}
use Rattle.vv_area.proofs.laws.items_have_their_lengths.Goals as goal

pub returns-clause-container : goal.returns-clause-container
returns-clause-container c k = length-container k

pub returns-clause-volume : goal.returns-clause-volume
returns-clause-volume c spelling v = length-volume spelling v

pub returns-clause-entry : goal.returns-clause-entry
returns-clause-entry c e = length-entry e

pub returns-clause-context : goal.returns-clause-context
returns-clause-context c x = length-context x

pub returns-clause-binding : goal.returns-clause-binding
returns-clause-binding c b = length-binding b

pub returns-clause-task : goal.returns-clause-task
returns-clause-task c t = length-task t

pub returns-clause-clone : goal.returns-clause-clone
returns-clause-clone c x = length-clone x

pub returns-clause-piece : goal.returns-clause-piece
returns-clause-piece c p = length-piece p

pub returns-clause-copy : goal.returns-clause-copy
returns-clause-copy c x = length-copy x
