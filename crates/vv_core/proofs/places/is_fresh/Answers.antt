use Rattle.std.specs.Prelude.{Some, None}
use Rattle.vv_core.proofs.FreshTold.{fresh_told}
use Rattle.vv_core.proofs.places.is_fresh.Goals as goal

pub returns-in-Some : goal.returns-in-Some
returns-in-Some c = fresh_told c.args.tables.now.durable c.args.place.0 (Some c.in-Some.found.0) c.in-Some.ensures

pub returns-in-None : goal.returns-in-None
returns-in-None c = fresh_told c.args.tables.now.durable c.args.place.0 None c.in-None.ensures
