use Rattle.vv_array.proofs.OpenedArea.{none_fed}
use Rattle.vv_array.proofs.area.read_tables.Goals as goal

pub feed_area-requires-clause-fed : goal.feed_area-requires-clause-fed
feed_area-requires-clause-fed g c = none_fed c.in_ok-reader.reader c.args.head.now (g.D.Disk.content c.args.disk.now) c.in_ok-reader.ensures

pub finish-requires : goal.finish-requires
finish-requires g c = record { set = (g.D.Disk.content c.args.disk.now, c.in-Ok.ensures.fed) }

pub returns-in-Ok-clause-tables : goal.returns-in-Ok-clause-tables
returns-in-Ok-clause-tables g c = c.finish.ensures.tables (g.D.Disk.content c.args.disk.now) c.in-Ok.ensures.fed

pub returns-in-Ok-clause-fault : goal.returns-in-Ok-clause-fault
returns-in-Ok-clause-fault g c = c.finish.ensures.fault (g.D.Disk.content c.args.disk.now) c.in-Ok.ensures.fed
