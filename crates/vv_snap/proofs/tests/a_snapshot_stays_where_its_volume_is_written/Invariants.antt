use Rattle.vv_snap.proofs.tests.a_snapshot_stays_where_its_volume_is_written.Given as goal

abbrev pub ghosts-written_behind_a_snapshot : goal.ghosts-written_behind_a_snapshot
ghosts-written_behind_a_snapshot g a = record { name = a.blank.name; parts = a.blank.parts }
