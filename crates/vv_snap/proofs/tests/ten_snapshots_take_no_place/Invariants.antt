use Rattle.vv_snap.proofs.tests.ten_snapshots_take_no_place.Given as goal

abbrev pub ghosts-filled_and_copied : goal.ghosts-filled_and_copied
ghosts-filled_and_copied g a = record { name = a.blank.name; parts = a.blank.parts }
