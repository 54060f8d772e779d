use Rattle.vv_snap.proofs.tests.a_volume_goes_back_to_a_shorter_and_a_longer_snapshot.Given as goal

abbrev pub ghosts-go_back_twice : goal.ghosts-go_back_twice
ghosts-go_back_twice g a = record { name = a.blank.name; parts = a.blank.parts }
