use Rattle.vv_vols.proofs.tests.a_volume_grows.Given as goal

abbrev pub ghosts-grow_once : goal.ghosts-grow_once
ghosts-grow_once g a = record { name = a.blank.name; parts = a.blank.parts }
