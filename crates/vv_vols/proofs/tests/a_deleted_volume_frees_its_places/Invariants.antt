use Rattle.vv_vols.proofs.tests.a_deleted_volume_frees_its_places.Given as goal

abbrev pub ghosts-put_once : goal.ghosts-put_once
ghosts-put_once g a = record { name = a.blank.name; parts = a.blank.parts }
