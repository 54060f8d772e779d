use Rattle.vv_vols.proofs.tests.an_image_keeps_its_places_until_it_is_dropped.Given as goal

abbrev pub ghosts-drop_image_of_deleted : goal.ghosts-drop_image_of_deleted
ghosts-drop_image_of_deleted g a = record { name = a.blank.name; parts = a.blank.parts }
