use Rattle.vv_map.proofs.tests.a_shared_list_ends_with_its_last_name.Given as goal

abbrev pub ghosts-share_once : goal.ghosts-share_once
ghosts-share_once g a = record { name = a.blank.name; parts = a.blank.parts }
