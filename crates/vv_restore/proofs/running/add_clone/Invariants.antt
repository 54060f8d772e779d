use Rattle.vv_restore.proofs.running.add_clone.Given as goal

abbrev pub ghosts-give_clone : goal.ghosts-give_clone
ghosts-give_clone a = record { name = a.blank.name; parts = a.blank.parts }
