use Rattle.vv_restore.proofs.running.add_copy.Given as goal

abbrev pub ghosts-give_copy : goal.ghosts-give_copy
ghosts-give_copy a = record { name = a.blank.name; parts = a.blank.parts }
