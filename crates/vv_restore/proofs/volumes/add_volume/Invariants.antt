use Rattle.vv_restore.proofs.volumes.add_volume.Given as goal

abbrev pub ghosts-give_volume : goal.ghosts-give_volume
ghosts-give_volume a = record { name = a.blank.name; parts = a.blank.parts }
