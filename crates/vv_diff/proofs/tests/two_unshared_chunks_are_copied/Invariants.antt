use Rattle.vv_diff.proofs.tests.two_unshared_chunks_are_copied.Given as goal

abbrev pub ghosts-made_and_copied : goal.ghosts-made_and_copied
ghosts-made_and_copied g a = record { name = a.blank.name; parts = a.blank.parts }
