use Rattle.vv_bitmap.proofs.tests.one_chunk_is_allocated_and_unshared.Given as goal

abbrev pub ghosts-put_once : goal.ghosts-put_once
ghosts-put_once g a = record { name = a.blank.name; parts = a.blank.parts }
