use Rattle.vv_pool.proofs.tests.each_call_once.Given as goal

abbrev pub ghosts-raise_once : goal.ghosts-raise_once
ghosts-raise_once g a = record { name = a.blank.name; parts = a.blank.parts }
