use Rattle.rows_run.proofs.main.Given as goal

abbrev pub ghosts-answer_rows : goal.ghosts-answer_rows
ghosts-answer_rows a = record { name = a.blank.name; parts = a.blank.parts }
