use Rattle.file_ids.proofs.FileIds.replace.Given as goal

abbrev pub ghosts-replace_uncounted : goal.ghosts-replace_uncounted
ghosts-replace_uncounted a = record { name = a.blank.name; parts = a.blank.parts }
