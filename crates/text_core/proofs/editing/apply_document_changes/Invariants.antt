use Rattle.text_core.proofs.editing.apply_document_changes.Given as goal

abbrev pub ghosts-edit_uncounted : goal.ghosts-edit_uncounted
ghosts-edit_uncounted a = record { name = a.blank.name; parts = a.blank.parts }
