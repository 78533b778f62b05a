use Rattle.text_core.proofs.editing.edit_document.Given as goal

abbrev pub ghosts-edit_document_uncounted : goal.ghosts-edit_document_uncounted
ghosts-edit_document_uncounted a = record { name = a.blank.name; parts = a.blank.parts }
