-- What became of a file.
use Rattle.std.specs.Prelude.{Bool, true, false}
use Rattle.docs_vfs.specs.declared.file_kinds.ChangeKind.{ChangeKind}
use Rattle.docs_vfs.specs.declared.file_kinds.ChangeKind.TheVariants.{Create, Modify, Delete}

-- the file came or went
abbrev pub is_created_or_deleted : ChangeKind → Bool
is_created_or_deleted Create = true
is_created_or_deleted Modify = false
is_created_or_deleted Delete = true
