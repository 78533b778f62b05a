use Rattle.docs_vfs.proofs.ResolveLaws.{resolve_path, resolve_plain, resolve_absolute}
use Rattle.docs_vfs.proofs.path_laws.resolved_texts_are_paths.Goals as goal

pub returns : goal.returns
returns c = record { path = resolve_path; appended = resolve_plain; absolute = resolve_absolute }
