use Rattle.docs_vfs.proofs.Escapes.{escapes}
use Rattle.docs_vfs.proofs.file_url.url_escapes_are_listed.Goals as goal

pub returns : goal.returns
returns c = record { law = escapes }
