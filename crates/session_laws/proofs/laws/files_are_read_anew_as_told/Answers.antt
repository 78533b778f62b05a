use Rattle.session_laws.proofs.Rereading.{turns-read}
use Rattle.session_laws.proofs.laws.files_are_read_anew_as_told.Goals as goal

pub returns : goal.returns
returns c = turns-read
