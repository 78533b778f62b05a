use Rattle.ra_settings.proofs.PathLaws.{empty_segments_refused, nothing_refused}
use Rattle.ra_settings.proofs.laws.empty_segments_are_refused.Goals as goal

pub returns : goal.returns
returns c = record { segments = empty_segments_refused; nothing = nothing_refused }
