use Rattle.session_files.proofs.SoundLemmas.{all_taken, none_differ, some_differ}
use Rattle.session_files.proofs.laws.changed_files_are_the_difference.Goals as goal

pub returns : goal.returns
returns c = record {
  none = none_differ;
  some = some_differ;
  processed = all_taken;
}
