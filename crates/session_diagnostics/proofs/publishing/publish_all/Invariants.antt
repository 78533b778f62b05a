use Rattle.std.proofs.Common.{◌≡◌, drop}
use Rattle.session_model.specs.Machine.{all_published}
use Rattle.session_diagnostics.proofs.publishing.publish_all.Given as goal

abbrev pub invariant-loop-file : goal.invariant-loop-file
invariant-loop-file l =
    all_published (drop l.file-index l.files) (record { state = l.store; out = l.out }) ≡ all_published
    l.files (record { state = l.store; out = l.initial.out })
