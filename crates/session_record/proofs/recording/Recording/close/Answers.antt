use Rattle.std.proofs.Common.{rules, ◌≡◌, ◌++◌, ◌∷◌, [], true}
use Rattle.session_record.proofs.KeptLemmas.{closes_well}
use Rattle.session_record.proofs.recording.Recording.close.Goals as goal

pub returns-in_ok-push-in-None-clause-ok : goal.returns-in_ok-push-in-None-clause-ok
returns-in_ok-push-in-None-clause-ok c begin events kept =
    let well : c.args.self.begins_well ≡ true = search rules in
    let text : c.push.new.self.items ≡ c.args.self.bytes.items ++ 0 ∷ [] = search rules in
    closes_well begin events c.args.self c.push.new.self.items c.in-None.is well text kept
