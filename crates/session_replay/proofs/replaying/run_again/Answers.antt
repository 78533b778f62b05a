use Rattle.std.proofs.Common.{rules, ◌≡◌, ap}
use Rattle.std.specs.Prelude.{Ok, Err, Some}
use Rattle.host_fakes.specs.Script.{HostileData}
use Rattle.session_replay.specs.Beginning.{config_of}
use Rattle.session_replay.proofs.Running.{runs-anew, never-ran-anew, never-rose}
use Rattle.session_replay.proofs.replaying.run_again.Goals as goal

pub returns-in-Err-clause-runs : goal.returns-in-Err-clause-runs
returns-in-Err-clause-runs g c = never-ran-anew _ _ _ _ _ _ (ap (λ (h : HostileData). h.calls) c.requires.new) c.requires.begins

pub returns-in-Ok-clause-runs : goal.returns-in-Ok-clause-runs
returns-in-Ok-clause-runs g c =
    let has : config_of c.args.begin.now ≡ Some c.in-Ok-Some.config = search rules in
    runs-anew _ _ c.in-Ok-Some.config _ c.main_loop.new.host.events _ _ _ _ _ (Ok tt) (ap (λ (h : HostileData). h.calls) c.requires.new) has c.in-Ok.ensures.origin_stays
    c.in-Ok.ensures.run (λ e. absurd cc) (λ e. absurd cc)

pub returns-in-Err-main_loop-clause-runs : goal.returns-in-Err-main_loop-clause-runs
returns-in-Err-main_loop-clause-runs g c =
    let has : config_of c.args.begin.now ≡ Some c.in-Ok-Some.config = search rules in
    runs-anew _ _ c.in-Ok-Some.config _ c.main_loop.new.host.events _ _ _ _ _ (Err c.in-Err-main_loop.error) (ap (λ (h : HostileData). h.calls) c.requires.new) has
    c.in-Err-main_loop.ensures.origin_stays c.in-Err-main_loop.ensures.run (λ e. never-rose (c.in-Err-main_loop.ensures.host_fault e))
    (λ e. c.in-Err-main_loop.ensures.write_fault e)
