use Rattle.std.proofs.Common.{◌≡◌, ◌≤◌, length, false}
use Rattle.session_replay.specs.Gathering.{most_bytes}
use Rattle.session_replay.proofs.Gathered.{Taken}
use Rattle.session_replay.proofs.gathering.gather.Given as goal

abbrev pub invariant-loop : goal.invariant-loop
invariant-loop g l = record {
  so_far : Taken (g.H.Host.calls l.fn.host) (g.H.Host.calls l.host) l.bytes.items l.counter;
  usable : g.H.Host.poisoned l.host ≡ false;
  fits : length l.bytes.items ≤ most_bytes;
  faults : g.H.Host.faults l.host ≡ g.H.Host.faults l.fn.host;
}
