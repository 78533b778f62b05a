use Rattle.std.proofs.Common.{ap, rules}
use Rattle.std.specs.Result.{IsOk}
use Rattle.shared_map.proofs.Descent.{alike}
use Rattle.shared_map.proofs.change.with_entry.Goals as goal

pub returns-in_ok-left-in-None-clause-entries : goal.returns-in_ok-left-in-None-clause-entries
returns-in_ok-left-in-None-clause-entries g c =
    let like = alike c.in_ok-left-in-None.ensures.ok in
    rw c.in-None.is (rw (like.left, like.right) at c.join.ensures.entries)

pub returns-in_ok-fork-in-Some-clause-entries : goal.returns-in_ok-fork-in-Some-clause-entries
returns-in_ok-fork-in-Some-clause-entries g c =
    let fork = c.in_ok-fork-in-Some.fork.now in
    let like = alike c.in_ok-fork-in-Some.ensures.value in
    let ok : IsOk c.make_mut.result = rw c.in_ok-fork-in-Some.was (search rules) in
    let told = c.make_mut.follows.holds (record { left = fork.left; entry = (c.args.key, c.in-Some.value); right = fork.right }) ok in
    rw c.in-Some.is (rw (like.left, like.right) at (ap (λ tree. tree.0) (rw told at c.over.ensures)))
