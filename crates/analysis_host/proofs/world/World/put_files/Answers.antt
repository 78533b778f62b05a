use Rattle.std.proofs.Common.{rules, ◌≡◌, ◌+◌, ◌∷◌, ap, length, arith}
use Rattle.std.specs.Vec.Iter.{into_iter_items}
use Rattle.std.specs.FinMap as map
use Rattle.analysis_host.specs.HostData.{with_entry}
use Rattle.analysis_host.proofs.Counting.{nothing_done, not_all, one_more, len_with}
use Rattle.analysis_host.proofs.world.World.put_files.Goals as goal

pub loop-file-init : goal.loop-file-init
loop-file-init g c =
    let all : into_iter_items c.into_iter-file-iterator.result ≡ c.args.files = search rules in
    let old : c.take-texts.result ≡ c.args.self.now.texts = search rules in
    let many = ap length all in
    let long = ap map.len old in
    record { same = search rules; done = 0; of_all = omega arith; grown = omega arith; quick = nothing_done _ _ _ }

pub returns-in_err-put_entry-clause-cost : goal.returns-in_err-put_entry-clause-cost
returns-in_err-put_entry-clause-cost g c =
    let so_far = c.loop-file.invariant in
    let left : into_iter_items c.loop-file.file-iterator ≡ c.in-Some.file ∷ into_iter_items c.next.new.self = search rules in
    let many = ap length left in
    not_all (one_more so_far.quick c.put_entry.ensures.cost (omega arith)) (omega arith)

pub loop-file-preserved : goal.loop-file-preserved
loop-file-preserved g c =
    let so_far = c.loop-file.invariant in
    let left : into_iter_items c.loop-file.file-iterator ≡ c.in-Some.file ∷ into_iter_items c.next.new.self = search rules in
    let many = ap length left in
    let new : c.put_entry.new.texts ≡ with_entry c.in-Some.file.path c.in-Some.file.entry c.loop-file.texts = c.in_ok-put_entry.ensures.ok in
    let long = ap map.len new in
    let most = len_with c.in-Some.file.path c.in-Some.file.entry c.loop-file.texts in
    record { same = search rules; done = so_far.done + 1; of_all = omega arith; grown = omega arith; quick = one_more so_far.quick c.put_entry.ensures.cost (omega arith) }
