use Rattle.std.proofs.Common.{◌≡◌, ◌-◌, ◌+◌, ◌≤◌, ◌<◌, length, take, drop, subst, sym, arith}
use Rattle.std.specs.Prelude.{All}
use Rattle.std.proofs.lemmas.Grind.{common_steps}
use Rattle.text_core.specs.Starts.{line_starts}
use Rattle.text_core.proofs.MovedLemmas.{Splits, moved_fits, moved_all}
use Rattle.text_core.proofs.text_index.TextIndex.starts_of.Goals as goal

pub push_moved-requires : goal.push_moved-requires
push_moved-requires c =
    let all : c.self.inside.starts.items ≡ line_starts c.args.self.now = cc in
    let size : c.len.result ≡ length c.args.self.now = grind (arith, common_steps) in
    let place = c.len.result - c.args.ends.back in
    let back = subst (λ l. Splits l place c.starts_up_to-back.result) c.deref-2.ensures.value c.starts_up_to-back.ensures.splits in
    subst (λ l. All (λ start. (place ≤ start) × (start - place + (length c.args.text.now - c.args.ends.back) < 4294967296))
    (take (length l - c.starts_up_to-back.result) (drop c.starts_up_to-back.result l))) (sym c.deref-4.ensures.value)
    (moved_fits c.args.self.now c.args.text.now c.args.ends c.self.inside.starts.items c.len.result c.starts_up_to-back.result c.requires.ends c.requires.within size all back)

pub returns : goal.returns
returns c =
    let all : c.self.inside.starts.items ≡ line_starts c.args.self.now = cc in
    let size : c.len.result ≡ length c.args.self.now = grind (arith, common_steps) in
    let place = c.len.result - c.args.ends.back in
    let front = subst (λ l. Splits l c.args.ends.front c.starts_up_to-front.result) c.deref.ensures.value c.starts_up_to-front.ensures.splits in
    let back = subst (λ l. Splits l place c.starts_up_to-back.result) c.deref-2.ensures.value c.starts_up_to-back.ensures.splits in
    let moved = moved_all c.args.self.now c.args.text.now c.args.ends c.self.inside.starts.items c.len.result c.starts_up_to-front.result c.starts_up_to-back.result
    c.requires.ends size all front back in
    grind (arith, common_steps)
