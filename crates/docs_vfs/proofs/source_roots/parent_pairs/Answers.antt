use Rattle.std.proofs.Common.{◌≡◌, ℕ, ◌+◌, ◌<◌, List, ◌++◌, length, get_or, drop, Option, Some, None, option_to_list, refl, sym, ap, ◌∙◌, append_assoc, append-nil}
use Rattle.std.specs.List.{enumerate_from, filter_map, cons_option}
use Rattle.std.proofs.lemmas.List.{at_drop_more, at_drop_all}
use Rattle.docs_vfs.specs.Roots.{parent_pair}
use Rattle.docs_vfs.proofs.source_roots.parent_pairs.Goals as goal

put_before : {X : Type 0} (o : Option X) (xs : List X) → option_to_list o ++ xs ≡ cons_option o xs
put_before None xs = refl
put_before (Some x) xs = refl

one_more : {X Y : Type 0} (f : ℕ × X → Option Y) (xs : List X) (at : ℕ) (list new : List Y) (x : X) → at < length xs → x ≡ get_or xs at x → new ≡ list ++ option_to_list (f (at, x))
    → new ++ filter_map f (enumerate_from (at + 1) (drop (at + 1) xs)) ≡ list ++ filter_map f (enumerate_from at (drop at xs))
one_more f xs at list new x some is grows =
    let later = filter_map f (enumerate_from (at + 1) (drop (at + 1) xs)) in
    ap (λ l. l ++ later) grows ∙ append_assoc list (option_to_list (f (at, x))) later
    ∙ ap (λ l. list ++ l) (put_before (f (at, x)) later)
    ∙ ap (λ y. list ++ cons_option (f (at, y)) later) is
    ∙ sym (at_drop_more (λ l. list ++ filter_map f (enumerate_from at l)) xs at x some)

pub loop-at-preserved : goal.loop-at-preserved
loop-at-preserved c =
    one_more (parent_pair c.args.roots.now) c.args.roots.now c.loop-at.at c.loop-at.list c.push_parent.new.list c.index-roots-at.result c.loop-at-test.true c.index-roots-at.is
    (c.in_ok-push_parent.ensures c.args.roots.now c.requires.index)
    ∙ c.loop-at.invariant

pub returns : goal.returns
returns c =
    sym (append-nil c.loop-at.list)
    ∙ sym (at_drop_all (λ l. c.loop-at.list ++ filter_map (parent_pair c.args.roots.now) (enumerate_from c.loop-at.at l)) c.args.roots.now c.loop-at.at c.loop-at-test.false)
    ∙ c.loop-at.invariant
