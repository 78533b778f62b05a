use Rattle.std.proofs.Common.{◌≡◌, ◌+◌, ◌<◌, ◌∷◌, ◌++◌, [], List, ℕ, length, map, ap, sym, ◌∙◌, append_assoc, arith}
use Rattle.std.proofs.lemmas.Grind.{common_steps}
use Rattle.std.proofs.lemmas.List.Elements.{All-same, All-tail}
use Rattle.text_core.proofs.StartLemmas.{line_places_within, places_start}
use Rattle.text_core.proofs.starts.push_starts.Goals as goal

built_more : (starts new places rest all : List ℕ) (at k : ℕ) → places ≡ k ∷ rest → starts ++ map (λ n. at + n + 1) places ≡ all → new ≡ starts ++ (at + k + 1) ∷ []
    → new ++ map (λ n. at + n + 1) rest ≡ all
built_more starts new places rest all at k first before pushed =
    ap (λ l. l ++ map (λ n. at + n + 1) rest) pushed ∙ append_assoc starts ((at + k + 1) ∷ []) (map (λ n. at + n + 1) rest)
    ∙ sym (ap (λ l. starts ++ map (λ n. at + n + 1) l) first) ∙ before

pub loop-offset-init : goal.loop-offset-init
loop-offset-init c = record {
  built = grind (arith, common_steps, places_start c.args.part.now c.args.place);
  within = grind (arith, common_steps, line_places_within c.args.part.now);
}

pub loop-offset-preserved : goal.loop-offset-preserved
loop-offset-preserved c =
    let first : c.loop-offset.offset-iterator ≡ c.in-Some.offset ∷ c.next.new.self = c.in-Some.ensures.steps in
    record {
      built = built_more c.loop-offset.starts.items c.push.new.self.items _ _ _ c.args.place c.in-Some.offset first c.loop-offset.invariant.built c.in_ok-push.ensures.items;
      within = All-tail (λ n. n < length c.args.part.now) _ _ (All-same (λ n. n < length c.args.part.now) _ _ (sym first) c.loop-offset.invariant.within);
    }
