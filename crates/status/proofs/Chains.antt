-- Facts that are added one after another.
use Rattle.std.proofs.Common.{◌≡◌, List, ap, ◌∙◌}
use Rattle.status.specs.Drafts.{Fact, add_all}
use Rattle.status.specs.declared.draft.Draft.{Draft}

pub four_added : (a b c d : List Fact) (d0 d1 d2 d3 d4 : Draft) → d1 ≡ add_all a d0 → d2 ≡ add_all b d1 → d3 ≡ add_all c d2 → d4 ≡ add_all d d3
    → d4 ≡ add_all d (add_all c (add_all b (add_all a d0)))
four_added a b c d d0 d1 d2 d3 d4 one two three four = four ∙ ap (add_all d) (three ∙ ap (add_all c) (two ∙ ap (add_all b) one))
