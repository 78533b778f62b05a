use Rattle.std.proofs.Common.{◌≡◌, ◌++◌, ◌-◌, List, ℕ}
use Rattle.sha1.specs.Sha1.{Holds}
use Rattle.message_generator.specs.Drafts.{final_texts, texts_from}
use Rattle.message_generator.proofs.texts.texts_hash.Given as goal

-- what was fed, and what is to be fed yet
abbrev pub invariant-loop-place : goal.invariant-loop-place
invariant-loop-place l = (fed : List ℕ) × (Holds l.hasher fed
    × (fed ++ texts_from (l.fn.count - l.place) l.place l.state ≡ final_texts l.fn.count))
