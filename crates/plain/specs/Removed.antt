-- An object's members after one was taken out.
use Rattle.std.specs.Prelude.{ℕ, List}
use Rattle.std.specs.Ordering.{nat_cmp, match_ordering}
use Rattle.std.specs.Cmp.Lexicographic.{slice_cmp}
use Rattle.serde_json.specs.Data.{Members, no_members, member}

-- the members without the one at k
abbrev pub removed : List ℕ → Members → Members
removed k no_members = no_members
removed k (member l d ms) = match_ordering (slice_cmp nat_cmp k l) (member l d (removed k ms)) ms (member l d (removed k ms))
