-- What stands in a list, in order.
use Rattle.std.proofs.Common.{◌≡◌, List, [], ◌∷◌, ◌++◌, refl, sym, ap, ◌∙◌, append_assoc}
use Rattle.session_model.specs.Sublists.{IsSublist}

pub sublist-itself : {X : Type 0} (items : List X) → IsSublist items items
sublist-itself [] = tt
sublist-itself (item ∷ items) = ([], items, refl, sublist-itself items)

-- and in a longer one
pub sublist-append : {X : Type 0} (items all more : List X) → IsSublist items all → IsSublist items (all ++ more)
sublist-append [] all more h = tt
sublist-append {X} (item ∷ items) all more (before, behind, is, h) =
    (before, behind ++ more, ap (λ (xs : List X). xs ++ more) is ∙ append_assoc before (item ∷ behind) more, sublist-append items behind more h)

-- also where more stands before it
pub sublist-behind : {X : Type 0} (items first all : List X) → IsSublist items all → IsSublist items (first ++ all)
sublist-behind [] first all h = tt
sublist-behind {X} (item ∷ items) first all (before, behind, is, h) =
    (first ++ before, behind, ap (λ (xs : List X). first ++ xs) is ∙ sym (append_assoc first before (item ∷ behind)), h)

-- one list behind the other
pub sublist-joined : {X : Type 0} (items more all others : List X) → IsSublist items all → IsSublist more others → IsSublist (items ++ more) (all ++ others)
sublist-joined [] more all others h k = sublist-behind more all others k
sublist-joined {X} (item ∷ items) more all others (before, behind, is, h) k = (
  before,
  behind ++ others,
  ap (λ (xs : List X). xs ++ others) is ∙ append_assoc before (item ∷ behind) others,
  sublist-joined items more behind others h k,
)
