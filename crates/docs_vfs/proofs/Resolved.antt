-- What a text that is taken from a path comes to.
use Rattle.std.proofs.Common.{◌≡◌, ◌≢◌, ℕ, true, false, ◌==◌, List, [], ◌∷◌, length, Some, refl, ap, ◌∙◌}
use Rattle.std.specs.Prelude.{codes}
use Rattle.std.proofs.lemmas.Bool.{cond-true, cond-false, ne_eqb}
use Rattle.docs_vfs.specs.Paths.{parts, segments_of}
use Rattle.docs_vfs.specs.declared.relative.EmptySegments.{EmptySegments}
use Rattle.docs_vfs.specs.Resolve.{walk, begins_with_slash, resolve}

no_slash : (text : List ℕ) → ((rest : List ℕ) → text ≢ 47 ∷ rest) → begins_with_slash text ≡ false
no_slash [] other = refl
no_slash (b ∷ rest) other = ne_eqb b 47 (λ slash. other rest (ap (λ x. x ∷ rest) slash))

pub relative_is : (empty : EmptySegments) (base text : List ℕ) → ((rest : List ℕ) → text ≢ 47 ∷ rest) → resolve empty base text ≡ walk empty base (parts text)
unfolding resolve
relative_is empty base text other = cond-false _ _ _ (no_slash text other)

from_root : (empty : EmptySegments) (base rest : List ℕ) → resolve empty base (47 ∷ rest) ≡ walk empty (codes "/") (segments_of (47 ∷ rest))
unfolding resolve
from_root empty base rest = refl

pub root_alone_is : (empty : EmptySegments) (base text rest : List ℕ) → text ≡ 47 ∷ rest → (length rest == 0) ≡ true → resolve empty base text ≡ Some (codes "/")
root_alone_is empty base text rest is none = ap (resolve empty base) is ∙ from_root empty base rest ∙ ap (walk empty (codes "/")) (cond-true _ _ _ none)

pub absolute_is : (empty : EmptySegments) (base text rest : List ℕ) → text ≡ 47 ∷ rest → (length rest == 0) ≡ false → resolve empty base text ≡ walk empty (codes "/") (parts rest)
absolute_is empty base text rest is some = ap (resolve empty base) is ∙ from_root empty base rest ∙ ap (walk empty (codes "/")) (cond-false _ _ _ some)
