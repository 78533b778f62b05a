-- Segments that are taken one after another.
use Rattle.std.proofs.Common.{◌≡◌, ℕ, ◌+◌, ◌<◌, Bool, true, false, List, [], ◌∷◌, ◌++◌, length, get_or, take, drop, Option, Some, None, sym, refl, ap, ◌∙◌, subst, take-append-drop}
use Rattle.std.specs.Prelude.{codes, bytes_eq, if◌then◌else◌}
use Rattle.std.specs.List.{fold, list_any, before_last}
use Rattle.std.specs.Option.{option_and_then}
use Rattle.std.proofs.lemmas.Bool.{cond-true, cond-false}
use Rattle.std.proofs.lemmas.List.{take_more}
use Rattle.std.proofs.lemmas.List.Sums.{fold_push, fold-append}
use Rattle.docs_vfs.specs.Paths.{is_slash}
use Rattle.docs_vfs.specs.declared.relative.EmptySegments.{EmptySegments}
use Rattle.docs_vfs.specs.Resolve.{is_name, stays, step, walk}
use Rattle.docs_vfs.specs.Fronts.{whole, IsFront, Reaches}
use Rattle.docs_vfs.proofs.FrontLemmas.{up_none, up_some, name_from, name_below, whole_below}

pub pop_reaches : (empty : EmptySegments) (text segment new : List ℕ) (popped : Bool) → IsFront text → stays empty segment ≡ false → bytes_eq segment (codes "..") ≡ true → popped ≡ list_any is_slash text
    → new ≡ (if popped then before_last is_slash text else text) → Reaches popped (step empty (whole text) segment) new
pop_reaches empty text segment new true f goes dots some is =
    let u = up_some text f (sym some) in (
      cond-false _ _ _ goes ∙ cond-true _ _ _ dots ∙ u.parent ∙ ap (λ l. Some (whole l)) (sym is),
      subst IsFront (sym is) u.front,
    )
pop_reaches empty text segment new false f goes dots none is = cond-false _ _ _ goes ∙ cond-true _ _ _ dots ∙ up_none text f (sym none)

pub down_reaches : (empty : EmptySegments) (text segment new : List ℕ) → IsFront text → stays empty segment ≡ false → bytes_eq segment (codes "..") ≡ false → is_name segment ≡ true
    → new ≡ text ++ 47 ∷ segment → Reaches true (step empty (whole text) segment) new
down_reaches empty text segment new f goes dots name is = (
  cond-false _ _ _ goes ∙ cond-false _ _ _ dots ∙ cond-true _ _ _ name ∙ ap (λ l. Some (l ++ 47 ∷ segment)) f.same
      ∙ ap Some (sym (whole_below text segment)) ∙ ap (λ l. Some (whole l)) (sym is),
  subst IsFront (sym is) (name_below text segment f (name_from segment name)),
)

-- ---- the walk so far, and one segment more

pub walk_none : (empty : EmptySegments) (segments : List (List ℕ)) → fold (λ at segment. option_and_then (λ path. step empty path segment) at) None segments ≡ None
walk_none empty [] = refl
walk_none empty (s ∷ segments) = walk_none empty segments

pub walk_push : (empty : EmptySegments) (base path : List ℕ) (segments : List (List ℕ)) (segment : List ℕ) → walk empty base segments ≡ Some path → walk empty base (segments ++ segment ∷ []) ≡ step empty path segment
walk_push empty base path segments segment so_far =
    fold_push (λ at segment. option_and_then (λ path. step empty path segment) at) (Some base) segments segment
    ∙ ap (λ at. option_and_then (λ path. step empty path segment) at) so_far

pub walk_more : (empty : EmptySegments) (base text segment new : List ℕ) (segments : List (List ℕ)) → Reaches true (walk empty base segments) text → Reaches true (step empty (whole text) segment) new
    → Reaches true (walk empty base (segments ++ segment ∷ [])) new
walk_more empty base text segment new segments so_far more = (walk_push empty base (whole text) segments segment so_far.0 ∙ more.0, more.1)

pub walk_stops : (empty : EmptySegments) (base text segment : List ℕ) (all : List (List ℕ)) (n : ℕ) → (n < length all) × (segment ≡ get_or all n segment) → walk empty base (take n all) ≡ Some (whole text)
    → step empty (whole text) segment ≡ None → walk empty base all ≡ None
walk_stops empty base text segment all n at so_far stop =
    let to = λ (a : Option (List ℕ)) (s : List ℕ). option_and_then (λ path. step empty path s) a in
    let split : all ≡ (take n all ++ segment ∷ []) ++ drop (n + 1) all =
    sym (take-append-drop (n + 1) all) ∙ ap (λ l. l ++ drop (n + 1) all) (take_more all n segment at.0 ∙ ap (λ x. take n all ++ x ∷ []) (sym at.1)) in
    ap (walk empty base) split
    ∙ fold-append to (Some base) (take n all ++ segment ∷ []) (drop (n + 1) all)
    ∙ ap (λ a. fold to a (drop (n + 1) all)) (walk_push empty base (whole text) (take n all) segment so_far ∙ stop)
    ∙ walk_none empty (drop (n + 1) all)
