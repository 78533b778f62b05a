-- The partners that are kept are those that all brackets have.
use Rattle.std.proofs.Common.{◌≡◌, ℕ, ◌+◌, Bool, true, false, cond, List, refl, ap, sym, subst, ◌∙◌, eq-eqb}
use Rattle.std.specs.Prelude.{Option, None, Some, is_some, ◌==◌}
use Rattle.std.specs.Cmp.{nat_cmp_total, unsigned_tied}
use Rattle.std.specs.FinMap as map
use Rattle.std.specs.Ordering.{nat_cmp}
use Rattle.std.proofs.lemmas.Bool.{eqb-true, false≢true}
use Rattle.small_analysis.specs.Asked.{Places, is_asked, paired_asked, with_partner, IsAsked, KeepsAsked}
use Rattle.small_analysis.specs.Brackets.{Brackets, bracket_near, brackets_before, located, opener_of, openers_with, paired}
use Rattle.small_analysis.specs.Positions.{place_in}
use Rattle.small_analysis.specs.declared.brackets.Bracket.{Bracket}
use Rattle.text_core.specs.declared.position.Position.{Position}
use Rattle.text_core.specs.declared.position.PositionEncoding.{PositionEncoding}
use Rattle.small_analysis.proofs.BracketLemmas.{brackets_more}

abbrev Partners : Type 0
Partners = map.FinMap nat_cmp Bracket

-- a value at a place, as numbers are compared
pub at_place : {X : Type 0} (m : map.FinMap nat_cmp X) (place : ℕ) (x : X) (q : ℕ) → map.get (map.insert m place x) q ≡ cond (q == place) (Some x) (map.get m q)
at_place m place x q =
    map.get-insert nat_cmp_total m place x q ∙ ap (λ b. cond b (Some x) (map.get m q)) (unsigned_tied q place)

-- what is asked for stays so
pub asked_more : (asked : Places) (place q : ℕ) → is_asked asked q ≡ true → is_asked (map.insert asked place tt) q ≡ true
asked_more asked place q is = ap is_some (at_place asked place tt q) ∙ by_place (q == place)
  where
    by_place : (b : Bool) → is_some (cond b (Some tt) (map.get asked q)) ≡ true
    by_place true = refl
    by_place false = is

pub asked_here : (asked : Places) (place : ℕ) → is_asked (map.insert asked place tt) place ≡ true
asked_here asked place = ap is_some (at_place asked place tt place) ∙ same (place == place) (eqb-refl place)
  where
    same : (b : Bool) → b ≡ true → is_some (cond b (Some tt) (map.get asked place)) ≡ true
    same b is = ap (λ b. is_some (cond b (Some tt) (map.get asked place))) is

    eqb-refl : (n : ℕ) → (n == n) ≡ true
    eqb-refl n = eq-eqb n n refl

some_number : (a b : ℕ) → Some a ≡ Some b → a ≡ b
some_number a b e = cc

-- with the bracket near a position
pub asks : (encoding : PositionEncoding) (asked new : Places) (text : List ℕ) (position : Position) (place near : ℕ) → Some place ≡ place_in encoding text position
    → Some near ≡ bracket_near text place → new ≡ map.insert asked near tt → IsAsked encoding text new position
asks encoding asked new text position place near at is put p p_at q q_is =
    let here : place ≡ p = some_number place p (at ∙ p_at) in
    let its : near ≡ q = some_number near q (is ∙ ap (bracket_near text) here ∙ q_is) in
    ap (λ m. is_asked m q) put ∙ ap (λ n. is_asked (map.insert asked n tt) q) its ∙ asked_here asked q

pub others_asked : (asked new : Places) (near : ℕ) → new ≡ map.insert asked near tt → (q : ℕ) → is_asked asked q ≡ true → is_asked new q ≡ true
others_asked asked new near put q is = ap (λ m. is_asked m q) put ∙ asked_more asked near q is

pub asked_still : (encoding : PositionEncoding) (asked new : Places) (text : List ℕ) (position : Position) → ((q : ℕ) → is_asked asked q ≡ true → is_asked new q ≡ true)
    → IsAsked encoding text asked position → IsAsked encoding text new position
asked_still encoding asked new text position more is place at near its = more near (is place at near its)

module _ (asked : Places) where
  -- a partner more among all, and among those that are kept
  partner_kept : (all kept : Partners) (place : ℕ) (partner : Bracket) → KeepsAsked asked all kept
      → KeepsAsked asked (map.insert all place partner) (with_partner asked kept place partner)
  partner_kept all kept place partner keeps q is = by_asked (is_asked asked place) refl
    where
      by_asked : (b : Bool) → is_asked asked place ≡ b → map.get (cond b (map.insert kept place partner) kept) q ≡ map.get (map.insert all place partner) q
      by_asked true here =
          at_place kept place partner q ∙ ap (λ found. cond (q == place) (Some partner) found) (keeps q is) ∙ sym (at_place all place partner q)
      by_asked false here = by_place (q == place) refl
        where
          by_place : (b : Bool) → (q == place) ≡ b → map.get kept q ≡ map.get (map.insert all place partner) q
          by_place true same = absurd (false≢true (sym here ∙ ap (is_asked asked) (sym (eqb-true q place same)) ∙ is))
          by_place false other =
              keeps q is ∙ sym (at_place all place partner q ∙ ap (λ b. cond b (Some partner) (map.get all q)) other)

  -- the brackets of a text, and the same with the partners that are asked for
  pub record Keeps (all : Brackets) (stack : List Bracket) (kept : Partners) : Type 0 where
    pub openers : stack ≡ all.openers
    pub partners : KeepsAsked asked all.partners kept

  pair_kept : (here : Bracket) (opener : Option Bracket) (all kept : Partners) → KeepsAsked asked all kept
      → KeepsAsked asked (paired here opener all) (paired_asked asked here opener kept)
  pair_kept here None all kept keeps = keeps
  pair_kept here (Some opener) all kept keeps = partner_kept _ _ here.place opener (partner_kept all kept opener.place here keeps)

pub step_kept : (asked : Places) (text : List ℕ) (n : ℕ) (openers new : List Bracket) (opener : Option Bracket) (kept now : Partners)
    → Keeps asked (brackets_before text n) openers kept → new ≡ openers_with (located text n) openers → opener ≡ opener_of (located text n) openers
    → now ≡ paired_asked asked (located text n) opener kept → Keeps asked (brackets_before text (n + 1)) new now
step_kept asked text n openers new opener kept now keeps new_is opener_is now_is =
    let all = brackets_before text n in
    let here = located text n in
    let its : opener ≡ opener_of here all.openers = opener_is ∙ ap (opener_of here) keeps.openers in
    subst (λ brackets. Keeps asked brackets new now) (sym (brackets_more text n)) (record {
      openers = new_is ∙ ap (openers_with here) keeps.openers;
      partners =
          subst (KeepsAsked asked (paired here (opener_of here all.openers) all.partners)) (sym now_is)
          (subst (λ o. KeepsAsked asked (paired here o all.partners) (paired_asked asked here opener kept)) its
          (pair_kept asked here opener all.partners kept keeps.partners));
    })
