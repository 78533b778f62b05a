-- The brackets that match stand opener before closer, are of one kind, are each other's partners, and nest.
use Rattle.std.proofs.Common.{◌≡◌, ◌≢◌, ℕ, zero, suc, ◌+◌, ◌<◌, ◌≤◌, inl, inr, Bool, true, false, cond, List, [], ◌∷◌, refl, ap, sym, subst, ◌∙◌, arith, eq-eqb}
use Rattle.std.specs.Prelude.{Option, Some, None, ◌==◌}
use Rattle.std.specs.Cmp.{nat_cmp_total, unsigned_tied}
use Rattle.std.specs.FinMap as map
use Rattle.std.specs.Ordering.{nat_cmp}
use Rattle.std.proofs.lemmas.Bool.{cases_lt, cond-true, cond-false, eqb-true, ne_eqb}
use Rattle.std.proofs.lemmas.Bool.Decides.{nat_tests}
use Rattle.small_analysis.specs.Brackets.{Brackets, brackets_before, closes, is_opener, left_by, located, opener_of, paired, with_byte, IsPair, AreMatched, AreNested, IsMatching}
use Rattle.small_analysis.specs.declared.brackets.Bracket.{Bracket}

abbrev Partners : Type 0
Partners = map.FinMap nat_cmp Bracket

-- an opener that is open has no partner, and stands in no pair
record IsOpen (text : List ℕ) (high : ℕ) (partners : Partners) (opener : Bracket) : Type 0 where
  pub under : opener.place < high
  pub there : opener ≡ located text opener.place
  pub free : map.get partners opener.place ≡ None
  pub outside : (place : ℕ) (partner : Bracket) → map.get partners place ≡ Some partner → place < opener.place → partner.place < opener.place

-- the openers that are open stand before each other
abbrev AreOpen : List ℕ → ℕ → Partners → List Bracket → Type 0
AreOpen text high partners [] = Unit {0}
AreOpen text high partners (opener ∷ below) = IsOpen text high partners opener × AreOpen text opener.place partners below

record IsSound (text : List ℕ) (n : ℕ) (brackets : Brackets) : Type 0 where
  pub openers : AreOpen text n brackets.partners brackets.openers
  pub bound : (place : ℕ) (partner : Bracket) → map.get brackets.partners place ≡ Some partner → place < n
  pub matching : IsMatching text brackets.partners
  pub nested : AreNested brackets.partners

open_further : (text : List ℕ) (high higher : ℕ) (partners : Partners) (openers : List Bracket) → high ≤ higher → AreOpen text high partners openers → AreOpen text higher partners openers
open_further text high higher partners [] up are = tt
open_further text high higher partners (opener ∷ below) up are =
    (record { under = omega (arith, up, are.0.under); there = are.0.there; free = are.0.free; outside = are.0.outside }, are.1)

-- with other partners from a place on
open_still : (text : List ℕ) (high : ℕ) (old new : Partners) (openers : List Bracket) → ((place : ℕ) → place < high → map.get new place ≡ map.get old place)
    → AreOpen text high old openers → AreOpen text high new openers
open_still text high old new [] same are = tt
open_still text high old new (opener ∷ below) same are =
    let under : opener.place < high = are.0.under in (
      record {
        under = under;
        there = are.0.there;
        free = same opener.place under ∙ are.0.free;
        outside = λ place partner is before. are.0.outside place partner (sym (same place (omega (arith, before, under))) ∙ is) before;
      },
      open_still text opener.place old new below (λ place before. same place (omega (arith, before, under))) are.1,
    )

none_is : {X : Type 0} (x : X) → None ≡ Some x → ⊥
none_is x e = cc

some_is : (a b : Bracket) → Some a ≡ Some b → a ≡ b
some_is a b e = cc

-- the partners with one pair more
module _ (partners : Partners) (top here : Bracket) (apart : top.place ≢ here.place) where
  abbrev with_pair : Partners
  with_pair = map.insert (map.insert partners top.place here) here.place top

  look : (place : ℕ) → map.get with_pair place ≡ cond (place == here.place) (Some top) (cond (place == top.place) (Some here) (map.get partners place))
  look place =
      map.get-insert nat_cmp_total (map.insert partners top.place here) here.place top place
      ∙ ap (λ b. cond b (Some top) (map.get (map.insert partners top.place here) place)) (unsigned_tied place here.place)
      ∙ ap (λ found. cond (place == here.place) (Some top) found)
      (map.get-insert nat_cmp_total partners top.place here place ∙ ap (λ b. cond b (Some here) (map.get partners place)) (unsigned_tied place top.place))

  at_here : map.get with_pair here.place ≡ Some top
  at_here = look here.place ∙ cond-true _ _ _ (eq-eqb here.place here.place refl)

  at_top : map.get with_pair top.place ≡ Some here
  at_top = look top.place ∙ cond-false _ _ _ (ne_eqb _ _ apart) ∙ cond-true _ _ _ (eq-eqb top.place top.place refl)

  elsewhere : (place : ℕ) → place ≢ here.place → place ≢ top.place → map.get with_pair place ≡ map.get partners place
  elsewhere place not_here not_top = look place ∙ cond-false _ _ _ (ne_eqb _ _ not_here) ∙ cond-false _ _ _ (ne_eqb _ _ not_top)

module _ (text : List ℕ) (n : ℕ) (openers : List Bracket) (partners : Partners) where
  abbrev Here : Bracket
  Here = located text n

  free : IsSound text n (record { openers = openers; partners = partners }) → map.get partners n ≡ None
  free sound = by_found (map.get partners n) refl
    where
      by_found : (found : Option Bracket) → map.get partners n ≡ found → found ≡ None
      by_found None is = refl
      by_found (Some partner) is = absurd (omega (arith, sound.bound n partner is))

  unchanged : IsSound text n (record { openers = openers; partners = partners }) → IsSound text (suc n) (record { openers = openers; partners = partners })
  unchanged sound = record {
    openers = open_further text n (suc n) partners openers (omega arith) sound.openers;
    bound = λ place partner is. omega (arith, sound.bound place partner is);
    matching = sound.matching;
    nested = sound.nested;
  }

  opened : IsSound text n (record { openers = openers; partners = partners }) → IsSound text (suc n) (record { openers = located text n ∷ openers; partners = partners })
  opened sound = record {
    openers = (
      record {
        under = omega arith;
        there = refl;
        free = free sound;
        outside = λ place partner is before. sound.bound partner.place (located text place) (sound.matching place partner is).back;
      },
      sound.openers,
    );
    bound = λ place partner is. omega (arith, sound.bound place partner is);
    matching = sound.matching;
    nested = sound.nested;
  }

-- a closer of the innermost opener
module _ (text : List ℕ) (n : ℕ) (top : Bracket) (below : List Bracket) (partners : Partners) (kind : closes top.byte (located text n).byte ≡ true)
    (sound : IsSound text n (record { openers = top ∷ below; partners = partners })) where
  under : top.place < n
  under = sound.openers.0.under

  apart : top.place ≢ n
  apart is = absurd (omega (arith, is, under))

  abbrev partners_now : Partners
  partners_now = map.insert (map.insert partners top.place (located text n)) n top

  still : (place : ℕ) → place ≢ n → place ≢ top.place → map.get partners_now place ≡ map.get partners place
  still = elsewhere partners top (located text n) apart

  abbrev Cases : Bool → Bool → ℕ → Option Bracket
  Cases is_here is_top place = cond is_here (Some top) (cond is_top (Some (located text n)) (map.get partners place))

  -- what has a partner now is the closer, the opener, or had that partner before
  by_place : (place : ℕ) (partner : Bracket) (P : Type 0) → map.get partners_now place ≡ Some partner → (place ≡ n → top ≡ partner → P)
      → (place ≡ top.place → located text n ≡ partner → P) → (map.get partners place ≡ Some partner → P) → P
  by_place place partner P is closer opener before = cases (place == n) (place == top.place) refl refl (sym (look partners top (located text n) apart place) ∙ is)
    where
      cases : (is_here is_top : Bool) → (place == n) ≡ is_here → (place == top.place) ≡ is_top → Cases is_here is_top place ≡ Some partner → P
      cases true is_top here at is = closer (eqb-true place n here) (some_is top partner is)
      cases false true here at is = opener (eqb-true place top.place at) (some_is (located text n) partner is)
      cases false false here at is = before is

  bound : (place : ℕ) (partner : Bracket) → map.get partners_now place ≡ Some partner → place < suc n
  bound place partner is =
      by_place place partner (place < suc n) is (λ here same. omega (arith, here)) (λ at same. omega (arith, at, under)) (λ old. omega (arith, sound.bound place partner old))

  order : IsPair top (located text n)
  order = record { order = under; kind = kind }

  matched_here : AreMatched text partners_now n top
  matched_here = record {
    there = sound.openers.0.there;
    back = at_top partners top (located text n) apart;
    pair = inr order;
  }

  matched_top : AreMatched text partners_now top.place (located text n)
  matched_top = record {
    there = refl;
    back = at_here partners top (located text n) apart ∙ ap Some sound.openers.0.there;
    pair = inl (subst (λ opener. IsPair opener (located text n)) sound.openers.0.there order);
  }

  -- a partner from before is no opener that is open
  partner_apart : (place : ℕ) (partner : Bracket) → map.get partners place ≡ Some partner → partner.place ≢ top.place
  partner_apart place partner is e =
      none_is (located text place) (sym sound.openers.0.free ∙ ap (map.get partners) (sym e) ∙ (sound.matching place partner is).back)

  partner_under : (place : ℕ) (partner : Bracket) → map.get partners place ≡ Some partner → partner.place < n
  partner_under place partner is = sound.bound partner.place (located text place) (sound.matching place partner is).back

  matched_before : (place : ℕ) (partner : Bracket) → map.get partners place ≡ Some partner → AreMatched text partners_now place partner
  matched_before place partner is =
      let old = sound.matching place partner is in
      record {
        there = old.there;
        back = still partner.place (λ e. absurd (omega (arith, e, partner_under place partner is))) (partner_apart place partner is) ∙ old.back;
        pair = old.pair;
      }

  matching : IsMatching text partners_now
  matching place partner is =
      let P : ℕ → Bracket → Type 0 = λ p q. AreMatched text partners_now p q in
      by_place place partner (AreMatched text partners_now place partner) is
      (λ here same. subst (λ p. P p partner) (sym here) (subst (P n) same matched_here))
      (λ at same. subst (λ p. P p partner) (sym at) (subst (P top.place) same matched_top))
      (matched_before place partner)

  abbrev Between : ℕ → ℕ → ℕ → Type 0
  Between low middle high = (low < middle) × (middle < high)

  -- what stands between the opener and the closer was opened and closed there
  within : (inner : ℕ) (other : Bracket) → map.get partners inner ≡ Some other → top.place < inner → Between top.place other.place n
  within inner other is after =
      let behind : top.place < other.place = elim (cases_lt other.place top.place) [
        | inl before ↦
            let back = (sound.matching inner other is).back in
            absurd (omega (arith, after, sound.openers.0.outside other.place (located text inner) back before))
        | inr not_before ↦ omega (arith, not_before, partner_apart inner other is)
      ] in
      (behind, partner_under inner other is)

  nested : AreNested partners_now
  nested outer inner its other is_outer is_inner above below =
      let Goal : Type 0 = Between outer other.place its.place in
      by_place outer its Goal is_outer
      (λ here same. absurd (omega (arith, here, above, below, ap (λ b. b.place) same, under)))
      (λ at same.
      let end : n ≡ its.place = ap (λ b. b.place) same in
      by_place inner other Goal is_inner
      (λ here same. absurd (omega (arith, here, below, end)))
      (λ top_at same. absurd (omega (arith, at, top_at, above)))
      (λ old.
      let between = within inner other old (omega (arith, at, above)) in
      (omega (arith, at, between.0), omega (arith, end, between.1))))
      (λ old.
      let end : its.place < n = partner_under outer its old in
      by_place inner other Goal is_inner
      (λ here same. absurd (omega (arith, here, below, end)))
      (λ top_at same. absurd (omega (arith, top_at, below, sound.openers.0.outside outer its old (omega (arith, top_at, above)))))
      (λ old_inner. sound.nested outer inner its other old old_inner above below))

  paired_sound : IsSound text (suc n) (record { openers = below; partners = partners_now })
  paired_sound = record {
    openers = open_further text top.place (suc n) partners_now below (omega (arith, under))
        (open_still text top.place partners partners_now below (λ place before. still place (λ e. absurd (omega (arith, e, before, under))) (λ e. absurd (omega (arith, e, before)))) sound.openers.1);
    bound = bound;
    matching = matching;
    nested = nested;
  }

left_sound : (text : List ℕ) (n : ℕ) (openers : List Bracket) (partners : Partners) → IsSound text n (record { openers = openers; partners = partners })
    → IsSound text (suc n) (record { openers = left_by (located text n) openers; partners = paired (located text n) (opener_of (located text n) openers) partners })
left_sound text n [] partners sound = unchanged text n [] partners sound
left_sound text n (top ∷ below) partners sound = by_kind (closes top.byte (located text n).byte) refl
  where
    by_kind : (b : Bool) → closes top.byte (located text n).byte ≡ b
        → IsSound text (suc n) (record { openers = cond b below (top ∷ below); partners = paired (located text n) (cond b (Some top) None) partners })
    by_kind true kind = paired_sound text n top below partners kind sound
    by_kind false kind = unchanged text n (top ∷ below) partners sound

opener_closes_none : (top b : ℕ) → is_opener b ≡ true → closes top b ≡ false
opener_closes_none top b is = grind (arith, nat_tests)

-- an opener closes nothing
pub opener_of_none : (here : Bracket) (openers : List Bracket) → is_opener here.byte ≡ true → opener_of here openers ≡ None
opener_of_none here [] is = refl
opener_of_none here (top ∷ below) is = ap (λ b. cond b (Some top) None) (opener_closes_none top.byte here.byte is)

byte_sound : (text : List ℕ) (n : ℕ) (brackets : Brackets) → IsSound text n brackets → IsSound text (suc n) (with_byte (located text n) brackets)
byte_sound text n brackets sound = by_byte (is_opener (located text n).byte) refl
  where
    by_byte : (b : Bool) → is_opener (located text n).byte ≡ b
        → IsSound text (suc n) (record {
          openers = cond b (located text n ∷ brackets.openers) (left_by (located text n) brackets.openers);
          partners = paired (located text n) (opener_of (located text n) brackets.openers) brackets.partners;
        })
    by_byte true is =
        subst (λ opener. IsSound text (suc n) (record { openers = located text n ∷ brackets.openers; partners = paired (located text n) opener brackets.partners }))
        (sym (opener_of_none (located text n) brackets.openers is)) (opened text n brackets.openers brackets.partners sound)
    by_byte false is = left_sound text n brackets.openers brackets.partners sound

all_sound : (text : List ℕ) (n : ℕ) → IsSound text n (brackets_before text n)
all_sound text zero = record {
  openers = tt;
  bound = λ place partner is. absurd (none_is partner (sym (map.get-empty nat_cmp place) ∙ is));
  matching = λ place partner is. absurd (none_is partner (sym (map.get-empty nat_cmp place) ∙ is));
  nested = λ outer inner its other is_outer is_inner above below. absurd (none_is its (sym (map.get-empty nat_cmp outer) ∙ is_outer));
}
all_sound text (suc n) = byte_sound text n (brackets_before text n) (all_sound text n)

pub brackets_more : (text : List ℕ) (n : ℕ) → brackets_before text (n + 1) ≡ with_byte (located text n) (brackets_before text n)
brackets_more text n = let one : n + 1 ≡ suc n = omega arith in ap (brackets_before text) one

pub is_matching : (text : List ℕ) (n : ℕ) → IsMatching text (brackets_before text n).partners
is_matching text n = (all_sound text n).matching

pub are_nested : (text : List ℕ) (n : ℕ) → AreNested (brackets_before text n).partners
are_nested text n = (all_sound text n).nested

-- the opener that a byte closes has its place in the text
pub opener_within : (text : List ℕ) (n : ℕ) (opener : Bracket) → opener_of (located text n) (brackets_before text n).openers ≡ Some opener → opener.place < n
opener_within text n opener is = first (brackets_before text n).openers (all_sound text n).openers is
  where
    first : (openers : List Bracket) → AreOpen text n (brackets_before text n).partners openers → opener_of (located text n) openers ≡ Some opener → opener.place < n
    first [] are is = absurd (none_is opener is)
    first (top ∷ below) are is = by_kind (closes top.byte (located text n).byte) is
      where
        by_kind : (b : Bool) → cond b (Some top) None ≡ Some opener → opener.place < n
        by_kind true same = subst (λ (o : Bracket). o.place < n) (some_is top opener same) are.0.under
        by_kind false none = absurd (none_is opener none)

-- a partner stands in the text
pub partner_within : (text : List ℕ) (n place : ℕ) (partner : Bracket) → map.get (brackets_before text n).partners place ≡ Some partner → partner.place < n
partner_within text n place partner is =
    let sound = all_sound text n in
    sound.bound partner.place (located text place) (sound.matching place partner is).back
