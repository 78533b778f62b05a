-- What matches the bracket near a place is found among the partners that are kept.
use Rattle.std.proofs.Common.{◌≡◌, ◌↔◌, ℕ, ◌<◌, inl, inr, true, List, length, Option, None, Some, IfSome, IsSome, ap, sym, ◌∙◌, arith}
use Rattle.std.specs.FinMap as map
use Rattle.std.specs.Option.{option_map, unwrap_or}
use Rattle.std.specs.Ordering.{nat_cmp}
use Rattle.std.specs.Prelude.{option_and_then}
use Rattle.std.specs.String.Boundary.{IsSplitPoint}
use Rattle.std.proofs.lemmas.Bool.{false≢true}
use Rattle.std.proofs.lemmas.Bool.Decides.{nat_tests}
use Rattle.small_analysis.specs.Asked.{Places, IsAskedNear, KeepsAsked}
use Rattle.small_analysis.specs.Brackets.{bracket_near, closes, located, partner_near, partners_of}
use Rattle.small_analysis.specs.Matches.{matched}
use Rattle.small_analysis.specs.Positions.{position_in}
use Rattle.small_analysis.specs.declared.brackets.Bracket.{Bracket}
use Rattle.small_analysis.proofs.BracketLemmas.{is_matching, partner_within}
use Rattle.text_core.specs.declared.position.Position.{Position}
use Rattle.text_core.specs.declared.position.PositionEncoding.{PositionEncoding}

opener_ascii : (opener b : ℕ) → closes opener b ≡ true → opener < 128
opener_ascii opener b h = grind (arith, nat_tests)

closer_ascii : (opener b : ℕ) → closes opener b ≡ true → b < 128
closer_ascii opener b h = grind (arith, nat_tests)

-- a text can be cut at a bracket that has a partner
partner_splits : (text : List ℕ) (place : ℕ) (partner : Bracket) → map.get (partners_of text) place ≡ Some partner → IsSplitPoint text partner.place
partner_splits text place partner is =
    let match = is_matching text (length text) place partner is in
    let ascii : partner.byte < 128 = elim match.pair [
      | inl pair ↦ closer_ascii (located text place).byte partner.byte pair.kind
      | inr pair ↦ opener_ascii partner.byte (located text place).byte pair.kind
    ] in
    let here = ap (λ b. b.byte) match.there in
    (omega (arith, partner_within text (length text) place partner is), λ behind within above. absurd (omega (arith, above, here, ascii)))

module _ (encoding : PositionEncoding) (text : List ℕ) (asked : Places) (kept : map.FinMap nat_cmp Bracket) (position : Position) (place near : ℕ)
    (keeps : KeepsAsked asked (partners_of text) kept) (is_asked : IsAskedNear text asked place) (is : Some near ≡ bracket_near text place) where
  all_keep : map.get (partners_of text) near ≡ map.get kept near
  all_keep = sym (keeps near (is_asked near (sym is)))

  its : partner_near text place ≡ map.get kept near
  its = ap (option_and_then (map.get (partners_of text))) (sym is) ∙ all_keep

  abbrev found_by : Option Bracket → Position
  found_by partner = unwrap_or (option_map (λ bracket. position_in encoding text bracket.place) partner) position

  pub a_match : (partner : Bracket) (found : Option Position) → Some partner ≡ map.get kept near → (IsSome found ↔ IsSplitPoint text partner.place)
      → IfSome found (λ p. p ≡ position_in encoding text partner.place) → unwrap_or found position ≡ matched encoding text position place
  a_match partner None some splits value = absurd (false≢true (splits.1 (partner_splits text near partner (all_keep ∙ sym some))))
  a_match partner (Some p) some splits value = value ∙ sym (ap found_by (its ∙ sym some))
