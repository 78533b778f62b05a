-- Tests of equality that decide it, made of those of the parts.
use Rattle.std.specs.Prelude.{◌≡◌, ℕ, List, Bool, Option, ◌&&◌, Decides, nat_eq}
use Rattle.std.specs.Bool.{beq}
use Rattle.std.specs.Option.{option_eq}
use Rattle.std.specs.Cmp.{unsigned_Decides, booleans_Decides}
use Rattle.std.specs.Cmp.Lexicographic.{pointwise, pointwise_decides}
use Rattle.std.proofs.Common.{sym, ap, ◌∙◌}
use Rattle.std.proofs.lemmas.Bool.Decides.{Decides-like}
use Rattle.plain.specs.Told.{option_told, pair_told}

-- a test of equality, and that it decides it
pub record Test (A : Type 0) : Type 0 where
  pub is_same : A → A → Bool
  pub tells : (x y : A) → Decides (is_same x y) (x ≡ y)

abbrev pub truth : Test Bool
truth = record { is_same = beq; tells = booleans_Decides }

abbrev pub number : Test ℕ
number = record { is_same = nat_eq; tells = unsigned_Decides }

-- of two lists, item by item
abbrev pub list_by : {A : Type 0} → Test A → Test (List A)
list_by t = record { is_same = pointwise t.is_same; tells = pointwise_decides t.tells }

abbrev pub option_by : {A : Type 0} → Test A → Test (Option A)
option_by t = record { is_same = option_eq t.is_same; tells = option_told t.tells }

-- of two pairs, part by part
infixr 2 ◌and◌
abbrev pub ◌and◌ : {A B : Type 0} → Test A → Test B → Test (A × B)
s and t = record { is_same = λ x y. s.is_same x.0 y.0 && t.is_same x.1 y.1; tells = pair_told s.tells t.tells }

-- of two values, by parts of which each is made again
abbrev pub test_by : {A B : Type 0} (parts : A → B) (whole : B → A) → ((x : A) → whole (parts x) ≡ x) → Test B → Test A
test_by parts whole made t = record {
  is_same = λ x y. t.is_same (parts x) (parts y);
  tells = λ x y. Decides-like _ (λ e. sym (made x) ∙ ap whole e ∙ made y) (λ e. ap parts e) (t.tells (parts x) (parts y));
}

abbrev pub text : Test (List ℕ)
text = list_by number

abbrev pub texts : Test (List (List ℕ))
texts = list_by text

abbrev pub text_or_none : Test (Option (List ℕ))
text_or_none = option_by text
