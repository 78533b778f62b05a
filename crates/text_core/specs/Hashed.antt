-- The bytes that stand for a completion item.
use Rattle.std.specs.Prelude.{◌<◌, ◌^◌, ℕ, Bool, List, [], ◌∷◌, ◌++◌, length, map, if◌then◌else◌, Option, Some, None, All, IfSome}
use Rattle.std.specs.List.{concat}
use Rattle.std.specs.Int.{to_le_bytes, w32, w64}
use Rattle.text_core.specs.declared.completion.TypeMatch.{TypeMatch}
use Rattle.text_core.specs.declared.completion.TypeMatch.TheVariants.{CouldUnify, Exact as ExactType}
use Rattle.text_core.specs.declared.completion.PostfixMatch.{PostfixMatch}
use Rattle.text_core.specs.declared.completion.PostfixMatch.TheVariants.{NonExact, Exact}
use Rattle.text_core.specs.declared.completion.ReturnType.{ReturnType}
use Rattle.text_core.specs.declared.completion.ReturnType.TheVariants.{Other, DirectConstructor, Constructor, Builder}
use Rattle.text_core.specs.declared.completion.RefMode.{RefMode}
use Rattle.text_core.specs.declared.completion.RefMode.TheVariants.{Shared, Mut, Dereference}
use Rattle.text_core.specs.declared.completion.Relevance.{Relevance}
use Rattle.text_core.specs.declared.completion.HashedItem.{HashedItem}

abbrev pub flag : Bool → List ℕ
flag b = (if b then 1 else 0) ∷ []

-- the length in 8 bytes, the least first, and the bytes
abbrev pub text_bytes : List ℕ → List ℕ
text_bytes text = to_le_bytes w64 (length text) ++ text

-- 0, or 1 and the value
abbrev pub optional : {A : Type 0} → (A → List ℕ) → Option A → List ℕ
optional bytes None = 0 ∷ []
optional bytes (Some x) = 1 ∷ bytes x

-- 0, or a number from 1 on
abbrev pub type_match : Option TypeMatch → ℕ
type_match None = 0
type_match (Some CouldUnify) = 1
type_match (Some ExactType) = 2

abbrev pub postfix_match : Option PostfixMatch → ℕ
postfix_match None = 0
postfix_match (Some NonExact) = 1
postfix_match (Some Exact) = 2

abbrev pub return_type : ReturnType → ℕ
return_type Other = 0
return_type DirectConstructor = 1
return_type Constructor = 2
return_type Builder = 3

abbrev pub ref_mode : RefMode → ℕ
ref_mode Shared = 0
ref_mode Mut = 1
ref_mode Dereference = 2

abbrev pub trait_bytes : Bool × Bool → List ℕ
trait_bytes t = flag t.0 ++ flag t.1

abbrev pub function_bytes : Bool × Bool × ReturnType → List ℕ
function_bytes f = flag f.0 ++ flag f.1 ++ return_type f.2 ∷ []

-- the mode, and the place in 4 bytes
abbrev pub ref_bytes : RefMode × ℕ → List ℕ
ref_bytes r = ref_mode r.0 ∷ to_le_bytes w32 r.1

abbrev pub truth_bytes : Relevance → List ℕ
truth_bytes r = flag r.exact_name_match ++ flag r.is_local ++ flag r.is_name_already_imported ++ flag r.requires_import ++ flag r.is_private_editable

abbrev pub relevance_bytes : Relevance → List ℕ
relevance_bytes r =
    truth_bytes r ++ type_match r.type_match ∷ [] ++ optional trait_bytes r.trait_ ++ postfix_match r.postfix_match ∷ [] ++ optional function_bytes r.function

-- how many, in 8 bytes, and each
abbrev pub texts_bytes : List (List ℕ) → List ℕ
texts_bytes texts = to_le_bytes w64 (length texts) ++ concat (map text_bytes texts)

abbrev pub head_bytes : Bool → HashedItem → List ℕ
head_bytes is_ref item = flag is_ref ++ flag item.is_snippet ++ flag item.deprecated ++ flag item.trigger_call_info

abbrev pub name_bytes : HashedItem → List ℕ
name_bytes item =
    text_bytes item.label ++ optional text_bytes item.detail_left ++ optional text_bytes item.detail_right
    ++ text_bytes item.kind_tag ++ text_bytes item.lookup ++ optional text_bytes item.detail

-- an item, and whether it stands for a reference to it
unfoldable pub item_bytes : Bool → HashedItem → List ℕ
item_bytes is_ref item =
    head_bytes is_ref item ++ name_bytes item ++ relevance_bytes item.relevance ++ optional ref_bytes item.ref_match ++ texts_bytes item.import_to_add

abbrev pub IsShortText : List ℕ → Type 0
IsShortText text = length text < 2 ^ 64

-- its lengths and numbers have room in the bytes that stand for them, as those of every item in memory have
pub record IsShort (item : HashedItem) : Type 0 where
  pub label : IsShortText item.label
  pub detail_left : IfSome item.detail_left IsShortText
  pub detail_right : IfSome item.detail_right IsShortText
  pub kind_tag : IsShortText item.kind_tag
  pub lookup : IsShortText item.lookup
  pub detail : IfSome item.detail IsShortText
  pub place : IfSome item.ref_match (λ r. r.1 < 2 ^ 32)
  pub count : length item.import_to_add < 2 ^ 64
  pub imports : All IsShortText item.import_to_add
