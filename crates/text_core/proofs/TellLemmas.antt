-- What equal bytes tell of the values that they stand for.
use Rattle.std.proofs.Common.{◌≡◌, ℕ, ◌<◌, ◌^◌, ◌==◌, Bool, true, false, List, [], ◌∷◌, ◌++◌, length, map, take, drop, Option, Some, None, refl, ap, sym, ◌∙◌, append_assoc, arith}
use Rattle.std.specs.Prelude.{All, IfSome, if◌then◌else◌}
use Rattle.std.specs.List.{concat}
use Rattle.std.specs.Int.{to_le_bytes, from_le_bytes, w32, w64}
use Rattle.std.proofs.lemmas.Nat.{from_le_bytes-to_le_bytes_4, from_le_bytes-to_le_bytes_8}
use Rattle.std.proofs.lemmas.List.{take_at, drop_at}
use Rattle.std.proofs.lemmas.List.Elements.{All-head, All-tail}
use Rattle.text_core.specs.declared.completion.TypeMatch.{TypeMatch}
use Rattle.text_core.specs.declared.completion.TypeMatch.TheVariants.{CouldUnify, Exact as ExactType}
use Rattle.text_core.specs.declared.completion.PostfixMatch.{PostfixMatch}
use Rattle.text_core.specs.declared.completion.PostfixMatch.TheVariants.{NonExact, Exact}
use Rattle.text_core.specs.declared.completion.ReturnType.{ReturnType}
use Rattle.text_core.specs.declared.completion.ReturnType.TheVariants.{Other, DirectConstructor, Constructor, Builder}
use Rattle.text_core.specs.declared.completion.RefMode.{RefMode}
use Rattle.text_core.specs.declared.completion.RefMode.TheVariants.{Shared, Mut, Dereference}
use Rattle.text_core.specs.declared.completion.Relevance.{Relevance}
use Rattle.text_core.specs.declared.completion.HashedItem.{HashedItem}
use Rattle.text_core.specs.Hashed.{flag, text_bytes, optional, type_match, postfix_match, return_type, ref_mode, trait_bytes, function_bytes, ref_bytes, truth_bytes, relevance_bytes, texts_bytes, head_bytes, name_bytes, item_bytes, IsShortText, IsShort}

-- two lists of bytes begin alike only if P holds, and then what follows is alike
record Tells (xs ys : List ℕ) (P : Type 0) : Type 0 where
  at : (u v : List ℕ) → xs ++ u ≡ ys ++ v → P × (u ≡ v)

tells_both : {P Q : Type 0} (xs xs' ys ys' : List ℕ) → Tells xs ys P → Tells xs' ys' Q → Tells (xs ++ xs') (ys ++ ys') (P × Q)
tells_both xs xs' ys ys' first second = record {
  at = λ u v same.
      let here = first.at (xs' ++ u) (ys' ++ v) (sym (append_assoc xs xs' u) ∙ same ∙ append_assoc ys ys' v) in
      let rest = second.at u v here.1 in
      ((here.0, rest.0), rest.1);
}

tells_same : (xs ys : List ℕ) → length xs ≡ length ys → Tells xs ys (xs ≡ ys)
tells_same xs ys size = record {
  at = λ u v same. (
    sym (take_at xs u (length xs) refl) ∙ ap (take (length xs)) same ∙ take_at ys v (length xs) (sym size),
    sym (drop_at xs u (length xs) refl) ∙ ap (drop (length xs)) same ∙ drop_at ys v (length xs) (sym size),
  );
}

tells_as : {P Q : Type 0} (xs ys : List ℕ) → (P → Q) → Tells xs ys P → Tells xs ys Q
tells_as xs ys f tells = record { at = λ u v same. (f (tells.at u v same).0, (tells.at u v same).1) }

head_or : List ℕ → ℕ
head_or [] = 0
head_or (x ∷ xs) = x

byte_tells : (m n : ℕ) → Tells (m ∷ []) (n ∷ []) (m ≡ n)
unfolding head_or
byte_tells m n = tells_as (m ∷ []) (n ∷ []) (λ same. ap head_or same) (tells_same (m ∷ []) (n ∷ []) refl)

flag_from : ℕ → Bool
flag_from n = n == 1

flag_back : (b : Bool) → flag_from (if b then 1 else 0) ≡ b
unfolding flag_from
flag_back true = refl
flag_back false = refl

flag_tells : (a b : Bool) → Tells (flag a) (flag b) (a ≡ b)
flag_tells a b = tells_as (flag a) (flag b) (λ same. sym (flag_back a) ∙ ap flag_from same ∙ flag_back b) (byte_tells (if a then 1 else 0) (if b then 1 else 0))

count_tells : (m n : ℕ) → m < 2 ^ 64 → n < 2 ^ 64 → Tells (to_le_bytes w64 m) (to_le_bytes w64 n) (m ≡ n)
count_tells m n hm hn =
    tells_as (to_le_bytes w64 m) (to_le_bytes w64 n)
    (λ same. sym (from_le_bytes-to_le_bytes_8 m hm) ∙ ap (from_le_bytes w64) same ∙ from_le_bytes-to_le_bytes_8 n hn)
    (tells_same (to_le_bytes w64 m) (to_le_bytes w64 n) refl)

place_tells : (m n : ℕ) → m < 2 ^ 32 → n < 2 ^ 32 → Tells (to_le_bytes w32 m) (to_le_bytes w32 n) (m ≡ n)
place_tells m n hm hn =
    tells_as (to_le_bytes w32 m) (to_le_bytes w32 n)
    (λ same. sym (from_le_bytes-to_le_bytes_4 m hm) ∙ ap (from_le_bytes w32) same ∙ from_le_bytes-to_le_bytes_4 n hn)
    (tells_same (to_le_bytes w32 m) (to_le_bytes w32 n) refl)

text_tells : (s t : List ℕ) → IsShortText s → IsShortText t → Tells (text_bytes s) (text_bytes t) (s ≡ t)
text_tells s t hs ht = record {
  at = λ u v same.
      let count = (count_tells (length s) (length t) hs ht).at (s ++ u) (t ++ v)
      (sym (append_assoc (to_le_bytes w64 (length s)) s u) ∙ same ∙ append_assoc (to_le_bytes w64 (length t)) t v) in
      (tells_same s t count.0).at u v count.1;
}

zero≢one : ◌≡◌ {A = ℕ} 0 1 → ⊥
zero≢one h = absurd (omega arith)

-- a value that may be missing
module _ {A : Type 0} (bytes : A → List ℕ) (Room : A → Type 0) (tells : (x y : A) → Room x → Room y → Tells (bytes x) (bytes y) (x ≡ y)) where
  optional_tells : (o p : Option A) → IfSome o Room → IfSome p Room → Tells (optional bytes o) (optional bytes p) (o ≡ p)
  optional_tells None None ho hp = tells_as (0 ∷ []) (0 ∷ []) (λ same. refl) (byte_tells 0 0)
  optional_tells None (Some y) ho hp = record { at = λ u v same. absurd (zero≢one ((byte_tells 0 1).at u (bytes y ++ v) same).0) }
  optional_tells (Some x) None ho hp = record { at = λ u v same. absurd (zero≢one (sym ((byte_tells 1 0).at (bytes x ++ u) v same).0)) }
  optional_tells (Some x) (Some y) ho hp =
      tells_as (1 ∷ bytes x) (1 ∷ bytes y) (λ same. ap Some same.1) (tells_both (1 ∷ []) (bytes x) (1 ∷ []) (bytes y) (byte_tells 1 1) (tells x y ho hp))

-- the kinds, by their numbers
type_from : ℕ → Option TypeMatch
type_from n = if n == 0 then None else (if n == 1 then Some CouldUnify else Some ExactType)

type_back : (k : Option TypeMatch) → type_from (type_match k) ≡ k
unfolding type_from
type_back None = refl
type_back (Some CouldUnify) = refl
type_back (Some ExactType) = refl

postfix_from : ℕ → Option PostfixMatch
postfix_from n = if n == 0 then None else (if n == 1 then Some NonExact else Some Exact)

postfix_back : (k : Option PostfixMatch) → postfix_from (postfix_match k) ≡ k
unfolding postfix_from
postfix_back None = refl
postfix_back (Some NonExact) = refl
postfix_back (Some Exact) = refl

return_from : ℕ → ReturnType
return_from n = if n == 0 then Other else (if n == 1 then DirectConstructor else (if n == 2 then Constructor else Builder))

return_back : (k : ReturnType) → return_from (return_type k) ≡ k
unfolding return_from
return_back Other = refl
return_back DirectConstructor = refl
return_back Constructor = refl
return_back Builder = refl

mode_from : ℕ → RefMode
mode_from n = if n == 0 then Shared else (if n == 1 then Mut else Dereference)

mode_back : (k : RefMode) → mode_from (ref_mode k) ≡ k
unfolding mode_from
mode_back Shared = refl
mode_back Mut = refl
mode_back Dereference = refl

module _ {A : Type 0} (number : A → ℕ) (from : ℕ → A) (back : (x : A) → from (number x) ≡ x) where
  kind_tells : (x y : A) → Tells (number x ∷ []) (number y ∷ []) (x ≡ y)
  kind_tells x y = tells_as (number x ∷ []) (number y ∷ []) (λ same. sym (back x) ∙ ap from same ∙ back y) (byte_tells (number x) (number y))

trait_tells : (s t : Bool × Bool) → Unit {0} → Unit {0} → Tells (trait_bytes s) (trait_bytes t) (s ≡ t)
trait_tells s t hs ht =
    tells_as (trait_bytes s) (trait_bytes t) (λ same i. (same.0 i, same.1 i))
    (tells_both (flag s.0) (flag s.1) (flag t.0) (flag t.1) (flag_tells s.0 t.0) (flag_tells s.1 t.1))

function_tells : (s t : Bool × Bool × ReturnType) → Unit {0} → Unit {0} → Tells (function_bytes s) (function_bytes t) (s ≡ t)
function_tells s t hs ht =
    tells_as (function_bytes s) (function_bytes t) (λ same i. (same.0.0 i, same.0.1 i, same.1 i))
    (tells_both (flag s.0 ++ flag s.1) (return_type s.2 ∷ []) (flag t.0 ++ flag t.1) (return_type t.2 ∷ [])
    (tells_both (flag s.0) (flag s.1) (flag t.0) (flag t.1) (flag_tells s.0 t.0) (flag_tells s.1 t.1))
    (kind_tells return_type return_from return_back s.2 t.2))

ref_tells : (s t : RefMode × ℕ) → s.1 < 2 ^ 32 → t.1 < 2 ^ 32 → Tells (ref_bytes s) (ref_bytes t) (s ≡ t)
ref_tells s t hs ht =
    tells_as (ref_bytes s) (ref_bytes t) (λ same i. (same.0 i, same.1 i))
    (tells_both (ref_mode s.0 ∷ []) (to_le_bytes w32 s.1) (ref_mode t.0 ∷ []) (to_le_bytes w32 t.1) (kind_tells ref_mode mode_from mode_back s.0 t.0) (place_tells s.1 t.1 hs ht))

-- parts of an item
truths_tell : (a b : Relevance) → Tells (truth_bytes a) (truth_bytes b)
    (((((a.exact_name_match ≡ b.exact_name_match) × (a.is_local ≡ b.is_local)) × (a.is_name_already_imported ≡ b.is_name_already_imported))
    × (a.requires_import ≡ b.requires_import)) × (a.is_private_editable ≡ b.is_private_editable))
truths_tell a b =
    let two = tells_both (flag a.exact_name_match) (flag a.is_local) (flag b.exact_name_match) (flag b.is_local)
    (flag_tells a.exact_name_match b.exact_name_match) (flag_tells a.is_local b.is_local) in
    let three = tells_both _ (flag a.is_name_already_imported) _ (flag b.is_name_already_imported) two (flag_tells a.is_name_already_imported b.is_name_already_imported) in
    let four = tells_both _ (flag a.requires_import) _ (flag b.requires_import) three (flag_tells a.requires_import b.requires_import) in
    tells_both _ (flag a.is_private_editable) _ (flag b.is_private_editable) four (flag_tells a.is_private_editable b.is_private_editable)

no_room : {A : Type 0} (o : Option A) → IfSome o (λ t. Unit {0})
no_room None = tt
no_room (Some x) = tt

relevance_tells : (a b : Relevance) → Tells (relevance_bytes a) (relevance_bytes b) (a ≡ b)
relevance_tells a b =
    let to_type = tells_both (truth_bytes a) (type_match a.type_match ∷ []) (truth_bytes b) (type_match b.type_match ∷ [])
    (truths_tell a b) (kind_tells type_match type_from type_back a.type_match b.type_match) in
    let to_trait = tells_both _ (optional trait_bytes a.trait_) _ (optional trait_bytes b.trait_) to_type
    (optional_tells trait_bytes (λ t. Unit {0}) trait_tells a.trait_ b.trait_ (no_room a.trait_) (no_room b.trait_)) in
    let to_postfix = tells_both _ (postfix_match a.postfix_match ∷ []) _ (postfix_match b.postfix_match ∷ []) to_trait
    (kind_tells postfix_match postfix_from postfix_back a.postfix_match b.postfix_match) in
    let all = tells_both _ (optional function_bytes a.function) _ (optional function_bytes b.function) to_postfix
    (optional_tells function_bytes (λ t. Unit {0}) function_tells a.function b.function (no_room a.function) (no_room b.function)) in
    tells_as (relevance_bytes a) (relevance_bytes b) (λ same i. record {
      exact_name_match = same.0.0.0.0.0.0.0.0 i;
      is_local = same.0.0.0.0.0.0.0.1 i;
      is_name_already_imported = same.0.0.0.0.0.0.1 i;
      requires_import = same.0.0.0.0.0.1 i;
      is_private_editable = same.0.0.0.0.1 i;
      type_match = same.0.0.0.1 i;
      trait_ = same.0.0.1 i;
      postfix_match = same.0.1 i;
      function = same.1 i;
    }) all

list_tells : (ss ts : List (List ℕ)) → length ss ≡ length ts → All IsShortText ss → All IsShortText ts
    → Tells (concat (map text_bytes ss)) (concat (map text_bytes ts)) (ss ≡ ts)
list_tells [] [] size hs ht = record { at = λ u v same. (refl, same) }
list_tells [] (t ∷ ts) size hs ht = absurd (omega arith)
list_tells (s ∷ ss) [] size hs ht = absurd (omega arith)
list_tells (s ∷ ss) (t ∷ ts) size hs ht =
    tells_as (concat (map text_bytes (s ∷ ss))) (concat (map text_bytes (t ∷ ts))) (λ same i. same.0 i ∷ same.1 i)
    (tells_both (text_bytes s) (concat (map text_bytes ss)) (text_bytes t) (concat (map text_bytes ts))
    (text_tells s t (All-head IsShortText s ss hs) (All-head IsShortText t ts ht))
    (list_tells ss ts (omega arith) (All-tail IsShortText s ss hs) (All-tail IsShortText t ts ht)))

texts_tell : (ss ts : List (List ℕ)) → length ss < 2 ^ 64 → length ts < 2 ^ 64 → All IsShortText ss → All IsShortText ts
    → Tells (texts_bytes ss) (texts_bytes ts) (ss ≡ ts)
texts_tell ss ts cs ct hs ht = record {
  at = λ u v same.
      let count = (count_tells (length ss) (length ts) cs ct).at (concat (map text_bytes ss) ++ u) (concat (map text_bytes ts) ++ v)
      (sym (append_assoc (to_le_bytes w64 (length ss)) (concat (map text_bytes ss)) u) ∙ same ∙ append_assoc (to_le_bytes w64 (length ts)) (concat (map text_bytes ts)) v) in
      (list_tells ss ts count.0 hs ht).at u v count.1;
}

head_tells : (r s : Bool) (a b : HashedItem) → Tells (head_bytes r a) (head_bytes s b)
    ((((r ≡ s) × (a.is_snippet ≡ b.is_snippet)) × (a.deprecated ≡ b.deprecated)) × (a.trigger_call_info ≡ b.trigger_call_info))
head_tells r s a b =
    let two = tells_both (flag r) (flag a.is_snippet) (flag s) (flag b.is_snippet) (flag_tells r s) (flag_tells a.is_snippet b.is_snippet) in
    let three = tells_both _ (flag a.deprecated) _ (flag b.deprecated) two (flag_tells a.deprecated b.deprecated) in
    tells_both _ (flag a.trigger_call_info) _ (flag b.trigger_call_info) three (flag_tells a.trigger_call_info b.trigger_call_info)

names_tell : (a b : HashedItem) → IsShort a → IsShort b → Tells (name_bytes a) (name_bytes b)
    ((((((a.label ≡ b.label) × (a.detail_left ≡ b.detail_left)) × (a.detail_right ≡ b.detail_right)) × (a.kind_tag ≡ b.kind_tag)) × (a.lookup ≡ b.lookup)) × (a.detail ≡ b.detail))
names_tell a b ha hb =
    let two = tells_both (text_bytes a.label) (optional text_bytes a.detail_left) (text_bytes b.label) (optional text_bytes b.detail_left)
    (text_tells a.label b.label ha.label hb.label)
    (optional_tells text_bytes IsShortText text_tells a.detail_left b.detail_left ha.detail_left hb.detail_left) in
    let three = tells_both _ (optional text_bytes a.detail_right) _ (optional text_bytes b.detail_right) two
    (optional_tells text_bytes IsShortText text_tells a.detail_right b.detail_right ha.detail_right hb.detail_right) in
    let four = tells_both _ (text_bytes a.kind_tag) _ (text_bytes b.kind_tag) three (text_tells a.kind_tag b.kind_tag ha.kind_tag hb.kind_tag) in
    let five = tells_both _ (text_bytes a.lookup) _ (text_bytes b.lookup) four (text_tells a.lookup b.lookup ha.lookup hb.lookup) in
    tells_both _ (optional text_bytes a.detail) _ (optional text_bytes b.detail) five
    (optional_tells text_bytes IsShortText text_tells a.detail b.detail ha.detail hb.detail)

-- equal bytes are of one item, with one flag
pub same_item : (a b : HashedItem) (r s : Bool) → IsShort a → IsShort b → item_bytes r a ≡ item_bytes s b → (a ≡ b) × (r ≡ s)
unfolding item_bytes
same_item a b r s ha hb same =
    let to_names = tells_both (head_bytes r a) (name_bytes a) (head_bytes s b) (name_bytes b) (head_tells r s a b) (names_tell a b ha hb) in
    let to_rank = tells_both _ (relevance_bytes a.relevance) _ (relevance_bytes b.relevance) to_names (relevance_tells a.relevance b.relevance) in
    let to_ref = tells_both _ (optional ref_bytes a.ref_match) _ (optional ref_bytes b.ref_match) to_rank
    (optional_tells ref_bytes (λ t. t.1 < 2 ^ 32) ref_tells a.ref_match b.ref_match ha.place hb.place) in
    let all = tells_both _ (texts_bytes a.import_to_add) _ (texts_bytes b.import_to_add) to_ref
    (texts_tell a.import_to_add b.import_to_add ha.count hb.count ha.imports hb.imports) in
    let facts = (all.at [] [] (ap (λ l. l ++ []) same)).0 in (
      λ i. record {
        is_snippet = facts.0.0.0.0.0.0.1 i;
        deprecated = facts.0.0.0.0.0.1 i;
        trigger_call_info = facts.0.0.0.0.1 i;
        label = facts.0.0.0.1.0.0.0.0.0 i;
        detail_left = facts.0.0.0.1.0.0.0.0.1 i;
        detail_right = facts.0.0.0.1.0.0.0.1 i;
        kind_tag = facts.0.0.0.1.0.0.1 i;
        lookup = facts.0.0.0.1.0.1 i;
        detail = facts.0.0.0.1.1 i;
        relevance = facts.0.0.1 i;
        ref_match = facts.0.1 i;
        import_to_add = facts.1 i;
      },
      facts.0.0.0.0.0.0.0,
    )
