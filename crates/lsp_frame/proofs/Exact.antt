-- The text of an object is that of its members, and what is known of their values is known of the object.
use Rattle.std.proofs.Common.{◌≡◌, ◌≤◌, ℕ, suc, max, List, [], ◌∷◌, ◌++◌, Bool, true, false, Some, option_map, option_and_then, refl, sym, ap, ap₂, ◌∙◌, subst, arith, append_assoc, append-nil, IsUtf8}
use Rattle.std.specs.Prelude.{⊤}
use Rattle.std.proofs.lemmas.Str.{IsUtf8-append, IsUtf8-nil}
use Rattle.json.specs.Lex.{tokens}
use Rattle.json.specs.Json as json
use Rattle.json.specs.Print.{quoted}
use Rattle.json.specs.Tree as tree
use Rattle.json.proofs.Numbered.{ArePrintableOrBad-tokens, value-HasNumbers}
use Rattle.json.proofs.Printed.Tokens.{tokens-print}
use Rattle.json.proofs.Printed.Trees.{value-json_tokens, ArePrintable-json_tokens}
use Rattle.json.proofs.Printed.Utf8.{IsUtf8-are_ascii, IsUtf8-key}
use Rattle.serde_json.specs.Data.{Data, null, boolean, number, string, array, object, Items, no_items, item, Members, no_members, member, put, depth, items_depth, members_depth}
use Rattle.serde_json.specs.Read.{read, of_json, of_members, max_depth}
use Rattle.serde_json.specs.Written.{outline, items_outline, members_outline, has_float, comma_if, compact_text, members_text, IsInOrder}
use Rattle.serde_json.proofs.Texts.{tokens_from_order, print-outline}
use Rattle.plain.specs.Reading.{read_body}
use Rattle.plain.proofs.ReadingLemmas.{read_body-some}
use Rattle.lsp_frame.specs.Exact.{IsExact}

mutual
  depth-outline : (d : Data) → tree.depth (outline d) ≡ depth d
  depth-outline null = refl
  depth-outline (boolean b) = refl
  depth-outline (number n) = refl
  depth-outline (string s) = refl
  depth-outline (array ds) = ap suc (items_depth-outline ds)
  depth-outline (object ms) = ap suc (members_depth-outline ms)

  items_depth-outline : (ds : Items) → tree.items_depth (items_outline ds) ≡ items_depth ds
  items_depth-outline no_items = refl
  items_depth-outline (item d ds) = ap₂ max (depth-outline d) (items_depth-outline ds)

  members_depth-outline : (ms : Members) → tree.members_depth (members_outline ms) ≡ members_depth ms
  members_depth-outline no_members = refl
  members_depth-outline (member k d ms) = ap₂ max (depth-outline d) (members_depth-outline ms)

-- what is spelled by the tokens of a value
whole : (text : List ℕ) (d : Data) → tokens text ≡ tree.json_tokens (outline d) → depth d ≤ max_depth → json.value max_depth (tokens text) ≡ Some (outline d, [])
whole text d same nests =
    ap (json.value max_depth) (same ∙ sym (append-nil (tree.json_tokens (outline d)))) ∙ value-json_tokens (outline d) max_depth [] (omega (arith, nests, depth-outline d))

-- what is read where this is spelled
read_whole : (text : List ℕ) (j : json.Json) → json.value max_depth (tokens text) ≡ Some (j, []) → read text ≡ of_json j
read_whole text j is = ap (λ o. option_and_then of_json (option_and_then (λ p. json.if_last p.0 p.1) o)) is

-- a text that was written
pub IsExact-written : (text : List ℕ) (d : Data) → text ≡ compact_text d → IsUtf8 text → IsInOrder text d → has_float d ≡ false → depth d ≤ max_depth → read text ≡ Some d → IsExact d
IsExact-written text d is utf8 order no_float nests reads =
    let value = whole text d (tokens_from_order text d order no_float) nests in
    record {
      numbers = value-HasNumbers max_depth (tokens text) [] (outline d) (ArePrintableOrBad-tokens text) value;
      reads = sym (read_whole text (outline d) value) ∙ reads;
      utf8 = subst IsUtf8 is utf8;
    }

-- such a text reads as the value
pub exact_reads : (d : Data) → IsExact d → depth d ≤ max_depth → read_body (compact_text d) ≡ Some d
exact_reads d h nests =
    let printed : tokens (compact_text d) ≡ tree.json_tokens (outline d) =
    ap tokens (sym (print-outline d)) ∙ tokens-print (tree.json_tokens (outline d)) (ArePrintable-json_tokens (outline d) h.numbers) in
    sym (read_body-some (compact_text d) d h.utf8 (read_whole (compact_text d) (outline d) (whole (compact_text d) d printed nests) ∙ h.reads))

-- the keys are UTF-8, and the values exact
abbrev pub AreExact : Members → Type 0
AreExact no_members = ⊤
AreExact (member k d ms) = IsUtf8 k × IsExact d × AreExact ms

-- members put into others, one after another
abbrev pub put_all : Members → Members → Members
put_all no_members found = found
put_all (member k d ms) found = put_all ms (put k d found)

members_numbers : (ms : Members) → AreExact ms → tree.MembersHaveNumbers (members_outline ms)
members_numbers no_members h = tt
members_numbers (member k d ms) h = (h.1.numbers, members_numbers ms h.2)

members_read : (ms found : Members) → AreExact ms → of_members (members_outline ms) found ≡ Some (put_all ms found)
members_read no_members found h = refl
members_read (member k d ms) found h =
    ap (option_and_then (λ x. of_members (members_outline ms) (put k x found))) h.1.reads ∙ members_read ms (put k d found) h.2

comma_utf8 : (later : Bool) → IsUtf8 (comma_if later)
comma_utf8 true = IsUtf8-are_ascii (44 ∷ []) refl
comma_utf8 false = IsUtf8-nil

members_utf8 : (later : Bool) (ms : Members) → AreExact ms → IsUtf8 (members_text later ms)
members_utf8 later no_members h = IsUtf8-are_ascii (125 ∷ []) refl
members_utf8 later (member k d ms) h =
    let rest = compact_text d ++ members_text true ms in
    IsUtf8-append (comma_if later) _ (comma_utf8 later)
    (subst IsUtf8 (append_assoc (quoted k) (58 ∷ []) rest) (IsUtf8-append _ rest (IsUtf8-key k h.0) (IsUtf8-append _ _ h.1.utf8 (members_utf8 true ms h.2))))

-- an object of such members, whose keys are in order
pub IsExact-object : (ms : Members) → AreExact ms → put_all ms no_members ≡ ms → IsExact (object ms)
IsExact-object ms h in_order = record {
  numbers = members_numbers ms h;
  reads = ap (option_map object) (members_read ms no_members h ∙ ap Some in_order);
  utf8 = IsUtf8-append (123 ∷ []) _ (IsUtf8-are_ascii (123 ∷ []) refl) (members_utf8 false ms h);
}
