-- What is written has no float and nests a few levels deep, and so a list of it is plain. These are laws of what is written.
use Rattle.std.proofs.Common.{◌≡◌, ℕ, ◌+◌, ◌≤◌, Bool, true, false, not, ◌||◌, List, [], ◌∷◌, map, Option, None, Some, refl, ap, ◌∙◌, arith}
use Rattle.std.specs.Prelude.{◌&&◌, nat_le, codes}
use Rattle.std.specs.Cmp.Lexicographic.{slice_cmp}
use Rattle.std.specs.Ordering.{nat_cmp, match_ordering}
use Rattle.std.specs.declared.cmp.Ordering.{Ordering}
use Rattle.std.specs.declared.cmp.Ordering.TheVariants.{Less, Equal, Greater}
use Rattle.std.proofs.lemmas.Bool.{le-leb, true≢false}
use Rattle.plain.specs.Plain.{is_plain, most_levels}
use Rattle.serde_json.specs.Data.{Data, string, object, Members, no_members, member, put, depth, items_depth, members_depth}
use Rattle.serde_json.specs.View.{items_of}
use Rattle.serde_json.specs.Written.{has_float, items_have_float, members_have_float}
use Rattle.docs_vfs.specs.FileUrls.{url_of}
use Rattle.lsp_types.specs.declared.diagnostic.Diagnostic.{Diagnostic}
use Rattle.lsp_types.specs.declared.diagnostic.Related.{Related}
use Rattle.text_core.specs.declared.position.Range.{Range}
use Rattle.text_core.specs.declared.position.Position.{Position}
use Rattle.lsp_types.specs.Values.{IsShallow, location_value, position_value, range_value, list_value, put_some, related_value, related_values, severity_value, text_edit_value, text_value, diagnostic_value, pattern_value, watcher_value}
use Rattle.lsp_types.specs.declared.watcher.Watcher.{Watcher}
use Rattle.lsp_types.specs.declared.watcher.Watcher.TheVariants.{Relative, Text}
use Rattle.text_core.specs.declared.change.TextEdit.{TextEdit}

neither : (a b : Bool) → a ≡ false → b ≡ false → (a || b) ≡ false
neither false false p q = refl
neither true b p q = absurd (true≢false p)
neither false true p q = absurd (true≢false q)

left_false : (a b : Bool) → (a || b) ≡ false → a ≡ false
left_false true b e = absurd (true≢false e)
left_false false b e = refl

right_false : (a b : Bool) → (a || b) ≡ false → b ≡ false
right_false true b e = absurd (true≢false e)
right_false false b e = e

-- no float, and at most so many levels
record Small (n : ℕ) (d : Data) : Type 0 where
  pub no_float : has_float d ≡ false
  pub levels : depth d ≤ n

record SmallMembers (n : ℕ) (ms : Members) : Type 0 where
  pub no_float : members_have_float ms ≡ false
  pub levels : members_depth ms ≤ n

with_member : (n : ℕ) (k : List ℕ) (d : Data) (ms : Members) → Small n d → SmallMembers n ms → SmallMembers n (member k d ms)
with_member n k d ms small more = record {
  no_float = neither (has_float d) (members_have_float ms) small.no_float more.no_float;
  levels = omega (arith, small.levels, more.levels);
}

of_rest : (n : ℕ) (k : List ℕ) (d : Data) (ms : Members) → SmallMembers n (member k d ms) → SmallMembers n ms
of_rest n k d ms all = record {
  no_float = right_false (has_float d) (members_have_float ms) all.no_float;
  levels = omega (arith, all.levels);
}

of_first : (n : ℕ) (k : List ℕ) (d : Data) (ms : Members) → SmallMembers n (member k d ms) → Small n d
of_first n k d ms all = record {
  no_float = left_false (has_float d) (members_have_float ms) all.no_float;
  levels = omega (arith, all.levels);
}

in_either_order : (n : ℕ) (r : Ordering) (a b c : Members) → SmallMembers n a → SmallMembers n b → SmallMembers n c
    → SmallMembers n (match_ordering r a b c)
in_either_order n Less a b c p q s = p
in_either_order n Equal a b c p q s = q
in_either_order n Greater a b c p q s = s

with_put : (n : ℕ) (k : List ℕ) (d : Data) (ms : Members) → Small n d → SmallMembers n ms → SmallMembers n (put k d ms)
with_put n k d no_members small more = with_member n k d no_members small more
with_put n k d (member l e ms) small more =
    let rest = of_rest n l e ms more in
    in_either_order n (slice_cmp nat_cmp k l) _ _ _
    (with_member n k d (member l e ms) small more) (with_member n l d ms small rest)
    (with_member n l e (put k d ms) (of_first n l e ms more) (with_put n k d ms small rest))

abbrev SmallOption : ℕ → Option Data → Type 0
SmallOption n None = Unit {0}
SmallOption n (Some d) = Small n d

with_some : (n : ℕ) (k : List ℕ) (d : Option Data) (ms : Members) → SmallOption n d → SmallMembers n ms → SmallMembers n (put_some k d ms)
with_some n k None ms small more = more
with_some n k (Some d) ms small more = with_put n k d ms small more

none_in : (n : ℕ) → SmallMembers n no_members
none_in n = record { no_float = refl; levels = omega arith }

in_object : (n : ℕ) (ms : Members) → SmallMembers n ms → Small (n + 1) (object ms)
in_object n ms small = record { no_float = small.no_float; levels = omega (arith, small.levels) }

text_small : (n : ℕ) (text : List ℕ) → Small n (string text)
text_small n text = record { no_float = refl; levels = omega arith }

text_option : (n : ℕ) (text : Option (List ℕ)) → SmallOption n (text_value text)
text_option n None = tt
text_option n (Some text) = text_small n text

severity_option : (n : ℕ) (severity : Option ℕ) → SmallOption n (severity_value severity)
severity_option n None = tt
severity_option n (Some severity) = record { no_float = refl; levels = omega arith }

range_small : (n : ℕ) (range : Range) → 2 ≤ n → Small n (range_value range)
range_small n range more = record { no_float = refl; levels = more }

-- ---- lists

module _ {X : Type 0} (value : X → Data) (n : ℕ) (each : (x : X) → Small n (value x)) where
  items_no_float : (xs : List X) → items_have_float (items_of (map value xs)) ≡ false
  items_no_float [] = refl
  items_no_float (x ∷ xs) = neither (has_float (value x)) (items_have_float (items_of (map value xs))) (each x).no_float (items_no_float xs)

  items_levels : (xs : List X) → items_depth (items_of (map value xs)) ≤ n
  items_levels [] = omega arith
  items_levels (x ∷ xs) = omega (arith, (each x).levels, items_levels xs)

  in_list : (xs : List X) → Small (n + 1) (list_value value xs)
  in_list xs = record { no_float = items_no_float xs; levels = omega (arith, items_levels xs) }

plain : (n : ℕ) (d : Data) → n ≤ 120 → Small n d → is_plain d ≡ true
unfolding most_levels
plain n d within small =
    let deep : nat_le (depth d) 120 ≡ true = le-leb _ _ (omega (arith, within, small.levels)) in
    ap (λ float. not float && nat_le (depth d) 120) small.no_float ∙ deep

small_of : (d : Data) → IsShallow d → Small 8 d
small_of d shallow = record { no_float = shallow.no_float; levels = shallow.levels }

shallow_of : (n : ℕ) (d : Data) → n ≤ 8 → Small n d → IsShallow d
shallow_of n d within small = record { no_float = small.no_float; levels = omega (arith, within, small.levels) }

-- a list of shallow values is plain
pub list_plain : {X : Type 0} (value : X → Data) → ((x : X) → IsShallow (value x)) → (xs : List X) → is_plain (list_value value xs) ≡ true
list_plain value each xs = plain 9 (list_value value xs) (omega arith) (in_list value 8 (λ x. small_of (value x) (each x)) xs)

-- ---- places

pub position_shallow : (position : Position) → IsShallow (position_value position)
position_shallow position = record { no_float = refl; levels = omega arith }

pub range_shallow : (range : Range) → IsShallow (range_value range)
range_shallow range = record { no_float = refl; levels = omega arith }

-- ---- diagnostics

location_small : (path : List ℕ) (range : Range) → Small 3 (location_value path range)
location_small path range =
    in_object 2 _ (with_put 2 (codes "range") (range_value range) _ (range_small 2 range (omega arith))
    (with_put 2 (codes "uri") (string (url_of path)) no_members (text_small 2 _) (none_in 2)))

related_small : (related : Related) → Small 4 (related_value related)
related_small related =
    in_object 3 _ (with_put 3 (codes "message") (string related.message) _ (text_small 3 _)
    (with_put 3 (codes "location") (location_value related.path related.range) no_members (location_small related.path related.range) (none_in 3)))

related_option : (related : List Related) → SmallOption 5 (related_values related)
related_option [] = tt
related_option (related ∷ more) = in_list related_value 4 related_small (related ∷ more)

diagnostic_small : (d : Diagnostic) → Small 6 (diagnostic_value d)
diagnostic_small d =
    let range = with_put 5 (codes "range") (range_value d.range) no_members (range_small 5 d.range (omega arith)) (none_in 5) in
    let severity = with_some 5 (codes "severity") (severity_value d.severity) _ (severity_option 5 d.severity) range in
    let code = with_some 5 (codes "code") (text_value d.code) _ (text_option 5 d.code) severity in
    let source = with_some 5 (codes "source") (text_value d.source) _ (text_option 5 d.source) code in
    let message = with_put 5 (codes "message") (string d.message) _ (text_small 5 _) source in
    in_object 5 _ (with_some 5 (codes "relatedInformation") (related_values d.related) _ (related_option d.related) message)

pub text_edit_shallow : (edit : TextEdit) → IsShallow (text_edit_value edit)
text_edit_shallow edit =
    shallow_of 3 _ (omega arith) (in_object 2 _ (with_put 2 (codes "newText") (string edit.new_text) _ (text_small 2 _)
    (with_put 2 (codes "range") (range_value edit.range) no_members (range_small 2 edit.range (omega arith)) (none_in 2))))

pub related_shallow : (related : Related) → IsShallow (related_value related)
related_shallow related = shallow_of 4 _ (omega arith) (related_small related)

pub diagnostic_shallow : (d : Diagnostic) → IsShallow (diagnostic_value d)
diagnostic_shallow d = shallow_of 6 _ (omega arith) (diagnostic_small d)

-- ---- watchers

pattern_small : (watcher : Watcher) → Small 1 (pattern_value watcher)
pattern_small (Relative base pattern) =
    in_object 0 _ (with_put 0 (codes "pattern") (string pattern) _ (text_small 0 pattern)
    (with_put 0 (codes "baseUri") (string base) no_members (text_small 0 base) (none_in 0)))
pattern_small (Text pattern) = text_small 1 pattern

pub watcher_shallow : (watcher : Watcher) → IsShallow (watcher_value watcher)
watcher_shallow watcher =
    shallow_of 2 _ (omega arith) (in_object 1 _ (with_put 1 (codes "globPattern") (pattern_value watcher) no_members (pattern_small watcher) (none_in 1)))
