-- A message's text part by part, and what is known of each value whose text was written, so that it may stand in a longer one.
use Rattle.std.specs.Prelude.{◌≡◌, List, ℕ, [], ◌++◌, codes, Option, Some, None, IsUtf8}
use Rattle.json.specs.Print.{quoted}
use Rattle.json.specs.Tree.{HasNumbers}
use Rattle.serde_json.specs.Data.{Data}
use Rattle.serde_json.specs.Read.{of_json}
use Rattle.serde_json.specs.Written.{outline, compact_text}

-- the text's numbers are numbers of JSON, what it spells is read as the value, and it is UTF-8
pub record IsExact (d : Data) : Type 0 where
  pub numbers : HasNumbers (outline d)
  pub reads : of_json (outline d) ≡ Some d
  pub utf8 : IsUtf8 (compact_text d)

-- a value's text behind some bytes, where there is a value
abbrev pub some_text : List ℕ → Option Data → List ℕ
some_text before None = []
some_text before (Some d) = before ++ compact_text d

-- the members of a call behind its id, and the end
abbrev pub call_text : List ℕ → Option Data → List ℕ
call_text method params = codes "\"jsonrpc\":\"2.0\",\"method\":" ++ (quoted method ++ (some_text (codes ",\"params\":") params ++ codes "}"))

-- an error before the other members of a response, where there is one
abbrev pub error_text : Option Data → List ℕ
error_text None = []
error_text (Some e) = codes "\"error\":" ++ (compact_text e ++ codes ",")
