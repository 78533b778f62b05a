-- The results of requests that can't be worked on yet.
use Rattle.std.specs.Prelude.{[], codes}
use Rattle.serde_json.specs.Data.{Data, null, string, array, no_items, object, no_members, member}
use Rattle.method_table.specs.declared.default_value.DefaultValue.{DefaultValue}
use Rattle.method_table.specs.declared.default_value.DefaultValue.TheVariants.{Null, EmptyText, EmptyList, EmptyObject, EmptyLabel, FullReport, NoCrates, NoTests}

-- `{"label":""}`
abbrev pub empty_label : Data
empty_label = object (member (codes "label") (string []) no_members)

-- `{"items":[],"kind":"full","resultId":"rust-analyzer"}`
abbrev pub full_report : Data
full_report =
    object (member (codes "items") (array no_items) (member (codes "kind") (string (codes "full"))
    (member (codes "resultId") (string (codes "rust-analyzer")) no_members)))

-- `{"crates":[]}`
abbrev pub no_crates : Data
no_crates = object (member (codes "crates") (array no_items) no_members)

-- `{"scope":null,"scopeFile":null,"tests":[]}`
abbrev pub no_tests : Data
no_tests =
    object (member (codes "scope") null (member (codes "scopeFile") null (member (codes "tests") (array no_items) no_members)))

-- the value that a name of the code's table stands for
abbrev pub value_of : DefaultValue → Data
value_of Null = null
value_of EmptyText = string []
value_of EmptyList = array no_items
value_of EmptyObject = object no_members
value_of EmptyLabel = empty_label
value_of FullReport = full_report
value_of NoCrates = no_crates
value_of NoTests = no_tests
