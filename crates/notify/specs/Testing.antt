-- What a client is told of tests.
use Rattle.std.specs.Prelude.{ℕ, List, codes, map}
use Rattle.serde_json.specs.Data.{Data, null, string, object, no_members, put}
use Rattle.notify.specs.Objects.{with_text, list}
use Rattle.notify.specs.declared.outgo.TestReport.{TestReport}
use Rattle.notify.specs.declared.outgo.TestReport.TheVariants.{Started, Skipped, Passed, Failed}

-- `{"scope":null,"scopeFile":[{"uri":U}..],"tests":[..]}`
abbrev pub discovered_params : List (List ℕ) → List Data → Data
discovered_params uris tests =
    object (put (codes "tests") (list tests) (put (codes "scopeFile") (list (map (with_text (codes "uri")) uris))
    (put (codes "scope") null no_members)))

-- `{"kind":"failed","message":M}`
abbrev pub failed_value : List ℕ → Data
failed_value message = object (put (codes "message") (string message) (put (codes "kind") (string (codes "failed")) no_members))

abbrev pub report_value : TestReport → Data
report_value Started = with_text (codes "kind") (codes "started")
report_value Skipped = with_text (codes "kind") (codes "skipped")
report_value Passed = with_text (codes "kind") (codes "passed")
report_value (Failed message) = failed_value message

-- `{"state":S,"testId":I}`
abbrev pub test_state : TestReport → List ℕ → Data
test_state state id = object (put (codes "testId") (string id) (put (codes "state") (report_value state) no_members))
