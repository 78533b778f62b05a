-- What a question comes to, and what a query may say of it.
use Rattle.std.specs.Prelude.{◌≡◌, ℕ, ℤ, List, true, Option, Some}
use Rattle.std.specs.List.{list_all}
use Rattle.plain.specs.Plain.{is_plain}
use Rattle.analysis_host.specs.declared.ask.Answer.{Answer}
use Rattle.analysis_host.specs.declared.ask.Answer.TheVariants.{Json, Diagnostics, Tests, Roots, Primed}
use Rattle.analysis_host.specs.declared.ask.Ask.{Ask}
use Rattle.analysis_host.specs.declared.ask.Ask.TheVariants.{Request, Part, Syntax, Semantic, Tests as TestsOf}
use Rattle.analysis_host.specs.declared.ask.Ask.TheVariants.{CratesOf, Prime}
use Rattle.analysis_host.specs.declared.ask.Outcome.{Outcome}
use Rattle.analysis_host.specs.declared.ask.Outcome.TheVariants.{Value, Fault, Cancelled}

-- an answer, or why there is none
pub data OutcomeSpec : Type 0 where
  answer : Answer → OutcomeSpec
  fault : Option ℤ → List ℕ → OutcomeSpec

-- a query says what the question comes to, or that the number held was seen
abbrev pub Answers : OutcomeSpec → Option ℕ → Outcome → Type 0
Answers finding held (Value value) = finding ≡ answer value
Answers finding held (Fault code message) = finding ≡ fault code message
Answers finding held (Cancelled saw) = held ≡ Some saw

-- a request, and a part of one, is answered by JSON, and it is plain
abbrev pub IsPlainAnswer : Answer → Type 0
IsPlainAnswer (Json value) = is_plain value ≡ true
IsPlainAnswer other = ⊥

abbrev pub AreDiagnostics : Answer → Type 0
AreDiagnostics (Diagnostics list) = Unit {0}
AreDiagnostics other = ⊥

-- tests are told as JSON, and each is plain
abbrev pub AreTests : Answer → Type 0
AreTests (Tests values) = list_all is_plain values ≡ true
AreTests other = ⊥

abbrev pub IsRoots : Answer → Type 0
IsRoots (Roots paths) = Unit {0}
IsRoots other = ⊥

abbrev pub IsPrimed : Answer → Type 0
IsPrimed Primed = Unit {0}
IsPrimed other = ⊥

-- an answer is of its question's kind, and its values are plain
abbrev pub IsAnswerTo : Ask → Answer → Type 0
IsAnswerTo (Request row params) value = IsPlainAnswer value
IsAnswerTo (Part row params files) value = IsPlainAnswer value
IsAnswerTo (Syntax file) value = AreDiagnostics value
IsAnswerTo (Semantic file) value = AreDiagnostics value
IsAnswerTo (TestsOf file) value = AreTests value
IsAnswerTo (CratesOf file) value = IsRoots value
IsAnswerTo Prime value = IsPrimed value

-- a fact of the answer, if there is one
abbrev pub IfValue : (Answer → Type 0) → Outcome → Type 0
IfValue P (Value value) = P value
IfValue P (Fault code message) = Unit {0}
IfValue P (Cancelled saw) = Unit {0}

-- a request may come to it
abbrev pub IsPlainOutcome : Outcome → Type 0
IsPlainOutcome outcome = IfValue IsPlainAnswer outcome

-- a question may come to it
abbrev pub IsOutcomeOf : Ask → Outcome → Type 0
IsOutcomeOf ask outcome = IfValue (IsAnswerTo ask) outcome
