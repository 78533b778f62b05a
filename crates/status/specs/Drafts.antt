-- A status that is being told: facts raise its health and add to its text.
use Rattle.std.specs.Prelude.{ℕ, List, [], ◌∷◌, ◌++◌, length, ◌==◌, Option, Some, None, if◌then◌else◌}
use Rattle.std.specs.Str.{trim_end}
use Rattle.status.specs.declared.health.Health.{Health}
use Rattle.status.specs.declared.health.Health.TheVariants as health
use Rattle.status.specs.Health.{worse}
use Rattle.status.specs.declared.draft.Draft.{Draft}

-- how bad a fact is, and its text
abbrev pub Fact : Type 0
Fact = Health × List ℕ

abbrev pub add : Fact → Draft → Draft
add fact draft = record { health = worse draft.health fact.0; text = draft.text ++ fact.1 }

-- the facts one after another
abbrev pub add_all : List Fact → Draft → Draft
add_all [] draft = draft
add_all (fact ∷ rest) draft = add_all rest (add fact draft)

-- the facts of each of these one after another
abbrev pub add_each : {A : Type 0} → (A → List Fact) → List A → Draft → Draft
add_each facts [] draft = draft
add_each facts (x ∷ rest) draft = add_each facts rest (add_all (facts x) draft)

-- all is well, and nothing is told
abbrev pub nothing_told : Draft
nothing_told = record { health = health.Ok; text = [] }

-- the text without the white space at its end; none where nothing was told
abbrev pub message_of : List ℕ → Option (List ℕ)
message_of text = if length text == 0 then None else Some (trim_end text)
