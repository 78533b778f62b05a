-- What a call comes to: what it leaves, and what is to be told. No call tells it by itself.
use Rattle.std.specs.Prelude.{◌≡◌, List, [], ◌++◌, Result, Ok, Err}
use Rattle.session_port.specs.declared.fault.Counter.{Counter}
use Rattle.session_port.specs.declared.fault.TurnError.{TurnError}
use Rattle.session_port.specs.declared.fault.TurnError.TheVariants.{Exhausted, NoMemory}
use Rattle.activities.specs.declared.telling.Telling.{Telling}

pub record Announced (S : Type 0) : Type 0 where
  pub state : S
  -- in the order in which it is to be told
  pub tellings : List Telling

abbrev pub telling : {S : Type 0} → List Telling → S → Announced S
telling tellings state = record { state = state; tellings = tellings }

-- nothing is to be told
abbrev pub silent : {S : Type 0} → S → Announced S
silent state = telling [] state

-- these are to be told before
abbrev pub behind : {S : Type 0} → List Telling → Announced S → Announced S
behind tellings told = record told { tellings = tellings ++ told.tellings }

-- what a call answers and leaves is this; that memory ran out is free
abbrev pub Announces : {S E : Type 0} → Result (List Telling) E → Announced S → S → Type 0
Announces (Ok tellings) told state = told ≡ telling tellings state
Announces (Err fault) told state = Unit {0}

-- the same of a step that a counter may refuse
abbrev pub AnnouncesUnless : {S : Type 0} → Result (List Telling) TurnError → Result (Announced S) Counter → S → Type 0
AnnouncesUnless (Ok tellings) told state = told ≡ Ok (telling tellings state)
AnnouncesUnless (Err (Exhausted counter)) told state = told ≡ Err counter
AnnouncesUnless (Err NoMemory) told state = Unit {0}
