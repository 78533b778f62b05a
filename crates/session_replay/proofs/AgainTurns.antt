-- Turns are decided by their inputs.
use Rattle.std.proofs.Common.{◌≡◌, List, [], ◌∷◌, ◌++◌, refl, sym, ap, ◌∙◌, subst, inl, inr}
use Rattle.std.specs.Prelude.{◌⊎◌, Result, Ok, Err}
use Rattle.session_port.specs.TurnState.{TurnState}
use Rattle.session_port.specs.declared.fault.Counter.{Counter}
use Rattle.session_laws.specs.Course.{Course, Stop, takes, stops, stop_of}
use Rattle.session_laws.specs.Input.{Input}
use Rattle.session_laws.specs.Machine.{step}
use Rattle.session_laws.specs.Meaning.{Meaning}
use Rattle.session_laws.specs.Run.{Turn, Runs, Steps, taking, turn_start}
use Rattle.session_laws.specs.State.{State}

-- ---- courses

pub takes-input : (i j : Input) (c d : Course) → takes i c ≡ takes j d → i ≡ j
takes-input i j c d e = cc

pub takes-later : (i j : Input) (c d : Course) → takes i c ≡ takes j d → c ≡ d
takes-later i j c d e = cc

pub taking-later : (turns : List Turn) (c d : Course) → taking turns c ≡ taking turns d → c ≡ d
taking-later [] c d e = e
taking-later (t ∷ ts) c d e = taking-later ts c d (takes-later t.input t.input (taking ts c) (taking ts d) e)

pub taking-stop : (turns : List Turn) (later : Course) → stop_of (taking turns later) ≡ stop_of later
taking-stop [] later = refl
taking-stop (t ∷ ts) later = taking-stop ts later

pub takes-no_stop : {P : Type 0} (i : Input) (c : Course) (stop : Stop) → takes i c ≡ stops stop → P
takes-no_stop i c stop e = absurd cc

pub stops-same : (a b : Stop) → stops a ≡ stops b → a ≡ b
stops-same a b e = cc

-- ---- steps

abbrev Stepped : Type 0
Stepped = Result (TurnState State) Counter

abbrev stepped : TurnState State → Stepped
stepped x = Ok x

ok-same : (x y : TurnState State) → stepped x ≡ stepped y → x ≡ y
ok-same x y e = cc

refused-taken : {P : Type 0} (counter : Counter) (x : TurnState State) → Err counter ≡ stepped x → P
refused-taken counter x e = absurd cc

-- the state that a turn leaves, and what it writes and orders
abbrev behind_turn : Turn → State → TurnState State
behind_turn turn new = record { state = new; out = record { messages = turn.messages; commands = turn.commands } }

stepped-same : (meaning : Meaning) (state : State) (t u : Turn) (a b : State) → t.input ≡ u.input → Steps meaning state t a → Steps meaning state u b
    → behind_turn t a ≡ behind_turn u b
stepped-same meaning state t u a b same left right = ok-same _ _ (sym left ∙ ap (λ i. step meaning i (turn_start state)) same ∙ right)

turns-same : (meaning : Meaning) (state : State) (t u : Turn) (a b : State) → t.input ≡ u.input → Steps meaning state t a → Steps meaning state u b
    → t ≡ u
turns-same meaning state t u a b same left right =
    let e = stepped-same meaning state t u a b same left right in
    λ i. record { input = same i; messages = (e i).out.messages; commands = (e i).out.commands }

states-same : (meaning : Meaning) (state : State) (t u : Turn) (a b : State) → t.input ≡ u.input → Steps meaning state t a → Steps meaning state u b
    → a ≡ b
states-same meaning state t u a b same left right = let e = stepped-same meaning state t u a b same left right in λ i. (e i).state

-- an input that the machine refuses has no turn
pub refused-none : {P : Type 0} (meaning : Meaning) (state : State) (input : Input) (counter : Counter) (t : Turn) (mid : State) → input ≡ t.input
    → step meaning input (turn_start state) ≡ Err counter → Steps meaning state t mid → P
refused-none meaning state input counter t mid same refused steps =
    refused-taken counter _ (sym refused ∙ ap (λ i. step meaning i (turn_start state)) same ∙ steps)

-- ---- two lists of turns

-- the second turns are the first ones and more
pub record GoesOn (meaning : Meaning) (first second : List Turn) (state now : State) (left later : Course) : Type 0 where
  pub more : List Turn
  pub is : second ≡ first ++ more
  pub runs : Runs meaning state more now
  pub course : left ≡ taking more later

goes-under : (meaning : Meaning) (t u : Turn) (ts us : List Turn) (a b : State) (c d : Course) → t ≡ u
    → GoesOn meaning ts us a b c d ⊎ GoesOn meaning us ts b a d c
    → GoesOn meaning (t ∷ ts) (u ∷ us) a b c d ⊎ GoesOn meaning (u ∷ us) (t ∷ ts) b a d c
goes-under meaning t u ts us a b c d same (inl h) =
    inl (record { more = h.more; is = ap (λ x. x ∷ us) (sym same) ∙ ap (λ xs. t ∷ xs) h.is; runs = h.runs; course = h.course })
goes-under meaning t u ts us a b c d same (inr h) =
    inr (record { more = h.more; is = ap (λ x. x ∷ ts) same ∙ ap (λ xs. u ∷ xs) h.is; runs = h.runs; course = h.course })

-- of two lists of turns from one state, with the same inputs as long as both go on, one is the front of the other
pub one-goes_on : (meaning : Meaning) (s a b : State) (ts us : List Turn) (c d : Course) → Runs meaning s ts a → Runs meaning s us b
    → taking ts c ≡ taking us d → GoesOn meaning ts us a b c d ⊎ GoesOn meaning us ts b a d c
one-goes_on meaning s a b [] us c d r q e = inl (record { more = us; is = refl; runs = subst (λ x. Runs meaning x us b) (sym r) q; course = e })
one-goes_on meaning s a b (t ∷ ts) [] c d r q e =
    inr (record { more = t ∷ ts; is = refl; runs = subst (λ x. Runs meaning x (t ∷ ts) a) (sym q) r; course = sym e })
one-goes_on meaning s a b (t ∷ ts) (u ∷ us) c d (mid, steps, runs) (other, others, later) e =
    let same = takes-input t.input u.input (taking ts c) (taking us d) e in
    goes-under meaning t u ts us a b c d (turns-same meaning s t u mid other same steps others)
    (one-goes_on meaning mid a b ts us c d runs (subst (λ x. Runs meaning x us b) (sym (states-same meaning s t u mid other same steps others)) later)
    (takes-later t.input u.input (taking ts c) (taking us d) e))
