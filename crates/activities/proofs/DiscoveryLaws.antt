-- Discoveries in progress are counted, and the work that is told of them begins and ends in turn.
use Rattle.std.proofs.Common.{◌≡◌, ℕ, ◌+◌, ◌-◌, ◌^◌, ◌≤◌, Bool, true, false, List, [], ◌∷◌, ◌++◌, refl, sym, ⊎_elim}
use Rattle.std.proofs.Common.{arith}
use Rattle.std.specs.Prelude.{cond, ◌==◌, ltb, Option, None, Some, Result, Ok, Err, is_ok}
use Rattle.std.specs.List.{count_by}
use Rattle.std.proofs.lemmas.Bool.{cond-false, true≢false, eqb-true, eq-eqb}
use Rattle.std.proofs.lemmas.Bool.Decides.{eqb_tells}
use Rattle.std.proofs.lemmas.List.Sums.{sum_by-append}
use Rattle.session_port.specs.TurnState.{and_then}
use Rattle.session_port.specs.declared.command.DiscoverArg.{DiscoverArg}
use Rattle.session_port.specs.declared.command.LogCode.TheVariants.{DiscoverWithoutSettings}
use Rattle.session_port.specs.declared.fault.Counter.{Counter}
use Rattle.session_port.specs.declared.fault.Counter.TheVariants.{Discoveries}
use Rattle.session_port.specs.declared.news.DiscoverMsg.{DiscoverMsg}
use Rattle.session_port.specs.declared.news.DiscoverMsg.TheVariants.{Finished, Progress, Error}
use Rattle.activities.specs.Discovery.{Discovery, begins, one_more, ends, reported, shown, ended, error_shown, told_if}
use Rattle.activities.specs.DiscoveryRuns.{DiscoveryAct, or_silent, discovery_step, discovery_after, orders_one}
use Rattle.activities.specs.DiscoveryRuns.{orders_given, ends_under, ends_one, ends_heard}
use Rattle.activities.specs.DiscoveryRuns.{is_begin, is_end, begins_told, ends_in, ends_told, going_on}
use Rattle.activities.specs.DiscoveryRuns.DiscoveryAct.{Orders, Tells}
use Rattle.activities.specs.Settings.{discovery_label}
use Rattle.activities.specs.Announced.{Announced, telling, behind}
use Rattle.activities.specs.declared.telling.Telling.{Telling}
use Rattle.activities.specs.declared.telling.Telling.TheVariants.{Begin, Report, End, Log, Discover}

-- what an act does that orders so many and ends so many
record Counts (orders ends : ℕ) (before : Discovery) (told : Announced Discovery) : Type 0 where
  given : told.state.given ≡ before.given + orders
  most : told.state.active ≤ before.active + orders
  least : before.active + orders ≤ told.state.active + ends
  in_turn : count_by is_begin told.tellings + going_on before ≡ ends_in before told.tellings + going_on told.state

none_at : (zero : Bool) (n : ℕ) → n ≡ 0 → cond zero 0 n ≡ 0
none_at true n none = refl
none_at false n none = none

-- an act that tells neither a begin nor an end, and leaves the counts
counts_none : (discovery : Discovery) (tellings : List Telling) → count_by is_begin tellings ≡ 0
    → count_by is_end tellings ≡ 0
    → Counts 0 0 discovery (telling tellings discovery)
counts_none discovery tellings begins ends = record {
  given = omega arith;
  most = omega arith;
  least = omega arith;
  in_turn = omega (arith, begins, none_at (discovery.active == 0) (count_by is_end tellings) ends);
}

-- ---- an order

module _ (label : List ℕ) (arg : DiscoverArg) where
  -- the order, where there is room for its number or not
  abbrev order_by : Bool → Discovery → Result (Announced Discovery) Counter
  order_by room discovery =
      and_then (cond room (Ok (discovery.given + 1)) (Err Discoveries))
      (λ number. Ok (telling (begins label discovery ++ Discover arg ∷ []) (one_more number discovery)))

  begins_first : (zero : Bool) → count_by is_begin (cond zero (Begin label None None None ∷ []) [] ++ Discover arg ∷ []) +
      cond zero 0 1 ≡ 1
  begins_first true = refl
  begins_first false = refl

  ends_none : (zero : Bool) → cond zero 0 (count_by
      is_end (cond zero (Begin label None None None ∷ []) [] ++ Discover arg ∷ [])) ≡ 0
  ends_none true = refl
  ends_none false = refl

  goes_on : (number : ℕ) (discovery : Discovery) → going_on (one_more number discovery) ≡ 1
  goes_on number discovery =
      ⊎_elim
      (λ none. absurd (omega (arith, none.1)))
      (λ some. cond-false (discovery.active + 1 == 0) 0 1 some.0)
      (eqb_tells (discovery.active + 1) 0)

  counts_order : (room : Bool) (discovery : Discovery)
      → Counts (cond (is_ok (order_by room discovery)) 1 0) 0 discovery (or_silent discovery (order_by room discovery))
  counts_order true discovery = record {
    given = refl;
    most = omega arith;
    least = omega arith;
    in_turn =
        omega (
          arith,
          begins_first (discovery.active == 0),
          ends_none (discovery.active == 0),
          goes_on (discovery.given + 1) discovery,
        );
  }
  counts_order false discovery = counts_none discovery [] refl refl

-- ---- an end

module _ (label : List ℕ) (message : Option (List ℕ)) where
  abbrev end_if : Bool → List Telling
  end_if last = cond last (End label None message ∷ []) []

  begins_none : (last : Bool) → count_by is_begin (end_if last) ≡ 0
  begins_none true = refl
  begins_none false = refl

  ends_last : (zero last : Bool) (tellings : List Telling) → (zero ≡ true → last ≡ true) → count_by is_end tellings ≡ 0
      → cond zero 0 1 ≡ cond zero 0 (count_by is_end (tellings ++ end_if last)) + cond last 0 1
  ends_last true true tellings both none = refl
  ends_last true false tellings both none = absurd (true≢false (sym (both refl)))
  ends_last false true tellings both none =
      omega (arith, none, sum_by-append (λ (t : Telling). cond (is_end t) 1 0) tellings (End label None message ∷ []))
  ends_last false false tellings both none =
      omega (arith, none, sum_by-append (λ (t : Telling). cond (is_end t) 1 0) tellings [])

  zero_less : (active : ℕ) → (active == 0) ≡ true → (active - 1 == 0) ≡ true
  zero_less active none = eq-eqb (active - 1) 0 (omega (arith, eqb-true active 0 none))

  counts_end : (tellings : List Telling) (discovery : Discovery) → count_by is_begin tellings ≡ 0
      → count_by is_end tellings ≡ 0
      → Counts 0 1 discovery (behind tellings (ended label message discovery))
  counts_end tellings discovery begins ends =
      let begun = sum_by-append (λ (t : Telling). cond (is_begin t) 1 0) tellings (end_if (discovery.active - 1 == 0))
      in
      let none = begins_none (discovery.active - 1 == 0) in
      let turn = ends_last (discovery.active == 0) (discovery.active - 1 == 0) tellings (zero_less discovery.active)
      ends in
      record {
        given = omega arith;
        most = omega arith;
        least = omega arith;
        in_turn = omega (arith, begun, none, turn, begins);
      }

reports_none : (zero : Bool) (report : Telling) → (count_by is_begin (report ∷ []) ≡ 0)
    → count_by is_begin (cond zero [] (report ∷ [])) ≡ 0
reports_none true report none = refl
reports_none false report none = none

reports_no_end : (zero : Bool) (report : Telling) → (count_by is_end (report ∷ []) ≡ 0)
    → count_by is_end (cond zero [] (report ∷ [])) ≡ 0
reports_no_end true report none = refl
reports_no_end false report none = none

counts_heard : (label : Option (List ℕ)) (opens_logs : Bool) (message : DiscoverMsg) (discovery : Discovery)
    → Counts 0 (ends_under label message) discovery (told_if label opens_logs message discovery)
counts_heard None opens_logs message discovery = counts_none discovery (Log DiscoverWithoutSettings [] ∷ []) refl refl
counts_heard (Some label) opens_logs (Progress message) discovery =
    let report = Report label None (Some message) None in
    counts_none discovery (reported label message discovery) (reports_none (discovery.active == 0) report refl)
    (reports_no_end (discovery.active == 0) report refl)
counts_heard (Some label) opens_logs (Finished project buildfile) discovery =
    counts_end label None [] discovery refl refl
counts_heard (Some label) opens_logs (Error error source) discovery =
    counts_end label (Some (error_shown error)) (shown opens_logs error source) discovery refl refl

-- ---- all acts

counts : (act : DiscoveryAct) (discovery : Discovery)
    → Counts (orders_one act discovery) (ends_one act) discovery (discovery_step act discovery)
counts (Orders label arg) discovery = counts_order label arg (ltb discovery.given (2 ^ 64 - 1)) discovery
counts (Tells settings message) discovery =
    counts_heard (discovery_label settings) settings.capabilities.open_server_logs message discovery

pub given_is : (given : ℕ) (run : List DiscoveryAct)
    → (discovery_after given run).given ≡ given + orders_given given run
given_is given [] = omega arith
given_is given (act ∷ before) =
    let more = given_is given before in
    omega (arith, more, (counts act (discovery_after given before)).given)

pub active_is_most : (given : ℕ) (run : List DiscoveryAct) → (discovery_after given run).active ≤ orders_given given run
active_is_most given [] = omega arith
active_is_most given (act ∷ before) =
    let more = active_is_most given before in
    omega (arith, more, (counts act (discovery_after given before)).most)

pub active_is_least : (given : ℕ) (run : List DiscoveryAct)
    → orders_given given run ≤ (discovery_after given run).active + ends_heard run
active_is_least given [] = omega arith
active_is_least given (act ∷ before) =
    let more = active_is_least given before in
    omega (arith, more, (counts act (discovery_after given before)).least)

pub told_in_turn : (given : ℕ) (run : List DiscoveryAct)
    → begins_told given run ≡ ends_told given run + going_on (discovery_after given run)
told_in_turn given [] = refl
told_in_turn given (act ∷ before) =
    let more = told_in_turn given before in
    omega (arith, more, (counts act (discovery_after given before)).in_turn)
