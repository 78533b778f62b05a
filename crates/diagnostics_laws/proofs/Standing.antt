-- What holds of the board and of what is shown behind each turn.
use Rattle.std.proofs.Common.{◌≡◌, ℕ, ◌+◌, ◌≤◌, ◌⊎◌, inl, inr, length, List, [], ◌∷◌, ◌++◌, append_assoc, Bool, true, false, refl, sym, ap, ◌∙◌}
use Rattle.std.proofs.Common.{subst, arith}
use Rattle.std.specs.Prelude.{cond, nat_eq, nat_lt, Option, None, Some, is_some, if◌then◌else◌}
use Rattle.std.specs.FinMap as map
use Rattle.std.specs.Cmp.{nat_cmp_total, unsigned_tied}
use Rattle.std.specs.Ordering.{nat_cmp}
use Rattle.std.proofs.lemmas.Bool.{eqb-true}
use Rattle.std.proofs.lemmas.Result.{IfOk-at_ok}
use Rattle.docs_vfs.specs.Files.{Files, path_at}
use Rattle.docs_vfs.specs.declared.file_kinds.FileId.{FileId}
use Rattle.lsp_types.specs.declared.diagnostic.Diagnostic.{Diagnostic}
use Rattle.op_board.specs.Acts.{Act, after, step as after_act, steps}
use Rattle.op_board.specs.Acts.Act.{Adds, Clears, Counts, Forgets, ForgetsAll, ForgetsIn, ForgetsOlder, ForgetsOlderIn, Gives, Takes}
use Rattle.op_board.specs.Board.{Board, is_above, list_of, lists_of, most_generations, new_board, next_generation}
use Rattle.op_board.specs.Changes.{ChangedSince, files_in as files_taken}
use Rattle.op_board.specs.Marked.{taken}
use Rattle.op_board.specs.Diagnostics.{in_order}
use Rattle.op_board.specs.Runs.{above, cleared_mark, last_generation, same_file}
use Rattle.op_board.specs.declared.diagnostic.NativePass.{NativePass}
use Rattle.op_board.specs.declared.diagnostic.NativePass.TheVariants.{Syntax, Semantic}
use Rattle.op_board.proofs.NativeRuns.{continued, stored_is}
use Rattle.op_board.proofs.Takes.{lists_changes}
use Rattle.ra_config.specs.Config.{ConfigData}
use Rattle.session_port.specs.Record.{spawned, with_jobs}
use Rattle.session_port.specs.Jobs.{Jobs, after_batch}
use Rattle.session_port.specs.TurnState.{TurnState}
use Rattle.session_port.specs.declared.job.Job.{Job}
use Rattle.desk.specs.Meaning.{Meaning}
use Rattle.session_files.specs.Current.{IsSound}
use Rattle.session_files.specs.SessionFiles.{SessionFiles}
use Rattle.session_model.specs.Diagnosing.{counted, shows_diagnostics}
use Rattle.session_model.specs.Inputs.{batch_of, turns_after}
use Rattle.session_model.specs.Machine.{Turning, step}
use Rattle.session_model.specs.OwnJobs.{batch_jobs_due, batch_jobs_if, before_fetch, before_quiet, numbered_behind, own_jobs}
use Rattle.session_model.specs.Places.{Place}
use Rattle.session_model.specs.Rows.{turn_row}
use Rattle.session_model.specs.Run.{Runs, Steps, Turn, out_after, turn_start}
use Rattle.session_model.specs.State.{State, fresh}
use Rattle.session_model.specs.declared.input.Event.{Event}
use Rattle.session_model.specs.declared.input.Input.{Input}
use Rattle.session_model.specs.declared.input.Input.TheVariants.{Start, Next}
use Rattle.session_laws.specs.Invariant.{AreSeen, place_of_state}
use Rattle.session_laws.proofs.Answered.{runs-stand}
use Rattle.session_laws.proofs.Handing.{turns-over}
use Rattle.session_laws.proofs.Rows.{steps-fit}
use Rattle.session_laws.proofs.Turns.{session_in}
use Rattle.diagnostics_laws.specs.Batches.{HasGenerations, StoresBrought, brought_in, brought_past}
use Rattle.session_laws.specs.Published.{published_among}
use Rattle.diagnostics_laws.proofs.Batching.{Kept, batch_board, due_in, published_of}
use Rattle.diagnostics_laws.proofs.KeyedBools.{none-some, true-false}
use Rattle.diagnostics_laws.proofs.MessagesEnds.{JobsFit}
use Rattle.diagnostics_laws.proofs.Publishing.{Took, start-kept, step-took}
use Rattle.diagnostics_laws.proofs.Sounding.{told_in}
use Rattle.diagnostics_laws.proofs.Starting.{GivenFits, OwnFit, batch-fits, out-fits, own-fits}
use Rattle.diagnostics_laws.proofs.StoringBatches.{InTime, batch-stays, fit-in-time, last_given, run-generation}
use Rattle.diagnostics_laws.proofs.StoringGenerations.{AllFit, Fits, Grows, IsKnown, IsTimely, counts-timely, fit-takes-none, new-timely, steps-generation}
use Rattle.diagnostics_laws.proofs.StoringGenerations.{steps-timely, takes-timely}
use Rattle.diagnostics_laws.proofs.StoringRuns.{AreApart, IsApart, TakesNone}

-- ---- acts of a run

-- the files that an act names have paths
abbrev pub IsNamed : Files → Act → Type 0
IsNamed table (Gives pass generation file list) = IsKnown table file
IsNamed table (Adds id generation name entry) = IsKnown table entry.file
IsNamed table act = Unit {0}

abbrev pub AreNamed : Files → List Act → Type 0
AreNamed table [] = Unit {0}
AreNamed table (act ∷ run) = IsNamed table act × AreNamed table run

named-append : (table : Files) (more run : List Act) → AreNamed table more → AreNamed table run → AreNamed table (more ++ run)
named-append table [] run h k = k
named-append table (act ∷ more) run h k = (h.0, named-append table more run h.1 k)

one-grown : (t u : Files) (act : Act) → Grows t u → IsNamed t act → IsNamed u act
one-grown t u Counts grows h = tt
one-grown t u (Gives pass g file list) grows h = (h.0, grows file h.0 h.1)
one-grown t u (Clears file) grows h = tt
one-grown t u (Adds id g name entry) grows h = (h.0, grows entry.file h.0 h.1)
one-grown t u (Forgets id) grows h = tt
one-grown t u (ForgetsIn id name) grows h = tt
one-grown t u (ForgetsOlder id g) grows h = tt
one-grown t u (ForgetsOlderIn id name g) grows h = tt
one-grown t u ForgetsAll grows h = tt
one-grown t u Takes grows h = tt

named-grown : (t u : Files) (run : List Act) → Grows t u → AreNamed t run → AreNamed u run
named-grown t u [] grows h = tt
named-grown t u (act ∷ run) grows h = (one-grown t u act grows h.0, named-grown t u run grows h.1)

one-named : (table : Files) (most : ℕ) (act : Act) → Fits table most act → IsNamed table act
one-named table most Counts h = tt
one-named table most (Gives pass g file list) h = h.1
one-named table most (Clears file) h = tt
one-named table most (Adds id g name entry) h = h
one-named table most (Forgets id) h = tt
one-named table most (ForgetsIn id name) h = tt
one-named table most (ForgetsOlder id g) h = tt
one-named table most (ForgetsOlderIn id name g) h = tt
one-named table most ForgetsAll h = tt
one-named table most Takes h = tt

fit-named : (table : Files) (most : ℕ) (acts : List Act) → AllFit table most acts → AreNamed table acts
fit-named table most [] h = tt
fit-named table most (act ∷ acts) h = (one-named table most act h.0, fit-named table most acts h.1)

-- a file without a path is none of these
other-by : (b : Bool) (table : Files) (file other : FileId) → nat_eq file.0 other.0 ≡ b → path_at table file ≡ None → IsKnown table other → b ≡ false
other-by true table file other is none known =
    none-some known.0 (sym none ∙ ap (λ n. path_at table (record { 0 = n })) (eqb-true file.0 other.0 is) ∙ known.1)
other-by false table file other is none known = refl

one-apart : (table : Files) (file : FileId) (act : Act) → path_at table file ≡ None → IsNamed table act → IsApart file act
one-apart table file Counts none h = tt
one-apart table file (Gives pass g other list) none h = other-by (same_file file other) table file other refl none h
one-apart table file (Clears other) none h = tt
one-apart table file (Adds id g name entry) none h = other-by (same_file file entry.file) table file entry.file refl none h
one-apart table file (Forgets id) none h = tt
one-apart table file (ForgetsIn id name) none h = tt
one-apart table file (ForgetsOlder id g) none h = tt
one-apart table file (ForgetsOlderIn id name g) none h = tt
one-apart table file ForgetsAll none h = tt
one-apart table file Takes none h = tt

pub named-apart : (table : Files) (file : FileId) (run : List Act) → path_at table file ≡ None → AreNamed table run → AreApart file run
named-apart table file [] none h = tt
named-apart table file (act ∷ run) none h = (one-apart table file act none h.0, named-apart table file run none h.1)

-- ---- a batch on the board

record IsCounted (due : Bool) (settings : ConfigData) (board : Board) : Type 0 where
  acts : List Act
  none : (others : List Act) → TakesNone others → TakesNone (acts ++ others)
  is : batch_board due settings board ≡ steps acts board
  named : (table : Files) → AreNamed table acts
  in_time : (run : List Act) → InTime run → InTime (acts ++ run)
  brings : (pass : NativePass) (generation : ℕ) (file : FileId) (run : List Act)
      → last_given pass generation file (acts ++ run) ≡ last_given pass generation file run
  timely : IsTimely board → IsTimely (steps acts board)
  rises : ((steps acts board).generation ≡ board.generation) ⊎ ((steps acts board).generation ≡ board.generation + 1)
  given : due ≡ true → shows_diagnostics settings ≡ true → GivenFits (steps acts board).generation (next_generation board)

not-counted : (due : Bool) (settings : ConfigData) (board : Board) → batch_board due settings board ≡ board
    → (due ≡ true → shows_diagnostics settings ≡ true → GivenFits board.generation (next_generation board)) → IsCounted due settings board
not-counted due settings board is given = record {
  acts = [];
  none = λ others h. h;
  is = is;
  named = λ table. tt;
  in_time = λ run h. h;
  brings = λ pass generation file run. refl;
  timely = λ h. h;
  rises = inl refl;
  given = given;
}

abbrev one_more : Board → Bool → Option ℕ
one_more board b = if b then Some (board.generation + 1) else None

itself : (n : ℕ) → n ≤ n
itself n = omega arith

left-by : (b : Bool) (settings : ConfigData) (board : Board) → nat_lt board.generation most_generations ≡ b
    → shows_diagnostics settings ≡ true → IsCounted true settings board
left-by true settings board is shows = record {
  acts = Counts ∷ [];
  none = λ others h. h;
  is = ap (λ s. if s then counted board else board) shows ∙ ap (λ b. if is_some (one_more board b) then after_act Counts board else board) is;
  named = λ table. (tt, tt);
  in_time = λ run h. h;
  brings = λ pass generation file run. refl;
  timely = counts-timely board;
  rises = inr refl;
  given = λ due shown. subst (λ b. GivenFits (board.generation + 1) (one_more board b)) (sym is) (itself (board.generation + 1));
}
left-by false settings board is shows =
    not-counted true settings board
    (ap (λ s. if s then counted board else board) shows ∙ ap (λ b. if is_some (one_more board b) then after_act Counts board else board) is)
    (λ due shown. subst (λ b. GivenFits board.generation (one_more board b)) (sym is) tt)

shown-by : (b : Bool) (settings : ConfigData) (board : Board) → shows_diagnostics settings ≡ b → IsCounted true settings board
shown-by true settings board is = left-by (nat_lt board.generation most_generations) settings board refl is
shown-by false settings board is =
    not-counted true settings board (ap (λ s. if s then counted board else board) is) (λ due shown. true-false (sym shown ∙ is))

batch-counts : (due : Bool) (settings : ConfigData) (board : Board) → IsCounted due settings board
batch-counts true settings board = shown-by (shows_diagnostics settings) settings board refl
batch-counts false settings board = not-counted false settings board refl (λ due shown. true-false (sym due))

-- ---- what holds of the board

pub record Based (s : State) : Type 0 where
  pub run : List Act
  pub board : s.board ≡ after run
  pub none : (file : FileId) → ChangedSince file run → ⊥
  pub named : AreNamed s.files.table run
  pub in_time : InTime run
  pub marks : s.board.marked ≡ map.empty
  pub timely : IsTimely s.board
  pub few : s.board.generation ≤ s.desk.turns
  pub fit : JobsFit s.board.generation s.files.table s.desk.jobs
  pub seen : AreSeen s.files

-- what a turn makes of it
pub record Advances (s : State) (turn : Turn) (mid : State) (base : Based s) : Type 0 where
  pub based : Based mid
  pub grows : Grows s.files.table mid.files.table
  pub more : List Act
  pub none : TakesNone more
  pub board : mid.board ≡ after_act Takes (after (more ++ base.run))
  pub told : published_among turn.messages
      ≡ published_of mid.files (after_act Takes (after (more ++ base.run))) (files_taken (taken (after (more ++ base.run)).marked))
  pub rises : (mid.board.generation ≡ s.board.generation) ⊎ (mid.board.generation ≡ s.board.generation + 1)
  pub given : (pass : NativePass) (generation : ℕ) (file : FileId) → last_given pass generation file based.run
      ≡ brought_past (batch_of turn.input) s.desk.jobs pass generation file (last_given pass generation file base.run)
  pub jobs : mid.desk.jobs ≡ out_after turn s.desk.jobs

low-or : (g n t u : ℕ) → g ≤ t → u ≡ t + 1 → (n ≡ g) ⊎ (n ≡ g + 1) → n ≤ u
low-or g n t u low is (inl same) = omega (arith, low, is, same)
low-or g n t u low is (inr more) = omega (arith, low, is, more)

low-least : (g n : ℕ) → (n ≡ g) ⊎ (n ≡ g + 1) → g ≤ n
low-least g n (inl same) = omega (arith, same)
low-least g n (inr more) = omega (arith, more)

-- the jobs out behind a turn fit, where the session's own do
jobs-next : (meaning : Meaning) (s : State) (turn : Turn) (mid : State) → Steps meaning s turn mid → s.board.generation ≤ mid.board.generation
    → Grows s.files.table mid.files.table → JobsFit s.board.generation s.files.table s.desk.jobs
    → OwnFit mid.board.generation mid.files.table (own_jobs meaning turn.input s) → JobsFit mid.board.generation mid.files.table mid.desk.jobs
jobs-next meaning s turn mid steps_are more grows fit owns =
    let fits = steps-fit meaning s turn mid steps_are in
    let asked : List Job = (turn_row meaning turn.input (place_of_state s)).jobs in
    let given : ℕ = s.desk.last_job + length asked in
    let out : Jobs = after_batch (batch_of turn.input) s.desk.jobs in
    let jobs_are : mid.desk.jobs ≡ with_jobs (asked ++ numbered_behind given (own_jobs meaning turn.input s)) out =
    ap (λ (p : Place). p.desk.jobs) fits.place ∙ ap (λ (js : List Job). with_jobs js out) (turns-over meaning s turn mid steps_are) in
    subst (JobsFit mid.board.generation mid.files.table) (sym jobs_are)
    (out-fits s.board.generation mid.board.generation s.files.table mid.files.table (batch_of turn.input) asked (spawned turn.commands) given
    (own_jobs meaning turn.input s) s.desk.jobs (sym fits.does.jobs) more grows fit owns)

abbrev behind : Turn → State → TurnState State
behind turn mid = record { state = mid; out = record { messages = turn.messages; commands = turn.commands } }

-- a turn that takes an event
event-advances : (meaning : Meaning) (s : State) (turn : Turn) (event : Event) (mid : State) (base : Based s) → turn.input ≡ Next event
    → Steps meaning s turn mid
    → Took meaning s event (behind turn mid) → Advances s turn mid base
event-advances meaning s turn event mid base input steps_are took =
    let w : TurnState State = session_in took.t in
    let acts : List Act = took.goes.acts in
    let due : Bool = due_in (Next event) took.t.state.facts took.t.state.state in
    let counts = batch-counts due w.state.client.settings w.state.board in
    let files_are : mid.files ≡ w.state.files = took.kept.files ∙ took.takes.files ∙ took.batched.files in
    let table_is : mid.files.table ≡ w.state.files.table = ap (λ (f : SessionFiles). f.table) files_are in
    let behind_files : w.state.board ≡ after (acts ++ base.run) = took.goes.board ∙ ap (steps acts) base.board ∙ continued acts base.run new_board in
    let more : List Act = counts.acts ++ acts in
    let joined : counts.acts ++ (acts ++ base.run) ≡ more ++ base.run = sym (append_assoc counts.acts acts base.run) in
    let behind_batch : took.u.state.board ≡ after (more ++ base.run) =
    took.batched.board ∙ counts.is ∙ ap (steps counts.acts) behind_files ∙ continued counts.acts (acts ++ base.run) new_board ∙ ap after joined in
    let board_is : mid.board ≡ after_act Takes (after (more ++ base.run)) = took.kept.board ∙ took.takes.board ∙ ap (after_act Takes) behind_batch in
    let grows : Grows s.files.table mid.files.table = subst (Grows s.files.table) (sym table_is) took.goes.grows in
    let counted_board : mid.board ≡ after_act Takes (steps counts.acts w.state.board) =
    took.kept.board ∙ took.takes.board ∙ ap (after_act Takes) (took.batched.board ∙ counts.is) in
    let first : w.state.board.generation ≡ s.board.generation =
    ap (λ (b : Board). b.generation) took.goes.board ∙ steps-generation w.state.files.table s.board.generation acts s.board took.goes.fits in
    let timely_then : IsTimely w.state.board =
    subst IsTimely (sym took.goes.board) (steps-timely w.state.files.table acts s.board took.goes.fits base.timely) in
    let generation_is : mid.board.generation ≡ (steps counts.acts w.state.board).generation = ap (λ (b : Board). b.generation) counted_board in
    let rises : (mid.board.generation ≡ s.board.generation) ⊎ (mid.board.generation ≡ s.board.generation + 1) =
    subst (λ n. (mid.board.generation ≡ n) ⊎ (mid.board.generation ≡ n + 1)) first
    (subst (λ n. (n ≡ w.state.board.generation) ⊎ (n ≡ w.state.board.generation + 1)) (sym generation_is) counts.rises) in
    let fits = steps-fit meaning s turn mid steps_are in
    let seen : AreSeen mid.files = fits.seen base.seen in
    let turns_are : mid.desk.turns ≡ s.desk.turns + 1 = ap (λ (p : Place). p.desk.turns) fits.place ∙ ap (λ i. turns_after i s.desk.turns) input in
    let named : AreNamed mid.files.table (more ++ base.run) =
    named-append mid.files.table more base.run
    (named-append mid.files.table counts.acts acts (counts.named mid.files.table)
    (subst (λ t. AreNamed t acts) (sym table_is) (fit-named w.state.files.table s.board.generation acts took.goes.fits)))
    (named-grown s.files.table mid.files.table base.run grows base.named) in
    let batch_fits : OwnFit mid.board.generation mid.files.table (batch_jobs_due (Next event) (before_quiet meaning (Next event) s)) =
    subst (λ (t : Turning). OwnFit mid.board.generation mid.files.table (batch_jobs_due (Next event) t)) (sym took.before)
    (subst (λ t. OwnFit mid.board.generation t (batch_jobs_if due w.state)) (sym table_is)
    (batch-fits mid.board.generation due w.state (subst IsSound files_are seen.sound)
    (λ is_due shows. subst (λ n. GivenFits n (next_generation w.state.board)) (sym generation_is) (counts.given is_due shows)))) in
    let owns : OwnFit mid.board.generation mid.files.table (own_jobs meaning turn.input s) =
    subst (λ (i : Input). OwnFit mid.board.generation mid.files.table (own_jobs meaning i s)) (sym input)
    (own-fits mid.board.generation mid.files.table (Next event) s (before_fetch meaning (Next event) s)
    (batch_jobs_due (Next event) (before_quiet meaning (Next event) s)) batch_fits) in
    let table : Files = w.state.files.table in
    let run_last : s.board.generation ≡ last_generation base.run = ap (λ (b : Board). b.generation) base.board ∙ run-generation base.run in
    let acts_in_time : InTime (acts ++ base.run) =
    fit-in-time table acts base.run (subst (λ n. AllFit table n acts) run_last took.goes.fits) base.in_time in
    let told_first : told_in took.u.out ≡ [] = took.batched.told ∙ took.goes.told in
    let files_then : took.u.state.files ≡ mid.files = sym (took.kept.files ∙ took.takes.files) in
    record {
      based = record {
        run = Takes ∷ (more ++ base.run);
        board = board_is;
        none = λ file changed. changed;
        named = (tt, named);
        in_time = subst InTime joined (counts.in_time (acts ++ base.run) acts_in_time);
        marks = ap (λ (b : Board). b.marked) board_is;
        timely = subst IsTimely (sym counted_board) (takes-timely (steps counts.acts w.state.board) (counts.timely timely_then));
        few = low-or s.board.generation mid.board.generation s.desk.turns mid.desk.turns base.few turns_are rises;
        fit = jobs-next meaning s turn mid steps_are (low-least s.board.generation mid.board.generation rises) grows base.fit owns;
        seen = seen;
      };
      grows = grows;
      more = more;
      none = counts.none acts (fit-takes-none w.state.files.table s.board.generation acts took.goes.fits);
      board = board_is;
      told = took.kept.told ∙ took.takes.told
          ∙ (λ i. told_first i ++ published_of (files_then i) (after_act Takes (behind_batch i)) (files_taken (taken (behind_batch i).marked)));
      rises = rises;
      given = λ pass generation file.
          ap (last_given pass generation file) (sym joined) ∙ counts.brings pass generation file (acts ++ base.run)
          ∙ took.goes.given pass generation file base.run
          ∙ ap (λ (i : Input). brought_past (batch_of i) s.desk.jobs pass generation file (last_given pass generation file base.run)) (sym input);
      jobs = ap (λ (p : Place). p.desk.jobs) fits.place;
    }

-- the start
start-advances : (meaning : Meaning) (s : State) (turn : Turn) (mid : State) (base : Based s) → turn.input ≡ Start → Steps meaning s turn mid
    → Kept (turn_start s) (behind turn mid) → Advances s turn mid base
start-advances meaning s turn mid base input steps_are kept =
    let b : Board = after base.run in
    let fits = steps-fit meaning s turn mid steps_are in
    let table_is : mid.files.table ≡ s.files.table = ap (λ (f : SessionFiles). f.table) kept.files in
    let grows : Grows s.files.table mid.files.table = subst (Grows s.files.table) (sym table_is) (λ file path is. is) in
    let generation_is : mid.board.generation ≡ s.board.generation = ap (λ (x : Board). x.generation) kept.board in
    let board_is : mid.board ≡ b = kept.board ∙ base.board in
    let marks_are : b.marked ≡ map.empty = ap (λ (x : Board). x.marked) (sym base.board) ∙ base.marks in
    let turns_are : mid.desk.turns ≡ s.desk.turns = ap (λ (p : Place). p.desk.turns) fits.place ∙ ap (λ i. turns_after i s.desk.turns) input in
    let none_taken : taken b.marked ≡ None = (lists_changes base.run).none.1 base.none in
    let owns : OwnFit mid.board.generation mid.files.table (own_jobs meaning turn.input s) =
    subst (λ (i : Input). OwnFit mid.board.generation mid.files.table (own_jobs meaning i s)) (sym input)
    (own-fits mid.board.generation mid.files.table Start s (before_fetch meaning Start s) [] tt) in
    record {
      based = record {
        run = base.run;
        board = board_is;
        none = base.none;
        named = subst (λ t. AreNamed t base.run) (sym table_is) base.named;
        in_time = base.in_time;
        marks = ap (λ (x : Board). x.marked) kept.board ∙ base.marks;
        timely = subst IsTimely (sym kept.board) base.timely;
        few = subst (λ n. mid.board.generation ≤ n) (sym turns_are) (subst (λ n. n ≤ s.desk.turns) (sym generation_is) base.few);
        fit = jobs-next meaning s turn mid steps_are (low-least s.board.generation mid.board.generation (inl generation_is)) grows base.fit owns;
        seen = fits.seen base.seen;
      };
      grows = grows;
      more = [];
      none = tt;
      board = board_is ∙ (λ i. record b { marked = marks_are i });
      told = kept.told ∙ sym (ap (λ o. published_of mid.files (after_act Takes b) (files_taken o)) none_taken);
      rises = inl generation_is;
      given = λ pass generation file.
          ap (λ (i : Input). brought_past (batch_of i) s.desk.jobs pass generation file (last_given pass generation file base.run)) (sym input);
      jobs = ap (λ (p : Place). p.desk.jobs) fits.place;
    }

pub advances : (meaning : Meaning) (s : State) (turn : Turn) (mid : State) (base : Based s) → Steps meaning s turn mid → Advances s turn mid base
advances meaning s turn mid base steps_are = by-input turn.input refl
  where
    by-input : (input : Input) → turn.input ≡ input → Advances s turn mid base
    by-input Start is =
        start-advances meaning s turn mid base is steps_are
        (IfOk-at_ok (Kept (turn_start s)) (ap (λ i. step meaning i (turn_start s)) (sym is) ∙ steps_are) (start-kept meaning s))
    by-input (Next event) is =
        event-advances meaning s turn event mid base is steps_are
        (IfOk-at_ok (Took meaning s event) (ap (λ i. step meaning i (turn_start s)) (sym is) ∙ steps_are)
        (step-took meaning s event base.seen.sound base.fit))

pub first-based : (meaning : Meaning) (settings : ConfigData) → Based (fresh settings)
first-based meaning settings = record {
  run = [];
  board = refl;
  none = λ file changed. changed;
  named = tt;
  in_time = tt;
  marks = refl;
  timely = new-timely;
  few = itself 0;
  fit = λ number job g pass files is kind. none-some job (sym (map.get-empty nat_cmp number) ∙ is);
  seen = (runs-stand meaning settings [] (fresh settings) refl).seen;
}

-- ---- runs

pub record Reaches (s last : State) : Type 0 where
  pub based : Based last
  pub grows : Grows s.files.table last.files.table

pub runs-reach : (meaning : Meaning) (s : State) (turns : List Turn) (last : State) → Based s → Runs meaning s turns last → Reaches s last
runs-reach meaning s [] last base runs = record {
  based = subst Based (sym runs) base;
  grows = subst (λ (t : State). Grows s.files.table t.files.table) (sym runs) (λ file path is. is);
}
runs-reach meaning s (turn ∷ turns) last base (mid, steps_are, runs) =
    let a = advances meaning s turn mid base steps_are in
    let r = runs-reach meaning mid turns last a.based runs in
    record { based = r.based; grows = λ file path is. r.grows file path (a.grows file path is) }

-- ---- generations

pub generations-known : (meaning : Meaning) (settings : ConfigData) (turns : List Turn) (last : State) → Runs meaning (fresh settings) turns last
    → HasGenerations last.board last.desk.jobs
generations-known meaning settings turns last runs =
    let b = (runs-reach meaning (fresh settings) turns last (first-based meaning settings) runs).based in
    record {
      stored = b.timely.stored;
      cleared = b.timely.cleared;
      out = λ number job g pass files is kind. (b.fit number job g pass files is kind).0;
    }

pub generations-few : (meaning : Meaning) (settings : ConfigData) (turns : List Turn) (last : State) → Runs meaning (fresh settings) turns last
    → last.board.generation ≤ last.desk.turns
generations-few meaning settings turns last runs = (runs-reach meaning (fresh settings) turns last (first-based meaning settings) runs).based.few

pub generations-rise : (meaning : Meaning) (settings : ConfigData) (turns : List Turn) (last : State) (turn : Turn) (new : State)
    → Runs meaning (fresh settings) turns last → Steps meaning last turn new
    → (new.board.generation ≡ last.board.generation) ⊎ (new.board.generation ≡ last.board.generation + 1)
generations-rise meaning settings turns last turn new runs steps_are =
    (advances meaning last turn new (runs-reach meaning (fresh settings) turns last (first-based meaning settings) runs).based steps_are).rises

-- ---- what jobs brought

-- a run that goes on has what is brought past it
record Brings (s : State) (turns : List Turn) (last : State) (base : Based s) : Type 0 where
  based : Based last
  given : (pass : NativePass) (generation : ℕ) (file : FileId) → last_given pass generation file based.run
      ≡ brought_in turns s.desk.jobs pass generation file (last_given pass generation file base.run)

runs-bring : (meaning : Meaning) (s : State) (turns : List Turn) (last : State) (base : Based s) → Runs meaning s turns last
    → Brings s turns last base
runs-bring meaning s [] last base runs = subst (λ (t : State). Brings s [] t base) (sym runs)
    (record { based = base; given = λ pass generation file. refl })
runs-bring meaning s (turn ∷ turns) last base (mid, steps_are, runs) =
    let a = advances meaning s turn mid base steps_are in
    let r = runs-bring meaning mid turns last a.based runs in
    record {
      based = r.based;
      given = λ pass generation file.
          r.given pass generation file ∙ ap (brought_in turns mid.desk.jobs pass generation file) (a.given pass generation file)
          ∙ ap (λ (js : Jobs). brought_in turns js pass generation file
          (brought_past (batch_of turn.input) s.desk.jobs pass generation file (last_given pass generation file base.run))) a.jobs;
    }

-- ---- marks of clears

clear-by : (b : Bool) (m n : ℕ) (old mark : Option ℕ) → m ≡ n → old ≡ mark → cond b (Some m) old ≡ cond b (Some n) mark
clear-by true m n old mark same is = ap Some same
clear-by false m n old mark same is = is

cleared-is : (file : FileId) (run : List Act) → map.get (after run).cleared file.0 ≡ cleared_mark file run
cleared-is file [] = map.get-empty nat_cmp file.0
cleared-is file (Counts ∷ run) = cleared-is file run
cleared-is file (Gives Syntax g f list ∷ run) = cleared-is file run
cleared-is file (Gives Semantic g f list ∷ run) = cleared-is file run
cleared-is file (Clears f ∷ run) =
    map.get-insert nat_cmp_total (after run).cleared f.0 (after run).generation file.0
    ∙ ap (λ b. cond b (Some (after run).generation) (map.get (after run).cleared file.0)) (unsigned_tied file.0 f.0)
    ∙ clear-by (same_file file f) (after run).generation (last_generation run) (map.get (after run).cleared file.0) (cleared_mark file run)
    (run-generation run)
    (cleared-is file run)
cleared-is file (Adds id g name e ∷ run) = cleared-is file run
cleared-is file (Forgets id ∷ run) = cleared-is file run
cleared-is file (ForgetsIn id name ∷ run) = cleared-is file run
cleared-is file (ForgetsOlder id g ∷ run) = cleared-is file run
cleared-is file (ForgetsOlderIn id name g ∷ run) = cleared-is file run
cleared-is file (ForgetsAll ∷ run) = cleared-is file run
cleared-is file (Takes ∷ run) = cleared-is file run

above-is : (o : Option ℕ) (generation : ℕ) → is_above o generation ≡ above o generation
above-is None generation = refl
above-is (Some mark) generation = refl

-- what the board has of a list that came last
board-stores : (board : Board) (run : List Act) (pass : NativePass) (file : FileId) (list : List Diagnostic) → board ≡ after run → InTime run
    → last_given pass board.generation file run ≡ Some list → is_above (map.get board.cleared file.0) board.generation ≡ true
    → list_of (map.get (lists_of pass board) file.0) ≡ in_order list
board-stores board run pass file list is in_time given clear =
    let last : board.generation ≡ last_generation run = ap (λ (b : Board). b.generation) is ∙ run-generation run in
    let mark : map.get board.cleared file.0 ≡ cleared_mark file run = ap (λ (b : Board). map.get b.cleared file.0) is ∙ cleared-is file run in
    ap (λ (b : Board). list_of (map.get (lists_of pass b) file.0)) is ∙ stored_is pass file run
    ∙ ap in_order (batch-stays pass file list run in_time
    (ap (λ n. last_given pass n file run) (sym last) ∙ given)
    (sym (above-is (cleared_mark file run) (last_generation run)) ∙ sym (λ i. is_above (mark i) (last i)) ∙ clear))

pub runs-store : (meaning : Meaning) (settings : ConfigData) (turns : List Turn) (last : State) → Runs meaning (fresh settings) turns last
    → StoresBrought turns last.board
unfolding first-based
runs-store meaning settings turns last runs = λ pass file list is clear.
    let r = runs-bring meaning (fresh settings) turns last (first-based meaning settings) runs in
    board-stores last.board r.based.run pass file list r.based.board r.based.in_time (r.given pass last.board.generation file ∙ is) clear
