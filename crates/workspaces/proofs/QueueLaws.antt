-- One run of build data and one load of macros are in progress at most.
use Rattle.std.proofs.Common.{◌≡◌, ℕ, ◌+◌, Bool, true, false, cond, List, [], ◌∷◌, ◌++◌, length, refl, ap, ◌∙◌, arith}
use Rattle.std.specs.Prelude.{Option, Some, None, option_map, option_to_list}
use Rattle.std.proofs.lemmas.Bool.{cond-true}
use Rattle.op_board.specs.Queue.{starts, after_start}
use Rattle.op_board.specs.QueueRuns.{running}
use Rattle.project_model.specs.declared.build.MacroPath.{MacroPath}
use Rattle.workspaces.specs.Builds.{starts_on, build_to_start, start_build}
use Rattle.workspaces.specs.Loads.{load_to_start, start_load}
use Rattle.workspaces.specs.QueueRuns.{BuildAct, builds_after, IsBuildRun, builds_started, counts_started, builds_ended, last_started, LoadAct, loads_after}
use Rattle.workspaces.specs.QueueRuns.{IsLoadRun}
use Rattle.workspaces.specs.QueueRuns.{loads_started, loads_ended}
use Rattle.workspaces.specs.QueueRuns.BuildAct.{AsksBuild, StartsBuild, EndsBuild}
use Rattle.workspaces.specs.QueueRuns.LoadAct.{AsksLoad, StartsLoad, EndsLoad}
use Rattle.workspaces.specs.Workspaces.{Builds, Loads}

module _ {A O S : Type 0} (made : List ℕ × A → S) where
  pub started : (w : Option (List ℕ × A)) (b : Bool) (o : Option O) (hs : List S) (n : ℕ) → length hs ≡ n + cond b 1 0
      → length (option_to_list (option_map made (starts {O = O} (record { waiting = w; in_progress = b; last = o }))) ++ hs) ≡ n + running
      (after_start {O = O} (record { waiting = w; in_progress = b; last = o }))
  started w true o hs n is = is
  started None false o hs n is = is
  started (Some r) false o hs n is = omega (arith, is)

build_started : (fetching : Bool) (version count : ℕ) (b : Builds) (hs : List ℕ) (n : ℕ) → length hs ≡ n + running b.queue
    → length (option_to_list (build_to_start fetching version b) ++ hs) ≡ n + running (start_build fetching version count b).queue
build_started true version count b hs n is = is
build_started false version count b hs n is = started (λ request. version) b.queue.waiting b.queue.in_progress b.queue.last hs n is

pub one_build : (run : List BuildAct) → IsBuildRun run → length (builds_started run) ≡ builds_ended run + running (builds_after run).queue
one_build [] lawful = refl
one_build (AsksBuild cause ∷ before) lawful = one_build before lawful
one_build (StartsBuild fetching version count ∷ before) lawful =
    build_started fetching version count (builds_after before) (builds_started before) (builds_ended before) (one_build before lawful)
one_build (EndsBuild result ∷ before) lawful =
    let is = one_build before lawful.1 ∙ ap (λ n. builds_ended before + n) (cond-true (builds_after before).queue.in_progress 1 0 lawful.0) in
    omega (arith, is)

handed_version : (version before : ℕ) (request : Option (List ℕ × Unit {0})) (rest : List ℕ) → before ≡ last_started rest
    → starts_on version before request ≡ last_started (option_to_list (option_map (λ (request : List ℕ × Unit {0}). version) request) ++ rest)
handed_version version before None rest is = is
handed_version version before (Some request) rest is = refl

version_started : (fetching : Bool) (version count : ℕ) (b : Builds) (rest : List ℕ) → b.version ≡ last_started rest
    → (start_build fetching version count b).version ≡ last_started (option_to_list (build_to_start fetching version b) ++ rest)
version_started true version count b rest is = is
version_started false version count b rest is = handed_version version b.version (starts b.queue) rest is

count_started : (fetching : Bool) (version count : ℕ) (b : Builds) (rest : List ℕ) → b.count ≡ last_started rest
    → (start_build fetching version count b).count ≡ last_started (option_to_list (build_to_start fetching count b) ++ rest)
count_started true version count b rest is = is
count_started false version count b rest is = handed_version count b.count (starts b.queue) rest is

pub version_is : (run : List BuildAct) → (builds_after run).version ≡ last_started (builds_started run)
version_is [] = refl
version_is (AsksBuild cause ∷ before) = version_is before
version_is (StartsBuild fetching version count ∷ before) =
    version_started fetching version count (builds_after before) (builds_started before) (version_is before)
version_is (EndsBuild result ∷ before) = version_is before

pub count_is : (run : List BuildAct) → (builds_after run).count ≡ last_started (counts_started run)
count_is [] = refl
count_is (AsksBuild cause ∷ before) = count_is before
count_is (StartsBuild fetching version count ∷ before) =
    count_started fetching version count (builds_after before) (counts_started before) (count_is before)
count_is (EndsBuild result ∷ before) = count_is before

load_started : (fetching : Bool) (l : Loads) (hs : List (List (List (ℕ × MacroPath)))) (n : ℕ) → length hs ≡ n + running l.queue
    → length (option_to_list (load_to_start fetching l) ++ hs) ≡ n + running (start_load fetching l).queue
load_started true l hs n is = is
load_started false l hs n is = started (λ request. request.1.paths) l.queue.waiting l.queue.in_progress l.queue.last hs n is

pub one_load : (run : List LoadAct) → IsLoadRun run → length (loads_started run) ≡ loads_ended run + running (loads_after run).queue
one_load [] lawful = refl
one_load (AsksLoad cause crates paths ∷ before) lawful = one_load before lawful
one_load (StartsLoad fetching ∷ before) lawful =
    load_started fetching (loads_after before) (loads_started before) (loads_ended before) (one_load before lawful)
one_load (EndsLoad result ∷ before) lawful =
    let is = one_load before lawful.1 ∙ ap (λ n. loads_ended before + n) (cond-true (loads_after before).queue.in_progress 1 0 lawful.0) in
    omega (arith, is)
