-- The roots of the crates that a change affects, by marks that spread in rounds.
use Rattle.std.specs.Prelude.{Bool, ◌||◌, ℕ, List, length, map, zip}
use Rattle.std.specs.List.{list_any}
use Rattle.std.specs.Fn.{iterate}
use Rattle.project_model.specs.declared.crates.CrateInfo.{CrateInfo}
use Rattle.check_restarts.specs.Among.{is_among}
use Rattle.check_restarts.specs.Dependents.{is_marked, picked}

-- after a round a crate is marked that was before, or that names a marked one as a dependency
abbrev pub marked_then : List Bool → CrateInfo × Bool → Bool
marked_then marks (info, mark) = mark || list_any (is_marked marks) info.deps

-- one round over all crates
abbrev pub round : List CrateInfo → List Bool → List Bool
round crates marks = map (marked_then marks) (zip crates marks)

-- first the crates are marked whose root is among these; as many rounds as there are crates are
-- enough, since once a round marks no more, none does
abbrev pub marks_after_rounds : List CrateInfo → List (List ℕ) → List (List ℕ) → List Bool
marks_after_rounds crates paths roots =
    iterate (round crates) (length crates) (map (is_among roots) paths)

-- the roots of the crates whose root is among these, and of all that depend on one of them, over
-- any number of steps; the paths are those of the crates' roots, in order
abbrev pub affected_of : List CrateInfo → List (List ℕ) → List (List ℕ) → List (List ℕ)
affected_of crates paths roots = picked (marks_after_rounds crates paths roots) paths
