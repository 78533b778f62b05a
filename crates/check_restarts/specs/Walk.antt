-- A walk from crates to those that depend on them. The rows are, for each crate, those that name it as a dependency.
use Rattle.std.specs.Prelude.{◌≡◌, ◌⊎◌, ℕ, ◌+◌, ◌<◌, Bool, not, ◌&&◌, IsTrue, nat_lt, List, [], length, count_by, slice_index_or}
use Rattle.project_model.specs.declared.crates.CrateInfo.{CrateInfo}
use Rattle.check_restarts.specs.Dependents.{is_in, is_marked, names, IsAffected}

abbrev pub row_at : List (List ℕ) → ℕ → List ℕ
row_at rows number = slice_index_or rows number []

-- one of these that is below a bound
abbrev pub is_within : ℕ → List ℕ → ℕ → Bool
is_within size list number = is_in list number && nat_lt number size

-- by the rows the first crate depends on the second
abbrev pub depends_by : List (List ℕ) → ℕ → ℕ → Bool
depends_by rows number dep = is_within (length rows) (row_at rows dep) number

-- a crate was added to the row of each of these
pub record Added (old : List (List ℕ)) (deps : List ℕ) (number : ℕ) (new : List (List ℕ)) : Type 0 where
  pub size : length new ≡ length old
  pub kept : (other dep : ℕ) → IsTrue (is_in (row_at old dep) other) → IsTrue (is_in (row_at new dep) other)
  pub added : (dep : ℕ) → IsTrue (is_in deps dep) → dep < length old → IsTrue (is_in (row_at new dep) number)
  pub only : (other dep : ℕ) → IsTrue (is_in (row_at new dep) other)
      → IsTrue (is_in (row_at old dep) other) ⊎ ((other ≡ number) × IsTrue (is_in deps dep))

-- this many rows, in which the dependencies of these crates stand
pub record AreRows (size : ℕ) (crates : List CrateInfo) (rows : List (List ℕ)) : Type 0 where
  pub size_is : length rows ≡ size
  pub named : (number dep : ℕ) → IsTrue (names crates number dep) → dep < size → IsTrue (is_in (row_at rows dep) number)
  pub only : (number dep : ℕ) → IsTrue (is_in (row_at rows dep) number) → IsTrue (names crates number dep)

-- the crates of a row are marked now, and those that weren't marked before wait
pub record Reached (row : List ℕ) (marks : List Bool) (waiting : List ℕ) (new : List Bool) (now : List ℕ) : Type 0 where
  pub size : length new ≡ length marks
  pub kept : (number : ℕ) → IsTrue (is_marked marks number) → IsTrue (is_marked new number)
  pub reached : (number : ℕ) → IsTrue (is_within (length marks) row number) → IsTrue (is_marked new number)
  pub only : (number : ℕ) → IsTrue (is_marked new number)
      → IsTrue (is_marked marks number) ⊎ (IsTrue (is_within (length marks) row number) × IsTrue (is_in now number))
  pub stays : (number : ℕ) → IsTrue (is_in waiting number) → IsTrue (is_in now number)
  pub waits : (number : ℕ) → IsTrue (is_in now number) → IsTrue (is_in waiting number) ⊎ IsTrue (is_marked new number)
  pub work : count_by not new + length now ≡ count_by not marks + length waiting

-- what is marked is affected; what depends on it is marked too, unless it still waits
pub record Walked (depends : ℕ → ℕ → Bool) (chosen : ℕ → Bool) (marks : List Bool) (waiting : List ℕ) : Type 0 where
  pub begun : (number : ℕ) → IsTrue (chosen number) → IsTrue (is_marked marks number)
  pub affected : (number : ℕ) → IsTrue (is_marked marks number) → IsAffected depends chosen number
  pub waits : (number : ℕ) → IsTrue (is_in waiting number) → IsTrue (is_marked marks number)
  pub closed : (number dep : ℕ) → IsTrue (is_marked marks dep) → IsTrue (depends number dep)
      → IsTrue (is_marked marks number) ⊎ IsTrue (is_in waiting dep)

-- the walk went on: what it kept at the first marks it keeps at the new ones
pub record WentOn (rows : List (List ℕ)) (marks : List Bool) (waiting : List ℕ) (new : List Bool) (now : List ℕ) : Type 0 where
  pub size : length new ≡ length marks
  pub walked : (chosen : ℕ → Bool) → length marks ≡ length rows
      → Walked (depends_by rows) chosen marks waiting → Walked (depends_by rows) chosen new now
