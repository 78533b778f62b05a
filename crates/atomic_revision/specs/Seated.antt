-- Which seats are a word's.
use Rattle.std.specs.Prelude.{◌≡◌, ℕ, []}
use Rattle.atomic_table.specs.declared.shared.Seat.{Seat}
use Rattle.atomic_revision.specs.declared.observed.Observed.{Observed}
use Rattle.atomic_revision.specs.declared.atomic_revision.AtomicRevision.{AtomicRevision}

-- the seat is to this word
abbrev pub IsSeatOf : AtomicRevision → Seat ℕ Observed → Type 0
IsSeatOf w s = (s.table_id ≡ w.table.shared.table_id) × (s.me.1 ≡ [])
