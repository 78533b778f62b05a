-- What is taken from a reader, and written to a writer, over several steps.
use Rattle.std.proofs.Common.{◌≡◌, ℕ, List, [], ◌++◌, take, drop, refl, sym, ap, subst, ◌∙◌, append_assoc, append-nil, take-append-drop}
use Rattle.std.specs.Prelude.{Option, None, Some}
use Rattle.std.proofs.KnownBytes.{Appends-nil, Appends-trans}
use Rattle.std.specs.Io.KnownBytes.{Keeps, Appends}
use Rattle.server.specs.Streams.{IsTaken, BreaksOff}

-- a piece that is taken after nothing changed
pub taken_after_kept : (a b c : Option (List ℕ)) (found : Option (List ℕ)) → Keeps a b → IsTaken b c found → IsTaken a c found
taken_after_kept None b c None kept taken = (tt, tt)
taken_after_kept None b c (Some piece) kept taken = tt
taken_after_kept (Some x) None c found kept taken = absurd kept
taken_after_kept (Some x) (Some y) None None kept taken = absurd taken.0
taken_after_kept (Some x) (Some y) (Some z) None kept taken = (taken.0 ∙ kept, sym kept ∙ taken.1)
taken_after_kept (Some x) (Some y) None (Some piece) kept taken = absurd taken
taken_after_kept (Some x) (Some y) (Some z) (Some piece) kept taken = sym kept ∙ taken

-- how far a writer has come with a turn
pub record Written (old now : Option (List ℕ)) (turn rest : List ℕ) : Type 0 where
  pub front : List ℕ
  pub parted : turn ≡ front ++ rest
  pub written : Appends old now front

pub written_none : (old : Option (List ℕ)) (turn : List ℕ) → Written old old turn turn
written_none old turn = record { front = []; parted = refl; written = Appends-nil old }

pub written_more : (old now next : Option (List ℕ)) (turn rest : List ℕ) (count : ℕ) → Written old now turn rest → Appends now next (take count rest)
    → Written old next turn (drop count rest)
written_more old now next turn rest count so more = record {
  front = so.front ++ take count rest;
  parted = so.parted ∙ ap (λ l. so.front ++ l) (sym (take-append-drop count rest)) ∙ sym (append_assoc so.front (take count rest) (drop count rest));
  written = Appends-trans old now next so.front (take count rest) so.written more;
}

-- a step that wrote nothing
pub written_kept : (old now next : Option (List ℕ)) (turn rest : List ℕ) → Written old now turn rest → Keeps now next → Written old next turn rest
written_kept old now next turn rest so kept = record { front = so.front; parted = so.parted; written = appends_kept old now next so.front so.written kept }
  where
    appends_kept : (a b c : Option (List ℕ)) (bs : List ℕ) → Appends a b bs → Keeps b c → Appends a c bs
    appends_kept None b c bs p q = tt
    appends_kept (Some x) None c bs p q = absurd p
    appends_kept (Some x) (Some y) None bs p q = absurd q
    appends_kept (Some x) (Some y) (Some z) bs p q = q ∙ p

pub written_whole : (old now : Option (List ℕ)) (turn rest : List ℕ) → Written old now turn rest → rest ≡ [] → Appends old now turn
written_whole old now turn rest so none = subst (Appends old now) (sym (so.parted ∙ ap (λ l. so.front ++ l) none ∙ append-nil so.front)) so.written

pub breaks_off : (old now : Option (List ℕ)) (turn rest : List ℕ) → Written old now turn rest → BreaksOff old now turn
breaks_off old now turn rest so = record { front = so.front; rest = rest; parted = so.parted; written = so.written }
