-- A piece that is taken from the front of what is pending.
use Rattle.std.proofs.Common.{◌≡◌, ◌<◌, ◌≤◌, ℕ, min, List, ◌++◌, length, take, drop, sym, ap, ◌∙◌, arith, append_assoc}
use Rattle.std.proofs.lemmas.List.{length-take, take-append-drop}

pub piece_parted : (count : ℕ) (pending bytes piece later : List ℕ) → piece ≡ take count pending → later ≡ drop count pending
    → pending ++ bytes ≡ piece ++ (later ++ bytes)
piece_parted count pending bytes piece later is rest =
    ap (λ (xs : List ℕ). xs ++ bytes) (sym (take-append-drop count pending)) ∙ append_assoc (take count pending) (drop count pending) bytes
    ∙ ap (λ (xs : List ℕ). xs ++ (drop count pending ++ bytes)) (sym is) ∙ ap (λ (xs : List ℕ). piece ++ (xs ++ bytes)) (sym rest)

pub record IsPieceOf (piece : List ℕ) (most : ℕ) : Type 0 where
  pub some : 0 < length piece
  pub within : length piece ≤ most

pub piece_within : (count most len : ℕ) (pending piece : List ℕ) → piece ≡ take count pending → count ≡ min len most → len ≡ length pending
    → 0 < length pending → 1 ≤ most → IsPieceOf piece most
piece_within count most len pending piece is least whole some more = record {
  some = omega (arith, ap length is, length-take count pending);
  within = omega (arith, ap length is, length-take count pending);
}
