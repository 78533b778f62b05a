-- Bytes from a place on, and the piece that comes first of them.
use Rattle.std.proofs.Common.{◌≡◌, ◌+◌, ℕ, List, ◌++◌, take, drop, sym, ap, ◌∙◌}
use Rattle.std.proofs.lemmas.List.{take-append-drop, drop-drop}

-- the bytes from a place on are a piece and the bytes after it
pub parted : (at len : ℕ) (bytes piece : List ℕ) → piece ≡ take len (drop at bytes) → drop at bytes ≡ piece ++ drop (at + len) bytes
parted at len bytes piece is =
    sym (take-append-drop len (drop at bytes))
    ∙ ap (λ front. front ++ drop len (drop at bytes)) (sym is)
    ∙ ap (λ rest. piece ++ rest) (drop-drop len at bytes)
