-- What a reader keeps beside the bytes: what it knows of the header of the next frame.
use Rattle.std.specs.Prelude.{◌≡◌, ℕ, ◌+◌, ◌-◌, ◌^◌, ◌<◌, ◌≤◌, Bool, true, List, length}
use Rattle.lsp_frame.specs.declared.frame.Head.{Head}
use Rattle.lsp_frame.specs.declared.frame.Head.TheVariants.{Open, Broken, Body}
use Rattle.lsp_frame.specs.Frames.{window, head_of, NoneBelow}
use Rattle.lsp_frame.specs.Reader.{is_faulty}

-- a header that is known
abbrev pub IsHead : Head → List ℕ → Type 0
IsHead Open held = Unit {0}
IsHead Broken held = head_of held ≡ Broken
IsHead (Body start end) held = head_of held ≡ Body start end

-- what is known of the header at the front of some bytes, and below which place no empty line begins
pub record Knows (held : List ℕ) (head : Head) (searched : ℕ) : Type 0 where
  pub known : IsHead head held
  pub passed : searched ≤ length (window held) - 3
  pub none : NoneBelow held searched

-- what a reader keeps: that the places of its bytes fit 64 bits, what it knows of them, and that it failed for a reason
pub record IsKept (place : ℕ) (held : List ℕ) (head : Head) (searched : ℕ) (failed : Bool) : Type 0 where
  pub counted : place + length held < 2 ^ 64
  pub knows : Knows held head searched
  pub faulty : failed ≡ true → is_faulty held ≡ true
