-- What a reader knows stays true when bytes are added and moved.
use Rattle.std.proofs.Common.{◌≡◌, ◌+◌, ◌-◌, ◌^◌, ◌<◌, ℕ, Bool, true, false, List, ◌++◌, None, length, sym, ap, subst, ◌∙◌, arith, lit<, length-append}
use Rattle.std.proofs.lemmas.Bool.{false≢true}
use Rattle.memchr.specs.Find.{FindsNeedle}
use Rattle.lsp_frame.specs.declared.frame.Head.{Head}
use Rattle.lsp_frame.specs.declared.frame.Head.TheVariants.{Open, Broken, Body}
use Rattle.lsp_frame.specs.Frames.{empty_line, window, head_of}
use Rattle.lsp_frame.specs.Kept.{IsHead, Knows, IsKept}
use Rattle.lsp_frame.specs.Reader.{is_faulty}
use Rattle.lsp_frame.proofs.Places.{finds_place}
use Rattle.lsp_frame.proofs.Cuts.{head_more, head_open, NoneBelow-more, length-window-more, window-short}

IsHead-more : (head : Head) (held more : List ℕ) → IsHead head held → IsHead head (held ++ more)
IsHead-more Open held more h = tt
IsHead-more Broken held more h = head_more held more (λ e. open_not (sym h ∙ e)) ∙ h
  where
    open_not : Broken ≡ Open → ⊥
    open_not e = cc
IsHead-more (Body start end) held more h = head_more held more (λ e. open_not (sym h ∙ e)) ∙ h
  where
    open_not : Body start end ≡ Open → ⊥
    open_not e = cc

pub Knows-more : (held more : List ℕ) (head : Head) (searched : ℕ) → Knows held head searched → Knows (held ++ more) head searched
Knows-more held more head searched h = record {
  known = IsHead-more head held more h.known;
  passed = omega (arith, h.passed, length-window-more held more);
  none = λ k lt occurs. h.none k lt (NoneBelow-more held more k (omega (arith, h.passed)) occurs);
}

-- a fault that was found
pub IsKept-faulty : (place : ℕ) (held : List ℕ) (head : Head) (searched : ℕ) (failed now : Bool) → is_faulty held ≡ true → IsKept place held head searched failed → IsKept place held head searched now
IsKept-faulty place held head searched failed now is h = record { counted = h.counted; knows = h.knows; faulty = λ _. is }

-- more bytes behind them, where they fit
pub IsKept-more : (place : ℕ) (held more : List ℕ) (head : Head) (searched : ℕ) (failed : Bool) → failed ≡ false → place + length held + length more < 2 ^ 64 → IsKept place held head searched failed
    → IsKept place (held ++ more) head searched failed
IsKept-more place held more head searched failed sound fits h = record {
  counted = omega (arith, fits, length-append held more);
  knows = Knows-more held more head searched h.knows;
  faulty = λ is. absurd (false≢true (sym sound ∙ is));
}

-- an open header has no empty line so far
pub Knows-open : (held : List ℕ) → Open ≡ head_of held → Knows held Open (length held - 3)
Knows-open held is =
    let h = head_open held (sym is) in
    let finds : FindsNeedle (window held) empty_line 0 None = subst (FindsNeedle (window held) empty_line 0) h.1 (finds_place empty_line (lit< tt) (window held)) in
    let same : window held ≡ held = window-short held (omega (arith, h.0)) in record {
      known = tt;
      passed = rw same (omega arith);
      none = λ k lt occurs. finds k (omega arith) (omega (arith, ap length same)) occurs;
    }

IsHead-is : (head : Head) (held : List ℕ) → head ≡ head_of held → IsHead head held
IsHead-is Open held is = tt
IsHead-is Broken held is = sym is
IsHead-is (Body start end) held is = sym is

pub Knows-head : (held : List ℕ) (head : Head) (searched : ℕ) → head ≡ head_of held → Knows held Open searched → Knows held head searched
Knows-head held head searched is h = record { known = IsHead-is head held is; passed = h.passed; none = h.none }
