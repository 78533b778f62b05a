-- The frames of a byte string, one after another and however the bytes come.
use Rattle.std.proofs.Common.{◌≡◌, ◌+◌, ◌-◌, ◌≤◌, ℕ, zero, suc, List, ◌++◌, length, take, drop, refl, sym, ap, ◌∙◌, arith, length-drop}
use Rattle.std.specs.Prelude.{slice_range}
use Rattle.std.proofs.lemmas.List.{take-append-le, drop-append-le}
use Rattle.lsp_frame.specs.declared.frame.Cut.{Cut}
use Rattle.lsp_frame.specs.declared.frame.Cut.TheVariants.{NeedMore, Bad, Frame}
use Rattle.lsp_frame.specs.Frames.{cut_of, Frames, frame, rest, first_and, frames_within, frames_from, frames_on, rest_bytes, rest_place}
use Rattle.lsp_frame.proofs.Cuts.{cut_more, cut_bounds}

first_and-same : (f g : ℕ → List ℕ → Frames) (at : ℕ) (bytes : List ℕ) (c : Cut) → ((start end : ℕ) → c ≡ Frame start end → f (at + end) (drop end bytes) ≡ g (at + end) (drop end bytes)) → first_and f at bytes c ≡ first_and g at bytes c
first_and-same f g at bytes NeedMore h = refl
first_and-same f g at bytes Bad h = refl
first_and-same f g at bytes (Frame start end) h = ap (frame at (slice_range bytes start end)) (h start end refl)

first_and-rest : (f : ℕ → List ℕ → Frames) (at : ℕ) (bytes : List ℕ) (c : Cut) → ((start end : ℕ) → c ≡ Frame start end → ⊥) → first_and f at bytes c ≡ rest at bytes
first_and-rest f at bytes NeedMore h = refl
first_and-rest f at bytes Bad h = refl
first_and-rest f at bytes (Frame start end) h = absurd (h start end refl)

nothing : (bytes : List ℕ) → length bytes ≤ 0 → (start end : ℕ) → cut_of bytes ≡ Frame start end → ⊥
nothing bytes le start end is = let b = cut_bounds bytes start end is in omega (arith, b.low, b.order, b.within)

shorter : (bytes : List ℕ) (n start end : ℕ) → length bytes ≤ suc n → cut_of bytes ≡ Frame start end → length (drop end bytes) ≤ n
shorter bytes n start end le is = let b = cut_bounds bytes start end is in omega (arith, b.low, b.order, b.within, length-drop end bytes)

-- any number of turns that is enough gives the same
frames_within-enough : (n m at : ℕ) (bytes : List ℕ) → length bytes ≤ n → length bytes ≤ m → frames_within n at bytes ≡ frames_within m at bytes
unfolding frames_within
frames_within-enough zero zero at bytes le ge = refl
frames_within-enough zero (suc m) at bytes le ge = sym (first_and-rest (frames_within m) at bytes (cut_of bytes) (nothing bytes le))
frames_within-enough (suc n) zero at bytes le ge = first_and-rest (frames_within n) at bytes (cut_of bytes) (nothing bytes ge)
frames_within-enough (suc n) (suc m) at bytes le ge = first_and-same (frames_within n) (frames_within m) at bytes (cut_of bytes)
    (λ start end is. frames_within-enough n m (at + end) (drop end bytes) (shorter bytes n start end le is) (shorter bytes m start end ge is))

-- the frames are the first one and those of the bytes after it
pub frames_from-step : (at : ℕ) (bytes : List ℕ) → frames_from at bytes ≡ first_and frames_from at bytes (cut_of bytes)
unfolding frames_from frames_within
frames_from-step at bytes =
    let n = length bytes in
    frames_within-enough n (suc n) at bytes (omega arith) (omega arith)
    ∙ first_and-same (frames_within n) frames_from at bytes (cut_of bytes)
    (λ start end is. frames_within-enough n (length (drop end bytes)) (at + end) (drop end bytes) (omega (arith, length-drop end bytes)) (omega arith))

-- a whole frame comes first, whatever follows
frame_not_more : (start end : ℕ) → Frame start end ≡ NeedMore → ⊥
frame_not_more start end e = cc

pub frames_given : (at : ℕ) (bytes : List ℕ) (start end : ℕ) → cut_of bytes ≡ Frame start end → (more : List ℕ)
    → frames_from at (bytes ++ more) ≡ frame at (slice_range bytes start end) (frames_from (at + end) (drop end bytes ++ more))
frames_given at bytes start end is more =
    let b = cut_bounds bytes start end is in
    let s : start ≤ length bytes = omega (arith, b.order, b.within) in
    let e : end ≤ length bytes = b.within in
    let d : end - start ≤ length (drop start bytes) = omega (arith, b.order, b.within, length-drop start bytes) in
    frames_from-step at (bytes ++ more)
    ∙ ap (first_and frames_from at (bytes ++ more)) (cut_more bytes more (λ no. frame_not_more start end (sym is ∙ no)) ∙ is)
    ∙ ap (λ (xs : List ℕ). frame at (take (end - start) xs) (frames_from (at + end) (drop end (bytes ++ more)))) (drop-append-le start bytes more s)
    ∙ ap (λ (xs : List ℕ). frame at xs (frames_from (at + end) (drop end (bytes ++ more)))) (take-append-le (end - start) (drop start bytes) more d)
    ∙ ap (λ (xs : List ℕ). frame at (slice_range bytes start end) (frames_from (at + end) xs)) (drop-append-le end bytes more e)

-- no frame comes of a part of one, nor of bytes that are none
pub frames_partial : (at : ℕ) (bytes : List ℕ) → cut_of bytes ≡ NeedMore → frames_from at bytes ≡ rest at bytes
frames_partial at bytes is = frames_from-step at bytes ∙ ap (first_and frames_from at bytes) is

pub frames_bad : (at : ℕ) (bytes : List ℕ) → cut_of bytes ≡ Bad → frames_from at bytes ≡ rest at bytes
frames_bad at bytes is = frames_from-step at bytes ∙ ap (first_and frames_from at bytes) is

pub frames_whole : (at : ℕ) (bytes : List ℕ) (start end : ℕ) → cut_of bytes ≡ Frame start end
    → frames_from at bytes ≡ frame at (slice_range bytes start end) (frames_from (at + end) (drop end bytes))
frames_whole at bytes start end is = frames_from-step at bytes ∙ ap (first_and frames_from at bytes) is

cut_cases : (bytes : List ℕ) {P : Type 0} → (cut_of bytes ≡ NeedMore → P) → (cut_of bytes ≡ Bad → P) → ((start end : ℕ) → cut_of bytes ≡ Frame start end → P) → P
cut_cases bytes {P} more bad whole = by_cut (cut_of bytes) refl
  where
    by_cut : (c : Cut) → cut_of bytes ≡ c → P
    by_cut NeedMore is = more is
    by_cut Bad is = bad is
    by_cut (Frame start end) is = whole start end is

-- what comes of the front, and then of what is left of it with more, is what comes of the whole
abbrev pub Continues : ℕ → List ℕ → List ℕ → Type 0
Continues at front more = frames_from at (front ++ more) ≡ frames_on (frames_from at front) (λ place left. frames_from place (left ++ more))

stops : (at : ℕ) (front more : List ℕ) → frames_from at front ≡ rest at front → Continues at front more
stops at front more none = rw none refl

goes_on : (at : ℕ) (front more : List ℕ) (start end : ℕ) → cut_of front ≡ Frame start end → Continues (at + end) (drop end front) more → Continues at front more
goes_on at front more start end is later = rw (frames_whole at front start end is) (frames_given at front start end is more ∙ ap (frame at (slice_range front start end)) later)

continues_within : (n at : ℕ) (front more : List ℕ) → length front ≤ n → Continues at front more
continues_within zero at front more le = cut_cases front
    (λ is. stops at front more (frames_partial at front is))
    (λ is. stops at front more (frames_bad at front is))
    (λ start end is. absurd (nothing front le start end is))
continues_within (suc m) at front more le = cut_cases front
    (λ is. stops at front more (frames_partial at front is))
    (λ is. stops at front more (frames_bad at front is))
    (λ start end is. goes_on at front more start end is (continues_within m (at + end) (drop end front) more (shorter front m start end le is)))

pub continues : (at : ℕ) (front more : List ℕ) → Continues at front more
continues at front more = continues_within (length front) at front more (omega arith)

-- what is left ends where the bytes end, and no whole frame comes of it
pub record Ends (at : ℕ) (bytes : List ℕ) (frames : Frames) : Type 0 where
  pub place : rest_place frames + length (rest_bytes frames) ≡ at + length bytes
  pub none : frames_from (rest_place frames) (rest_bytes frames) ≡ rest (rest_place frames) (rest_bytes frames)

ends_at : (at : ℕ) (bytes : List ℕ) → frames_from at bytes ≡ rest at bytes → Ends at bytes (frames_from at bytes)
ends_at at bytes none = rw none (record { place = refl; none = none })

ends_later : (at : ℕ) (bytes : List ℕ) (start end : ℕ) → cut_of bytes ≡ Frame start end → Ends (at + end) (drop end bytes) (frames_from (at + end) (drop end bytes)) → Ends at bytes (frames_from at bytes)
ends_later at bytes start end is later =
    let b = cut_bounds bytes start end is in
    rw (frames_whole at bytes start end is) (record { place = omega (arith, later.place, b.order, b.within, length-drop end bytes); none = later.none })

ends_within : (n at : ℕ) (bytes : List ℕ) → length bytes ≤ n → Ends at bytes (frames_from at bytes)
ends_within zero at bytes le = cut_cases bytes
    (λ is. ends_at at bytes (frames_partial at bytes is))
    (λ is. ends_at at bytes (frames_bad at bytes is))
    (λ start end is. absurd (nothing bytes le start end is))
ends_within (suc m) at bytes le = cut_cases bytes
    (λ is. ends_at at bytes (frames_partial at bytes is))
    (λ is. ends_at at bytes (frames_bad at bytes is))
    (λ start end is. ends_later at bytes start end is (ends_within m (at + end) (drop end bytes) (shorter bytes m start end le is)))

pub ends : (at : ℕ) (bytes : List ℕ) → Ends at bytes (frames_from at bytes)
ends at bytes = ends_within (length bytes) at bytes (omega arith)
