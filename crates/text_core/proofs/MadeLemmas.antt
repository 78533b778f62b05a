-- The starts of a text that splices leave, on the way through them.
use Rattle.std.proofs.Common.{◌≡◌, ℕ, ◌+◌, ◌-◌, ◌≤◌, List, [], ◌∷◌, ◌++◌, length, drop, refl, ap, sym, ◌∙◌, arith}
use Rattle.std.specs.Prelude.{slice_range}
use Rattle.std.proofs.lemmas.List.{length-append, length-drop, take_all}
use Rattle.text_core.specs.Splices.{Fall, spliced}
use Rattle.text_core.specs.Starts.{line_starts, starts_in}
use Rattle.text_core.specs.declared.splices.Splice.{Splice}
use Rattle.text_core.proofs.MovedLemmas.{length-between, starts_in-append}
use Rattle.text_core.proofs.SpliceLemmas.{IsOnTheWay, has_front, way_begins, way_part, way_goes_on}

starts-append : (xs ys : List ℕ) → line_starts (xs ++ ys) ≡ line_starts xs ++ starts_in (length xs) ys
unfolding line_starts
starts-append xs ys = let none : 0 + length xs ≡ length xs = omega arith in ap (λ l. 0 ∷ l) (starts_in-append 0 xs ys ∙ ap (λ n. starts_in 0 xs ++ starts_in n ys) none)

-- the pieces so far, with how long they are and where their lines begin
pub record HasStarts (text all : List ℕ) (place : ℕ) (splices : List Splice) (size : ℕ) (starts : List ℕ) : Type 0 where
  pub joined : List ℕ
  pub way : IsOnTheWay text joined all place splices
  pub counted : size ≡ length joined
  pub begun : starts ≡ line_starts joined

pub starts_begin : (text : List ℕ) (splices : List Splice) → Fall text (length text) splices → HasStarts text (spliced text splices) 0 splices 0 (0 ∷ [])
unfolding line_starts
starts_begin text splices falls = record { joined = []; way = way_begins text splices falls; counted = refl; begun = refl }

-- the next piece and splice
pub record IsNext (text all : List ℕ) (place size : ℕ) (s : Splice) : Type 0 where
  pub low : place ≤ s.start
  pub rising : s.start ≤ s.end
  pub within : s.end ≤ length text
  pub fits : s.start - place + size + length s.text.now ≤ length all

more_size : (text joined new : List ℕ) (place start : ℕ) → start ≤ length text → length ((joined ++ slice_range text place start) ++ new) ≡ length joined + (start - place) + length new
more_size text joined new place start within =
    omega (arith, length-append (joined ++ slice_range text place start) new, length-append joined (slice_range text place start), length-between text place start within)

pub starts_next : (text all : List ℕ) (place : ℕ) (before splices : List Splice) (s : Splice) (size : ℕ) (starts : List ℕ) → HasStarts text all place before size starts
    → before ≡ splices ++ s ∷ [] → IsNext text all place size s
starts_next text all place before splices s size starts has last =
    let part = way_part text has.joined all place before splices s has.way last in
    let more = (has.joined ++ slice_range text place s.start) ++ s.text.now in
    let way = way_goes_on text has.joined more all place before splices s has.way last refl in
    let low = has_front text splices way.falls in
    let within : s.end ≤ length text = omega (arith, part.0.below, low.within_text) in
    let sum = more_size text has.joined s.text.now place s.start (omega (arith, part.0.rising)) in
    record {
      low = part.1;
      rising = part.0.rising;
      within = within;
      fits = omega (arith, sum, ap length way.so_far, length-append more (drop s.end (spliced text splices)), has.counted);
    }

pub starts_go_on : (text all : List ℕ) (place : ℕ) (before splices : List Splice) (s : Splice) (size next : ℕ) (starts more : List ℕ) → HasStarts text all place before size starts
    → before ≡ splices ++ s ∷ [] → next ≡ size + (s.start - place)
    → more ≡ (starts ++ starts_in size (slice_range text place s.start)) ++ starts_in next s.text.now
    → HasStarts text all s.end splices (next + length s.text.now) more
starts_go_on text all place before splices s size next starts more has last then pushed =
    let here = starts_next text all place before splices s size starts has last in
    let part = has.joined ++ slice_range text place s.start in
    let within : s.start ≤ length text = omega (arith, here.rising, here.within) in
    let long : length part ≡ next = omega (arith, length-append has.joined (slice_range text place s.start), length-between text place s.start within, then, has.counted) in
    record {
      joined = part ++ s.text.now;
      way = way_goes_on text has.joined (part ++ s.text.now) all place before splices s has.way last refl;
      counted = omega (arith, long, length-append part s.text.now);
      begun =
          pushed
          ∙ ap (λ l. (l ++ starts_in size (slice_range text place s.start)) ++ starts_in next s.text.now) has.begun
          ∙ ap (λ n. (line_starts has.joined ++ starts_in n (slice_range text place s.start)) ++ starts_in next s.text.now) has.counted
          ∙ ap (λ l. l ++ starts_in next s.text.now) (sym (starts-append has.joined (slice_range text place s.start)))
          ∙ ap (λ n. line_starts part ++ starts_in n s.text.now) (sym long)
          ∙ sym (starts-append part s.text.now);
    }

-- with no splice left, the last piece ends the text
pub starts_end : (text all : List ℕ) (place size : ℕ) (starts more : List ℕ) → HasStarts text all place [] size starts
    → more ≡ starts ++ starts_in size (slice_range text place (length text)) → more ≡ line_starts all
starts_end text all place size starts more has pushed =
    let whole : slice_range text place (length text) ≡ drop place text = take_all (length text - place) (drop place text) (omega (arith, length-drop place text)) in
    pushed ∙ ap (λ l. l ++ starts_in size (slice_range text place (length text))) has.begun
    ∙ ap (λ n. line_starts has.joined ++ starts_in n (slice_range text place (length text))) has.counted
    ∙ ap (λ l. line_starts has.joined ++ starts_in (length has.joined) l) whole
    ∙ sym (starts-append has.joined (drop place text)) ∙ ap line_starts has.way.so_far
