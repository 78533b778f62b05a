-- Events of which one list is a front of the other, but for the ends behind them.
use Rattle.std.proofs.Common.{◌≡◌, ℕ, ◌+◌, Bool, true, false, cond, List, [], ◌∷◌, ◌++◌, length, refl, sym, ap, ◌∙◌, append_assoc, arith}
use Rattle.std.specs.Prelude.{◌&&◌, ◌==◌, replicate}
use Rattle.std.proofs.lemmas.Bool.{eqb-true}
use Rattle.std.proofs.lemmas.List.{replicate-append-replicate}
use Rattle.session_port.specs.declared.event.HostEvent.{HostEvent}
use Rattle.session_port.specs.declared.event.HostEvent.TheVariants.{Ended}
use Rattle.session_replay.proofs.Gathered.{ended-is}
use Rattle.host_fakes.specs.Script.{is_end, without_ends}

-- how many ends stand behind all other events
abbrev pub trailing : List HostEvent → ℕ
trailing [] = 0
trailing (first ∷ later) = cond (is_end first && (length (without_ends later) == 0)) (trailing later + 1) (trailing later)

abbrev pub ends : ℕ → List HostEvent
ends n = replicate n Ended

and-left : (a b : Bool) → (a && b) ≡ true → a ≡ true
and-left true b e = refl
and-left false b e = absurd cc

and-right : (a b : Bool) → (a && b) ≡ true → b ≡ true
and-right true b e = e
and-right false b e = absurd cc

none-left : (xs : List HostEvent) → (length xs == 0) ≡ true → xs ≡ []
none-left [] e = refl
none-left (x ∷ xs) e = absurd (omega (arith, eqb-true (length (x ∷ xs)) 0 e))

split-by : (first : HostEvent) (later : List HostEvent) (b : Bool) → (is_end first && (length (without_ends later) == 0)) ≡ b
    → later ≡ without_ends later ++ ends (trailing later)
    → first ∷ later ≡ cond b [] (first ∷ without_ends later) ++ ends (cond b (trailing later + 1) (trailing later))
split-by first later true is so =
    let none : without_ends later ≡ [] = none-left (without_ends later) (and-right (is_end first) _ is) in
    let all : later ≡ ends (trailing later) = so ∙ ap (λ xs. xs ++ ends (trailing later)) none in
    ap (λ e. e ∷ later) (ended-is first (and-left (is_end first) _ is)) ∙ ap (λ xs. Ended ∷ xs) all ∙ more (trailing later)
  where
    more : (n : ℕ) → Ended ∷ ends n ≡ ends (n + 1)
    more n = replicate-append-replicate 1 n Ended ∙ ap ends (omega arith)
split-by first later false is so = ap (λ xs. first ∷ xs) so

-- the events that count, and then the ends
split : (events : List HostEvent) → events ≡ without_ends events ++ ends (trailing events)
split [] = refl
split (first ∷ later) = split-by first later _ refl (split later)

two : (n m : ℕ) → ends n ++ ends m ≡ ends (n + m)
two n m = replicate-append-replicate n m Ended

-- lists that are equal but for their ends: the first, with ends behind it, is the second with ends behind it
pub equal-but_ends : (xs ys : List HostEvent) → without_ends xs ≡ without_ends ys → xs ++ ends (trailing ys) ≡ ys ++ ends (trailing xs)
equal-but_ends xs ys same =
    ap (λ zs. zs ++ ends (trailing ys)) (split xs) ∙ append_assoc (without_ends xs) (ends (trailing xs)) (ends (trailing ys))
    ∙ ap (λ zs. without_ends xs ++ zs) (two (trailing xs) (trailing ys) ∙ ap ends (omega arith) ∙ sym (two (trailing ys) (trailing xs)))
    ∙ ap (λ zs. zs ++ (ends (trailing ys) ++ ends (trailing xs))) same
    ∙ sym (append_assoc (without_ends ys) (ends (trailing ys)) (ends (trailing xs)))
    ∙ ap (λ zs. zs ++ ends (trailing xs)) (sym (split ys))

-- what was given, with what is left, is a list but for ends: so what was given is a front of it and of ends behind it
pub record IsFront (given events : List HostEvent) : Type 0 where
  pub left : List HostEvent
  pub count : ℕ
  pub gives : given ++ left ≡ events ++ replicate count Ended

pub front : (given later events : List HostEvent) → without_ends (given ++ later) ≡ without_ends events → IsFront given events
front given later events same = record {
  left = later ++ ends (trailing events);
  count = trailing (given ++ later);
  gives = sym (append_assoc given later (ends (trailing events))) ∙ equal-but_ends (given ++ later) events same;
}
