-- Inputs, calls and replies, one list after another.
use Rattle.std.proofs.Common.{◌≡◌, ℕ, ◌+◌, List, [], ◌∷◌, ◌++◌, length, map, refl, sym, ap, ◌∙◌, append-nil, append_assoc, length-append}
use Rattle.std.specs.Prelude.{Option, None, Some, option_to_list}
use Rattle.lsp_frame.specs.declared.message.Response.{Response}
use Rattle.session_port.specs.Record.{HostCall, took, given_in, grown}
use Rattle.session_port.specs.declared.command.Command.{Command}
use Rattle.session_port.specs.declared.event.HostEvent.{HostEvent}
use Rattle.session_laws.specs.Course.{Course, takes, bytes_brought}
use Rattle.session_laws.specs.Run.{Told, giving}
use Rattle.session_laws.specs.Input.{Input}
use Rattle.session_laws.proofs.Asking.{given-append}
use Rattle.session_laws.proofs.Stretches.{bytes-append}
use Rattle.server.specs.Opening.{reply_bytes, handed_on, inputs_taken, replies_told}
use Rattle.server.specs.Stages.{Setup, Stage, by_input, stage_after, replies_to}

pub taking-append : (xs ys : List Input) (later : Course) → inputs_taken (xs ++ ys) later ≡ inputs_taken xs (inputs_taken ys later)
taking-append [] ys later = refl
taking-append (x ∷ xs) ys later = ap (takes x) (taking-append xs ys later)

pub stage-append : (setup : Setup) (stage : Stage) (xs ys : List Input) → stage_after setup stage (xs ++ ys) ≡ stage_after setup (stage_after setup stage xs) ys
stage-append setup stage [] ys = refl
stage-append setup stage (x ∷ xs) ys = stage-append setup (by_input setup stage x).stage xs ys

pub replies-append : (setup : Setup) (stage : Stage) (xs ys : List Input)
    → replies_to setup stage (xs ++ ys) ≡ replies_to setup stage xs ++ replies_to setup (stage_after setup stage xs) ys
replies-append setup stage [] ys = refl
replies-append setup stage (x ∷ xs) ys =
    let first : List Response = option_to_list (by_input setup stage x).reply in
    ap (λ (rs : List Response). first ++ rs) (replies-append setup (by_input setup stage x).stage xs ys)
    ∙ sym (append_assoc first (replies_to setup (by_input setup stage x).stage xs) _)

mapped-append : {X : Type 0} (f : Response → X) (rs qs : List Response) → map f (rs ++ qs) ≡ map f rs ++ map f qs
mapped-append f [] qs = refl
mapped-append f (r ∷ rs) qs = ap (λ xs. f r ∷ xs) (mapped-append f rs qs)

pub handed-append : (setup : Setup) (stage : Stage) (xs ys : List Input)
    → handed_on (replies_to setup stage (xs ++ ys)) ≡ handed_on (replies_to setup stage xs) ++ handed_on (replies_to setup (stage_after setup stage xs) ys)
handed-append setup stage xs ys =
    ap handed_on (replies-append setup stage xs ys) ∙ mapped-append (λ reply. []) (replies_to setup stage xs) (replies_to setup (stage_after setup stage xs) ys)

grown-nil : {X : Type 0} (r : Option (List X)) → grown r [] ≡ r
grown-nil None = refl
grown-nil (Some xs) = ap Some (append-nil xs)

grown-grown : {X : Type 0} (r : Option (List X)) (xs ys : List X) → grown (grown r xs) ys ≡ grown r (xs ++ ys)
grown-grown None xs ys = refl
grown-grown (Some entries) xs ys = ap Some (append_assoc entries xs ys)

pub telling-append : (cs ds : List HostCall) (rs qs : List Response) (old : Told)
    → replies_told ds qs (replies_told cs rs old) ≡ replies_told (cs ++ ds) (rs ++ qs) old
telling-append cs ds rs qs old =
    let c : grown (grown old.calls cs) ds ≡ grown old.calls (cs ++ ds) = grown-grown old.calls cs ds in
    let t : grown (grown old.turns (map reply_bytes rs)) (map reply_bytes qs) ≡ grown old.turns (map reply_bytes (rs ++ qs)) =
    grown-grown old.turns (map reply_bytes rs) (map reply_bytes qs) ∙ ap (grown old.turns) (sym (mapped-append reply_bytes rs qs)) in
    λ i. record { calls = c i; turns = t i }

pub telling-none : (old : Told) → replies_told [] [] old ≡ old
telling-none old = let c = grown-nil old.calls in let t = grown-nil old.turns in λ i. record { calls = c i; turns = t i }

-- events alone were told more, or a reply alone, or both a reply and the order behind it
pub telling-events : (events : List HostEvent) (old new : Told) → new.calls ≡ grown old.calls (giving events) → new.turns ≡ old.turns
    → new ≡ replies_told (giving events) [] old
telling-events events old new c t = let turns : new.turns ≡ grown old.turns [] = t ∙ sym (grown-nil old.turns) in λ i. record { calls = c i; turns = turns i }

pub telling-reply : (response : Response) (old new : Told) → new.calls ≡ old.calls → new.turns ≡ grown old.turns (reply_bytes response ∷ [])
    → new ≡ replies_told [] (response ∷ []) old
telling-reply response old new c t = let calls : new.calls ≡ grown old.calls [] = c ∙ sym (grown-nil old.calls) in λ i. record { calls = calls i; turns = t i }

pub telling-handed : (response : Response) (old new : Told) → new.calls ≡ grown old.calls (took [] ∷ [])
    → new.turns ≡ grown old.turns (reply_bytes response ∷ [])
    → new ≡ replies_told (took [] ∷ []) (response ∷ []) old
telling-handed response old new c t = λ i. record { calls = c i; turns = t i }

-- the bytes and the number of the events that calls gave
pub calls-bytes : (cs ds : List HostCall) → bytes_brought (given_in (cs ++ ds)) ≡ bytes_brought (given_in cs) + bytes_brought (given_in ds)
calls-bytes cs ds = ap bytes_brought (given-append cs ds) ∙ bytes-append (given_in cs) (given_in ds)

pub calls-events : (cs ds : List HostCall) → length (given_in (cs ++ ds)) ≡ length (given_in cs) + length (given_in ds)
calls-events cs ds = ap length (given-append cs ds) ∙ length-append (given_in cs) (given_in ds)

-- nothing was told
pub telling-same : (old new : Told) → new.calls ≡ old.calls → new.turns ≡ old.turns → new ≡ replies_told [] [] old
telling-same old new c t =
    let calls : new.calls ≡ grown old.calls [] = c ∙ sym (grown-nil old.calls) in
    let turns : new.turns ≡ grown old.turns [] = t ∙ sym (grown-nil old.turns) in
    λ i. record { calls = calls i; turns = turns i }
