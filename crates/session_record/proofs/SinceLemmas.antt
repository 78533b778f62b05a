-- Calls that come behind others, and what is kept of them.
use Rattle.std.proofs.Common.{◌≡◌, List, [], ◌∷◌, ◌++◌, Option, Some, None, Result, Ok, Err, refl, sym, ap, subst, ◌∙◌, append_assoc}
use Rattle.std.proofs.Math.Logic.{∥∥₁_map}
use Rattle.std.proofs.lemmas.List.{append-nil, append_cancel_left}
use Rattle.record_codec.specs.Front.{some_is}
use Rattle.session_port.specs.Record.{HostCall, gave, took, given_in, grown, added, after_ok}
use Rattle.session_port.specs.declared.command.Command.{Command}
use Rattle.session_port.specs.declared.event.HostEvent.{HostEvent}
use Rattle.session_record.specs.Keeping.{IsKept}
use Rattle.session_record.specs.Since.{KeepsSince, Records}
use Rattle.session_record.specs.declared.start.StartConfig.{StartConfig}
use Rattle.session_record.specs.declared.recording.Recording.{Recording}

pub grown_none : {X : Type 0} (told : Option (List X)) → told ≡ grown told []
grown_none None = refl
grown_none (Some entries) = ap Some (sym (append-nil entries))

pub grown_more : {X : Type 0} (told : Option (List X)) (xs : List X) (x : X) → added (grown told xs) x ≡ grown told (xs ++ x ∷ [])
grown_more None xs x = refl
grown_more (Some entries) xs x = ap Some (append_assoc entries xs (x ∷ []))

pub given_more : (calls : List HostCall) (event : HostEvent) → given_in (calls ++ gave event ∷ []) ≡ given_in calls ++ event ∷ []
given_more [] event = refl
given_more (gave e ∷ calls) event = ap (λ (es : List HostEvent). e ∷ es) (given_more calls event)
given_more (took commands ∷ calls) event = given_more calls event

pub given_same : (calls : List HostCall) (commands : List Command) → given_in (calls ++ took commands ∷ []) ≡ given_in calls
given_same [] commands = refl
given_same (gave e ∷ calls) commands = ap (λ (es : List HostEvent). e ∷ es) (given_same calls commands)
given_same (took other ∷ calls) commands = given_same calls commands

module _ (begin : StartConfig) (before : Option (List HostCall)) where
  -- nothing was called yet
  pub keeps_nothing : (now : Option (List HostCall)) (kept : Recording) → now ≡ before → IsKept begin [] kept → KeepsSince begin before now kept
  keeps_nothing now kept same k = record { calls = []; told = same ∙ grown_none before; keeps = k }

  -- one event more was given, and taken in
  pub keeps_event : (old new : Option (List HostCall)) (kept more : Recording) (event : HostEvent) → new ≡ added old (gave event)
      → ((events : List HostEvent) → IsKept begin events kept → IsKept begin (events ++ event ∷ []) more)
      → KeepsSince begin before old kept → KeepsSince begin before new more
  keeps_event old new kept more event told takes k = record {
    calls = k.calls ++ gave event ∷ [];
    told = told ∙ ap (λ (o : Option (List HostCall)). added o (gave event)) k.told ∙ grown_more before k.calls (gave event);
    keeps = subst (λ (es : List HostEvent). IsKept begin es more) (sym (given_more k.calls event)) (takes (given_in k.calls) k.keeps);
  }

  -- commands were taken
  pub keeps_commands : (old new : Option (List HostCall)) (kept : Recording) (commands : List Command) → new ≡ added old (took commands)
      → KeepsSince begin before old kept → KeepsSince begin before new kept
  keeps_commands old new kept commands told k = record {
    calls = k.calls ++ took commands ∷ [];
    told = told ∙ ap (λ (o : Option (List HostCall)). added o (took commands)) k.told ∙ grown_more before k.calls (took commands);
    keeps = subst (λ (es : List HostEvent). IsKept begin es kept) (sym (given_same k.calls commands)) k.keeps;
  }

  -- a call failed
  pub keeps_same : (old new : Option (List HostCall)) (kept : Recording) → new ≡ old → KeepsSince begin before old kept → KeepsSince begin before new kept
  keeps_same old new kept same k = record { calls = k.calls; told = same ∙ k.told; keeps = k.keeps }

  -- the calls since are those that stand behind the first ones
  pub kept_of : (now : Option (List HostCall)) (kept : Recording) (first calls : List HostCall) → before ≡ Some first → now ≡ Some (first ++ calls)
      → KeepsSince begin before now kept → IsKept begin (given_in calls) kept
  kept_of now kept first calls b n k =
      let told : Some (first ++ k.calls) ≡ Some (first ++ calls) = sym (k.told ∙ ap (λ (o : Option (List HostCall)). grown o k.calls) b) ∙ n in
      let same : k.calls ≡ calls = append_cancel_left first k.calls calls (some_is (first ++ k.calls) (first ++ calls) told) in
      subst (λ (cs : List HostCall). IsKept begin (given_in cs) kept) same k.keeps

  -- the same as a recorder knows it
  pub records_nothing : (now : Option (List HostCall)) (kept : Recording) → now ≡ before → IsKept begin [] kept → Records begin before now kept
  records_nothing now kept same k = ∣ keeps_nothing now kept same k ∣₁

  pub records_event : (old new : Option (List HostCall)) (kept more : Recording) (event : HostEvent) → new ≡ added old (gave event)
      → ((events : List HostEvent) → IsKept begin events kept → IsKept begin (events ++ event ∷ []) more)
      → Records begin before old kept → Records begin before new more
  records_event old new kept more event told takes r = ∥∥₁_map r (keeps_event old new kept more event told takes)

  pub records_commands : (old new : Option (List HostCall)) (kept : Recording) (commands : List Command) → new ≡ added old (took commands)
      → Records begin before old kept → Records begin before new kept
  records_commands old new kept commands told r = ∥∥₁_map r (keeps_commands old new kept commands told)

  pub records_same : (old new : Option (List HostCall)) (kept : Recording) → new ≡ old → Records begin before old kept → Records begin before new kept
  records_same old new kept same r = ∥∥₁_map r (keeps_same old new kept same)

  pub records_order : {T E : Type 0} (r : Result T E) (old new : Option (List HostCall)) (kept : Recording) (commands : List Command)
      → new ≡ after_ok r (λ done. added old (took commands)) old → Records begin before old kept → Records begin before new kept
  records_order (Ok done) old new kept commands told k = records_commands old new kept commands told k
  records_order (Err e) old new kept commands told k = records_same old new kept told k
