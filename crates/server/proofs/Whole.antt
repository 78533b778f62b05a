-- A handshake and the session behind it as a whole.
use Rattle.std.proofs.Common.{◌≡◌, List, [], ◌∷◌, ◌++◌, Bool, refl, sym, ap, ◌∙◌, subst, append_assoc, inl, inr}
use Rattle.std.specs.Prelude.{⊤, ◌⊎◌, ℕ, Option, Some, Result, Ok, Err}
use Rattle.lsp_frame.specs.Reader.{Reader}
use Rattle.ra_config.specs.Config.{ConfigData}
use Rattle.session_port.specs.Record.{HostCall, given_in, grown}
use Rattle.session_port.specs.declared.event.HostEvent.{HostEvent}
use Rattle.session.specs.Course.{Course, Stop, course_of, session_course, stop_of}
use Rattle.session.specs.Headline.{EndsByCause, IsAnswered}
use Rattle.session.specs.RunEnds.{EndsCourse}
use Rattle.session.specs.Run.{Told, empty_reader}
use Rattle.session.specs.SessionError.{SessionError}
use Rattle.session.specs.SessionError.TheVariants.{ClientExited, BadFrame, BadMessage, HostFault, WriteFault, Exhausted, NoMemory}
use Rattle.session.specs.Input.{Input}
use Rattle.session.specs.Meaning.{Meaning}
use Rattle.session.proofs.Asking.{given-append}
use Rattle.server.specs.Opening.{Opens, IsHostError, LeftBy, inputs_taken}
use Rattle.server.specs.Stages.{Setup, Stage}
use Rattle.server.specs.declared.handshake.opening.Opening.{Opening}
use Rattle.server.specs.declared.handshake.opening.Opening.TheVariants.{Begun, Left}
use Rattle.server.specs.Serving.{Completes}

same-tail : (x y : HostCall) (xs ys : List HostCall) → x ∷ xs ≡ y ∷ ys → xs ≡ ys
same-tail x y xs ys e = cc

same-rest : (xs ys zs : List HostCall) → xs ++ ys ≡ xs ++ zs → ys ≡ zs
same-rest [] ys zs e = e
same-rest (x ∷ xs) ys zs e = same-rest xs ys zs (same-tail x x (xs ++ ys) (xs ++ zs) e)

some-same : (xs ys : List HostCall) → Some xs ≡ Some ys → xs ≡ ys
some-same xs ys e = cc

end-taking : (inputs : List Input) (later : Course) → stop_of (inputs_taken inputs later) ≡ stop_of later
end-taking [] later = refl
end-taking (input ∷ inputs) later = end-taking inputs later

module _ (setup : Setup) (old middle new : Told) where
  -- nothing followed the handshake
  pub whole-opened : (result : Result Opening SessionError) (outcome : Result ⊤ SessionError) (o : Opens setup old middle result) → new ≡ middle
      → EndsCourse outcome (stop_of o.left)
      → EndsByCause empty_reader old.calls new.calls outcome
  whole-opened result outcome o same ends = λ before calls was is.
      let grew : new.calls ≡ Some (before ++ o.calls) =
      ap (λ (t : Told). t.calls) (same ∙ o.told) ∙ ap (λ (cs : Option (List HostCall)). grown cs o.calls) was in
      let mine : calls ≡ o.calls = same-rest before calls o.calls (some-same (before ++ calls) (before ++ o.calls) (sym is ∙ grew)) in
      let end : stop_of (session_course 0 [] (given_in calls)) ≡ stop_of o.left =
      ap (λ (cs : List HostCall). stop_of (course_of 0 [] (given_in cs))) mine ∙ ap stop_of o.course ∙ end-taking o.inputs o.left in
      subst (EndsCourse outcome) (sym end) ends

  -- a session followed it
  pub whole-begun : (meaning : Meaning) (config : ConfigData) (reader : Reader) (honest : Bool) (outcome : Result ⊤ SessionError)
      → Opens setup old middle (Ok (Begun config reader))
      → IsAnswered meaning config reader middle new honest outcome → EndsByCause reader middle.calls new.calls outcome
      → EndsByCause empty_reader old.calls new.calls outcome
  whole-begun meaning config reader honest outcome o a ends = λ before calls was is.
      let first : middle.calls ≡ Some (before ++ o.calls) =
      ap (λ (t : Told). t.calls) o.told ∙ ap (λ (cs : Option (List HostCall)). grown cs o.calls) was in
      let both : new.calls ≡ Some ((before ++ o.calls) ++ a.calls) =
      ap (λ (t : Told). t.calls) a.told ∙ ap (λ (cs : Option (List HostCall)). grown cs a.calls) first in
      let mine : calls ≡ o.calls ++ a.calls = same-rest before calls (o.calls ++ a.calls)
      (some-same (before ++ calls) (before ++ (o.calls ++ a.calls)) (sym is ∙ both ∙ ap Some (append_assoc before o.calls a.calls))) in
      let given : given_in calls ≡ given_in o.calls ++ given_in a.calls = ap given_in mine ∙ given-append o.calls a.calls in
      let end : stop_of (session_course 0 [] (given_in calls)) ≡ stop_of (session_course reader.place reader.held (given_in a.calls)) =
      ap (λ (es : List HostEvent). stop_of (course_of 0 [] es)) given ∙ ap stop_of (o.ends.1.course (given_in a.calls))
      ∙ end-taking o.inputs (course_of reader.place reader.held (given_in a.calls)) in
      subst (EndsCourse outcome) (sym end) (ends (before ++ o.calls) a.calls first both)

-- what is left after a handshake that broke off is what ended it
pub left-ends : (setup : Setup) (events bytes : ℕ) (stage : Stage) (left : Course) (Handed Untaken : Type 0) (error : SessionError)
    → (Handed × LeftBy setup events bytes stage left error) ⊎ (Untaken × IsHostError error) → EndsCourse {T = ⊤} (Err error) (stop_of left)
left-ends setup events bytes stage left Handed Untaken ClientExited (inl h) = ap stop_of h.1
left-ends setup events bytes stage left Handed Untaken ClientExited (inr h) = absurd h.1
left-ends setup events bytes stage left Handed Untaken (BadFrame at) (inl h) = ap stop_of h.1
left-ends setup events bytes stage left Handed Untaken (BadFrame at) (inr h) = absurd h.1
left-ends setup events bytes stage left Handed Untaken (BadMessage at) (inl h) = ap stop_of h.1
left-ends setup events bytes stage left Handed Untaken (BadMessage at) (inr h) = absurd h.1
left-ends setup events bytes stage left Handed Untaken HostFault h = tt
left-ends setup events bytes stage left Handed Untaken WriteFault h = tt
left-ends setup events bytes stage left Handed Untaken (Exhausted counter) h = tt
left-ends setup events bytes stage left Handed Untaken NoMemory h = tt

-- over a good input it ends well
pub completes : (old new : Option (List HostCall)) (HostFailed SinkFailed : Type 0) (outcome : Result ⊤ SessionError) → EndsByCause empty_reader old new outcome
    → (outcome ≡ Err HostFault → HostFailed) → (outcome ≡ Err WriteFault → SinkFailed) → Completes old new HostFailed SinkFailed outcome
completes old new HostFailed SinkFailed (Ok x) ends host sink = λ before calls was is good calm dry. tt
completes old new HostFailed SinkFailed (Err ClientExited) ends host sink = λ before calls was is good calm dry. let e = ends before calls was is in absurd cc
completes old new HostFailed SinkFailed (Err (BadFrame at)) ends host sink = λ before calls was is good calm dry. let e = ends before calls was is in absurd cc
completes old new HostFailed SinkFailed (Err (BadMessage at)) ends host sink = λ before calls was is good calm dry. let e =
    ends before calls was is in absurd cc
completes old new HostFailed SinkFailed (Err HostFault) ends host sink = λ before calls was is good calm dry. calm (host refl)
completes old new HostFailed SinkFailed (Err WriteFault) ends host sink = λ before calls was is good calm dry. dry (sink refl)
completes old new HostFailed SinkFailed (Err (Exhausted counter)) ends host sink = λ before calls was is good calm dry. tt
completes old new HostFailed SinkFailed (Err NoMemory) ends host sink = λ before calls was is good calm dry. tt
