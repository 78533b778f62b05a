-- A run over generated messages as a whole.
use Rattle.std.proofs.Common.{◌≡◌, ℕ, ◌<◌, true, List, [], ◌∷◌, ◌++◌, refl, sym, ap, subst, ◌∙◌, append-nil}
use Rattle.std.specs.Prelude.{⊤, Option, None, Some, Result, Ok, Err, IfOk}
use Rattle.std.specs.List.{concat}
use Rattle.hex.specs.Hex.{encode_lower}
use Rattle.sha1.specs.Sha1.{sha1}
use Rattle.session_port.specs.Record.{HostCall, before_piece, grown}
use Rattle.inline_host.specs.Inline.{waiting}
use Rattle.ordered_host.specs.InOrder.{AreInOrder, IsOrdered, OrderedData, beginning, bytes_given, stream_of as whole_stream, whole_of}
use Rattle.session.specs.Headline.{IsAnswered}
use Rattle.session.specs.Meaning.{Meaning}
use Rattle.session.specs.Run.{IsRun, Told, Turn, empty_reader, out_after_all, taking, told_of}
use Rattle.session.proofs.Answered.{run-answered}
use Rattle.session.proofs.Causes.{answered-caused}
use Rattle.session.proofs.Trusted.{run-trusted}
use Rattle.session_model.specs.Places.{Place, beginning as first_place, place_after, place_after_all}
use Rattle.message_generator.specs.Drafts.{final_texts}
use Rattle.message_generator.specs.Stream.{messages_of, stream_of}
use Rattle.message_generator.proofs.Clients.{messages_ask, messages_end, messages_readable}
use Rattle.session_generate.specs.Generating.{IsSummary, RunsOver}
use Rattle.session_generate.specs.Summary.{counts_text, hash_of, hashes_text}
use Rattle.session_generate.specs.Settings.{session_settings}
use Rattle.session_generate.proofs.Counting.{all-answered}
use Rattle.session_generate.proofs.Walking.{walked}
use Rattle.std.proofs.Common.{arith}

some-calls : (xs ys : List HostCall) → Some xs ≡ Some ys → xs ≡ ys
some-calls xs ys e = cc

some-bytes : (xs ys : List ℕ) → Some xs ≡ Some ys → xs ≡ ys
some-bytes xs ys e = cc

-- the jobs that are out are those of the turns
jobs-of : (meaning : Meaning) (turns : List Turn) (place : Place) → (place_after_all meaning turns place).desk.jobs ≡ out_after_all turns place.desk.jobs
jobs-of meaning [] place = refl
jobs-of meaning (turn ∷ turns) place = jobs-of meaning turns (place_after meaning turn place)

module _ (meaning : Meaning) (count : ℕ) (small : count < 65536) (calls : List HostCall) (written : List (List ℕ)) where
  abbrev before : Told
  before = told_of (Some []) (Some [])

  abbrev now : Told
  now = told_of (Some calls) (Some written)

  runs-over : IsRun {T = ⊤} meaning session_settings empty_reader before now true (Ok tt)
      → AreInOrder (beginning (stream_of count)) calls → RunsOver meaning count written
  runs-over run in_order =
      let a : IsAnswered {T = ⊤} meaning session_settings empty_reader before now true (Ok tt) = run-answered ⊤ meaning session_settings empty_reader before now true (Ok tt) run in
      let end = answered-caused ⊤ meaning session_settings empty_reader before now true (Ok tt) a in
      let same : a.calls ≡ calls = some-calls a.calls calls (sym (ap (λ (t : Told). t.calls) a.told)) in
      let exit = walked a.turns a.calls (messages_of count) count a.asks (a.inputs ∙ ap (taking a.turns) a.ends.1)
      (subst (AreInOrder (beginning (stream_of count))) (sym same) in_order)
      (messages_readable count 0 count (omega arith)) (messages_end count 0 count) (messages_ask count 0 count) in
      let held = (a.between a.turns [] (sym (append-nil a.turns))).held in
      let idle = jobs-of meaning a.turns (first_place session_settings) ∙ exit.idle in
      record {
        calls = calls;
        given = ap bytes_given (sym same) ∙ exit.given;
        in_order = in_order;
        ran = record {
          run = run;
          end = end;
          complete = λ past later was is good calm dry. tt;
          headline = a;
          quiet = run-trusted ⊤ meaning session_settings empty_reader before now true (Ok tt) run;
        };
        answered = all-answered meaning session_settings true a.turns a.each held idle ∙ exit.asked;
      }

-- what a host tells that was lent, and what it was made of
whole-told : (meaning : Meaning) (count : ℕ) → count < 65536 → (new : OrderedData) (written : List (List ℕ)) (calls : List HostCall) (left : Option (List ℕ))
    → new.host.calls ≡ Some calls → waiting new.host ≡ left → whole_stream new ≡ Some (stream_of count) → IsOrdered new
    → IsRun {T = ⊤} meaning session_settings empty_reader (told_of (Some []) (Some [])) (told_of (Some calls) (Some written)) true (Ok tt)
    → RunsOver meaning count written
whole-told meaning count small new written calls None told waits whole ordered run =
    let none : whole_stream new ≡ None = ap (λ (o : Option (List HostCall)). whole_of o (waiting new.host)) told ∙ ap (before_piece (bytes_given calls)) waits in
    absurd (no-stream (sym none ∙ whole))
  where
    no-stream : None ≡ Some (stream_of count) → ⊥
    no-stream e = cc
whole-told meaning count small new written calls (Some left) told waits whole ordered run =
    let some : whole_stream new ≡ Some (bytes_given calls ++ left) = ap (λ (o : Option (List HostCall)). whole_of o (waiting new.host)) told ∙ ap (before_piece (bytes_given calls)) waits in
    let same : bytes_given calls ++ left ≡ stream_of count = some-bytes (bytes_given calls ++ left) (stream_of count) (sym some ∙ whole) in
    runs-over meaning count small calls written run
    (subst (λ (bytes : List ℕ). AreInOrder (beginning bytes) calls) same (ordered.follows calls left told waits).in_order)

pub whole-run : (meaning : Meaning) (count : ℕ) → count < 65536 → (old new : OrderedData) (first written : List (List ℕ)) (x : ⊤)
    → old.host.calls ≡ Some [] → whole_stream old ≡ Some (stream_of count) → first ≡ [] → whole_stream new ≡ whole_stream old → IsOrdered new
    → IsRun {T = ⊤} meaning session_settings empty_reader (told_of old.host.calls (Some first)) (told_of new.host.calls (Some written)) true (Ok x)
    → RunsOver meaning count written
whole-run meaning count small old new first written x fresh source empty origin ordered run =
    let a : IsAnswered {T = ⊤} meaning session_settings empty_reader (told_of old.host.calls (Some first)) (told_of new.host.calls (Some written)) true (Ok x) =
    run-answered ⊤ meaning session_settings empty_reader (told_of old.host.calls (Some first)) (told_of new.host.calls (Some written)) true (Ok x) run in
    let told : new.host.calls ≡ Some a.calls = ap (λ (t : Told). t.calls) a.told ∙ ap (λ (o : Option (List HostCall)). grown o a.calls) fresh in
    let from : told_of old.host.calls (Some first) ≡ told_of (Some []) (Some []) =
    ap (λ (o : Option (List HostCall)). told_of o (Some first)) fresh ∙ ap (λ (ts : List (List ℕ)). told_of (Some []) (Some ts)) empty in
    let to : told_of new.host.calls (Some written) ≡ told_of (Some a.calls) (Some written) = ap (λ (o : Option (List HostCall)). told_of o (Some written)) told in
    whole-told meaning count small new written a.calls (waiting new.host) told refl (origin ∙ source) ordered
    (subst (λ (t : Told). IsRun {T = ⊤} meaning session_settings empty_reader (told_of (Some []) (Some [])) t true (Ok tt)) to
    (subst (λ (t : Told). IsRun {T = ⊤} meaning session_settings empty_reader t (told_of new.host.calls (Some written)) true (Ok tt)) from run))

-- the summary of a run, by the hashes that were computed
pub summary-of : (E : Type 0) (meaning : Meaning) (count : ℕ) (written : List (List ℕ)) (result : Result (List ℕ) E) → RunsOver meaning count written
    → (texts output : List ℕ) (turns : List (List ℕ)) → texts ≡ sha1 (final_texts count) → output ≡ sha1 (concat turns) → turns ≡ written
    → IfOk result (λ summary. summary ≡ counts_text count count ++ hashes_text (encode_lower texts) (encode_lower output))
    → IfOk result (IsSummary meaning count)
summary-of E meaning count written (Err e) ran texts output turns one two same is = tt
summary-of E meaning count written (Ok summary) ran texts output turns one two same is = record {
  written = written;
  ran = ran;
  is = is ∙ ap (λ (bytes : List ℕ). counts_text count count ++ hashes_text (encode_lower bytes) (encode_lower output)) one
      ∙ ap (λ (bytes : List ℕ). counts_text count count ++ hashes_text (hash_of (final_texts count)) (encode_lower bytes)) (two ∙ ap (λ (ts : List (List ℕ)). sha1 (concat ts)) same)
      ∙ ap (λ (responses : ℕ). counts_text count responses ++ hashes_text (hash_of (final_texts count)) (hash_of (concat written))) (sym ran.answered);
}
