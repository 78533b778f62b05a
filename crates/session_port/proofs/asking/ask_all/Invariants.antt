use Rattle.std.proofs.Common.{◌≡◌, ◌++◌, None, map}
use Rattle.std.specs.List.{AllZip}
use Rattle.std.specs.Vec.Iter.{into_iter_items}
use Rattle.analysis_host.specs.Answers.{answer, IsAnswerTo}
use Rattle.session_port.proofs.Questions.{Continues}
use Rattle.session_port.specs.Runs.{HasCounted}
use Rattle.session_port.proofs.asking.ask_all.Given as goal

abbrev pub invariant-loop-ask : goal.invariant-loop-ask
invariant-loop-ask g l = record {
  found : map answer l.answers ++ map (g.A.Analysis.answer l.snapshot) (into_iter_items l.ask-iterator) ≡ map (g.A.Analysis.answer l.snapshot) l.fn.asks;
  kinds : Continues l.fn.asks l.answers (into_iter_items l.ask-iterator);
  usable : g.C.Cancel.held l.cancel ≡ None;
  counted : HasCounted (g.C.Cancel.polls l.fn.cancel) (g.C.Cancel.polls l.cancel);
  key : g.C.Cancel.key l.cancel ≡ g.C.Cancel.key l.fn.cancel;
  floor : g.C.Cancel.floor l.cancel ≡ g.C.Cancel.floor l.fn.cancel;
}
