use Rattle.session_generate.proofs.Wholes.{summary-of}
use Rattle.session_generate.proofs.generating.summarize.Goals as goal

pub returns : goal.returns
returns g c = summary-of _ _ _ c.run_to_exit.new.sink.turns c.summary_text.result c.in_ok-run_to_exit.ensures
    c.in_ok-texts.texts c.output_hash-output.result c.turns.result.now c.in_ok-texts.ensures c.output_hash-output.ensures c.turns.ensures c.summary_text.ensures
