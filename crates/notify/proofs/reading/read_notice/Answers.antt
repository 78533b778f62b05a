use Rattle.std.proofs.Common.{sym, ◌∙◌}
use Rattle.notify.proofs.Fitting.{notice_fits}
use Rattle.notify.proofs.reading.read_notice.Goals as goal

pub returns-in-Some-clause-fits : goal.returns-in-Some-clause-fits
returns-in-Some-clause-fits c =
    c.judged.ensures.fits (notice_fits c.as_str.result.now c.args.params c.in-Some.read (sym c.in-Some.is ∙ c.in_ok-read.ensures))
