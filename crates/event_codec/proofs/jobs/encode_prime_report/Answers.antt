use Rattle.record_codec.specs.Codec.{◌and◌}
use Rattle.record_codec.specs.Lists.{list_of}
use Rattle.record_codec.specs.Numbers.{number64, text}
use Rattle.event_codec.specs.Jobs.{prime_report_codec}
use Rattle.event_codec.proofs.Appending.{appended}
use Rattle.event_codec.proofs.jobs.encode_prime_report.Goals as goal

pub returns : goal.returns
unfolding prime_report_codec
returns c =
    let a = c.args in
    appended number64 (number64 and list_of text) a.done (a.total, a.crates.now) _ _ _ c.in_ok-encode.ensures
    (appended number64 (list_of text) a.total a.crates.now _ _ _ c.in_ok-encode-2.ensures c.in_ok-encode-3.ensures)
