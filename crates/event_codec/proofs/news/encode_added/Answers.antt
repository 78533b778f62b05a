use Rattle.record_codec.specs.Cases.{optional}
use Rattle.record_codec.specs.Codec.{◌and◌}
use Rattle.record_codec.specs.Leaves.{path, json}
use Rattle.record_codec.specs.Numbers.{number64, text}
use Rattle.event_codec.specs.Diagnostics.{diagnostic_codec}
use Rattle.event_codec.specs.News.{added_codec}
use Rattle.event_codec.proofs.Appending.{appended}
use Rattle.event_codec.proofs.news.encode_added.Goals as goal

pub returns : goal.returns
unfolding added_codec
returns c =
    let a = c.args in
    let two = appended diagnostic_codec (optional json) a.diagnostic.now a.fix.now _ _ _ c.in_ok-encode-5.ensures c.in_ok-encode-6.ensures in
    let three = appended path (diagnostic_codec and optional json) a.path.now (a.diagnostic.now, a.fix.now) _ _ _ c.in_ok-encode-4.ensures two in
    let four =
    appended (optional text) (path and diagnostic_codec and optional json) a.of_package.now (a.path.now, (a.diagnostic.now, a.fix.now))
    _ _ _ c.in_ok-encode-3.ensures three in
    let five =
    appended number64 (optional text and path and diagnostic_codec and optional json) a.generation
    (a.of_package.now, (a.path.now, (a.diagnostic.now, a.fix.now))) _ _ _ c.in_ok-encode-2.ensures four in
    appended number64 (number64 and optional text and path and diagnostic_codec and optional json) a.id
    (a.generation, (a.of_package.now, (a.path.now, (a.diagnostic.now, a.fix.now)))) _ _ _ c.in_ok-encode.ensures five
