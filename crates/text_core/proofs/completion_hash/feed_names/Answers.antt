use Rattle.std.proofs.Common.{subst}
use Rattle.text_core.specs.Hashed.{text_bytes, optional}
use Rattle.text_core.proofs.HashLemmas.{Feeds, feeds_then}
use Rattle.text_core.proofs.completion_hash.feed_names.Goals as goal

pub returns : goal.returns
returns c =
    let item = c.args.item.now in
    let start = c.args.hasher.now in
    let one : Feeds start c.feed_text.new.hasher (text_bytes item.label) = subst (λ t. Feeds start c.feed_text.new.hasher (text_bytes t)) c.as_str.ensures.value c.feed_text.ensures in
    let four : Feeds c.feed_optional-2.new.hasher c.feed_text-2.new.hasher (text_bytes item.kind_tag) =
    subst (λ t. Feeds c.feed_optional-2.new.hasher c.feed_text-2.new.hasher (text_bytes t)) c.as_str-2.ensures.value c.feed_text-2.ensures in
    let five : Feeds c.feed_text-2.new.hasher c.feed_text-3.new.hasher (text_bytes item.lookup) =
    subst (λ t. Feeds c.feed_text-2.new.hasher c.feed_text-3.new.hasher (text_bytes t)) c.as_str-3.ensures.value c.feed_text-3.ensures in
    let to_left = feeds_then start c.feed_text.new.hasher c.feed_optional.new.hasher (text_bytes item.label) (optional text_bytes item.detail_left) one c.feed_optional.ensures in
    let to_right = feeds_then start c.feed_optional.new.hasher c.feed_optional-2.new.hasher _ (optional text_bytes item.detail_right) to_left c.feed_optional-2.ensures in
    let to_kind = feeds_then start c.feed_optional-2.new.hasher c.feed_text-2.new.hasher _ (text_bytes item.kind_tag) to_right four in
    let to_lookup = feeds_then start c.feed_text-2.new.hasher c.feed_text-3.new.hasher _ (text_bytes item.lookup) to_kind five in
    feeds_then start c.feed_text-3.new.hasher c.feed_optional-3.new.hasher _ (optional text_bytes item.detail) to_lookup c.feed_optional-3.ensures
