use Rattle.std.proofs.Common.{◌≡◌, ap, codes, ◌∙◌}
use Rattle.std.specs.Prelude.{bytes_eq}
use Rattle.std.proofs.lemmas.Bool.{true≢false}
use Rattle.serde_json.specs.Data.{put, string}
use Rattle.serde_json.proofs.Views.{get_member-put, get_member-put_other}
use Rattle.server.specs.Replies.{encoding_name, synchronization}
use Rattle.server.proofs.laws.sessions_capabilities_stand.Goals as goal

pub returns : goal.returns
returns c = record {
  encoding = λ own encoding.
      get_member-put_other (codes "positionEncoding") (codes "textDocumentSync")
      synchronization (put (codes "positionEncoding") (string (encoding_name encoding)) own)
      (λ e. true≢false (ap (λ name. bytes_eq name (codes "positionEncoding")) e))
      ∙ get_member-put (codes "positionEncoding") (string (encoding_name encoding)) own;
  documents = λ own encoding.
      get_member-put (codes "textDocumentSync") synchronization (put (codes "positionEncoding") (string (encoding_name encoding)) own);
  others = λ own encoding key encoded told.
      get_member-put_other key (codes "textDocumentSync") synchronization (put (codes "positionEncoding") (string (encoding_name encoding)) own) told
      ∙ get_member-put_other key (codes "positionEncoding") (string (encoding_name encoding)) own encoded;
}
