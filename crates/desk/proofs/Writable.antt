-- The data of a response of the desk can be written.
use Rattle.std.proofs.Common.{refl}
use Rattle.plain.specs.Plain.{most_levels}
use Rattle.dispatch.proofs.Writable.{plain_writable}
use Rattle.lsp_frame.specs.Written.{IsWritable}
use Rattle.desk.specs.Replies.{retrigger_request}

pub retrigger_writable : IsWritable retrigger_request
unfolding most_levels
retrigger_writable = plain_writable retrigger_request refl
