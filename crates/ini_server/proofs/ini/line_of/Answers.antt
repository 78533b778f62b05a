use Rattle.std.proofs.Common.{refl}
use Rattle.ini_server.proofs.Lines.{line_is}
use Rattle.ini_server.proofs.ini.line_of.Goals as goal

pub returns : goal.returns
returns c = line_is c.args.index.now c.args.line c.line_text.result _ c.unwrap_or.result c.line_text.ensures.value c.line_text.ensures.none c.unwrap_or.ensures refl
