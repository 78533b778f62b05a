use Rattle.std.proofs.Common.{Some, arith, lit<, refl}
use Rattle.std.proofs.lemmas.Bool.Decides.{nat_tests}
use Rattle.std.proofs.lemmas.Grind.{common_steps}
use Rattle.std.proofs.lemmas.Str.Ascii.{trim_ascii_is}
use Rattle.std.proofs.lemmas.Str.Pattern.{split_once_first}
use Rattle.ini_server.specs.Ini.{trimmed_start}
use Rattle.ini_server.proofs.ini.value_at.Goals as goal

pub returns-in-Some : goal.returns-in-Some
returns-in-Some c =
    let parts = split_once_first 61 c.args.line.now (Some (c.in-Some.name, c.in-Some.value)) c.in-Some.ensures.cases (lit< tt) in
    let value = trim_ascii_is c.in-Some.value.now c.trim_ascii.result.now (trimmed_start c.in-Some.value.now) refl c.trim_ascii.ensures.value in
    grind (arith, nat_tests, common_steps)
