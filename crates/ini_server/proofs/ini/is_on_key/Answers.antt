use Rattle.std.proofs.Common.{arith}
use Rattle.std.proofs.lemmas.Bool.Decides.{nat_tests}
use Rattle.std.proofs.lemmas.Grind.{common_steps}
use Rattle.ini_server.proofs.Keys.{key_is, start_is}
use Rattle.ini_server.proofs.ini.is_on_key.Goals as goal

pub returns-then-start-column : goal.returns-then-start-column
returns-then-start-column c =
    let key = key_is c.args.name.now c.trim_ascii_start-rest.result.now c.trim_ascii_end-key.result.now c.trim_ascii_start-rest.ensures.value c.trim_ascii_end-key.ensures.value in
    let start = start_is c.args.name.now c.trim_ascii_start-rest.result.now c.trim_ascii_start-rest.ensures.value in
    grind (arith, nat_tests, common_steps)

pub returns-else-start-column : goal.returns-else-start-column
returns-else-start-column c =
    let key = key_is c.args.name.now c.trim_ascii_start-rest.result.now c.trim_ascii_end-key.result.now c.trim_ascii_start-rest.ensures.value c.trim_ascii_end-key.ensures.value in
    let start = start_is c.args.name.now c.trim_ascii_start-rest.result.now c.trim_ascii_start-rest.ensures.value in
    grind (arith, nat_tests, common_steps)
