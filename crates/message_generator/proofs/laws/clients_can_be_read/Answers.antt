use Rattle.std.proofs.Common.{arith}
use Rattle.message_generator.proofs.Clients.{messages_ask, messages_end, messages_readable}
use Rattle.message_generator.proofs.laws.clients_can_be_read.Goals as goal

pub returns-clause-read : goal.returns-clause-read
returns-clause-read c = λ count within. messages_readable count 0 count (omega arith)

pub returns-clause-ended : goal.returns-clause-ended
returns-clause-ended c = λ count. messages_end count 0 count

pub returns-clause-asked : goal.returns-clause-asked
returns-clause-asked c = λ count. messages_ask count 0 count
