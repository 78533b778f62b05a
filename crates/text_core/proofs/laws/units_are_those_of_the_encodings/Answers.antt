use Rattle.text_core.proofs.UnitLemmas.{bytes_of, written_in_utf16, written_in_utf32}
use Rattle.text_core.proofs.laws.units_are_those_of_the_encodings.Goals as goal

pub returns-clause-utf_8 : goal.returns-clause-utf_8
returns-clause-utf_8 c = bytes_of

pub returns-clause-utf_16 : goal.returns-clause-utf_16
returns-clause-utf_16 c = written_in_utf16

pub returns-clause-utf_32 : goal.returns-clause-utf_32
returns-clause-utf_32 c = written_in_utf32
