-- The laws of the text hold.
use Rattle.text.specs.Laws.{Laws}
use Rattle.text.proofs.Entries.{enters}
use Rattle.text.proofs.TextFacts.{number_decimal, decimal_number}
use Rattle.text.proofs.TextLaw.{text_was, text_read}

pub laws : Laws
laws = record { text = λ bytes t. (text_was bytes t, text_read bytes t); number_read = number_decimal; number_was = decimal_number; enters = enters }
