-- The number and the values of an entry's answer, by cases.
use Rattle.std.specs.Prelude.{◌≤◌}
use Rattle.signature.specs.Refusal.{number_of}
use Rattle.table.specs.Calls.{Entered as Answer}
use Rattle.entry.specs.declared.sound.Entry.{Entry}
use Rattle.entry.specs.declared.sound.Entry.TheVariants.{Entered, Refused, Shares}

-- "Success gives 0 as its number"; "A refusal gives its number, other results 0"; "12. .. the lowest such number and the booking's length are returned"
abbrev pub entry_answer : Entry → Answer
entry_answer Entered = record { number = 0; sharer = 0; shown = 0 }
entry_answer (Refused r) = record { number = number_of r; sharer = 0; shown = 0 }
entry_answer (Shares rule words) = record { number = 12; sharer = rule; shown = words }

-- a refusal's number is not 0, so that no refusal answers as success does
abbrev pub Numbered : Entry → Type 0
Numbered Entered = Unit {0}
Numbered (Refused r) = 1 ≤ number_of r
Numbered (Shares rule words) = Unit {0}
