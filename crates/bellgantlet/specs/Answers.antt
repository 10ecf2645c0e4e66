-- The structs that are handed to a host, as the answers of 01.
use Rattle.std.specs.Prelude.{◌≡◌, List, cond, ℕ, eqb, length, take, drop}
use Rattle.signature.specs.Part.{part_call}
use Rattle.tree.specs.Answer.{Answer}
use Rattle.table.specs.Calls.{Entered}
use Rattle.bellgantlet.specs.declared.Answer.{Answer as HostAnswer}
use Rattle.bellgantlet.specs.declared.Entered.{Entered as HostEntered}

abbrev pub entered_of : HostEntered → Entered
entered_of r = record { number = r.number; sharer = r.rule; shown = r.length }

abbrev pub host_answer : HostAnswer → Answer
host_answer r = record { rule = r.rule; plan = r.plan; places = r.places }

-- "One call hands back the part of the booking that begins at a given place; on a refusal that part is empty", by where it begins and its length: the words that stand there are the part
pub record PartCall (ss bs : List ℕ) (place number start len : ℕ) : Type 0 where
  pub number_is : number ≡ (part_call ss bs place).0
  pub start_is : start ≡ cond (eqb number 0) place 0
  pub length_is : len ≡ length (part_call ss bs place).1
  pub words_are : take len (drop start bs) ≡ (part_call ss bs place).1
