-- The answer that a run hands back, as the record of 01's Tree.
use Rattle.std.specs.Prelude.{ℕ, Result, Ok, Err, replicate}
use Rattle.signature.specs.Refusal.{number_in}
use Rattle.signature.specs.declared.refusals.Refusal.{Refusal}
use Rattle.pattern.specs.Limits.{variable_count}
use Rattle.tree.specs.Answer.{Answer}
use Rattle.run.specs.declared.Answer.{Answer as Given}

abbrev pub answer_of : Given → Answer
answer_of a = record { rule = a.rule; plan = a.plan; places = a.places }

-- "A refusal gives its number, other results 0"
abbrev pub ran_answer : Result Given Refusal → Answer
ran_answer (Ok a) = answer_of a
ran_answer (Err r) = record { rule = 0; plan = 0; places = replicate variable_count 0 }

-- the number and the answer
abbrev pub outcome : Result Given Refusal → ℕ × Answer
outcome r = (number_in r, ran_answer r)
