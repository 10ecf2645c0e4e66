use mathlib.Core.Path.{ap}
use native.Mathlib.Omega.{arith}
use Rattle.pattern.specs.Word.{form_of, own_words}
use Rattle.reading.proofs.ranges.right_front.Goals as goal

pub bounds-p-1 : goal.bounds-p-1
bounds-p-1 c = omega (arith, ap (λ w. own_words (form_of w)) c.in-Range.is, c.requires)

pub bounds-p-2 : goal.bounds-p-2
bounds-p-2 c = omega (arith, ap (λ w. own_words (form_of w)) c.in-Range.is, c.requires)

pub returns-in-Range : goal.returns-in-Range
returns-in-Range c = rw c.in-Range.is c.right_range.ensures
