use mathlib.Core.Path.{◌≡◌, refl, ap, sym, ◌∙◌}
use native.Mathlib.Omega.{arith}
use lib.ListN.{length}
use lib.Seq.{length-take-le}
use borrow.Author.Rules.{rules}
use Rattle.pattern.specs.Limits.{variable_count}
use Rattle.signature.specs.Refusal.{number_of}
use Rattle.signature.proofs.Numbers.{positive}
use Rattle.text.specs.Print.{print_refused}
use Rattle.answering.proofs.Steps.{as_printed, book_not_broken, book_fits, book_refused, book_answered}
use Rattle.answering.proofs.rules.decide_booking.Goals as goal

pub returns-in_default : goal.returns-in_default
returns-in_default c = as_printed c.args.text.now (absurd (book_not_broken c.requires.0 c.requires.1 c.list_line.result c.list_line.ensures.0 c.in_default.is)) refl c.refused.ensures

pub slice_bounds-decide-end : goal.slice_bounds-decide-end
slice_bounds-decide-end c = omega (arith, book_fits c.requires.0 c.requires.1 c.list_line.result c.list_line.ensures.0 c.in-Some.book c.in-Some.is, c.list_line.auto.out, c.requires.2)

pub slice_bounds-decide-end-2 : goal.slice_bounds-decide-end-2
slice_bounds-decide-end-2 c = sym (length-take-le _ _ (omega (arith, book_fits c.requires.0 c.requires.1 c.list_line.result c.list_line.ensures.0 c.in-Some.book c.in-Some.is, c.list_line.auto.out, c.requires.2)))

pub returns-in-Err : goal.returns-in-Err
returns-in-Err c = as_printed c.args.text.now (book_refused c.requires.0 c.requires.1 c.list_line.result c.list_line.ensures.0 c.in-Some.book c.in-Some.is c.args.space.now c.list_line.new.out c.list_line.ensures.1 (number_of c.in-Err.r) _ c.in-Err.ensures (positive c.in-Err.r) ∙ ap print_refused (sym c.from.ensures)) refl c.refused-in-Err.ensures

pub answer-requires : goal.answer-requires
answer-requires c = (let z : length c.in-Ok.a.places ≡ variable_count = search rules in omega (arith, z), c.requires.3)

pub returns-in-Ok : goal.returns-in-Ok
returns-in-Ok c = as_printed c.args.text.now (book_answered c.requires.0 c.requires.1 c.list_line.result c.list_line.ensures.0 c.in-Some.book c.in-Some.is c.args.space.now c.list_line.new.out c.list_line.ensures.1 0 _ c.in-Ok.ensures refl) refl c.answer.ensures
