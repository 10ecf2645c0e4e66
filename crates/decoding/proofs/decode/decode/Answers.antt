use native.Mathlib.Omega.{arith}
use borrow.Author.Tests.{not-true, not-false}
use Rattle.decoding.proofs.Decoding.{Begun, many_constructors, not_read, many_rows, kind_missing, not_alone, spanned, fit_after, bare_after, decoded}
use Rattle.decoding.proofs.decode.decode.Goals.{In-Some}
use Rattle.decoding.proofs.decode.decode.Goals as goal

begun : (c : In-Some) → Begun c.args.w.now c.wide-n.result c.read_rows.new.t c.in-Some.s.kinds c.in-Some.s.most c.in-Some.s.numbers
begun c = record { some_word = omega arith; count = c.wide-n.ensures; one = c.if-n-eq0.false; most = c.if-n-gt-CONSTRUCTOR_LIMIT.false; read = c.in-Some.ensures.some }

pub returns-then-n-gt-CONSTRUCTOR_LIMIT : goal.returns-then-n-gt-CONSTRUCTOR_LIMIT
returns-then-n-gt-CONSTRUCTOR_LIMIT c = many_constructors c.args.w.now _ _ c.wide-n.ensures c.if-n-gt-CONSTRUCTOR_LIMIT.true

pub returns-in_default : goal.returns-in_default
returns-in_default c = not_read c.args.w.now _ _ (omega arith) c.wide-n.ensures c.in_default.ensures.none

pub returns-then-not-few_rows : goal.returns-then-not-few_rows
returns-then-not-few_rows c = many_rows (begun (goal.at.returns-then-not-few_rows c).In-Some) _ _ c.few_rows.ensures (not-true _ c.if-not-few_rows.true-raw)

pub returns-then-wide-kinds : goal.returns-then-wide-kinds
returns-then-wide-kinds c = kind_missing (begun (goal.at.returns-then-wide-kinds c).In-Some) _ _ c.wide.ensures c.if-wide-kinds.true

pub returns-then-not-numbers_alone : goal.returns-then-not-numbers_alone
returns-then-not-numbers_alone c = not_alone (begun (goal.at.returns-then-not-numbers_alone c).In-Some) _ _ c.numbers_alone.ensures (not-true _ c.if-not-numbers_alone.true-raw)

pub note_kinds-small-requires : goal.note_kinds-small-requires
note_kinds-small-requires c = spanned (begun (goal.at.note_kinds-small-requires c).In-Some) _ c.wide.ensures c.if-wide-kinds.false _ c.numbers_alone.ensures (not-false _ c.if-not-numbers_alone.false-raw)

pub mark_numbers-requires : goal.mark_numbers-requires
mark_numbers-requires c = let b = begun (goal.at.mark_numbers-requires c).In-Some in let e = c.wide.ensures in let l = c.if-wide-kinds.false in let h = c.note_kinds-small.ensures in (fit_after b _ e l _ _ h, bare_after b _ e l _ _ h)

pub returns : goal.returns
returns c = decoded (begun (goal.at.returns c).In-Some) _ c.wide.ensures c.if-wide-kinds.false _ _ _ _ _ c.few_rows.ensures (not-false _ c.if-not-few_rows.false-raw) c.numbers_alone.ensures (not-false _ c.if-not-numbers_alone.false-raw) c.note_kinds-small.ensures c.mark_numbers.ensures
