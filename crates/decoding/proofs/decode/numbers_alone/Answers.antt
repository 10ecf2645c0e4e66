use mathlib.Core.Path.{sym, ◌∙◌}
use native.Mathlib.Omega.{arith}
use borrow.Author.Tests.{not-true}
use Rattle.decoding.specs.Decoding.{row, rows, alone_by}
use Rattle.signature.proofs.Counting.{counted_passed_0, counted_failed_0}
use Rattle.decoding.proofs.Marks.{all_alone}
use Rattle.decoding.proofs.decode.numbers_alone.Goals as goal

pub returns-then-numbers-eq0 : goal.returns-then-numbers-eq0
returns-then-numbers-eq0 c = all_alone c.args.t.now (rows c.args.t.now 0 c.args.n) (c.requires.3 c.if-numbers-eq0.true)

pub returns-then-not-stands_alone : goal.returns-then-not-stands_alone
returns-then-not-stands_alone c = let a = c.args in counted_failed_0 (alone_by a.t.now) (λ i. row a.t.now i) c.loop-c.c a.n (omega arith) (sym c.stands_alone.ensures ∙ not-true _ c.if-not-stands_alone.true-raw)

pub returns : goal.returns
returns c = let a = c.args in counted_passed_0 (alone_by a.t.now) (λ i. row a.t.now i) c.loop-c.c a.n c.loop-c-test.false c.loop-c.invariant.1
