use borrow.Author.Tests.{ne_eqb}
use mathlib.Core.Path.{◌∙◌}
use Rattle.sets.proofs.ListSets.{size_test}
use Rattle.linearity.proofs.VarSets.{apart_is, alike_is, bare_is}
use Rattle.linearity.proofs.linear.goes_with.Goals as goal

pub returns-then-j-eq0 : goal.returns-then-j-eq0
returns-then-j-eq0 c = λ xs ys f g. rw (c.in-Alike.is, c.if-j-eq0.true)

pub returns-in-Apart : goal.returns-in-Apart
returns-in-Apart c = λ xs ys f g. rw c.in-Apart.is (size_test _ _ c.size.ensures ∙ apart_is _ _ _ xs ys c.meet.type_inv c.meet.ensures f g)

pub returns-else-j-eq0 : goal.returns-else-j-eq0
returns-else-j-eq0 c = λ xs ys f g. rw (c.in-Alike.is, ne_eqb c.args.j 0 c.if-j-eq0.false) (alike_is _ _ xs ys c.ranges.set.fits c.ranges.m.fits f g)

pub returns-in-Bare : goal.returns-in-Bare
returns-in-Bare c = λ xs ys f g. rw c.in-Bare.is (size_test _ _ c.size-in-Bare.ensures ∙ bare_is _ ys c.ranges.m.fits g)
