use mathlib.Core.Path.{◌≡◌, refl, ap, ◌∙◌}
use Prim.Native.Nat.{ℕ, ◌+◌, ◌-◌}
use native.Mathlib.Omega.{arith}
use lib.ListN.{length-set, length-replicate}
use Rattle.pattern.specs.Limits.{variable_count, unbound_place}
use Rattle.pattern.specs.Places.{unbound}
use Rattle.tree.specs.Run.{bound}
use Rattle.run.proofs.BindLaws.{bound_short, bound_end, not_rising, no_variable, no_visit, next_pair, unbound_pairs, bound_pairs}
use Rattle.run.proofs.leaf.bind.Goals as goal

pub loop-i-init : goal.loop-i-init
loop-i-init c = (length-replicate {A = ℕ} variable_count unbound_place, let z : c.args.count ≡ c.args.count - 0 = omega arith in ap (λ n. bound n 0 c.args.pairs.now c.args.visits.now unbound) z)

pub returns-then-w-lt2 : goal.returns-then-w-lt2
returns-then-w-lt2 c = let l = c.loop-i in let a = c.args in unbound_pairs a.rule a.plan a.count a.pairs.now a.visits.now (l.invariant.1 ∙ bound_short (a.count - l.i) l.least l.w.now a.visits.now l.places (omega arith) c.if-w-lt2.true)

pub overflow_cast-x : goal.overflow_cast-x
overflow_cast-x c = omega (arith, c.shared_slice_known-1.given 0)

pub overflow_cast-v : goal.overflow_cast-v
overflow_cast-v c = omega (arith, c.shared_slice_known-in-loop-i-1.given 1)

pub returns-then-x-least : goal.returns-then-x-least
returns-then-x-least c = let l = c.loop-i in let a = c.args in unbound_pairs a.rule a.plan a.count a.pairs.now a.visits.now (l.invariant.1 ∙ not_rising (a.count - l.i) l.least l.w.now a.visits.now l.places (omega arith) c.if-w-lt2.false c.if-x-least.true)

pub returns-then-x-gt-LAST_INDEX : goal.returns-then-x-gt-LAST_INDEX
returns-then-x-gt-LAST_INDEX c = let l = c.loop-i in let a = c.args in unbound_pairs a.rule a.plan a.count a.pairs.now a.visits.now (l.invariant.1 ∙ no_variable (a.count - l.i) l.least l.w.now a.visits.now l.places (omega arith) c.if-w-lt2.false c.if-x-least.false c.if-x-gt-LAST_INDEX.true)

pub returns-then-visits-v : goal.returns-then-visits-v
returns-then-visits-v c = let l = c.loop-i in let a = c.args in unbound_pairs a.rule a.plan a.count a.pairs.now a.visits.now (l.invariant.1 ∙ no_visit (a.count - l.i) l.least l.w.now a.visits.now l.places (omega arith) c.if-w-lt2.false c.if-x-least.false c.if-x-gt-LAST_INDEX.false c.if-visits-v.true)

pub loop-i-preserved : goal.loop-i-preserved
loop-i-preserved c = let l = c.loop-i in let a = c.args in (rw length-set l.invariant.0, l.invariant.1 ∙ next_pair (a.count - l.i) l.least l.w.now a.visits.now l.places (omega arith) c.if-w-lt2.false c.if-x-least.false c.if-x-gt-LAST_INDEX.false (a.count - (l.i + 1)) (omega arith) c.if-visits-v.false)

pub returns : goal.returns
returns c = let l = c.loop-i in let a = c.args in bound_pairs a.rule a.plan a.count a.pairs.now a.visits.now l.places (l.invariant.1 ∙ bound_end (a.count - l.i) l.least l.w.now a.visits.now l.places (omega arith))
