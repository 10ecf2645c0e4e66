use mathlib.Core.Path.{refl, ◌∙◌, ap, sym}
use Prim.Native.Nat.{◌+◌, ◌-◌}
use native.Mathlib.Omega.{arith}
use lib.ListN.{get_or, take, drop, length-drop}
use lib.Seq.{length-take-le}
use Rattle.signature.specs.Limits.{level_base}
use Rattle.signature.proofs.Booleans.{not_true, not_false}
use Rattle.nodes.specs.Step.{leads, link_at}
use Rattle.nodes.proofs.EndLaws.{place_most}
use Rattle.nodes.proofs.LinkLaws.{ends_part, below_level, above_level, split_short, ends_short, ends_wrong, ends_right}
use Rattle.nodes.proofs.node.split.Goals as goal

pub returns-then-c-lt-LEVEL_BASE : goal.returns-then-c-lt-LEVEL_BASE
returns-then-c-lt-LEVEL_BASE c = below_level c.args.t.now c.args.node c.args.c c.if-c-lt-LEVEL_BASE.true

pub returns-then-c : goal.returns-then-c
returns-then-c c = above_level c.args.t.now c.args.node c.args.c (omega arith) c.if-c.true

pub returns-then-t-lt-SPLIT_WORDS : goal.returns-then-t-lt-SPLIT_WORDS
returns-then-t-lt-SPLIT_WORDS c = split_short c.args.t.now c.args.node c.args.c (omega arith) (omega arith) c.if-t-lt-SPLIT_WORDS.true

pub overflow_cast-k : goal.overflow_cast-k
overflow_cast-k c = omega (arith, c.shared_slice_known-2-1.given 1)

pub returns-then-t-k : goal.returns-then-t-k
returns-then-t-k c = ends_short c.args.t.now c.args.node c.args.c (omega arith) (omega arith) (omega arith) _ refl (omega arith)

pub returns-then-not-rises : goal.returns-then-not-rises
returns-then-not-rises c = ends_wrong c.args.t.now c.args.node c.args.c (omega arith) (omega arith) (omega arith) _ refl (omega arith) _ (ends_part c.args.t.now (get_or c.args.t.now 1 0)) (sym c.rises.ensures ∙ not_true c.rises.result c.if-not-rises.true-raw)

pub overflow_add-k-2 : goal.overflow_add-k-2
overflow_add-k-2 c = omega (arith, c.place.ensures, place_most (c.args.c - level_base) (take (2 + get_or c.args.t.now 1 0 - 2) (drop 2 c.args.t.now)), length-take-le (2 + get_or c.args.t.now 1 0 - 2) (drop 2 c.args.t.now) (simp length-drop (omega arith)), c.shared_slice_known-2-1.given 1)

pub returns : goal.returns
returns c = c.link.ensures ∙ ap (λ x. leads (link_at c.args.t.now c.args.node (2 + get_or c.args.t.now 1 0 + x))) c.place.ensures ∙ ap leads (sym (ends_right c.args.t.now c.args.node c.args.c (omega arith) (omega arith) (omega arith) _ refl (omega arith) _ (ends_part c.args.t.now (get_or c.args.t.now 1 0)) (sym c.rises.ensures ∙ not_false c.rises.result c.if-not-rises.false-raw)))
