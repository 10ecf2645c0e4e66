use mathlib.Core.Path.{◌≡◌, ◌∙◌}
use mathlib.Core.List.{List}
use Prim.Native.Nat.{ℕ, ◌<◌}
use native.Mathlib.Omega.{arith}
use lib.ListN.{length}
use Rattle.nodes.proofs.NodeLaws.{starts, head_known, node_out, node_default, node_left, node_hit, node_test, node_split, node_skip, node_no_part, node_other}
use Rattle.nodes.proofs.node.at_node.Goals as goal

some_left : (b : List ℕ) → (length b ≡ 0 → ⊥) → 0 < length b
some_left b n = omega arith

pub returns-then-t-eq0 : goal.returns-then-t-eq0
returns-then-t-eq0 c = λ p. node_out p c.args.t.now c.args.node c.if-t-eq0.true

pub returns-then-head-eq-DEFAULT : goal.returns-then-head-eq-DEFAULT
returns-then-head-eq-DEFAULT c = λ p. c.default_at.ensures ∙ node_default p c.args.t.now c.args.node c.if-t-eq0.false c.if-head-eq-DEFAULT.true

pub returns-then-b-gt0 : goal.returns-then-b-gt0
returns-then-b-gt0 c = λ p. node_left p c.args.t.now c.args.node c.if-t-eq0.false c.if-head-eq-HIT.true c.if-b-gt0.true

pub returns-then-head-eq-HIT : goal.returns-then-head-eq-HIT
returns-then-head-eq-HIT c = λ p. node_hit p c.args.t.now c.args.node c.if-t-eq0.false c.if-head-eq-HIT.true c.if-b-gt0.false

pub returns-then-b-eq0 : goal.returns-then-b-eq0
returns-then-b-eq0 c = λ p. node_no_part p c.args.t.now c.args.node c.if-t-eq0.false c.if-head-eq-DEFAULT.false c.if-head-eq-HIT.false c.if-b-eq0.true

pub follow-requires : goal.follow-requires
follow-requires c = record { known = c.requires.known; head_by_table = head_known c.requires (some_left c.args.b.now c.if-b-eq0.false) }

pub returns-then-head-eq-TEST : goal.returns-then-head-eq-TEST
returns-then-head-eq-TEST c = λ p. c.step_on.ensures ∙ node_test p c.args.t.now c.args.node c.if-t-eq0.false c.if-head-eq-TEST.true (some_left c.args.b.now c.if-b-eq0.false) c.follow.result (c.follow.ensures p.known)

pub span-requires : goal.span-requires
span-requires c = starts c.requires (some_left c.args.b.now c.if-b-eq0.false)

pub returns-then-head-eq-SKIP : goal.returns-then-head-eq-SKIP
returns-then-head-eq-SKIP c = λ p. let l = (some_left c.args.b.now c.if-b-eq0.false) in node_skip p c.args.t.now c.args.node c.if-t-eq0.false c.if-head-eq-SKIP.true l c.span.result (c.span.ensures (starts p l))

pub returns-then-head-eq-SPLIT : goal.returns-then-head-eq-SPLIT
returns-then-head-eq-SPLIT c = λ p. c.step_on-then-head-eq-SPLIT.ensures ∙ node_split p c.args.t.now c.args.node c.if-t-eq0.false c.if-head-eq-SPLIT.true (some_left c.args.b.now c.if-b-eq0.false) c.split.result c.split.ensures

pub returns : goal.returns
returns c = λ p. node_other p c.args.t.now c.args.node c.if-t-eq0.false c.if-head-eq-DEFAULT.false c.if-head-eq-HIT.false c.if-head-eq-TEST.false c.if-head-eq-SKIP.false c.if-head-eq-SPLIT.false
