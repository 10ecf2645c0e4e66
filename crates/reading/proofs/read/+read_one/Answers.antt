use mathlib.Core.Path.{◌∙◌, sym}
use native.Mathlib.Omega.{arith}
use lib.ListN.{get_or}
use Rattle.signature.proofs.Booleans.{not_true, not_false}
use Rattle.pattern.specs.Word.{form_of}
use Rattle.pattern.proofs.Opened.{some_own}
use Rattle.pattern.proofs.ReadSteps.{small}
use Rattle.reading.proofs.Steps.{few_parts, kind_there, empty, refused, cut_short, start, end_le, next, next_bad, turns_end}
use Rattle.reading.proofs.read.+read_one.Goals as goal

pub returns-then-p-eq0 : goal.returns-then-p-eq0
returns-then-p-eq0 t c = empty c.args.t.now c.args.k c.args.p.now c.if-p-eq0.true

pub returns-then-not-may_begin : goal.returns-then-not-may_begin
returns-then-not-may_begin t c = refused c.args.t.now c.args.k c.args.p.now (form_of c.classify-w.result) c.requires.1 (omega arith) c.classify-w.ensures (sym c.may_begin.ensures ∙ not_true _ c.if-not-may_begin.true-raw)

pub returns-then-p-at : goal.returns-then-p-at
returns-then-p-at t c = cut_short c.args.t.now c.args.k c.args.p.now (form_of c.classify-w.result) (omega arith) c.classify-w.ensures (omega (arith, c.own_words-at.ensures, c.if-p-at.true))

pub loop-j-init : goal.loop-j-init
loop-j-init t c = (omega (arith, c.own_words-at.ensures, some_own (form_of c.classify-w.result)), omega (arith, c.if-p-at.false), omega arith, rw c.own_words-at.ensures (start c.args.t.now c.args.k c.args.p.now (form_of c.classify-w.result) (omega arith) c.classify-w.ensures (omega (arith, c.own_words-at.ensures, c.if-p-at.false))))

pub part_kind-requires : goal.part_kind-requires
part_kind-requires t c = (c.requires.0.decoded.long, small (get_or c.args.p.now 0 0) _ c.classify-w.ensures, omega (arith, c.parts-n.ensures, few_parts c.args.t.now c.requires.0 (form_of c.classify-w.result) c.args.k c.requires.1 (sym c.may_begin.ensures ∙ not_false _ c.if-not-may_begin.false-raw)))

pub read_one-requires : goal.read_one-requires
read_one-requires t c = (omega arith, (c.requires.0, rw c.part_kind.ensures (kind_there c.args.t.now c.requires.0 (form_of c.classify-w.result) c.args.k c.loop-j.j c.requires.1 (sym c.may_begin.ensures ∙ not_false _ c.if-not-may_begin.false-raw) (omega (arith, c.parts-n.ensures)))))

pub returns-in_err-m : goal.returns-in_err-m
returns-in_err-m t c = λ g d l. rw c.from_residual.ensures (next_bad c.args.t.now c.args.k (form_of c.classify-w.result) c.args.p.now c.loop-j.at c.loop-j.j _ c.parts-n.ensures c.part_kind.result (omega arith) (omega arith) c.loop-j.invariant.0 c.loop-j.invariant.1 c.part_kind.ensures c.in_err-m.ensures c.loop-j.invariant.3 c.requires.1 (sym c.may_begin.ensures ∙ not_false _ c.if-not-may_begin.false-raw) g d l)

pub overflow_add-at : goal.overflow_add-at
overflow_add-at t c = let h = end_le c.args.t.now c.args.k (form_of c.classify-w.result) c.args.p.now c.loop-j.at c.loop-j.j _ c.parts-n.ensures c.in_ok-m.m c.part_kind.result c.loop-j.invariant.1 c.requires.0 c.in_ok-m.ensures in omega arith

pub loop-j-preserved : goal.loop-j-preserved
loop-j-preserved t c = (
  omega arith,
  end_le c.args.t.now c.args.k (form_of c.classify-w.result) c.args.p.now c.loop-j.at c.loop-j.j _ c.parts-n.ensures c.in_ok-m.m c.part_kind.result c.loop-j.invariant.1 c.requires.0 c.in_ok-m.ensures,
  omega arith,
  next c.args.t.now c.args.k (form_of c.classify-w.result) c.args.p.now c.loop-j.at c.loop-j.j _ c.parts-n.ensures c.in_ok-m.m c.part_kind.result (omega arith) c.loop-j.invariant.0 c.loop-j.invariant.1 c.part_kind.ensures c.in_ok-m.ensures c.loop-j.invariant.3,
)

pub returns : goal.returns
returns t c = turns_end c.args.t.now c.args.k (form_of c.classify-w.result) c.args.p.now c.loop-j.at c.loop-j.j _ c.parts-n.ensures (omega arith) (omega arith) c.loop-j.invariant.1 c.loop-j.invariant.3 c.requires.1 (sym c.may_begin.ensures ∙ not_false _ c.if-not-may_begin.false-raw)
