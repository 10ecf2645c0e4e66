use mathlib.Core.Path.{◌∙◌, ap, sym}
use native.Mathlib.Omega.{arith}
use Rattle.signature.proofs.KnownFacts.{long, constructors, few_constructors}
use Rattle.nodes.specs.Step.{leads}
use Rattle.nodes.proofs.LinkLaws.{head_of, at_level, link_short, first_low, wrong_first, wrong_count, linked}
use Rattle.nodes.proofs.node.follow.Goals as goal

pub returns-then-c-ge-LEVEL_BASE : goal.returns-then-c-ge-LEVEL_BASE
returns-then-c-ge-LEVEL_BASE c = λ g. at_level g c.args.t.now c.args.node c.args.c c.if-c-ge-LEVEL_BASE.true

pub returns-then-t-lt-TEST_WORDS : goal.returns-then-t-lt-TEST_WORDS
returns-then-t-lt-TEST_WORDS c = λ g. link_short g c.args.t.now c.args.node c.args.c (omega arith) c.requires.head_by_table c.if-t-lt-TEST_WORDS.true

pub kind_of-k-requires : goal.kind_of-k-requires
kind_of-k-requires c = let g = c.requires.known in let o = head_of g c.args.c (omega arith) c.requires.head_by_table in (long (g), omega (arith, c.requires.head_by_table (omega arith), few_constructors g, constructors g))

pub first_of-first-requires : goal.first_of-first-requires
first_of-first-requires c = let g = c.requires.known in let o = head_of g c.args.c (omega arith) c.requires.head_by_table in (long g, omega (arith, o.few, c.kind_of-k.ensures))

pub returns-then-t-first : goal.returns-then-t-first
returns-then-t-first c = λ g. wrong_first g c.args.t.now c.args.node c.args.c (omega arith) c.requires.head_by_table (omega arith) c.kind_of-k.result c.first_of-first.result c.kind_of-k.ensures c.first_of-first.ensures c.if-t-first.true

pub count_of-requires : goal.count_of-requires
count_of-requires c = let g = c.requires.known in let o = head_of g c.args.c (omega arith) c.requires.head_by_table in (long g, omega (arith, o.few, c.kind_of-k.ensures))

pub returns-then-t-count_of : goal.returns-then-t-count_of
returns-then-t-count_of c = λ g. wrong_count g c.args.t.now c.args.node c.args.c (omega arith) c.requires.head_by_table (omega arith) c.kind_of-k.result c.first_of-first.result c.kind_of-k.ensures c.first_of-first.ensures c.if-t-first.false c.count_of.result c.count_of.ensures c.if-t-count_of.true

pub overflow_sub-c : goal.overflow_sub-c
overflow_sub-c c = let g = c.requires.known in omega (arith, first_low g c.args.t.now c.args.node c.args.c (omega arith) c.requires.head_by_table (omega arith) c.kind_of-k.result c.first_of-first.result c.kind_of-k.ensures c.first_of-first.ensures)

pub returns : goal.returns
returns c = λ g. c.link.ensures ∙ ap leads (sym (linked g c.args.t.now c.args.node c.args.c (omega arith) c.requires.head_by_table (omega arith) c.kind_of-k.result c.first_of-first.result c.kind_of-k.ensures c.first_of-first.ensures c.if-t-first.false c.count_of.result c.count_of.ensures c.if-t-count_of.false))
