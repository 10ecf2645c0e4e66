use mathlib.Core.Path.{sym, ◌∙◌}
use native.Mathlib.Omega.{arith}
use Rattle.signature.proofs.KnownFacts.{long}
use Rattle.sets.specs.Heads.{number_of}
use Rattle.rowset.specs.Member.{member}
use Rattle.column.specs.Column.{end_of}
use Rattle.column.proofs.ColumnLaws.{few_heads, level_heads, other_heads}
use Rattle.column.proofs.heads.Goals as goal

pub first_of-requires : goal.first_of-requires
first_of-requires c = (long c.requires.0.known, (few_heads c.requires.0).0)

pub returns-then-first_of-eq-LEVEL_BASE : goal.returns-then-first_of-eq-LEVEL_BASE
returns-then-first_of-eq-LEVEL_BASE c = λ j. level_heads c.requires.0 (number_of c.ends.result) j (end_of c.args.a.now c.args.rows.now c.args.n (member c.args.re.now) c.args.cur.now) (sym c.first_of.ensures ∙ c.if-first_of-eq-LEVEL_BASE.true) (c.ends.ensures j)

pub count_of-requires : goal.count_of-requires
count_of-requires c = (long c.requires.0.known, (few_heads c.requires.0).0)

pub full-requires : goal.full-requires
full-requires c = omega (arith, c.count_of.ensures, few_heads c.requires.0)

pub returns : goal.returns
returns c = λ j. other_heads c.requires.0 (number_of c.full.result) j c.count_of.result (end_of c.args.a.now c.args.rows.now c.args.n (member c.args.re.now) c.args.cur.now) (λ q. c.if-first_of-eq-LEVEL_BASE.false (c.first_of.ensures ∙ q)) c.count_of.ensures (c.full.ensures j)
