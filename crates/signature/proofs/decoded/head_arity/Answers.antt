use native.Mathlib.Omega.{arith}
use Rattle.signature.specs.Limits.{level_base}
use Rattle.signature.proofs.Tests.{leb_yes, leb_no}
use Rattle.signature.proofs.decoded.head_arity.Goals as goal

pub returns-then-c-ge-LEVEL_BASE : goal.returns-then-c-ge-LEVEL_BASE
returns-then-c-ge-LEVEL_BASE c = rw (leb_yes level_base c.args.c (omega arith))

pub arity_of-requires : goal.arity_of-requires
arity_of-requires c = (c.requires.0, c.requires.1 (omega arith))

pub returns : goal.returns
returns c = rw (leb_no level_base c.args.c (omega arith)) c.arity_of.ensures
