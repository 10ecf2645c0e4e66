use Prim.Native.Nat.{◌+◌}
use native.Mathlib.Omega.{arith}
use lib.ListN.{get_or, length-set}
use Rattle.booking.proofs.Laid.{reads_first, reads_last, reads_one}
use Rattle.booking.proofs.walk.read_one.Goals as goal

pub returns-then-read-eq0 : goal.returns-then-read-eq0
returns-then-read-eq0 c = reads_first c.args.words.now c.args.at c.args.read c.if-read-eq0.true

pub bounds-words-at : goal.bounds-words-at
bounds-words-at c = let (l, m, n) = c.requires.1 (omega arith) in omega arith

pub returns-then-x-le1 : goal.returns-then-x-le1
returns-then-x-le1 c = let (l, m, n) = c.requires.1 (omega arith) in reads_last c.args.words.now c.args.at c.args.read (λ e. omega arith) l (omega arith)

pub bounds-words-at-2 : goal.bounds-words-at-2
bounds-words-at-2 c = let (l, m, n) = c.requires.1 (omega arith) in omega arith

pub overflow_add-words : goal.overflow_add-words
overflow_add-words c = let (l, m, n) = c.requires.1 (omega arith) in omega arith

pub bounds-words-at-3 : goal.bounds-words-at-3
bounds-words-at-3 c = let (l, m, n) = c.requires.1 (omega arith) in omega arith

pub bounds-words-at-4 : goal.bounds-words-at-4
bounds-words-at-4 c = let (l, m, n) = c.requires.1 (omega arith) in omega (arith, length-set c.args.words.now c.args.at (get_or c.args.words.now c.args.at 0 + 1))

pub returns : goal.returns
returns c = let (l, m, n) = c.requires.1 (omega arith) in reads_one c.args.words.now c.args.at c.args.read (λ e. omega arith) l (omega arith)
