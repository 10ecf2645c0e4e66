use native.Mathlib.Omega.{arith}
use Rattle.decoding.proofs.Reading.{all_barred, all_short}
use Rattle.decoding.proofs.decode.read_rows.Goals as goal

pub returns-in_err-s-clause-none : goal.returns-in_err-s-clause-none
returns-in_err-s-clause-none c = rw c.from_residual.ensures (all_barred c.args.w.now c.loop-c.c c.args.n (omega arith) c.in_err-s.ensures.none)

pub returns : goal.returns
returns c = let h = c.loop-c.invariant.1 in record { long = h.long; none = all_short _ _ c.loop-c.c _ _ _ _ _ h (omega arith) c.if-s-w.false; some = tt }
