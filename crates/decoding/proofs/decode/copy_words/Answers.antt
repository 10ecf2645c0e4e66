use native.Mathlib.Omega.{arith}
use Rattle.decoding.proofs.Rows.{copied_more, highest_more, higher_max}
use Rattle.decoding.proofs.decode.copy_words.Goals as goal

pub loop-i-preserved : goal.loop-i-preserved
loop-i-preserved c = let i = c.loop-i.invariant in (omega arith, copied_more _ _ _ _ _ _ (omega arith) i.1, highest_more c.args.w.now c.args.from c.loop-i.i _ _ _ (higher_max _ _ _ c.max-highest.ensures) i.2)
