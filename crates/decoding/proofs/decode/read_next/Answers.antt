use mathlib.Core.Path.{sym, ap, ◌∙◌}
use mathlib.Core.Bool.{cond}
use Rattle.decoding.proofs.Ordering.{follows}
use Rattle.decoding.proofs.Reading.{next_wrong, next_read}
use Rattle.decoding.proofs.decode.read_next.Goals as goal

pub returns-in_err-kinds-clause-none : goal.returns-in_err-kinds-clause-none
returns-in_err-kinds-clause-none c = let h = c.requires in let r = c.in_ok-row.ensures.some.0 in rw c.from_residual-in_err-kinds.ensures (next_wrong _ _ _ _ _ _ _ h.0 h.1 _ _ r _ (sym r.kind) c.in_err-kinds.ensures)

pub returns : goal.returns
returns c = let h = c.requires in let k = c.in_ok-row.ensures in let r = k.some in record { long = c.note_head.ensures.long ∙ k.long ∙ h.0.long; none = tt; some = next_read _ _ _ _ _ _ _ h.0 h.1 _ _ r.0 _ _ _ _ (sym r.0.kind) (follows _ _ _ c.in_ok-kinds.ensures) c.wide.ensures c.note_head.ensures _ _ r.1 (c.wide-number.ensures ∙ c.flag_by.ensures ∙ ap (λ b. cond b 1 0) (sym r.0.number)) }
