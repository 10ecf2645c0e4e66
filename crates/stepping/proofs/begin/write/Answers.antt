use mathlib.Core.Path.{sym, ◌∙◌}
use native.Mathlib.Omega.{arith}
use borrow.Author.Tests.{not-true, not-false}
use Rattle.booking.proofs.PartLaws.{Of, decoded_of}
use Rattle.stepping.proofs.BeginLaws.{begun_lawful, begun_unlawful}
use Rattle.stepping.proofs.begin.write.Goals.{Else-not-decode}
use Rattle.stepping.proofs.begin.write.Goals as goal

-- the signature that was decoded
decoded : (c : Else-not-decode) → Of c.args.ss.now c.decode.new.t
decoded c = decoded_of _ _ (sym (not-false _ c.if-not-decode.false-raw) ∙ c.decode.ensures.answer) c.decode.ensures.table

pub returns-then-not-decode : goal.returns-then-not-decode
returns-then-not-decode c = begun_unlawful c.args.ss.now _ c.clear.ensures (sym (not-true _ c.if-not-decode.true-raw) ∙ c.decode.ensures.answer)

pub note_heads-requires : goal.note_heads-requires
note_heads-requires c = ((decoded (goal.at.note_heads-requires c).Else-not-decode).known, omega arith)

pub note_rows-requires : goal.note_rows-requires
note_rows-requires c = ((decoded (goal.at.note_rows-requires c).Else-not-decode).known, omega arith)

pub returns : goal.returns
returns c = let o = decoded (goal.at.returns c).Else-not-decode in begun_lawful o _ _ _ c.clear.ensures (c.note_heads.ensures o.known) (c.note_rows.ensures o.known)
