use mathlib.Core.Path.{refl}
use Rattle.std.proofs.lemmas.Result.{err_from_is_err_and}
use Rattle.signature.proofs.Numbers.{not_0}
use Rattle.replanning.proofs.Calling.{refused_20, charged, refused_record, writable, replanned}
use Rattle.replanning.proofs.replan_decoded.Goals as goal

pub returns-then-not-well_formed : goal.returns-then-not-well_formed
returns-then-not-well_formed c = λ g. refused_20 g.sig c.args.tree.now c.args.charges.now c.if-not-well_formed.ensures

pub answer_all-requires : goal.answer_all-requires
answer_all-requires c = let g = c.requires in (g, (charged g.sig c.args.tree.now c.args.charges.now c.if-not-well_formed.ensures), refl)

pub returns-in_err-answer_all : goal.returns-in_err-answer_all
returns-in_err-answer_all c = let p = err_from_is_err_and c.from_residual.result c.from_residual.ensures.1 in rw (p.1, p.2) (λ g. let k = charged g.sig c.args.tree.now c.args.charges.now c.if-not-well_formed.ensures in refused_record g.sig c.args.tree.now c.args.charges.now k _ (c.in_err-answer_all.ensures g k).0 (not_0 _))

pub write_all-requires : goal.write_all-requires
write_all-requires c = let g = c.requires in let k = charged g.sig c.args.tree.now c.args.charges.now c.if-not-well_formed.ensures in writable g.sig c.args.tree.now c.args.charges.now k ((c.in_ok-answer_all.ensures g k).1 refl)

pub returns : goal.returns
returns c = λ g. let k = charged g.sig c.args.tree.now c.args.charges.now c.if-not-well_formed.ensures in let f = c.in_ok-answer_all.ensures g k in let w = c.write_all.ensures (writable g.sig c.args.tree.now c.args.charges.now k (f.1 refl)) in replanned g.sig c.args.tree.now c.args.charges.now k f.0 w.0 w.1
