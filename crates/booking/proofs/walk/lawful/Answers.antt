use mathlib.Core.Path.{◌∙◌}
use native.Mathlib.Omega.{arith}
use lib.ListN.{drop}
use Rattle.signature.specs.Decoded.{kinds_of}
use Rattle.booking.specs.Walk.{decoded_view}
use Rattle.booking.proofs.LoopLaws.{next_place, kept, on, stop, done}
use Rattle.booking.proofs.Views.{seen}
use Rattle.booking.proofs.WalkLaws.{walk_lawful}
use Rattle.booking.proofs.walk.lawful.Goals as goal

pub returns-in_default : goal.returns-in_default
returns-in_default c = λ g. let l = c.loop-i in let o = c.step in
    stop g.sig (kinds_of c.args.t.now) (decoded_view g.sig c.args.t.now) (seen g) c.args.b.now l.i (drop l.at l.words) _ o.result c.loop-i-test.true l.invariant.2 (o.ensures.walked g) (l.invariant.4 g) c.in_default.is ∙ walk_lawful g.sig c.args.b.now (omega arith)

pub loop-i-preserved : goal.loop-i-preserved
loop-i-preserved c = let l = c.loop-i in let o = c.step in let k = c.in-Some in (
  o.auto.words ∙ l.invariant.0,
  next_place o.result k.n k.is o.ensures.within,
  kept c.requires.sig (kinds_of c.args.t.now) (decoded_view c.requires.sig c.args.t.now) (seen c.requires) c.args.b.now l.i (drop l.at l.words) _ o.result c.loop-i-test.true l.invariant.2 (o.ensures.walked c.requires) (l.invariant.4 c.requires) k.n k.is,
  omega arith,
  λ g. on g.sig (kinds_of c.args.t.now) (decoded_view g.sig c.args.t.now) (seen g) c.args.b.now l.i (drop l.at l.words) _ o.result c.loop-i-test.true l.invariant.2 (o.ensures.walked g) (l.invariant.4 g) k.n k.is,
)

pub returns : goal.returns
returns c = λ g. let l = c.loop-i in
    done g.sig (kinds_of c.args.t.now) (decoded_view g.sig c.args.t.now) (seen g) c.args.b.now l.i l.words l.at c.if-b-eq0.false c.loop-i-test.false l.invariant.3 l.invariant.0 l.invariant.1 l.invariant.2 (l.invariant.4 g) ∙ walk_lawful g.sig c.args.b.now (omega arith)
