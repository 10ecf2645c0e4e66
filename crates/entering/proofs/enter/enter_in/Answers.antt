use mathlib.Core.Path.{refl, ap, ◌∙◌}
use Prim.Native.Nat.{ℕ}
use native.Mathlib.Omega.{arith}
use lib.ListN.{length-replicate}
use Rattle.std.specs.Prelude.{Err}
use Rattle.loading.specs.Add.{TooSmall}
use Rattle.entering.proofs.Enters.{no_room, refused_3, force, tried}
use Rattle.entering.proofs.enter.enter_in.Goals as goal

pub load-requires : goal.load-requires
load-requires g c = c.requires.0.load

pub enter_sound-requires : goal.enter_sound-requires
enter_sound-requires g c = (force c.requires.0 _ c.args.number c.args.plan c.args.pattern.now c.load.result c.load.new.rows c.load.ensures _ c.in-Ok.is, c.requires.0.witness_long, omega (arith, c.load.auto.work, length-replicate {A = ℕ} g.row.WORK 0, c.requires.3))

pub returns-in-Err-NoRoom : goal.returns-in-Err-NoRoom
returns-in-Err-NoRoom g c = λ k. (λ a b. no_room k _ c.args.number c.args.plan c.args.pattern.now c.load.result c.load.new.rows c.load.ensures (c.in-Err-NoRoom.is ∙ ap Err c.in-Err-NoRoom.field-0-is) (simp length-replicate a) (simp length-replicate b), refl, refl)

pub returns-in-Err-Unsound : goal.returns-in-Err-Unsound
returns-in-Err-Unsound g c = λ k. refused_3 k _ c.args.number c.args.plan c.args.pattern.now c.load.result c.load.new.rows c.load.ensures (c.in-Err-Unsound.is ∙ ap Err c.in-Err-Unsound.field-0-is)

pub returns-in-Ok : goal.returns-in-Ok
returns-in-Ok g c = λ k. tried k _ c.args.number c.args.plan c.args.pattern.now c.load.result c.load.new.rows c.load.ensures _ c.in-Ok.is _ (TooSmall g.row.ROWS g.row.WORK) (λ q a b. q (omega (arith, c.load.auto.rows, length-replicate {A = ℕ} g.row.ROWS 0, a)) (omega (arith, c.load.auto.work, length-replicate {A = ℕ} g.row.WORK 0, b))) c.enter_sound.result c.enter_sound.new.table c.enter_sound.new.witness c.enter_sound.ensures
