use mathlib.Core.Path.{refl, ◌∙◌}
use native.Mathlib.Omega.{arith}
use Rattle.std.proofs.lemmas.Result.{err_from_is_err_and}
use Rattle.signature.proofs.Numbers.{not_0}
use Rattle.compiling.proofs.Calling.{turned_down, given, compiled_in, unwritten, always}
use Rattle.compiling.proofs.compile.compile.Goals as goal

pub returns-in_err-begin : goal.returns-in_err-begin
returns-in_err-begin c = let p = err_from_is_err_and c.from_residual.result c.from_residual.ensures.1 in rw (p.1, p.2) (turned_down c.args.ss.now c.args.table.now c.args.space.now _ _ c.in_err-begin.ensures (not_0 _))

pub compile_in-requires : goal.compile_in-requires
compile_in-requires c = (given c.args.ss.now c.args.table.now c.args.space.now _ _ c.in_ok-begin.ensures refl, omega arith, omega arith)

pub compile_in-requires-2 : goal.compile_in-requires-2
compile_in-requires-2 c = (given c.args.ss.now c.args.table.now c.args.space.now _ _ c.in_ok-begin.ensures refl, omega arith, omega arith)

pub returns-in-Some : goal.returns-in-Some
returns-in-Some c = compiled_in c.args.ss.now c.args.table.now c.args.space.now _ _ c.in_ok-begin.ensures refl _ _ _ _ c.compile_in.ensures _ c.in-Some.is refl

pub unwrap-requires : goal.unwrap-requires
unwrap-requires c = let g = given c.args.ss.now c.args.table.now c.args.space.now _ _ c.in_ok-begin.ensures refl in always g.known.sig c.args.table.now c.compile_in.new.space c.compile_in-2.result c.compile_in-2.new.space (c.compile_in-2.ensures g)

pub returns : goal.returns
returns c = compiled_in c.args.ss.now c.args.table.now c.args.space.now _ _ c.in_ok-begin.ensures refl _ _ _ _ c.compile_in-2.ensures _ c.unwrap.ensures (unwritten c.args.ss.now c.args.table.now c.args.space.now _ _ c.in_ok-begin.ensures refl _ _ _ _ c.compile_in.ensures c.in_default.is)
