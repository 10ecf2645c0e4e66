-- The laws of trees and runs hold.
use mathlib.Core.Path.{◌≡◌, refl}
use mathlib.Core.List.{List, [], ◌∷◌, ◌++◌}
use mathlib.Core.Option.{some}
use Prim.Native.Nat.{ℕ, ◌≤◌}
use native.Mathlib.Omega.{arith}
use lib.ListN.{length, length-append}
use Rattle.signature.specs.Lawful.{of_kinds_nil, of_kinds_cons}
use Rattle.signature.specs.Read.{read_booking, Signed}
use Rattle.signature.specs.Signature.{Signature}
use Rattle.signature.specs.Value.{Value, vcons, vnil}
use Rattle.signature.proofs.LawfulFacts.{sig_facts}
use Rattle.signature.proofs.Values.{booking_lawful}
use Rattle.tree.specs.Answer.{Answer}
use Rattle.tree.specs.Laws.{Laws}
use Rattle.tree.specs.Leaf.{Treed}
use Rattle.tree.specs.Run.{run_words}
use Rattle.tree.specs.Tree.{Tree}
use Rattle.tree.specs.Words.{words, layout}
use Rattle.tree.proofs.CompiledFacts.{compiled_only}
use Rattle.tree.proofs.EndFacts.{one_interval}
use Rattle.tree.proofs.NodeFacts.{nodes_there, nodes_linked, nodes_rise}
use Rattle.tree.proofs.RunFacts.{length_layout, run_walks, to_answer}
use Rattle.tree.proofs.RunFuel.{run_enough}
use Rattle.tree.proofs.TreeFacts.{walk}

never_broken : (dft : ℕ) (sig : Signature) → Signed sig → (t : Tree) → Treed dft sig (0 ∷ []) 0 t → (behind bs : List ℕ) (v : Value) → read_booking sig bs ≡ some v → (a : Answer) × (run_words sig (layout t 0 ++ behind) bs ≡ some a)
never_broken dft sig signed t h behind bs v b =
    let long : words t ≤ length (layout t 0 ++ behind) = simp length-append (omega (arith, length_layout t 0)) in
    (to_answer dft (walk t (vcons v vnil) 0 []), rw b (run_walks dft sig (layout t 0 ++ behind) (sig_facts sig signed) (length (layout t 0 ++ behind)) t (0 ∷ []) 0 0 (vcons v vnil) [] h (of_kinds_cons (booking_lawful sig bs v b).kind_0 of_kinds_nil) long (behind, refl)))

pub laws : Laws
laws = record {
  one_tree = λ dft sig ks ls t a b x y. compiled_only dft sig x y;
  counts_words = length_layout;
  never_broken = never_broken;
  one_interval = one_interval;
  run_bound = run_enough;
  nodes_there = nodes_there;
  nodes_linked = nodes_linked;
  nodes_rise = nodes_rise;
}
