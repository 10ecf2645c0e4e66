-- The call run, from what was decoded and read on the way; and that it is not refused on a compiled tree.
use mathlib.Core.Path.{◌≡◌, ap, ◌∙◌}
use mathlib.Core.List.{List, [], ◌∷◌, ◌++◌}
use mathlib.Core.Option.{some}
use mathlib.Core.Bool.{true, false}
use Prim.Native.Nat.{ℕ}
use lib.ListN.{length}
use Rattle.signature.specs.Decoded.{Known}
use Rattle.signature.specs.Lists.{is_some}
use Rattle.signature.specs.Read.{read_signature, read_booking}
use Rattle.signature.specs.Signature.{Signature}
use Rattle.signature.specs.Value.{Value, vnil, vcons}
use Rattle.signature.proofs.Tests.{pair_first}
use Rattle.booking.proofs.PartLaws.{Of, there, missing}
use Rattle.tree.specs.Answer.{Answer}
use Rattle.tree.specs.Leaf.{Treed}
use Rattle.tree.specs.Run.{run, run_words}
use Rattle.tree.specs.RunCall.{RunCall, refusal, run_at, run_booking, run_signature}
use Rattle.tree.specs.Tree.{Tree}
use Rattle.tree.specs.Words.{layout}
use Rattle.tree.proofs.Laws as tree_laws
use Rattle.run.specs.Laws.{Laws}
use Rattle.run.specs.Outcome.{ran_answer, outcome}
use Rattle.run.specs.Parts.{Booked}
use Rattle.std.specs.Prelude.{Result}
use Rattle.signature.specs.Refusal.{number_in}
use Rattle.signature.specs.declared.refusals.Refusal.{Refusal}
use Rattle.run.specs.declared.Answer.{Answer as Given}

pub refused_1 : (ss tree bs : List ℕ) → false ≡ is_some (read_signature ss) → RunCall ss tree bs 1 (refusal 1).1
refused_1 ss tree bs e = record { result_is = rw (missing (read_signature ss) e) }

pub decoded_run : {ss t : List ℕ} (o : Of ss t) (tree bs : List ℕ) (r : Result Given Refusal) → ((g : Known t) → outcome r ≡ run_booking g.sig tree (read_booking g.sig bs)) → RunCall ss tree bs (number_in r) (ran_answer r)
decoded_run o tree bs r f = record { result_is = f o.known ∙ rw o.read }

module _ {t : List ℕ} (g : Known t) (tree bs : List ℕ) where
  pub refused_13 : false ≡ is_some (read_booking g.sig bs) → refusal 13 ≡ run_booking g.sig tree (read_booking g.sig bs)
  refused_13 e = rw (missing (read_booking g.sig bs) e)

  pub booked : true ≡ is_some (read_booking g.sig bs) → Booked t bs
  booked e = let (v, r) = there (read_booking g.sig bs) e in record { known = g; value = v; read = r }

  pub walked : (r : Result Given Refusal) (e : true ≡ is_some (read_booking g.sig bs)) → ((k : Booked t bs) → outcome r ≡ run_at (run (length tree) k.known.sig tree 0 (vcons k.value vnil) 0 [])) → outcome r ≡ run_booking g.sig tree (read_booking g.sig bs)
  walked r e f = go (there (read_booking g.sig bs) e)
    where
      go : (v : Value) × (read_booking g.sig bs ≡ some v) → outcome r ≡ run_booking g.sig tree (read_booking g.sig bs)
      go (v, q) = f (record { known = g; value = v; read = q }) ∙ rw q

not_refused : (ss bs behind : List ℕ) (sig : Signature) (v : Value) (t : Tree) (dft : ℕ) → read_signature ss ≡ some sig → read_booking sig bs ≡ some v → Treed dft sig (0 ∷ []) 0 t → (number : ℕ) (a : Answer) → RunCall ss (layout t 0 ++ behind) bs number a → number ≡ 0
not_refused ss bs behind sig v t dft e f h number a c =
    let (b, q) = (tree_laws.laws).never_broken dft sig (ss, e) t h behind bs v f in
    let w : run_signature (read_signature ss) (layout t 0 ++ behind) bs ≡ run_at (run_words sig (layout t 0 ++ behind) bs) = rw (e, f) in
    pair_first (c.result_is ∙ w ∙ ap run_at q)

pub laws : Laws
laws = record { not_refused = not_refused }
