-- A run over the tree of a sound table's rules answers as the rules do.
use mathlib.Core.Path.{◌≡◌, sym, refl, ap, ◌∙◌}
use mathlib.Core.List.{List, map, ◌++◌, [], ◌∷◌}
use mathlib.Core.Option.{some}
use mathlib.Core.Bool.{true, Bool, false}
use Prim.Native.Nat.{ℕ, ◌≤◌}
use native.Mathlib.Omega.{arith}
use lib.Dec.{eqb}
use lib.ListN.{length, length-append}
use Rattle.signature.specs.Lawful.{OfKind, OfKinds, of_kinds_cons, of_kinds_nil}
use Rattle.signature.specs.Lists.{All, none_left, also, all}
use Rattle.signature.specs.Read.{read_booking, Signed}
use Rattle.signature.specs.Signature.{Signature}
use Rattle.signature.specs.Value.{Value, vcons, vnil, size}
use Rattle.signature.proofs.Booleans.{and_right, and_left}
use Rattle.signature.proofs.LawfulFacts.{sig_facts}
use Rattle.signature.proofs.Tests.{true≢false, eqb_eq}
use Rattle.signature.proofs.Values.{booking_lawful, length_code}
use Rattle.pattern.specs.Decide.{decide, Out, fit, is_fit, fail}
use Rattle.pattern.specs.Linear.{E}
use Rattle.pattern.specs.Match.{Binds, Fits}
use Rattle.pattern.specs.Pattern.{Pattern}
use Rattle.pattern.specs.Places.{bind_all, unbound}
use Rattle.pattern.specs.WellFormed.{WellFormed}
use Rattle.pattern.proofs.Decided.{decide_says, Says, says_fits, says_fails}
use Rattle.pattern.proofs.PatternBack.{pattern_words}
use Rattle.row.specs.Admitted.{Passed, refusal_of_pattern}
use Rattle.row.specs.Row.{Row, rows_plus}
use Rattle.row.specs.RowFits.{fits_some, row_fits}
use Rattle.row.proofs.PassedFacts.{passed_of}
use Rattle.row.proofs.RowBinds.{Means, plus_means}
use Rattle.row.proofs.RowCount.{OnceIn, plus_once}
use Rattle.row.proofs.RowTheorem.{plus_fits}
use Rattle.tree.specs.Answer.{Answer}
use Rattle.tree.specs.Run.{run_words}
use Rattle.tree.specs.Tree.{Line}
use Rattle.tree.specs.Words.{words}
use Rattle.tree.proofs.RowPlaces.{row_places}
use Rattle.tree.proofs.RunFacts.{to_answer, length_layout, run_walks}
use Rattle.tree.proofs.TreeFacts.{first_fit, compile_walks}
use Rattle.tree.proofs.TreeRuns.{neat_shaped}
use Rattle.table.specs.Decide.{direct, Answered}
use Rattle.table.specs.Limits.{witness_length, visit_bound}
use Rattle.table.specs.Matrix.{lines, tree_words, tree}
use Rattle.table.specs.Rule.{Rule}
use Rattle.table.proofs.Demand2Facts.{answered}
use Rattle.table.proofs.TableFacts.{Valid}
use Rattle.table.proofs.TreeLeaves.{line, tree_treed, neat_rules}

module _ (dft : ℕ) (sig : Signature) where
  rows_answer : (r : Rule) (bs : List ℕ) (h : Passed sig r.pattern) (v : Value) {σ : Binds} → read_booking sig bs ≡ some v → Fits h.pat v 0 σ → {ws : List Row} → All (Means (Fits h.pat)) ws → All (OnceIn (E h.pat)) ws → fits_some ws v ≡ true → (rest : List Line) → to_answer dft (first_fit [] (vcons v vnil) 0 (map (line r) ws ++ rest)) ≡ record { rule = r.number; plan = r.plan; places = bind_all σ unbound }
  rows_answer r bs h v b f none_left os e rest = true≢false (sym e)
  rows_answer r bs h v {σ} b f (also w {xs = ws} m ms) (also y o os) e rest = go (row_fits w v) refl (λ z. rows_answer r bs h v b f ms os z rest)
    where
      go : (c : Bool) → row_fits w v ≡ c → (fits_some ws v ≡ true → to_answer dft (first_fit [] (vcons v vnil) 0 (map (line r) ws ++ rest)) ≡ record { rule = r.number; plan = r.plan; places = bind_all σ unbound }) → to_answer dft (first_fit [] (vcons v vnil) 0 (map (line r) (w ∷ ws) ++ rest)) ≡ record { rule = r.number; plan = r.plan; places = bind_all σ unbound }
      go true q k = rw q (ap (λ z. record { rule = r.number; plan = r.plan; places = z }) (row_places sig r.pattern bs h v w b f m o q))
      go false q k = rw q (k (rw q at e))

rows_none : (r : Rule) (v : Value) (ws : List Row) → fits_some ws v ≡ false → (rest : List Line) → first_fit [] (vcons v vnil) 0 (map (line r) ws ++ rest) ≡ first_fit [] (vcons v vnil) 0 rest
rows_none r v [] e rest = refl
rows_none r v (w ∷ ws) e rest = go (row_fits w v) refl (λ z. rows_none r v ws z rest)
  where
    go : (c : Bool) → row_fits w v ≡ c → (fits_some ws v ≡ false → first_fit [] (vcons v vnil) 0 (map (line r) ws ++ rest) ≡ first_fit [] (vcons v vnil) 0 rest) → first_fit [] (vcons v vnil) 0 (map (line r) (w ∷ ws) ++ rest) ≡ first_fit [] (vcons v vnil) 0 rest
    go true q k = true≢false (rw q at e)
    go false q k = rw q (k (rw q at e))

module _ (dft : ℕ) (sig : Signature) where
  -- the first line that fits answers as the rules do
  lines_direct : (rs : List Rule) (bs : List ℕ) (v : Value) → all (λ r. eqb (refusal_of_pattern sig r.pattern) 0) rs ≡ true → read_booking sig bs ≡ some v → to_answer dft (first_fit [] (vcons v vnil) 0 (lines sig rs)) ≡ direct dft sig rs v
  lines_direct [] bs v e b = refl
  lines_direct (r ∷ rs) bs v e b = go (decide p v 0) refl (decide_says sig p s v k 0) (lines_direct rs bs v (and_right (eqb (refusal_of_pattern sig r.pattern) 0) (all (λ t. eqb (refusal_of_pattern sig t.pattern) 0) rs) e) b)
    where
      h : Passed sig r.pattern
      h = passed_of sig r.pattern (eqb_eq (refusal_of_pattern sig r.pattern) 0 (and_left (eqb (refusal_of_pattern sig r.pattern) 0) (all (λ t. eqb (refusal_of_pattern sig t.pattern) 0) rs) e))

      p : Pattern
      p = h.pat

      s : WellFormed sig 0 h.pat
      s = (pattern_words sig r.pattern h.pat h.read).well_formed

      k : OfKind sig 0 v
      k = (booking_lawful sig bs v b).kind_0

      go : (o : Out) → decide h.pat v 0 ≡ o → Says h.pat v 0 o → to_answer dft (first_fit [] (vcons v vnil) 0 (lines sig rs)) ≡ direct dft sig rs v → to_answer dft (first_fit [] (vcons v vnil) 0 (lines sig (r ∷ rs))) ≡ direct dft sig (r ∷ rs) v
      go (fit σ) q (says_fits f) z =
          rw (h.read, q) (rows_answer dft sig r bs h v b f (plus_means sig 0 h.pat) (plus_once sig h.pat 0 h.linear) (plus_fits sig h.pat s v k 0 ∙ ap is_fit q) (lines sig rs))
      go (fail σ) q (says_fails f) z =
          rw (h.read, q) (ap (to_answer dft) (rows_none r v (rows_plus sig 0 h.pat) (plus_fits sig h.pat s v k 0 ∙ ap is_fit q) (lines sig rs)) ∙ z)

module _ (dft : ℕ) where
  -- 01: a run of a lawful booking over the tree gives 0 (the tree is not broken) and answers by the rules
  pub run_direct : (sig : Signature) → Signed sig → (rs : List Rule) → Valid sig rs → (behind bs : List ℕ) (v : Value) → read_booking sig bs ≡ some v → run_words sig (tree_words dft sig rs ++ behind) bs ≡ some (direct dft sig rs v)
  unfolding tree_words tree
  run_direct sig signed rs ok behind bs v b =
      let facts = sig_facts sig signed in
      let l = booking_lawful sig bs v b in
      let n : size v ≤ witness_length = rw (← length_code v, l.is_code) l.at_most in
      let ks : OfKinds sig (0 ∷ []) (vcons v vnil) = of_kinds_cons l.kind_0 of_kinds_nil in
      let ws : List ℕ = tree_words dft sig rs ++ behind in
      let enough : words (tree dft sig rs) ≤ length ws = omega (arith, length-append (tree_words dft sig rs) behind, length_layout (tree dft sig rs) 0) in
      rw b (run_walks dft sig ws facts (length ws) (tree dft sig rs) (0 ∷ []) 0 0 (vcons v vnil) [] (tree_treed dft sig facts rs ok) ks enough (behind, refl) ∙ ap some (ap (to_answer dft) (compile_walks dft sig facts visit_bound (0 ∷ []) (lines sig rs) (vcons v vnil) 0 [] ks (omega arith) (neat_shaped sig facts (neat_rules sig facts rs ok.rises ok.passed))) ∙ lines_direct dft sig rs bs v ok.passed b))

  -- and so by the one rule in force that takes it, or the default
  pub run_answers : (sig : Signature) → Signed sig → (rs : List Rule) → Valid sig rs → (behind bs : List ℕ) (v : Value) → read_booking sig bs ≡ some v → (a : Answer) × (run_words sig (tree_words dft sig rs ++ behind) bs ≡ some a) × Answered dft sig rs bs a
  run_answers sig signed rs ok behind bs v b = (direct dft sig rs v, run_direct sig signed rs ok behind bs v b, answered dft sig signed rs bs v ok b)
