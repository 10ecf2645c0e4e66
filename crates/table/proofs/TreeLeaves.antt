-- The leaves of a sound table's tree, and how many refined places its rows have.
use mathlib.Core.Path.{◌≡◌}
use mathlib.Core.List.{[], ◌∷◌, List, map}
use mathlib.Core.Bool.{true}
use Prim.Native.Nat.{◌≤◌, ℕ, ◌*◌}
use native.Mathlib.Omega.{arith}
use lib.Dec.{eqb}
use lib.ListN.{length}
use Rattle.signature.specs.Lists.{All, memb, all, none_left, also}
use Rattle.signature.specs.Signature.{Signature}
use Rattle.signature.proofs.Booleans.{and_left, and_right}
use Rattle.signature.proofs.LawfulFacts.{args_small, few, small_0, SigFacts}
use Rattle.signature.proofs.ListFacts.{all_map, all_both, all_append, all_imp}
use Rattle.signature.proofs.Tests.{eqb_eq}
use Rattle.pattern.specs.Limits.{pattern_limit}
use Rattle.pattern.specs.Linear.{E}
use Rattle.pattern.specs.Pattern.{pattern_code}
use Rattle.pattern.specs.Places.{tick}
use Rattle.pattern.specs.Read.{read_pattern}
use Rattle.pattern.specs.Weight.{weight}
use Rattle.pattern.proofs.Once.{tick_one}
use Rattle.pattern.proofs.PatternBack.{pattern_words}
use Rattle.pattern.proofs.Unique.{no_E}
use Rattle.row.specs.Admitted.{Passed, refusal_of_pattern}
use Rattle.row.specs.Row.{Row, rcons, rnil}
use Rattle.row.specs.RowFits.{place_count}
use Rattle.row.proofs.PassedFacts.{passed_of}
use Rattle.row.proofs.OverlapFacts.{Good, plus_good}
use Rattle.row.proofs.Places.{plus_places}
use Rattle.row.proofs.RowCount.{OnceIn, plus_once, plus_count}
use Rattle.tree.specs.Leaf.{rising_nil}
use Rattle.tree.specs.Limits.{last_number}
use Rattle.tree.specs.Tree.{Line}
use Rattle.tree.proofs.CompiledFacts.{refs_lines, refs_places}
use Rattle.tree.specs.Leaf.{Treed}
use Rattle.tree.proofs.TreeFacts.{Rowed, Roweds, roweds_cons, roweds_nil}
use Rattle.tree.proofs.TreeRuns.{Neat, good_rowed, refs_append, compile_treed}
use Rattle.table.specs.Limits.{visit_bound}
use Rattle.table.specs.Matrix.{lines_by, lines, tree}
use Rattle.table.specs.Rule.{Rule, Rises, rises_cons, total_weight}
use Rattle.table.proofs.TableFacts.{Valid}

abbrev pub line : Rule → Row → Line
line r w = record { rule = r.number; plan = r.plan; binds = []; cells = rcons w rnil }

module _ (sig : Signature) where
  rowed_line : (r : Rule) {w : Row} → Rowed sig 0 w → Roweds sig (0 ∷ []) (line r w).cells
  rowed_line r h = roweds_cons h roweds_nil

module _ (sig : Signature) where
  module _ (facts : SigFacts sig) where
    -- the lines of a rule that passes 7 to 10
    neat_rule : (r : Rule) → 1 ≤ r.number → r.number ≤ last_number → Passed sig r.pattern → All (Neat sig (0 ∷ []) 0) (lines_by sig r (read_pattern sig r.pattern))
    neat_rule r a b h =
        let s = (pattern_words sig r.pattern h.pat h.read).well_formed in
        rw h.read (all_map (line r) (λ w (q : Good sig 0 w × OnceIn (E h.pat) w). record { cells = rowed_line sig r (good_rowed sig q.0); low = a; high = b; rising = rising_nil; once = λ x. omega (arith, q.1 x, tick_one (memb x (E h.pat))); vars = λ x m. let z : tick (memb x (E h.pat)) ≡ 0 = rw (no_E sig h.pat s x m) in omega (arith, q.1 x) }) (all_both (plus_good sig (args_small sig facts) (few sig facts) h.pat (small_0 sig facts) s) (plus_once sig h.pat 0 h.linear)))

    pub neat_rules : {m : ℕ} (rs : List Rule) → Rises m rs → all (λ r. eqb (refusal_of_pattern sig r.pattern) 0) rs ≡ true → All (Neat sig (0 ∷ []) 0) (lines sig rs)
    neat_rules [] h e = none_left
    neat_rules (r ∷ rs) (rises_cons a b h) e = all_append (neat_rule r (omega arith) b (passed_of sig r.pattern (eqb_eq (refusal_of_pattern sig r.pattern) 0 (and_left (eqb (refusal_of_pattern sig r.pattern) 0) (all (λ s. eqb (refusal_of_pattern sig s.pattern) 0) rs) e)))) (neat_rules rs h (and_right (eqb (refusal_of_pattern sig r.pattern) 0) (all (λ s. eqb (refusal_of_pattern sig s.pattern) 0) rs) e))

    refs_rows : (r : Rule) {ws : List Row} → All (λ w. place_count w ≤ pattern_limit) ws → refs_lines sig (0 ∷ []) (map (line r) ws) ≤ pattern_limit * length ws
    refs_rows r none_left = omega arith
    refs_rows r (also w l h) = omega (arith, refs_places sig w 0, refs_rows r h)

    refs_rule : (r : Rule) → Passed sig r.pattern → refs_lines sig (0 ∷ []) (lines_by sig r (read_pattern sig r.pattern)) ≤ pattern_limit * weight sig r.pattern
    refs_rule r h =
        let q = pattern_words sig r.pattern h.pat h.read in
        let l : length (pattern_code h.pat) ≤ pattern_limit = rw q.is_code q.at_most in
        rw h.read (omega (arith, refs_rows r (all_imp (λ w (m : place_count w ≤ length (pattern_code h.pat)). omega arith) (plus_places sig h.pat q.well_formed)), plus_count sig h.pat 0))

    pub refs_rules : (rs : List Rule) → all (λ r. eqb (refusal_of_pattern sig r.pattern) 0) rs ≡ true → refs_lines sig (0 ∷ []) (lines sig rs) ≤ pattern_limit * total_weight sig rs
    refs_rules [] e = omega arith
    refs_rules (r ∷ rs) e = omega (arith, refs_append sig facts (0 ∷ []) (lines_by sig r (read_pattern sig r.pattern)) (lines sig rs), refs_rule r (passed_of sig r.pattern (eqb_eq (refusal_of_pattern sig r.pattern) 0 (and_left (eqb (refusal_of_pattern sig r.pattern) 0) (all (λ s. eqb (refusal_of_pattern sig s.pattern) 0) rs) e))), refs_rules rs (and_right (eqb (refusal_of_pattern sig r.pattern) 0) (all (λ s. eqb (refusal_of_pattern sig s.pattern) 0) rs) e))

module _ (dft : ℕ) (sig : Signature) where
  module _ (facts : SigFacts sig) where
    -- 01, Tree: variables rise and are at most 15, visits are made, rules are 1 to 999
    pub tree_treed : (rs : List Rule) → Valid sig rs → Treed dft sig (0 ∷ []) 0 (tree dft sig rs)
    unfolding tree
    tree_treed rs ok = compile_treed dft sig facts visit_bound (0 ∷ []) (lines sig rs) 0 (neat_rules sig facts rs ok.rises ok.passed)
