-- The tree of a sound table's rules obeys the four rules: rows left at a leaf are one rule's and bind alike.
use mathlib.Core.Path.{◌≡◌, subst, refl, sym, ◌∙◌, ap}
use mathlib.Core.Logic.{◌⊎◌, inl, inr}
use mathlib.Core.List.{List, ◌∷◌, [], map}
use mathlib.Core.Option.{some}
use mathlib.Core.Bool.{true, Bool, false, not}
use Prim.Native.Nat.{ℕ}
use native.Mathlib.Omega.{arith}
use lib.Dec.{eqb}
use Rattle.signature.specs.Lawful.{OfKind, OfKinds, of_kinds_cons, of_kinds_nil}
use Rattle.signature.specs.Lists.{In, in_there, all, in_here, also, none_left}
use Rattle.signature.specs.Signature.{Signature}
use Rattle.signature.specs.Value.{Value, vcons, vnil, Values}
use Rattle.signature.proofs.Booleans.{and_right, and_left}
use Rattle.signature.proofs.LawfulFacts.{SigFacts, small_0, few}
use Rattle.signature.proofs.ListFacts.{no_in, in_append, in_map, all_in}
use Rattle.signature.proofs.Tests.{eqb_eq, some_inj, none≢some, true≢false}
use Rattle.pattern.specs.Match.{Binds, Fits}
use Rattle.pattern.specs.Places.{Same, binds}
use Rattle.pattern.specs.Read.{read_pattern}
use Rattle.pattern.proofs.PatternBack.{pattern_words}
use Rattle.pattern.proofs.Unique.{same_fits}
use Rattle.row.specs.Admitted.{Passed, refusal_of_pattern}
use Rattle.row.specs.Overlap.{shares}
use Rattle.row.specs.Row.{Row, rows_plus}
use Rattle.row.specs.RowFits.{row_fits}
use Rattle.row.proofs.PassedFacts.{passed_of}
use Rattle.row.proofs.Exists.{fit_overlap}
use Rattle.row.proofs.RowBinds.{plus_means}
use Rattle.tree.specs.Compiled.{Compiled}
use Rattle.tree.specs.Tree.{Line}
use Rattle.tree.proofs.PathsAgree.{SameHit, same_final, Path, visited_nil, shaped, on_leaf, on_test, on_skip}
use Rattle.tree.proofs.CompiledFacts.{compile_ends}
use Rattle.tree.proofs.TreeFacts.{Hit, outcome, final}
use Rattle.table.specs.Limits.{visit_bound}
use Rattle.table.specs.Matrix.{lines, lines_by, tree}
use Rattle.table.specs.Rule.{Rule}
use Rattle.table.specs.Sound.{no_shared}
use Rattle.table.proofs.Demand2Facts.{apart_in}
use Rattle.table.proofs.TableFacts.{Valid}
use Rattle.table.proofs.TreeLeaves.{line, neat_rules, refs_rules}

module _ (sig : Signature) where
  module _ (facts : SigFacts sig) where
    -- the lines of the rules
    pub record LineOf (rs : List Rule) (l : Line) : Type 0 where
      pub rule : Rule
      pub held : In rule rs
      pub good : Passed sig rule.pattern
      pub row : Row
      pub of_pattern : In row (rows_plus sig 0 good.pat)
      pub is_line : l ≡ line rule row

    line_later : (r : Rule) {rs : List Rule} {l : Line} → LineOf rs l → LineOf (r ∷ rs) l
    line_later r h = record { rule = h.rule; held = in_there h.held; good = h.good; row = h.row; of_pattern = h.of_pattern; is_line = h.is_line }

    line_of : (rs : List Rule) (l : Line) → all (λ r. eqb (refusal_of_pattern sig r.pattern) 0) rs ≡ true → In l (lines sig rs) → LineOf rs l
    line_of [] l e i = no_in i
    line_of (r ∷ rs) l e i = go (in_append (lines_by sig r (read_pattern sig r.pattern)) (lines sig rs) i) (λ k. line_of rs l (and_right (eqb (refusal_of_pattern sig r.pattern) 0) (all (λ s. eqb (refusal_of_pattern sig s.pattern) 0) rs) e) k)
      where
        h : Passed sig r.pattern
        h = passed_of sig r.pattern (eqb_eq (refusal_of_pattern sig r.pattern) 0 (and_left (eqb (refusal_of_pattern sig r.pattern) 0) (all (λ s. eqb (refusal_of_pattern sig s.pattern) 0) rs) e))

        here : In l (map (line r) (rows_plus sig 0 h.pat)) → LineOf (r ∷ rs) l
        here k = let (w, k', q) = in_map (line r) (rows_plus sig 0 h.pat) k in record { rule = r; held = in_here; good = h; row = w; of_pattern = k'; is_line = q }

        go : In l (lines_by sig r (read_pattern sig r.pattern)) ⊎ In l (lines sig rs) → (In l (lines sig rs) → LineOf rs l) → LineOf (r ∷ rs) l
        go (inl k) f = here (subst (λ o. In l (lines_by sig r o)) h.read k)
        go (inr k) f = line_later r (f k)

    hit_of : (r : Rule) (w : Row) (v : Value) (a : Hit) → outcome [] (vcons v vnil) 0 (line r w) ≡ some a → (row_fits w v ≡ true) × (a ≡ (r.number, r.plan, final w v 0 []))
    hit_of r w v a e = go (row_fits w v) refl
      where
        go : (b : Bool) → row_fits w v ≡ b → (row_fits w v ≡ true) × (a ≡ (r.number, r.plan, final w v 0 []))
        go true q = (q, sym (some_inj (r.number, r.plan, final w v 0 []) a (rw q at e)))
        go false q = none≢some (rw q at e)

    clash : (r s : Rule) (h : Passed sig r.pattern) (g : Passed sig s.pattern) (v : Value) {σ τ : Binds} {A : Type 0} → not (shares sig r.pattern s.pattern) ≡ true → OfKind sig 0 v → Fits h.pat v 0 σ → Fits g.pat v 0 τ → A
    clash r s h g v n k x y =
        let z : shares sig r.pattern s.pattern ≡ true = rw (h.read, g.read) (fit_overlap sig h.pat g.pat (pattern_words sig r.pattern h.pat h.read).well_formed (pattern_words sig s.pattern g.pat g.read).well_formed k x y) in
        true≢false (sym n ∙ ap not z)

    one_fitter : (rs : List Rule) (r s : Rule) (h : Passed sig r.pattern) (g : Passed sig s.pattern) (v : Value) {σ τ : Binds} → no_shared sig rs ≡ true → In r rs → In s rs → OfKind sig 0 v → Fits h.pat v 0 σ → Fits g.pat v 0 τ → s ≡ r
    one_fitter [] r s h g v {σ = σ} {τ = τ} n x7 _ k x y = elim x7 [ ]
    one_fitter (t ∷ rs) r s h g v n in_here in_here k x y = refl
    one_fitter (t ∷ rs) r s h g v n in_here (in_there j) k x y = clash t s h g v (apart_in (λ u. not (shares sig t.pattern u.pattern)) rs s (and_left (all (λ u. not (shares sig t.pattern u.pattern)) rs) (no_shared sig rs) n) j) k x y
    one_fitter (t ∷ rs) r s h g v n (in_there i) in_here k x y = clash t r g h v (apart_in (λ u. not (shares sig t.pattern u.pattern)) rs r (and_left (all (λ u. not (shares sig t.pattern u.pattern)) rs) (no_shared sig rs) n) i) k y x
    one_fitter (t ∷ rs) r s h g v n (in_there i) (in_there j) k x y = one_fitter rs r s h g v (and_right (all (λ u. not (shares sig t.pattern u.pattern)) rs) (no_shared sig rs) n) i j k x y

    first_agree : (rs : List Rule) → Valid sig rs → (v : Value) → OfKind sig 0 v → (l m : Line) → LineOf rs l → LineOf rs m → (a b : Hit) → outcome [] (vcons v vnil) 0 l ≡ some a → outcome [] (vcons v vnil) 0 m ≡ some b → SameHit a b
    first_agree rs ok v k l m p q a b x y =
        let (f, x') = hit_of p.rule p.row v a (ap (outcome [] (vcons v vnil) 0) (sym p.is_line) ∙ x) in
        let (g, y') = hit_of q.rule q.row v b (ap (outcome [] (vcons v vnil) 0) (sym q.is_line) ∙ y) in
        let (σ, fits, alike) = all_in (plus_means sig 0 p.good.pat) p.of_pattern v 0 f in
        let (τ, fits', alike') = all_in (plus_means sig 0 q.good.pat) q.of_pattern v 0 g in
        let e : q.rule ≡ p.rule = one_fitter rs p.rule q.rule p.good q.good v ok.apart p.held q.held k fits fits' in
        let z : q.good.pat ≡ p.good.pat = some_inj q.good.pat p.good.pat (sym q.good.read ∙ ap (λ r. read_pattern sig r.pattern) e ∙ p.good.read) in
        let same : Same σ τ = same_fits sig p.good.pat p.good.linear p.good.plain k fits (subst (λ u. Fits u v 0 τ) z fits') in
        let s : Same (final p.row v 0 []) (final q.row v 0 []) = same_final p.row q.row v σ τ alike alike' same in
        together p.rule q.rule (final p.row v 0 []) (final q.row v 0 []) e s a b x' y'
      where
        together : (r r' : Rule) (σ τ : Binds) → r' ≡ r → Same σ τ → (a b : Hit) → a ≡ (r.number, r.plan, σ) → b ≡ (r'.number, r'.plan, τ) → SameHit a b
        together r r' σ τ e s a b x y = (ap (λ z. z.0) x ∙ ap (λ z. z.number) (sym e) ∙ sym (ap (λ z. z.0) y), ap (λ z. z.1) x ∙ ap (λ z. z.plan) (sym e) ∙ sym (ap (λ z. z.1) y), λ i j. ap (λ z. binds i j z.2) x ∙ s i j ∙ sym (ap (λ z. binds i j z.2) y))

    first_path : (rs : List Rule) → Valid sig rs → Path sig (0 ∷ []) (lines sig rs) 0
    first_path rs ok = record { small = also 0 (small_0 sig facts) none_left; neat = neat_rules sig facts rs ok.rises ok.passed; visits = []; place = 0; made = refl; visited = visited_nil; agree = λ vs h l m i i' a b x y. only vs h l m i i' a b x y }
      where
        only : (vs : Values) → OfKinds sig (0 ∷ []) vs → (l m : Line) → In l (lines sig rs) → In m (lines sig rs) → (a b : Hit) → outcome [] vs 0 l ≡ some a → outcome [] vs 0 m ≡ some b → SameHit a b
        only vs (of_kinds_cons {v = v} k of_kinds_nil) l m i i' a b x y = first_agree rs ok v k l m (line_of rs l ok.passed i) (line_of rs m ok.passed i') a b x y

module _ (dft : ℕ) (sig : Signature) where
  module _ (facts : SigFacts sig) where
    -- 01, Tree: the tree of rules in force meets the four rules
    pub tree_compiled : (rs : List Rule) → Valid sig rs → Compiled dft sig (0 ∷ []) (lines sig rs) 0 (tree dft sig rs)
    unfolding tree
    tree_compiled rs ok = compile_ends dft sig (few sig facts) (Path sig) (shaped sig facts) (on_leaf sig facts) (on_test sig facts) (on_skip sig facts) visit_bound (0 ∷ []) (lines sig rs) 0 (first_path sig facts rs ok) (omega (arith, refs_rules sig facts rs ok.passed, ok.light))
