-- The step on words is the definition's step on values.
use mathlib.Core.Path.{◌≡◌, refl, sym, ap, ◌∙◌, subst}
use mathlib.Core.List.{List, [], ◌∷◌, ◌++◌, append_assoc}
use mathlib.Core.Option.{Option, none, some}
use mathlib.Core.Bool.{Bool, true, false, cond, ◌&&◌}
use Prim.Native.Nat.{ℕ, suc, ◌+◌, ◌-◌, ◌≤◌, ◌<◌}
use native.Mathlib.Nat.{add-zero}
use native.Mathlib.Numerals.{add-one}
use native.Mathlib.Omega.{arith}
use lib.Dec.{eqb, leb, ltb}
use lib.ListN.{length, drop, length-drop, length-append, get_elem?}
use lib.Seq.{drop-drop}
use Rattle.signature.specs.Lawful.{OfKinds, of_kinds_cons, of_kind}
use Rattle.signature.specs.Limits.{last_level}
use Rattle.signature.specs.Lists.{◌>>=◌, require, first, split}
use Rattle.signature.specs.Signature.{Signature, heads, is_level, level_of}
use Rattle.signature.specs.Value.{Values, vnil, vcons, con, size, code, codes}
use Rattle.signature.proofs.KnownFacts.{at_below}
use Rattle.signature.proofs.ListFacts.{at_drop, at_out, drop_exact}
use Rattle.signature.proofs.Tests.{le_of, lt_of_not}
use Rattle.signature.proofs.Values.{length_code, some_size}
use Rattle.tree.specs.Answer.{Answer, no_rule}
use Rattle.tree.specs.Run.{run, vjoin, at_default, at_hit, at_test, at_split, at_skip, rise_to, place_of}
use Rattle.tree.proofs.RunFuel.{run_enough}
use Rattle.tree.proofs.TreeFacts.{kindeds_join}
use Rattle.nodes.specs.Step.{link_at, link_step, default_step, hit_step, test_step, split_step, skip_step, word_step, step_at}
use Rattle.nodes.specs.declared.node.Step.{Step}
use Rattle.nodes.specs.declared.node.Step.TheVariants.{Default, Hit, On, Broken}
use Rattle.run.specs.Hit.{hit_at}

join_codes : (us vs : Values) → codes (vjoin us vs) ≡ codes us ++ codes vs
join_codes vnil vs = refl
join_codes (vcons u us) vs = rw (join_codes us vs, append_assoc (code u) (codes us) (codes vs))

module _ (sig : Signature) (tree : List ℕ) where
  -- the bound is always the tree's length
  abbrev pub run_from : ℕ → Values → ℕ → List ℕ → Option Answer
  run_from i vs j visits = run (length tree) sig tree i vs j visits

  unrolled : (i : ℕ) (vs : Values) (j : ℕ) (visits : List ℕ) → run_from i vs j visits ≡ run (suc (length tree)) sig tree i vs j visits
  unrolled i vs j visits = run_enough sig tree (length tree) (suc (length tree)) i vs j visits (omega arith) (omega arith)

  outside : (i : ℕ) (vs : Values) (j : ℕ) (visits : List ℕ) → length tree ≤ i → run_from i vs j visits ≡ none
  outside i vs j visits l = unrolled i vs j visits ∙ rw (at_out tree i l)

  module _ (i : ℕ) (vs : Values) (j : ℕ) (visits : List ℕ) where
    -- a run with the result r goes d words on in the tree and m in the booking
    pub record More (r : Option Answer) (d m : ℕ) : Type 0 where
      pub kinds : List ℕ
      pub values : Values
      pub kinded : OfKinds sig kinds values
      pub words : codes values ≡ drop m (codes vs)
      pub forward : 1 ≤ d
      pub inside : i + d ≤ length tree
      pub some_word : 1 ≤ m
      pub left : m ≤ length (codes vs)
      pub goes : r ≡ run_from (i + d) values (j + m) (visits ++ (j ∷ []))

    -- where a step leads a run with the result r
    abbrev pub Leads : Option Answer → Step → Type 0
    Leads r (Default p) = r ≡ some (no_rule p)
    Leads r Hit = r ≡ hit_at (drop i tree) visits
    Leads r (On d m) = More r d m
    Leads r Broken = r ≡ none

    leads_cond : (b : Bool) (r q : Option Answer) (s u : Step) → Leads r s → Leads q u → Leads (cond b r q) (cond b s u)
    leads_cond true r q s u x y = x
    leads_cond false r q s u x y = y

    leads_bind : {A : Type 0} (o p : Option A) (f : A → Option Answer) (h : A → Option ℕ) → o ≡ p → ((a : A) → Leads (f a) (link_step (h a))) → Leads (o >>= f) (link_step (p >>= h))
    leads_bind {A} o p f h e x = subst (λ q. Leads (q >>= f) (link_step (p >>= h))) (sym e) (go p)
      where
        go : (p : Option A) → Leads (p >>= f) (link_step (p >>= h))
        go none = refl
        go (some a) = x a

    leads_when : (b : Bool) (r : Option Answer) (h : Option ℕ) → (b ≡ true → Leads r (link_step h)) → Leads (require b >>= λ u. r) (link_step (require b >>= λ u. h))
    leads_when true r h x = x refl
    leads_when false r h x = refl

  default_law : (i : ℕ) (vs : Values) (j : ℕ) (visits : List ℕ) → Leads i vs j visits (at_default tree i vs j visits) (default_step (get_elem? (drop i tree) 1))
  default_law i vs j visits = subst (λ o. Leads i vs j visits (o >>= λ p. some (no_rule p)) (default_step (get_elem? (drop i tree) 1))) (sym (at_drop tree i 1)) (go (get_elem? (drop i tree) 1))
    where
      go : (o : Option ℕ) → Leads i vs j visits (o >>= λ p. some (no_rule p)) (default_step o)
      go none = refl
      go (some p) = refl

  hit_law : (i : ℕ) (vs : Values) (j : ℕ) (visits : List ℕ) → Leads i vs j visits (at_hit tree i vs j visits) (hit_step vs)
  hit_law i vnil j visits = rw (at_drop tree i 1, at_drop tree i 2, at_drop tree i 3, ← drop-drop 4 i tree)
  hit_law i (vcons v rest) j visits = refl

  skip_law : (i : ℕ) (vs : Values) (j : ℕ) (visits : List ℕ) {ks : List ℕ} → OfKinds sig ks vs → i < length tree → Leads i vs j visits (at_skip run_from i vs j visits) (skip_step vs)
  skip_law i vnil j visits k l = refl
  skip_law i (vcons v rest) j visits (of_kinds_cons {ks = ks} h k) l = record {
    kinds = ks;
    values = rest;
    kinded = k;
    words = sym (drop_exact (size v) (code v) (codes rest) (length_code v));
    forward = omega arith;
    inside = omega arith;
    some_word = some_size v;
    left = omega (arith, length-append (code v) (codes rest), length_code v);
    goes = rw (add-one i);
  }

  -- the link at m words behind the node, for a first part that has the head c
  link_law : (i c m : ℕ) (us rest : Values) (j : ℕ) (visits : List ℕ) {js ks : List ℕ} → OfKinds sig js us → OfKinds sig ks rest → i ≤ length tree → (n : ℕ) → n ≡ i + m
      → Leads i (vcons (con c us) rest) j visits (get_elem? tree n >>= λ link. require (ltb i link) >>= λ u. run_from link (vjoin us rest) (suc j) (visits ++ (j ∷ []))) (link_step (link_at (drop i tree) i m))
  link_law i c m us rest j visits {js} {ks} p k l n e =
      leads_bind i (vcons (con c us) rest) j visits (get_elem? tree n) (get_elem? (drop i tree) m) _ _ (ap (get_elem? tree) e ∙ at_drop tree i m)
      (λ link. leads_when i (vcons (con c us) rest) j visits (ltb i link) _ _ (λ q. on link (le_of (suc i) link q) (leb (link - i) (length (drop i tree))) refl))
    where
      on : (link : ℕ) → i < link → (b : Bool) → leb (link - i) (length (drop i tree)) ≡ b → Leads i (vcons (con c us) rest) j visits (run_from link (vjoin us rest) (suc j) (visits ++ (j ∷ []))) (link_step (require b >>= λ u. some (link - i)))
      on link m false q = outside link (vjoin us rest) (suc j) (visits ++ (j ∷ [])) (omega (arith, lt_of_not (link - i) (length (drop i tree)) q, length-drop i tree))
      on link m true q =
          let w : i + (link - i) ≡ link = omega arith in
          record {
            kinds = js ++ ks;
            values = vjoin us rest;
            kinded = kindeds_join sig p k;
            words = join_codes us rest;
            forward = omega arith;
            inside = omega (arith, le_of (link - i) (length (drop i tree)) q, length-drop i tree);
            some_word = omega arith;
            left = omega arith;
            goes = rw (w, add-one j);
          }

  test_law : (i : ℕ) (vs : Values) (j : ℕ) (visits : List ℕ) {ks : List ℕ} → OfKinds sig ks vs → i ≤ length tree → Leads i vs j visits (at_test sig tree run_from i vs j visits) (test_step sig (drop i tree) i vs)
  test_law i vnil j visits k l = refl
  test_law i (vcons (con c us) rest) j visits (of_kinds_cons (of_kind e p) k) l =
      leads_bind i (vcons (con c us) rest) j visits (get_elem? sig c) (get_elem? sig c) _ _ refl
      (λ d. leads_bind i (vcons (con c us) rest) j visits (get_elem? tree (i + 1)) (get_elem? (drop i tree) 1) _ _ (at_drop tree i 1)
      (λ f. leads_bind i (vcons (con c us) rest) j visits (get_elem? tree (i + 2)) (get_elem? (drop i tree) 2) _ _ (at_drop tree i 2)
      (λ n. leads_when i (vcons (con c us) rest) j visits (eqb f (first (heads sig d.kind)) && eqb n (length (heads sig d.kind))) _ _
      (λ u. link_law i c (3 + (c - f)) us rest j visits p k l (i + 3 + (c - f)) (omega arith)))))

  split_law : (i : ℕ) (vs : Values) (j : ℕ) (visits : List ℕ) {ks : List ℕ} → OfKinds sig ks vs → i ≤ length tree → Leads i vs j visits (at_split tree run_from i vs j visits) (split_step (drop i tree) i vs)
  split_law i vnil j visits k l = refl
  split_law i (vcons (con c us) rest) j visits (of_kinds_cons (of_kind e p) k) l =
      leads_when i (vcons (con c us) rest) j visits (is_level c) _ _
      (λ v. leads_bind i (vcons (con c us) rest) j visits (get_elem? tree (i + 1)) (get_elem? (drop i tree) 1) _ _ (at_drop tree i 1)
      (λ n. leads_bind i (vcons (con c us) rest) j visits (split n (drop (i + 2) tree)) (split n (drop 2 (drop i tree))) _ _ (ap (split n) (sym (drop-drop 2 i tree)))
      (λ r. leads_when i (vcons (con c us) rest) j visits (rise_to last_level 0 r.0) _ _
      (λ u. link_law i c (2 + n + place_of (level_of c) r.0) us rest j visits p k l (i + 2 + n + place_of (level_of c) r.0) (omega arith)))))

  pub step_law : (i : ℕ) (vs : Values) (j : ℕ) (visits : List ℕ) {ks : List ℕ} → OfKinds sig ks vs → i ≤ length tree → Leads i vs j visits (run_from i vs j visits) (step_at sig (drop i tree) i vs)
  step_law i vs j visits k l = subst (λ r. Leads i vs j visits r (step_at sig (drop i tree) i vs)) (sym (unrolled i vs j visits)) (go (get_elem? (drop i tree) 0) (ap (get_elem? tree) (sym (add-zero i)) ∙ at_drop tree i 0))
    where
      go : (o : Option ℕ) → get_elem? tree i ≡ o → Leads i vs j visits (run (suc (length tree)) sig tree i vs j visits) (word_step sig (drop i tree) i vs o)
      go none e = rw e
      go (some w) e = rw e (leads_cond i vs j visits (eqb w 0) _ _ _ _ (default_law i vs j visits) (leads_cond i vs j visits (eqb w 1) _ _ _ _ (hit_law i vs j visits) (leads_cond i vs j visits (eqb w 2) _ _ _ _ (test_law i vs j visits k l) (leads_cond i vs j visits (eqb w 3) _ _ _ _ (skip_law i vs j visits k (at_below tree i w e)) (leads_cond i vs j visits (eqb w 4) _ _ _ _ (split_law i vs j visits k l) refl)))))
