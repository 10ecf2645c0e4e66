-- The nodes of a walk: where they are there, and that each leads to the next.
use mathlib.Core.Path.{◌≡◌, refl, ap, subst, ◌∙◌}
use mathlib.Core.List.{List, [], ◌∷◌, ◌++◌}
use mathlib.Core.Option.{Option, some, none}
use mathlib.Core.Bool.{Bool, true, false, ◌&&◌, cond}
use Prim.Native.Nat.{ℕ, zero, suc, ◌+◌, ◌-◌, ◌<◌}
use native.Mathlib.Omega.{arith}
use lib.Dec.{eqb, ltb}
use lib.ListN.{length, drop, get_elem?}
use Rattle.signature.specs.Limits.{last_level}
use Rattle.signature.specs.Lists.{◌>>=◌, require, is_some, first, split}
use Rattle.signature.specs.Read.{read_booking}
use Rattle.signature.specs.Signature.{Signature, heads, is_level, level_of}
use Rattle.signature.specs.Value.{Values, vnil, vcons, con, size}
use Rattle.signature.proofs.KnownFacts.{at_below}
use Rattle.signature.proofs.Tests.{bind_some, require_some, some_inj, none≢some, eqb_eq, le_of}
use Rattle.tree.specs.Answer.{Answer}
use Rattle.tree.specs.Run.{Walk, at_default, at_hit, at_test, at_split, at_skip, rise_to, place_of, vjoin, run, run_words, nodes, nodes_words, Linked, linked_leaf, linked_skip, linked_test, linked_split, RisingTo, rising_last, rising_on}

-- what is read behind a test or a word is there on both sides
both : {A B C : Type 0} (o : Option A) (f : A → Option B) (g : A → Option C) → ((a : A) → is_some (f a) ≡ is_some (g a)) → is_some (o >>= f) ≡ is_some (o >>= g)
both none f g h = refl
both (some a) f g h = h a

more : {A B : Type 0} (o : Option A) (f : A → B) → is_some (o >>= λ a. some (f a)) ≡ is_some o
more none f = refl
more (some a) f = refl

-- by the tests of a node's first word
node_there : (b0 b1 b2 b3 b4 : Bool) (i : ℕ) (d h : Option Answer) (t s p : Option (List ℕ)) (t' s' p' : Option Answer) → is_some t ≡ is_some t' → is_some s ≡ is_some s' → is_some p ≡ is_some p'
    → is_some (cond b0 (d >>= λ x. some []) (cond b1 (h >>= λ x. some []) (cond b2 t (cond b3 s (cond b4 p none)))) >>= λ is. some (i ∷ is)) ≡ is_some (cond b0 d (cond b1 h (cond b2 t' (cond b3 s' (cond b4 p' none)))))
node_there true b1 b2 b3 b4 i none h t s p t' s' p' x y z = refl
node_there true b1 b2 b3 b4 i (some u) h t s p t' s' p' x y z = refl
node_there false true b2 b3 b4 i d none t s p t' s' p' x y z = refl
node_there false true b2 b3 b4 i d (some u) t s p t' s' p' x y z = refl
node_there false false true b3 b4 i d h t s p t' s' p' x y z = more t (λ (is : List ℕ). i ∷ is) ∙ x
node_there false false false true b4 i d h t s p t' s' p' x y z = more s (λ (is : List ℕ). i ∷ is) ∙ y
node_there false false false false true i d h t s p t' s' p' x y z = more p (λ (is : List ℕ). i ∷ is) ∙ z
node_there false false false false false i d h t s p t' s' p' x y z = refl

module _ {A B : Type 0} (f : Walk A) (g : Walk B) (same : (i : ℕ) (vs : Values) (j : ℕ) (visits : List ℕ) → is_some (f i vs j visits) ≡ is_some (g i vs j visits)) where
  test_there : (sig : Signature) (tree : List ℕ) (i : ℕ) (vs : Values) (j : ℕ) (visits : List ℕ) → is_some (at_test sig tree f i vs j visits) ≡ is_some (at_test sig tree g i vs j visits)
  test_there sig tree i vnil j visits = refl
  test_there sig tree i (vcons (con c us) rest) j visits =
      both (get_elem? sig c) _ _ (λ d. both (get_elem? tree (i + 1)) _ _ (λ a. both (get_elem? tree (i + 2)) _ _ (λ n. both (require (eqb a (first (heads sig d.kind)) && eqb n (length (heads sig d.kind)))) _ _ (λ q. both (get_elem? tree (i + 3 + (c - a))) _ _ (λ link. both (require (ltb i link)) _ _ (λ l. same link (vjoin us rest) (suc j) (visits ++ (j ∷ []))))))))

  split_there : (tree : List ℕ) (i : ℕ) (vs : Values) (j : ℕ) (visits : List ℕ) → is_some (at_split tree f i vs j visits) ≡ is_some (at_split tree g i vs j visits)
  split_there tree i vnil j visits = refl
  split_there tree i (vcons (con c us) rest) j visits =
      both (require (is_level c)) _ _ (λ p. both (get_elem? tree (i + 1)) _ _ (λ n. both (split n (drop (i + 2) tree)) _ _ (λ r. both (require (rise_to last_level 0 r.0)) _ _ (λ q. both (get_elem? tree (i + 2 + n + place_of (level_of c) r.0)) _ _ (λ link. both (require (ltb i link)) _ _ (λ l. same link (vjoin us rest) (suc j) (visits ++ (j ∷ []))))))))

  skip_there : (i : ℕ) (vs : Values) (j : ℕ) (visits : List ℕ) → is_some (at_skip f i vs j visits) ≡ is_some (at_skip g i vs j visits)
  skip_there i vnil j visits = refl
  skip_there i (vcons v rest) j visits = same (suc i) rest (j + size v) (visits ++ (j ∷ []))

module _ (sig : Signature) (tree : List ℕ) where
  walk_there : (n i : ℕ) (vs : Values) (j : ℕ) (visits : List ℕ) → is_some (nodes n sig tree i vs j visits) ≡ is_some (run n sig tree i vs j visits)
  walk_there zero i vs j visits = refl
  walk_there (suc n) i vs j visits =
      let f : Walk (List ℕ) = λ i' vs' j' visits'. nodes n sig tree i' vs' j' visits' in
      let g : Walk Answer = λ i' vs' j' visits'. run n sig tree i' vs' j' visits' in
      both (get_elem? tree i) _ _ (λ w. node_there (eqb w 0) (eqb w 1) (eqb w 2) (eqb w 3) (eqb w 4) i (at_default tree i vs j visits) (at_hit tree i vs j visits) (at_test sig tree f i vs j visits) (at_skip f i vs j visits) (at_split tree f i vs j visits) (at_test sig tree g i vs j visits) (at_skip g i vs j visits) (at_split tree g i vs j visits) (test_there f g (walk_there n) sig tree i vs j visits) (skip_there f g (walk_there n) i vs j visits) (split_there f g (walk_there n) tree i vs j visits))

  pub nodes_there : (bs : List ℕ) → is_some (nodes_words sig tree bs) ≡ is_some (run_words sig tree bs)
  nodes_there bs = both (read_booking sig bs) _ _ (λ v. walk_there (length tree) 0 (vcons v vnil) 0 [])

  -- what a node leads to
  module _ (next : Walk (List ℕ)) (i : ℕ) (on : (i' : ℕ) (vs : Values) (j : ℕ) (visits is : List ℕ) → next i' vs j visits ≡ some is → Linked tree i' is) where
    test_linked : (vs : Values) (j : ℕ) (visits is : List ℕ) → get_elem? tree i ≡ some 2 → at_test sig tree next i vs j visits ≡ some is → Linked tree i (i ∷ is)
    test_linked vnil j visits is e h = none≢some h
    test_linked (vcons (con c us) rest) j visits is e h =
        let (d, a1, h1) = bind_some (get_elem? sig c) _ is h in
        let (f, a2, h2) = bind_some (get_elem? tree (i + 1)) _ is h1 in
        let (n, a3, h3) = bind_some (get_elem? tree (i + 2)) _ is h2 in
        let (u, a4, h4) = bind_some (require (eqb f (first (heads sig d.kind)) && eqb n (length (heads sig d.kind)))) _ is h3 in
        let (link, a5, h5) = bind_some (get_elem? tree (i + 3 + (c - f))) _ is h4 in
        let (x, a6, h6) = bind_some (require (ltb i link)) _ is h5 in
        linked_test (c - f) e a5 (le_of (suc i) link (require_some (ltb i link) x a6)) (on link (vjoin us rest) (suc j) (visits ++ (j ∷ [])) is h6)

    split_linked : (vs : Values) (j : ℕ) (visits is : List ℕ) → get_elem? tree i ≡ some 4 → at_split tree next i vs j visits ≡ some is → Linked tree i (i ∷ is)
    split_linked vnil j visits is e h = none≢some h
    split_linked (vcons (con c us) rest) j visits is e h =
        let (u, a1, h1) = bind_some (require (is_level c)) _ is h in
        let (n, a2, h2) = bind_some (get_elem? tree (i + 1)) _ is h1 in
        let (r, a3, h3) = bind_some (split n (drop (i + 2) tree)) _ is h2 in
        let (v, a4, h4) = bind_some (require (rise_to last_level 0 r.0)) _ is h3 in
        let (link, a5, h5) = bind_some (get_elem? tree (i + 2 + n + place_of (level_of c) r.0)) _ is h4 in
        let (x, a6, h6) = bind_some (require (ltb i link)) _ is h5 in
        linked_split (place_of (level_of c) r.0) e a2 a5 (le_of (suc i) link (require_some (ltb i link) x a6)) (on link (vjoin us rest) (suc j) (visits ++ (j ∷ [])) is h6)

    skip_linked : (vs : Values) (j : ℕ) (visits is : List ℕ) → get_elem? tree i ≡ some 3 → at_skip next i vs j visits ≡ some is → Linked tree i (i ∷ is)
    skip_linked vnil j visits is e h = none≢some h
    skip_linked (vcons v rest) j visits is e h = linked_skip e (on (suc i) rest (j + size v) (visits ++ (j ∷ [])) is h)

    -- by the node's first word
    node_linked : (w : ℕ) (vs : Values) (j : ℕ) (visits is : List ℕ) → get_elem? tree i ≡ some w
        → cond (eqb w 0) (at_default tree i vs j visits >>= λ a. some []) (cond (eqb w 1) (at_hit tree i vs j visits >>= λ a. some []) (cond (eqb w 2) (at_test sig tree next i vs j visits) (cond (eqb w 3) (at_skip next i vs j visits) (cond (eqb w 4) (at_split tree next i vs j visits) none)))) ≡ some is → Linked tree i (i ∷ is)
    node_linked w vs j visits is e h = go (eqb w 0) (eqb w 1) (eqb w 2) (eqb w 3) (eqb w 4) refl refl refl refl refl h
      where
        go : (b0 b1 b2 b3 b4 : Bool) → eqb w 0 ≡ b0 → eqb w 1 ≡ b1 → eqb w 2 ≡ b2 → eqb w 3 ≡ b3 → eqb w 4 ≡ b4
            → cond b0 (at_default tree i vs j visits >>= λ a. some []) (cond b1 (at_hit tree i vs j visits >>= λ a. some []) (cond b2 (at_test sig tree next i vs j visits) (cond b3 (at_skip next i vs j visits) (cond b4 (at_split tree next i vs j visits) none)))) ≡ some is → Linked tree i (i ∷ is)
        go true b1 b2 b3 b4 p0 p1 p2 p3 p4 q =
            let (a, r, s) = bind_some (at_default tree i vs j visits) _ is q in
            subst (λ (xs : List ℕ). Linked tree i (i ∷ xs)) (some_inj [] is s) (linked_leaf e (omega (arith, eqb_eq w 0 p0)))
        go false true b2 b3 b4 p0 p1 p2 p3 p4 q =
            let (a, r, s) = bind_some (at_hit tree i vs j visits) _ is q in
            subst (λ (xs : List ℕ). Linked tree i (i ∷ xs)) (some_inj [] is s) (linked_leaf e (omega (arith, eqb_eq w 1 p1)))
        go false false true b3 b4 p0 p1 p2 p3 p4 q = test_linked vs j visits is (e ∙ ap some (eqb_eq w 2 p2)) q
        go false false false true b4 p0 p1 p2 p3 p4 q = skip_linked vs j visits is (e ∙ ap some (eqb_eq w 3 p3)) q
        go false false false false true p0 p1 p2 p3 p4 q = split_linked vs j visits is (e ∙ ap some (eqb_eq w 4 p4)) q
        go false false false false false p0 p1 p2 p3 p4 q = none≢some q

  walk_linked : (n i : ℕ) (vs : Values) (j : ℕ) (visits is : List ℕ) → nodes n sig tree i vs j visits ≡ some is → Linked tree i is
  walk_linked zero i vs j visits is h = none≢some h
  walk_linked (suc n) i vs j visits is h =
      let (w, e, h1) = bind_some (get_elem? tree i) _ is h in
      let (ks, q, s) = bind_some _ (λ (ks : List ℕ). some (i ∷ ks)) is h1 in
      subst (λ (xs : List ℕ). Linked tree i xs) (some_inj (i ∷ ks) is s) (node_linked (λ i' vs' j' visits'. nodes n sig tree i' vs' j' visits') i (walk_linked n) w vs j visits ks e q)

  pub nodes_linked : (bs is : List ℕ) → nodes_words sig tree bs ≡ some is → Linked tree 0 is
  nodes_linked bs is h = let (v, r, s) = bind_some (read_booking sig bs) _ is h in walk_linked (length tree) 0 (vcons v vnil) 0 [] is s

below_next : (i : ℕ) → i < suc i
below_next i = omega arith

pub nodes_rise : (ws is : List ℕ) (i : ℕ) → Linked ws i is → RisingTo (length ws) i is
nodes_rise ws is i (linked_leaf e h) = rising_last (at_below ws i _ e)
nodes_rise ws is i (linked_skip e h) = rising_on (below_next i) (nodes_rise ws _ _ h)
nodes_rise ws is i (linked_test c e f l h) = rising_on l (nodes_rise ws _ _ h)
nodes_rise ws is i (linked_split c e d f l h) = rising_on l (nodes_rise ws _ _ h)
