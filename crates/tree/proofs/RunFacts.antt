-- A run over the words of a tree walks the tree.
use mathlib.Core.Path.{◌≡◌, refl, ap, ◌∙◌, subst, sym}
use mathlib.Core.List.{List, [], ◌∷◌, ◌++◌, map, append_assoc}
use mathlib.Core.Option.{some, Option, none}
use mathlib.Core.Bool.{true, false}
use Prim.Native.Nat.{ℕ, ◌*◌, suc, ◌+◌, ◌≤◌, zero, ◌-◌, ◌<◌}
use native.Mathlib.Nat.{add-zero}
use native.Mathlib.Numerals.{add-one}
use native.Mathlib.Omega.{arith}
use lib.ListN.{length, length-append, set, get_or, drop, get_elem?}
use lib.Seq.{drop-drop, drop-append_seam}
use Rattle.signature.specs.Lawful.{OfKinds, of_kinds_nil, of_kinds_cons, of_kind}
use Rattle.signature.specs.Limits.{level_base, last_level}
use Rattle.signature.specs.Lists.{first}
use Rattle.signature.specs.Signature.{heads, arguments, Signature, arguments_at, is_number_kind, level_of}
use Rattle.signature.specs.Value.{Values, vnil, vcons, con, size}
use Rattle.signature.proofs.Heads.{args_same, constructor_of, level_is, level_of_kind, level_bare}
use Rattle.signature.proofs.LawfulFacts.{SigFacts, dense}
use Rattle.signature.proofs.ListFacts.{at_getD, at_drop, at_left, drop_exact, split_append}
use Rattle.signature.proofs.Tests.{leb_yes, none≢some, some_inj, eqb_self, eqb_eq, ltb_yes}
use Rattle.pattern.specs.Limits.{last_variable}
use Rattle.pattern.specs.Places.{bind_all, unbound}
use Rattle.tree.specs.Answer.{Answer, no_rule}
use Rattle.tree.specs.Leaf.{Treed, Treeds, treed_default, treed_hit, treed_test, treed_split, treed_skip, treeds_nil, treeds_cons, Rising, rising_nil, rising_cons}
use Rattle.tree.specs.Limits.{last_number}
use Rattle.tree.specs.Run.{bound, run, at_hit, at_test, at_split, rise_to, place_of, vjoin}
use Rattle.tree.specs.Tree.{Trees, tnil, tcons, Tree, default, hit, test, skip, split}
use Rattle.tree.specs.Words.{pairs, links, count, words, layout, layout_all, words_all}
use Rattle.tree.proofs.EndFacts.{end_at}
use Rattle.tree.proofs.TreeFacts.{placed, Hit, walk_nth, walk, more, kindeds_join}

-- a tree's words are as many as it says
length_pairs : (bs : List (ℕ × ℕ)) → length (pairs bs) ≡ 2 * length bs
length_pairs [] = refl
length_pairs (b ∷ bs) = omega (arith, length_pairs bs)

length_links : (ts : Trees) (i : ℕ) → length (links ts i) ≡ count ts
length_links tnil i = refl
length_links (tcons t ts) i = ap suc (length_links ts (i + words t))

mutual
  pub length_layout : (t : Tree) (i : ℕ) → length (layout t i) ≡ words t
  length_layout (default d) i = refl
  length_layout (hit r p bs) i = omega (arith, length_pairs bs)
  length_layout (test c ts) i = simp length-append (omega (arith, length_links ts (i + 3 + count ts), length_layouts ts (i + 3 + count ts)))
  length_layout (skip t) i = ap suc (length_layout t (suc i))
  length_layout (split es ts) i = simp length-append (omega (arith, length_links ts (i + 2 + length es + count ts), length_layouts ts (i + 2 + length es + count ts)))

  pub length_layouts : (ts : Trees) (i : ℕ) → length (layout_all ts i) ≡ words_all ts
  length_layouts tnil i = refl
  length_layouts (tcons t ts) i = simp length-append (omega (arith, length_layout t i, length_layouts ts (i + words t)))

pub some_word : (t : Tree) → 1 ≤ words t
some_word (default d) = omega arith
some_word (hit r p bs) = omega arith
some_word (test c ts) = omega arith
some_word (skip t) = omega arith
some_word (split es ts) = omega arith

bound_pairs_of : {m n : ℕ} {bs : List (ℕ × ℕ)} (visits tail places : List ℕ) → Rising m n bs → n ≡ length visits → bound (length bs) m (pairs bs ++ tail) visits places ≡ some (bind_all (placed visits bs) places)
bound_pairs_of visits tail places rising_nil e = refl
bound_pairs_of visits tail places (rising_cons {m = m} {x = x} {u = u} a b c h) e =
    let c' : u < length visits = omega arith in
    rw (leb_yes m x a, leb_yes x last_variable b, at_getD visits u c') (bound_pairs_of visits tail (set places x (get_or visits u 0)) h e)

bound_pairs : {m : ℕ} {bs : List (ℕ × ℕ)} (visits tail places : List ℕ) → Rising m (length visits) bs → bound (length bs) m (pairs bs ++ tail) visits places ≡ some (bind_all (placed visits bs) places)
bound_pairs visits tail places h = bound_pairs_of visits tail places h refl

module _ (dft : ℕ) (sig : Signature) where
  treeds_count : {ks : List ℕ} {t : ℕ} {cs : List ℕ} {ts : Trees} → Treeds dft sig ks t cs ts → count ts ≡ length cs
  treeds_count treeds_nil = refl
  treeds_count (treeds_cons h g) = ap suc (treeds_count g)

module _ (dft : ℕ) where
  abbrev pub to_answer : Option Hit → Answer
  to_answer none = no_rule dft
  to_answer (some h) = record { rule = h.0; plan = h.1; places = bind_all h.2 unbound }

module _ (dft : ℕ) (sig : Signature) (tree : List ℕ) where
  -- t's words stand at index i
  abbrev pub Stands : Tree → ℕ → Type 0
  Stands t i = (tail : List ℕ) × (drop i tree ≡ layout t i ++ tail)

  abbrev pub StandAll : Trees → ℕ → Type 0
  StandAll ts i = (tail : List ℕ) × (drop i tree ≡ layout_all ts i ++ tail)

  -- the child of a constructor
  pub record Child (ts : Trees) (base idx c t : ℕ) (ks : List ℕ) : Type 0 where
    pub child : Tree
    pub link : ℕ
    pub linked : get_elem? (links ts base) idx ≡ some link
    pub above : base ≤ link
    pub stands : Stands child link
    pub treed : Treed dft sig (arguments sig c ++ ks) (suc t) child
    pub within : words child ≤ words_all ts
    pub walks : (vs : Values) (j : ℕ) (visits : List ℕ) → walk_nth ts idx vs j visits ≡ walk child vs j visits

  child_of : {ks cs : List ℕ} {t : ℕ} {ts : Trees} (base idx c : ℕ) → Treeds dft sig ks t cs ts → get_elem? cs idx ≡ some c → StandAll ts base → Child ts base idx c t ks
  child_of base idx c treeds_nil e s = none≢some e
  child_of {ks} {t = t} base zero c (treeds_cons {c = d} {tr = tr} {ts = ts} h g) e (tail, s) =
      record { child = tr; link = base; linked = refl; above = omega arith; stands = (layout_all ts (base + words tr) ++ tail, s ∙ append_assoc (layout tr base) (layout_all ts (base + words tr)) tail); treed = subst (λ x. Treed dft sig (arguments sig x ++ ks) (suc t) tr) (some_inj d c e) h; within = omega arith; walks = λ vs j visits. refl }
  child_of base (suc idx) c (treeds_cons {c = d} {tr = tr} {ts = ts} h g) e (tail, s) =
      let below : drop (base + words tr) tree ≡ layout_all ts (base + words tr) ++ tail = sym (drop-drop (words tr) base tree) ∙ ap (drop (words tr)) (s ∙ append_assoc (layout tr base) (layout_all ts (base + words tr)) tail) ∙ rw (← length_layout tr base) (drop-append_seam (layout tr base) (layout_all ts (base + length (layout tr base)) ++ tail)) in
      let r = child_of (base + words tr) idx c g e (tail, below) in
      record { child = r.child; link = r.link; linked = r.linked; above = omega arith; stands = r.stands; treed = r.treed; within = omega (arith, r.within); walks = r.walks }

  -- what is followed: the child of the head at idx, whose link stands behind others at an index
  pub record Followed (ts : Trees) (at idx c t : ℕ) (ks : List ℕ) : Type 0 where
    pub of : Child ts (at + count ts) idx c t ks
    pub there : get_elem? tree (at + idx) ≡ some of.link

  follow : {ks cs : List ℕ} {t : ℕ} {ts : Trees} (at idx c : ℕ) (tail : List ℕ) → Treeds dft sig ks t cs ts → get_elem? cs idx ≡ some c → drop at tree ≡ (links ts (at + count ts) ++ layout_all ts (at + count ts)) ++ tail → Followed ts at idx c t ks
  follow {ks} {t = t} {ts = ts} at idx c tail h e s = record { of = ch; there = at_drop tree at idx ∙ ap (λ l. get_elem? l idx) s ∙ at_left (links ts (at + count ts) ++ layout_all ts (at + count ts)) tail idx ch.link (at_left (links ts (at + count ts)) (layout_all ts (at + count ts)) idx ch.link ch.linked) }
    where
      below : drop (at + count ts) tree ≡ layout_all ts (at + count ts) ++ tail
      below = sym (drop-drop (count ts) at tree) ∙ ap (drop (count ts)) (s ∙ append_assoc (links ts (at + count ts)) (layout_all ts (at + count ts)) tail) ∙ drop_exact (count ts) (links ts (at + count ts)) (layout_all ts (at + count ts) ++ tail) (length_links ts (at + count ts))

      ch : Child ts (at + count ts) idx c t ks
      ch = child_of (at + count ts) idx c h e (tail, below)

  -- the m-th word of a tree that stands at i
  word : (i m : ℕ) (ws : List ℕ) → drop i tree ≡ ws → get_elem? tree (i + m) ≡ get_elem? ws m
  word i m ws s = at_drop tree i m ∙ ap (λ l. get_elem? l m) s

  word_0 : (i : ℕ) (ws : List ℕ) → drop i tree ≡ ws → get_elem? tree i ≡ get_elem? ws 0
  word_0 i ws s = ap (get_elem? tree) (sym (add-zero i)) ∙ word i 0 ws s

module _ (dft : ℕ) (sig : Signature) (tree : List ℕ) where
  abbrev Runs : ℕ → Type 0
  Runs n = (t : Tree) (ks : List ℕ) (i j : ℕ) (vs : Values) (visits : List ℕ) → Treed dft sig ks (length visits) t → OfKinds sig ks vs → words t ≤ n → Stands dft sig tree t i → run n sig tree i vs j visits ≡ some (to_answer dft (walk t vs j visits))

  hit_runs : (r p i j : ℕ) (bs : List (ℕ × ℕ)) (visits tail : List ℕ) → 1 ≤ r → r ≤ last_number → Rising 0 (length visits) bs → drop i tree ≡ layout (hit r p bs) i ++ tail → at_hit tree i vnil j visits ≡ some (to_answer dft (walk (hit r p bs) vnil j visits))
  hit_runs r p i j bs visits tail a b h s =
      let d : drop (i + 4) tree ≡ pairs bs ++ tail = sym (drop-drop 4 i tree) ∙ ap (drop 4) s in
      rw (word dft sig tree i 1 (layout (hit r p bs) i ++ tail) s, word dft sig tree i 2 (layout (hit r p bs) i ++ tail) s, word dft sig tree i 3 (layout (hit r p bs) i ++ tail) s, leb_yes 1 r a, leb_yes r last_number b, d, bound_pairs visits tail unbound h)

at_map : {A B : Type 0} (f : A → B) (xs : List A) (i : ℕ) (a : A) → get_elem? xs i ≡ some a → get_elem? (map f xs) i ≡ some (f a)
at_map f [] i a e = none≢some e
at_map f (x ∷ xs) zero a e = ap some (ap f (some_inj x a e))
at_map f (x ∷ xs) (suc i) a e = at_map f xs i a e

module _ (dft : ℕ) (sig : Signature) (tree : List ℕ) where
  module _ (facts : SigFacts sig) where
    test_runs : (n : ℕ) → Runs dft sig tree n → (k c f i j : ℕ) {ks js : List ℕ} (ts : Trees) (us rest : Values) (visits : List ℕ) → is_number_kind sig k ≡ false → f ≡ first (heads sig k) → Treeds dft sig ks (length visits) (heads sig k) ts → arguments_at sig k c ≡ some js → OfKinds sig js us → OfKinds sig ks rest → words (test f ts) ≤ suc n → Stands dft sig tree (test f ts) i → at_test sig tree (λ i' vs' j' visits'. run n sig tree i' vs' j' visits') i (vcons (con c us) rest) j visits ≡ some (to_answer dft (walk_nth ts (c - f) (vjoin us rest) (suc j) (visits ++ (j ∷ []))))
    test_runs n g k c f i j {ks} {js} ts us rest visits nk ef h e a b l (tail, s) =
        let (d, e₁, q, z) = constructor_of sig k c js nk e in
        let kd : d.kind ≡ k = eqb_eq d.kind k q in
        let r = follow dft sig tree (i + 3) (c - f) c tail h (rw (← ef) at (dense sig facts k c js e)) (sym (drop-drop 3 i tree) ∙ ap (drop 3) s) in
        let ch = r.of in
        let up : i < ch.link = omega (arith, ch.above) in
        rw (e₁, word dft sig tree i 1 (layout (test f ts) i ++ tail) s, word dft sig tree i 2 (layout (test f ts) i ++ tail) s, kd, ← ef, eqb_self f, treeds_count dft sig h, eqb_self (length (heads sig k)), r.there, ltb_yes i ch.link up, ch.walks (vjoin us rest) (suc j) (visits ++ (j ∷ [])))
        (g ch.child (js ++ ks) ch.link (suc j) (vjoin us rest) (visits ++ (j ∷ [])) (rw (args_same sig k c js e, more visits j) at ch.treed) (kindeds_join sig a b) (omega (arith, ch.within)) ch.stands)

    split_runs : (n : ℕ) → Runs dft sig tree n → (k c i j : ℕ) {ks js : List ℕ} (es : List ℕ) (ts : Trees) (us rest : Values) (visits : List ℕ) → is_number_kind sig k ≡ true → rise_to last_level 0 es ≡ true → Treeds dft sig ks (length visits) (map (λ e. level_base + e) es) ts → arguments_at sig k c ≡ some js → OfKinds sig js us → OfKinds sig ks rest → words (split es ts) ≤ suc n → Stands dft sig tree (split es ts) i → at_split tree (λ i' vs' j' visits'. run n sig tree i' vs' j' visits') i (vcons (con c us) rest) j visits ≡ some (to_answer dft (walk_nth ts (place_of (level_of c) es) (vjoin us rest) (suc j) (visits ++ (j ∷ []))))
    split_runs n g k c i j {ks} {js} es ts us rest visits nk rise h e a b l (tail, s) =
        let (low, high) = level_is c (level_of_kind sig k c js nk e) in
        let (v, ev) = end_at last_level 0 (level_of c) es rise (omega arith) in
        let at = i + 2 + length es in
        let behind = links ts (at + count ts) ++ layout_all ts (at + count ts) in
        let s₂ : drop (i + 2) tree ≡ es ++ (behind ++ tail) = sym (drop-drop 2 i tree) ∙ ap (drop 2) s ∙ append_assoc es behind tail in
        let s₃ : drop at tree ≡ behind ++ tail = sym (drop-drop (length es) (i + 2) tree) ∙ ap (drop (length es)) s₂ ∙ drop-append_seam es (behind ++ tail) in
        let r = follow dft sig tree at (place_of (level_of c) es) (level_base + v) tail h (at_map (λ x. level_base + x) es (place_of (level_of c) es) v ev) s₃ in
        let ch = r.of in
        let up : i < ch.link = omega (arith, ch.above) in
        let bare : arguments sig (level_base + v) ≡ js = level_bare sig facts.plain (level_base + v) (omega arith) ∙ sym (level_bare sig facts.plain c low) ∙ args_same sig k c js e in
        rw (leb_yes level_base c low, leb_yes c (level_base + last_level) high, word dft sig tree i 1 (layout (split es ts) i ++ tail) s, s₂, split_append es (behind ++ tail), rise, r.there, ltb_yes i ch.link up, ch.walks (vjoin us rest) (suc j) (visits ++ (j ∷ [])))
        (g ch.child (js ++ ks) ch.link (suc j) (vjoin us rest) (visits ++ (j ∷ [])) (rw (bare, more visits j) at ch.treed) (kindeds_join sig a b) (omega (arith, ch.within)) ch.stands)

    pub run_walks : (n : ℕ) → Runs dft sig tree n
    run_walks zero t ks i j vs visits h k l s = absurd (omega (arith, some_word t))
    run_walks (suc n) (default d) ks i j vs visits (treed_default e) k l (tail, s) = rw (word_0 dft sig tree i (layout (default d) i ++ tail) s, word dft sig tree i 1 (layout (default d) i ++ tail) s, e)
    run_walks (suc n) (hit r p bs) ks i j vs visits (treed_hit a b h) of_kinds_nil l (tail, s) = rw (word_0 dft sig tree i (layout (hit r p bs) i ++ tail) s) (hit_runs dft sig tree r p i j bs visits tail a b h s)
    run_walks (suc n) (test f ts) ks i j vs visits (treed_test {k = k} nk ef h) (of_kinds_cons (of_kind e a) b) l (tail, s) = rw (word_0 dft sig tree i (layout (test f ts) i ++ tail) s) (test_runs n (λ t' ks' i' j' vs' visits'. run_walks n t' ks' i' j' vs' visits') k _ f i j ts _ _ visits nk ef h e a b l (tail, s))
    run_walks (suc n) (split es ts) ks i j vs visits (treed_split {k = k} nk rise h) (of_kinds_cons (of_kind e a) b) l (tail, s) = rw (word_0 dft sig tree i (layout (split es ts) i ++ tail) s) (split_runs n (λ t' ks' i' j' vs' visits'. run_walks n t' ks' i' j' vs' visits') k _ i j es ts _ _ visits nk rise h e a b l (tail, s))
    run_walks (suc n) (skip t) ks i j vs visits (treed_skip {ks = js} h) (of_kinds_cons {vs = rest} (of_kind {c = c} {vs = us} e a) b) l (tail, s) =
        let s₁ : drop (suc i) tree ≡ layout t (suc i) ++ tail = ap (λ m. drop m tree) (sym (add-one i)) ∙ sym (drop-drop 1 i tree) ∙ ap (drop 1) s in
        rw (word_0 dft sig tree i (layout (skip t) i ++ tail) s) (run_walks n t js (suc i) (j + size (con c us)) rest (visits ++ (j ∷ [])) (rw (more visits j) at h) b (omega arith) (tail, s₁))
