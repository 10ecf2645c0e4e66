-- Trees that are compiled have leaves that a run accepts.
use mathlib.Core.Path.{◌≡◌, refl, ◌∙◌, sym, subst}
use mathlib.Core.List.{[], ◌∷◌, List, ◌++◌, map}
use mathlib.Core.Option.{Option, some}
use mathlib.Core.Bool.{Bool, cond, true, false}
use Prim.Native.Nat.{ℕ, ◌+◌, suc, ◌<◌, ◌≤◌, zero}
use native.Mathlib.Decide.{dec_le}
use native.Mathlib.Omega.{arith}
use lib.Dec.{eqb, leb}
use Rattle.signature.specs.Limits.{level_base, last_level}
use Rattle.signature.specs.Lists.{memb, All, none_left, also, any, somes, keep}
use Rattle.signature.specs.Signature.{Signature, arguments, arguments_at, heads, is_number_kind}
use Rattle.signature.proofs.Booleans.{and_left}
use Rattle.signature.proofs.Heads.{args_same, kind_of_head}
use Rattle.signature.proofs.LawfulFacts.{SigFacts}
use Rattle.signature.proofs.ListFacts.{Kept, dropped, kept_when, kept, kept_bind, all_somes, all_map, kept_both, all_imp}
use Rattle.signature.proofs.Members.{all_of, memb_keep}
use Rattle.signature.proofs.Tests.{le_of, eqb_ne, lt_of_not, eqb_self}
use Rattle.pattern.specs.Limits.{variable_count, last_variable}
use Rattle.pattern.specs.Match.{Binds}
use Rattle.pattern.specs.Places.{times, tick}
use Rattle.row.specs.Row.{Rows, rnil, rcons, named, free, open_rows, Row}
use Rattle.row.proofs.OverlapFacts.{Good, good_named, good_free, Goods, goods_nil, goods_cons}
use Rattle.row.proofs.RowCount.{counts, occurs_all, opens_none}
use Rattle.tree.specs.Leaf.{Treed, Treeds, treeds_nil, treeds_cons, treed_default, treed_hit, treed_test, treed_split, treed_skip, Rising, rising_nil, rising_cons}
use Rattle.tree.specs.Limits.{last_number}
use Rattle.tree.specs.Tree.{insert, inserts, rappend, taken, passed, Line, after, Tree, children, compile, refined, is_end, branches, branch}
use Rattle.tree.proofs.CompiledFacts.{refs_lines}
use Rattle.tree.proofs.EndFacts.{heads_rise, heads_back, number_heads, split_branches, test_branches, split_branch, test_branch}
use Rattle.tree.proofs.TreeFacts.{Roweds, taken_rowed, passed_rowed, Rowed, rowed_named, rowed_free, roweds_nil, roweds_cons, Shaped}

-- bindings put in order
pub times_insert : (x y u : ℕ) (bs : Binds) → times x (insert (y, u) bs) ≡ tick (eqb x y) + times x bs
times_insert x y u [] = refl
times_insert x y u (b ∷ bs) = go (leb y b.0) (times_insert x y u bs)
  where
    go : (c : Bool) → times x (insert (y, u) bs) ≡ tick (eqb x y) + times x bs → times x (cond c ((y, u) ∷ (b ∷ bs)) (b ∷ insert (y, u) bs)) ≡ tick (eqb x y) + (tick (eqb x b.0) + times x bs)
    go true h = refl
    go false h = omega arith

pub times_inserts : (x u : ℕ) (xs : List ℕ) (bs : Binds) → times x (inserts u xs bs) ≡ counts x xs + times x bs
times_inserts x u [] bs = omega arith
times_inserts x u (y ∷ xs) bs = omega (arith, times_insert x y u (inserts u xs bs), times_inserts x u xs bs)

rising_more : {m t : ℕ} {bs : Binds} → Rising m t bs → Rising m (suc t) bs
rising_more rising_nil = rising_nil
rising_more (rising_cons {t = t} {u = u} a b c h) =
    let c' : u < suc t = omega arith in
    rising_cons a b c' (rising_more h)

rising_insert : {m t : ℕ} {bs : Binds} (y u : ℕ) → Rising m t bs → m ≤ y → y ≤ last_variable → u < t → times y bs ≡ 0 → Rising m t (insert (y, u) bs)
rising_insert y u rising_nil a b c z = rising_cons a b c rising_nil
rising_insert {m} {t} y u (rising_cons {x = x} {u = w} {bs = bs} d e f h) a b c z = go (leb y x) (eqb y x) refl refl (λ l q. rising_insert y u h l b c q)
  where
    go : (p q : Bool) → leb y x ≡ p → eqb y x ≡ q → (suc x ≤ y → times y bs ≡ 0 → Rising (suc x) t (insert (y, u) bs)) → Rising m t (insert (y, u) ((x, w) ∷ bs))
    go p true r s k = absurd (let o : tick true + times y bs ≡ 0 = rw s at z in omega arith)
    go true false r s k =
        let l : y ≤ x = le_of y x r in
        let n : ¬ (y ≡ x) = eqb_ne y x s in
        let m' : suc y ≤ x = omega arith in
        rw r (rising_cons a b c (rising_cons m' e f h))
    go false false r s k =
        let l : x < y = lt_of_not y x r in
        let o : times y bs ≡ 0 = omega arith in
        rw r (rising_cons d e f (k l o))

rising_inserts : {t : ℕ} {bs : Binds} (u : ℕ) (xs : List ℕ) → Rising 0 t bs → ((x : ℕ) → counts x xs + times x bs ≤ 1) → ((x : ℕ) → variable_count ≤ x → counts x xs ≡ 0) → u < t → Rising 0 t (inserts u xs bs)
rising_inserts u [] h o v l = h
rising_inserts {bs = bs} u (x ∷ xs) h o v l =
    let one : tick (eqb x x) ≡ 1 = rw (eqb_self x) in
    rising_insert x u (rising_inserts u xs h (λ y. omega (arith, o y)) (λ y m. omega (arith, v y m)) l) (omega arith) (low (dec_le x last_variable) one) l (omega (arith, times_inserts x u xs bs, o x))
  where
    low : Dec (x ≤ last_variable) → tick (eqb x x) ≡ 1 → x ≤ last_variable
    low (yes q) one = q
    low (no q) one = absurd (omega (arith, v x (omega arith)))

occurs_join : (x : ℕ) (rs ss : Rows) → occurs_all x (rappend rs ss) ≡ occurs_all x rs + occurs_all x ss
occurs_join x rnil ss = omega arith
occurs_join x (rcons r rs) ss = omega (arith, occurs_join x rs ss)

-- what a step takes from the cells
abbrev Drops : Rows → List ℕ × Rows → Type 0
Drops cells r = (x : ℕ) → counts x r.0 + occurs_all x r.1 ≤ occurs_all x cells

pub taken_drops : (sig : Signature) (js : List ℕ) (c : ℕ) (cells : Rows) → Kept (Drops cells) (taken sig js c cells)
taken_drops sig js c rnil = dropped
taken_drops sig js c (rcons (named xs d rs) ss) = kept_when (eqb d c) (xs, rappend rs ss) (λ x. omega (arith, occurs_join x rs ss))
taken_drops sig js c (rcons (free xs cs) ss) = kept_when (memb c cs) (xs, rappend (open_rows sig js) ss) (λ x. omega (arith, occurs_join x (open_rows sig js) ss, opens_none sig js x))

pub passed_drops : (cells : Rows) → Kept (Drops cells) (passed cells)
passed_drops rnil = dropped
passed_drops (rcons (named xs d rs) ss) = dropped
passed_drops (rcons (free xs cs) ss) = kept (xs, ss) (λ x. omega arith)

module _ (sig : Signature) where
  -- a line whose bindings rise, and with whose cells no variable stands twice
  pub record Neat (ks : List ℕ) (t : ℕ) (l : Line) : Type 0 where
    pub cells : Roweds sig ks l.cells
    pub low : 1 ≤ l.rule
    pub high : l.rule ≤ last_number
    pub rising : Rising 0 t l.binds
    pub once : (x : ℕ) → times x l.binds + occurs_all x l.cells ≤ 1
    pub vars : (x : ℕ) → variable_count ≤ x → occurs_all x l.cells ≡ 0

  pub after_neat : (t : ℕ) {ks js : List ℕ} (step : Rows → Option (List ℕ × Rows)) (l : Line) → Neat ks t l → Kept (λ r. Roweds sig js r.1 × Drops l.cells r) (step l.cells) → Kept (Neat js (suc t)) (after t step l)
  after_neat t step l h p = kept_bind _ (λ r (q : Roweds sig _ r.1 × Drops l.cells r). kept (record { rule = l.rule; plan = l.plan; binds = inserts t r.0 l.binds; cells = r.1 }) (record { cells = q.0; low = h.low; high = h.high; rising = rising_inserts t r.0 (rising_more h.rising) (λ x. omega (arith, h.once x, q.1 x)) (λ x m. omega (arith, h.vars x m, q.1 x)) (omega arith); once = λ x. omega (arith, h.once x, q.1 x, times_inserts x t r.0 l.binds); vars = λ x m. omega (arith, h.vars x m, q.1 x) })) p

  -- the leaves of a compiled tree are in order
  treeds_of : (dft : ℕ) (ks : List ℕ) (t : ℕ) (f : ℕ → Tree) {cs : List ℕ} → All (λ c. Treed dft sig (arguments sig c ++ ks) (suc t) (f c)) cs → Treeds dft sig ks t cs (children f cs)
  treeds_of dft ks t f none_left = treeds_nil
  treeds_of dft ks t f (also c h hs) = treeds_cons h (treeds_of dft ks t f hs)

module _ (dft : ℕ) (sig : Signature) (facts : SigFacts sig) where
  abbrev Leaves : ℕ → Type 0
  Leaves n = (ks : List ℕ) (ls : List Line) (t : ℕ) → All (Neat sig ks t) ls → Treed dft sig ks t (compile dft n sig ks ls t)

  pub compile_treed : (n : ℕ) → Leaves n
  compile_treed zero ks ls t h = treed_default refl
  compile_treed (suc n) ks [] t h = treed_default refl
  compile_treed (suc n) [] (m ∷ ls) t (also x p ps) = treed_hit p.low p.high p.rising
  compile_treed (suc n) (k ∷ ks) (m ∷ ls) t h = go (any (λ a. refined sig k a.cells) (m ∷ ls)) refl (λ ks' ls' t' h'. compile_treed n ks' ls' t' h')
    where
      one : Leaves n → (c : ℕ) → (js : List ℕ) × (arguments_at sig k c ≡ some js) → Treed dft sig (arguments sig c ++ ks) (suc t) (compile dft n sig (arguments sig c ++ ks) (somes (map (after t (taken sig (arguments sig c) c)) (m ∷ ls))) (suc t))
      one f c (js, e) = subst (λ z. Treed dft sig (z ++ ks) (suc t) (compile dft n sig (z ++ ks) (somes (map (after t (taken sig z c)) (m ∷ ls))) (suc t))) (sym (args_same sig k c js e)) (f (js ++ ks) (somes (map (after t (taken sig js c)) (m ∷ ls))) (suc t) (all_somes (all_map (after t (taken sig js c)) (λ a q. after_neat sig t (taken sig js c) a q (kept_both (taken_rowed sig k c e q.cells) (taken_drops sig js c a.cells))) h)))

      next : ℕ → Tree
      next c = compile dft n sig (arguments sig c ++ ks) (somes (map (after t (taken sig (arguments sig c) c)) (m ∷ ls))) (suc t)

      over : Leaves n → (es : List ℕ) → ((c : ℕ) → memb c es ≡ true → memb c (heads sig k) ≡ true) → Treeds dft sig ks t es (children next es)
      over f es i = treeds_of sig dft ks t next (all_of es (λ c e. one f c (kind_of_head sig k c (i c e))))

      tests : Leaves n → (b : Bool) → is_number_kind sig k ≡ b → Treed dft sig (k ∷ ks) t (branch sig k (branches sig k (m ∷ ls)) (children next (branches sig k (m ∷ ls))))
      tests f false p =
          let hs = heads sig k in
          subst (λ es. Treed dft sig (k ∷ ks) t (branch sig k es (children next es))) (sym (test_branches sig k (m ∷ ls) p))
          (subst (Treed dft sig (k ∷ ks) t) (sym (test_branch sig k hs (children next hs) p)) (treed_test p refl (over f hs (λ c e. e))))
      tests f true p =
          let end = is_end (m ∷ ls) in
          let q = number_heads sig k p in
          let es = keep end (heads sig k) in
          let ts = over f es (λ c e. and_left (memb c (heads sig k)) (end c) (sym (memb_keep end c (heads sig k)) ∙ e)) in
          subst (λ es. Treed dft sig (k ∷ ks) t (branch sig k es (children next es))) (sym (split_branches sig k (m ∷ ls) p))
          (subst (Treed dft sig (k ∷ ks) t) (sym (split_branch sig k es (children next es) p))
          (treed_split p (heads_rise end level_base last_level (heads sig k) q refl) (subst (λ cs. Treeds dft sig ks t cs (children next es)) (sym (heads_back end level_base last_level (heads sig k) q refl)) ts)))

      go : (b : Bool) → any (λ a. refined sig k a.cells) (m ∷ ls) ≡ b → Leaves n → Treed dft sig (k ∷ ks) t (compile dft (suc n) sig (k ∷ ks) (m ∷ ls) t)
      go true q f = rw q (tests f (is_number_kind sig k) refl)
      go false q f = rw q (treed_skip (f ks (somes (map (after t passed) (m ∷ ls))) (suc t) (all_somes (all_map (after t passed) (λ a z. after_neat sig t passed a z (kept_both (passed_rowed sig k z.cells) (passed_drops a.cells))) h))))

module _ (sig : Signature) where
  -- rows in which constructors are left are in shape
  mutual
    pub good_rowed : {k : ℕ} {r : Row} → Good sig k r → Rowed sig k r
    good_rowed (good_named l e g) = rowed_named e (goods_rowed g)
    good_rowed (good_free h) = rowed_free

    goods_rowed : {ks : List ℕ} {rs : Rows} → Goods sig ks rs → Roweds sig ks rs
    goods_rowed goods_nil = roweds_nil
    goods_rowed (goods_cons g h) = roweds_cons (good_rowed g) (goods_rowed h)

rising_made : {m t : ℕ} {bs : Binds} → Rising m t bs → All (λ b. b.1 < t) bs
rising_made rising_nil = none_left
rising_made (rising_cons {x = x} {u = u} a b c h) = also (x, u) c (rising_made h)

module _ (sig : Signature) where
  module _ (facts : SigFacts sig) where
    pub neat_shaped : {ks : List ℕ} {t : ℕ} {ls : List Line} → All (Neat sig ks t) ls → All (Shaped sig ks t) ls
    neat_shaped h = all_imp (λ l q. record { cells = q.cells; made = rising_made q.rising }) h

    -- at most 64 refined places in each of at most 256 lines
    pub refs_append : (ks : List ℕ) (ls ms : List Line) → refs_lines sig ks (ls ++ ms) ≡ refs_lines sig ks ls + refs_lines sig ks ms
    refs_append ks [] ms = omega arith
    refs_append ks (l ∷ ls) ms = omega (arith, refs_append ks ls ms)
