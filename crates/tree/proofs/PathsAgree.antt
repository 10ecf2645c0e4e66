-- Along a path, the rows that are left agree on what they bind.
use mathlib.Core.Path.{◌≡◌, refl, subst, ◌∙◌, ap, sym, ap₂}
use mathlib.Core.Logic.{◌⊎◌, inl, inr}
use mathlib.Core.List.{List, map, [], ◌∷◌, ◌++◌}
use mathlib.Core.Option.{Option, some, none}
use mathlib.Core.Bool.{true, Bool, false, ◌&&◌, ◌||◌}
use Prim.Native.Nat.{ℕ, ◌<◌, suc, ◌≤◌, ◌+◌}
use native.Mathlib.Decide.{dec_le}
use native.Mathlib.Omega.{arith}
use lib.Dec.{eqb}
use lib.ListN.{length, get_or, length-append, get_or-append}
use lib.Seq.{get_or-append_seam}
use Rattle.signature.specs.Lawful.{OfKinds, of_kinds_nil, of_kinds_cons, of_kind, OfKind}
use Rattle.signature.specs.Lists.{In, somes, in_there, in_here, All, any}
use Rattle.signature.specs.Signature.{Signature, arguments_at}
use Rattle.signature.specs.Value.{Values, vnil, vcons, con, Value, size}
use Rattle.signature.proofs.Booleans.{or_false}
use Rattle.signature.proofs.Heads.{Small}
use Rattle.signature.proofs.LawfulFacts.{SigFacts, args_small}
use Rattle.signature.proofs.ListFacts.{no_in, in_cases, all_append, rest_of, all_somes, all_map, kept_both, all_in, first_of, in_all}
use Rattle.signature.proofs.Tests.{true≢false, eqb_eq, eqb_self}
use Rattle.pattern.specs.Match.{Binds}
use Rattle.pattern.specs.Places.{binds, Same}
use Rattle.row.specs.Row.{Rows, Row}
use Rattle.row.specs.RowFits.{row_binds}
use Rattle.tree.specs.Compiled.{Leaf}
use Rattle.tree.specs.Leaf.{Rising, rising_cons, rising_nil}
use Rattle.tree.specs.Run.{vjoin}
use Rattle.tree.specs.Tree.{Line, after, taken, refined, passed}
use Rattle.tree.proofs.RowPlaces.{final_binds}
use Rattle.tree.proofs.TreeFacts.{placed, Hit, outcome, Shaped, outcome?, taken_rowed, taken_outcome, passed_rowed, passed_outcome, Roweds, roweds_nil, final}
use Rattle.tree.proofs.TreeRuns.{Neat, neat_shaped, after_neat, taken_drops, passed_drops}

-- a line after a step comes from a line before it
came_from : (step : Line → Option Line) (ls : List Line) (m : Line) → In m (somes (map step ls)) → (l : Line) × In l ls × (step l ≡ some m)
came_from step [] m i = no_in i
came_from step (l ∷ ls) m i = go (step l) refl (came_from step ls m)
  where
    go : (o : Option Line) → step l ≡ o → (In m (somes (map step ls)) → (k : Line) × In k ls × (step k ≡ some m)) → (k : Line) × In k (l ∷ ls) × (step k ≡ some m)
    go none q f = let (k, j, e) = f (subst (λ o. In m (somes (o ∷ map step ls))) q i) in (k, in_there j, e)
    go (some n) q f = on (in_cases (subst (λ o. In m (somes (o ∷ map step ls))) q i))
      where
        on : (m ≡ n) ⊎ In m (somes (map step ls)) → (k : Line) × In k (l ∷ ls) × (step k ≡ some m)
        on (inl e) = (l, in_here, q ∙ ap some (sym e))
        on (inr j) = let (k, j', e) = f j in (k, in_there j', e)

-- places visited one after another rise, and the next stands above them
pub record Visited (visits : List ℕ) (j : ℕ) : Type 0 where
  pub rise : (u w : ℕ) → u < w → w < length visits → get_or visits u 0 < get_or visits w 0
  pub below : (u : ℕ) → u < length visits → get_or visits u 0 < j

pub visited_nil : Visited [] 0
visited_nil = record { rise = λ u w l m. absurd (omega arith); below = λ u l. absurd (omega arith) }

visited_more : (visits : List ℕ) (j j' : ℕ) → j < j' → Visited visits j → Visited (visits ++ (j ∷ [])) j'
visited_more visits j j' l h = record { rise = λ u w a b. go u w a (omega (arith, length-append visits (j ∷ []))); below = λ u a. under u (omega (arith, length-append visits (j ∷ []))) }
  where
    old : (u : ℕ) → u < length visits → get_or (visits ++ (j ∷ [])) u 0 ≡ get_or visits u 0
    old u a = get_or-append visits (j ∷ []) 0 u a

    new : get_or (visits ++ (j ∷ [])) (length visits) 0 ≡ j
    new = get_or-append_seam visits j [] 0

    under : (u : ℕ) → u < suc (length visits) → get_or (visits ++ (j ∷ [])) u 0 < j'
    under u a = on (dec_le (suc u) (length visits))
      where
        on : Dec (u < length visits) → get_or (visits ++ (j ∷ [])) u 0 < j'
        on (yes b) = omega (arith, old u b, h.below u b)
        on (no b) = let z : u ≡ length visits = omega arith in rw (z, new) l

    go : (u w : ℕ) → u < w → w < suc (length visits) → get_or (visits ++ (j ∷ [])) u 0 < get_or (visits ++ (j ∷ [])) w 0
    go u w a b = on (dec_le (suc w) (length visits))
      where
        on : Dec (w < length visits) → get_or (visits ++ (j ∷ [])) u 0 < get_or (visits ++ (j ∷ [])) w 0
        on (yes c) = omega (arith, old u (omega arith), old w c, h.rise u w a c)
        on (no c) =
            let z : w ≡ length visits = omega arith in
            let y : u < length visits = omega arith in
            rw (z, new) (omega (arith, old u y, h.below u y))

visited_one : (visits : List ℕ) (j u w : ℕ) → Visited visits j → u < length visits → w < length visits → get_or visits u 0 ≡ get_or visits w 0 → u ≡ w
visited_one visits j u w h a b e = go (dec_le (suc u) w) (dec_le (suc w) u)
  where
    go : Dec (u < w) → Dec (w < u) → u ≡ w
    go (yes l) d = absurd (omega (arith, h.rise u w l b))
    go (no l) (yes m) = absurd (omega (arith, h.rise w u m a))
    go (no l) (no m) = omega arith

-- bindings by visit that give the same places are the same
rising_in : {m t : ℕ} {bs : Binds} (b : ℕ × ℕ) → Rising m t bs → In b bs → (m ≤ b.0) × (b.1 < t)
rising_in b (rising_nil {m = m} {t = t}) x5 = elim x5 [ ]
rising_in b (rising_cons a c d h) in_here = (a, d)
rising_in b (rising_cons a c d h) (in_there i) = let (x, y) = rising_in b h i in (omega arith, y)

placed_in : (visits : List ℕ) (bs : Binds) (x p : ℕ) → binds x p (placed visits bs) ≡ true → (u : ℕ) × In (x, u) bs × (p ≡ get_or visits u 0)
placed_in visits [] x p e = true≢false (sym e)
placed_in visits (b ∷ bs) x p e = go (eqb x b.0) (eqb p (get_or visits b.1 0)) refl refl (placed_in visits bs x p)
  where
    later : (u : ℕ) × In (x, u) bs × (p ≡ get_or visits u 0) → (u : ℕ) × In (x, u) (b ∷ bs) × (p ≡ get_or visits u 0)
    later (u, i, q) = (u, in_there i, q)

    go : (c d : Bool) → eqb x b.0 ≡ c → eqb p (get_or visits b.1 0) ≡ d → (binds x p (placed visits bs) ≡ true → (u : ℕ) × In (x, u) bs × (p ≡ get_or visits u 0)) → (u : ℕ) × In (x, u) (b ∷ bs) × (p ≡ get_or visits u 0)
    go true true q r f = (b.1, subst (λ z. In (z, b.1) (b ∷ bs)) (sym (eqb_eq x b.0 q)) in_here, eqb_eq p (get_or visits b.1 0) r)
    go true false q r f = later (f (rw (q, r) at e))
    go false d q r f = later (f (rw q at e))

in_placed : (visits : List ℕ) (x u : ℕ) {bs : Binds} → In (x, u) bs → binds x (get_or visits u 0) (placed visits bs) ≡ true
in_placed visits x u in_here = rw (eqb_self x, eqb_self (get_or visits u 0))
in_placed visits x u (in_there {y = b} i) = rw (in_placed visits x u i) (or_true (eqb x b.0 && eqb (get_or visits u 0) (get_or visits b.1 0)))
  where
    or_true : (a : Bool) → (a || true) ≡ true
    or_true true = refl
    or_true false = refl

rising_same : {m k t : ℕ} {bs cs : Binds} → Rising m t bs → Rising k t cs → ((b : ℕ × ℕ) → In b bs → In b cs) → ((b : ℕ × ℕ) → In b cs → In b bs) → bs ≡ cs
rising_same rising_nil rising_nil f g = refl
rising_same rising_nil (rising_cons {x = y} {u = w} a b c h) f g = no_in (g (y, w) in_here)
rising_same (rising_cons {x = x} {u = u} a b c h) rising_nil f g = no_in (f (x, u) in_here)
rising_same (rising_cons {x = x} {u = u} {bs = bs} a b c h) (rising_cons {x = y} {u = w} {bs = cs} a' b' c' l) f g = go (in_cases (f (x, u) in_here)) (in_cases (g (y, w) in_here)) (λ f' g'. rising_same h l f' g')
  where
    below : (s : ℕ × ℕ) → ◌≡◌ {A = ℕ × ℕ} (x, u) (y, w) → In s bs → In s cs
    below s e i = on (in_cases (f s (in_there i)))
      where
        on : (s ≡ (y, w)) ⊎ In s cs → In s cs
        on (inl z) = absurd (let q : s.0 ≡ x = ap (λ v. v.0) (z ∙ sym e) in omega (arith, (rising_in s h i).0))
        on (inr j) = j

    above : (s : ℕ × ℕ) → ◌≡◌ {A = ℕ × ℕ} (x, u) (y, w) → In s cs → In s bs
    above s e i = on (in_cases (g s (in_there i)))
      where
        on : (s ≡ (x, u)) ⊎ In s bs → In s bs
        on (inl z) = absurd (let q : s.0 ≡ y = ap (λ v. v.0) (z ∙ e) in omega (arith, (rising_in s l i).0))
        on (inr j) = j

    same : ◌≡◌ {A = ℕ × ℕ} (x, u) (y, w) → (((s : ℕ × ℕ) → In s bs → In s cs) → ((s : ℕ × ℕ) → In s cs → In s bs) → bs ≡ cs) → (x, u) ∷ bs ≡ (y, w) ∷ cs
    same e k = ap₂ (λ v vs. v ∷ vs) e (k (λ s i. below s e i) (λ s i. above s e i))

    go : (◌≡◌ {A = ℕ × ℕ} (x, u) (y, w)) ⊎ In (x, u) cs → (◌≡◌ {A = ℕ × ℕ} (y, w) (x, u)) ⊎ In (y, w) bs → (((s : ℕ × ℕ) → In s bs → In s cs) → ((s : ℕ × ℕ) → In s cs → In s bs) → bs ≡ cs) → (x, u) ∷ bs ≡ (y, w) ∷ cs
    go (inl e) v k = same e k
    go (inr i) (inl e) k = same (sym e) k
    go (inr i) (inr j) k = absurd (omega (arith, (rising_in (x, u) l i).0, (rising_in (y, w) h j).0))

same_visits : (visits : List ℕ) (j : ℕ) {bs cs : Binds} → Visited visits j → Rising 0 (length visits) bs → Rising 0 (length visits) cs → Same (placed visits bs) (placed visits cs) → bs ≡ cs
same_visits visits j {bs} {cs} v h g s = rising_same h g (λ b i. move h g (λ x p e. sym (s x p) ∙ e) b.0 b.1 i) (λ b i. move g h (λ x p e. s x p ∙ e) b.0 b.1 i)
  where
    move : {bs cs : Binds} → Rising 0 (length visits) bs → Rising 0 (length visits) cs → ((x p : ℕ) → binds x p (placed visits bs) ≡ true → binds x p (placed visits cs) ≡ true) → (x u : ℕ) → In (x, u) bs → In (x, u) cs
    move {bs} {cs} h g f x u i =
        let (w, k, e) = placed_in visits cs x (get_or visits u 0) (f x (get_or visits u 0) (in_placed visits x u i)) in
        let z : w ≡ u = visited_one visits j w u v (rising_in (x, w) g k).1 (rising_in (x, u) h i).1 (sym e) in
        subst (λ y. In (x, y) cs) z k

abbrev pub SameHit : Hit → Hit → Type 0
SameHit a b = (a.0 ≡ b.0) × (a.1 ≡ b.1) × Same a.2 b.2

module _ (sig : Signature) where
  unjoin : (js ks : List ℕ) (vs : Values) → OfKinds sig (js ++ ks) vs → (us : Values) × (rest : Values) × OfKinds sig js us × OfKinds sig ks rest × (vs ≡ vjoin us rest)
  unjoin [] ks vs h = (vnil, vs, of_kinds_nil, h, refl)
  unjoin (j ∷ js) ks vs (of_kinds_cons {v = v} {vs = ws} h g) = let (us, rest, a, b, e) = unjoin js ks ws g in (vcons v us, rest, of_kinds_cons h a, b, ap (vcons v) e)

  -- two lines that fit the same parts are one rule's and bind alike
  abbrev Agree : List ℕ → List Line → List ℕ → ℕ → Type 0
  Agree ks ls visits j = (vs : Values) → OfKinds sig ks vs → (l m : Line) → In l ls → In m ls → (a b : Hit) → outcome visits vs j l ≡ some a → outcome visits vs j m ≡ some b → SameHit a b

  pub record Path (ks : List ℕ) (ls : List Line) (t : ℕ) : Type 0 where
    pub small : All (Small sig) ks
    pub neat : All (Neat sig ks t) ls
    pub visits : List ℕ
    pub place : ℕ
    pub made : length visits ≡ t
    pub visited : Visited visits place
    pub agree : Agree ks ls visits place

module _ (sig : Signature) where
  module _ (facts : SigFacts sig) where
    pub shaped : (ks : List ℕ) (ls : List Line) (t : ℕ) → Path sig ks ls t → All (Shaped sig ks t) ls
    shaped ks ls t p = neat_shaped sig facts p.neat

    -- the lines of a step agree where the lines before it do
    stepped : (visits visits' : List ℕ) (j j' : ℕ) (vs vs' : Values) (step : Line → Option Line) (ls : List Line) → ((l : Line) → In l ls → outcome? visits' vs' j' (step l) ≡ outcome visits vs j l) → ((l m : Line) → In l ls → In m ls → (a b : Hit) → outcome visits vs j l ≡ some a → outcome visits vs j m ≡ some b → SameHit a b) → (l m : Line) → In l (somes (map step ls)) → In m (somes (map step ls)) → (a b : Hit) → outcome visits' vs' j' l ≡ some a → outcome visits' vs' j' m ≡ some b → SameHit a b
    stepped visits visits' j j' vs vs' step ls f g l m i k a b x y =
        let (l₀, i₀, e) = came_from step ls l i in
        let (m₀, k₀, d) = came_from step ls m k in
        g l₀ m₀ i₀ k₀ a b (sym (f l₀ i₀) ∙ ap (outcome? visits' vs' j') e ∙ x) (sym (f m₀ k₀) ∙ ap (outcome? visits' vs' j') d ∙ y)

    pub on_test : (k c : ℕ) (js ks : List ℕ) (ls : List Line) (t : ℕ) → arguments_at sig k c ≡ some js → Path sig (k ∷ ks) ls t → Path sig (js ++ ks) (somes (map (after t (taken sig js c)) ls)) (suc t)
    on_test k c js ks ls t e p = record {
      small = all_append (args_small sig facts k c js e) (rest_of p.small);
      neat = all_somes (all_map (after t (taken sig js c)) (λ a q. after_neat sig t (taken sig js c) a q (kept_both (taken_rowed sig k c e q.cells) (taken_drops sig js c a.cells))) p.neat);
      visits = p.visits ++ (p.place ∷ []);
      place = suc p.place;
      made = omega (arith, length-append p.visits (p.place ∷ []), p.made);
      visited = visited_more p.visits p.place (suc p.place) (omega arith) p.visited;
      agree = λ vs h l m i i' a b x y. go vs (unjoin sig js ks vs h) l m i i' a b x y;
    }
      where
        go : (vs : Values) → (us : Values) × (rest : Values) × OfKinds sig js us × OfKinds sig ks rest × (vs ≡ vjoin us rest) → (l m : Line) → In l (somes (map (after t (taken sig js c)) ls)) → In m (somes (map (after t (taken sig js c)) ls)) → (a b : Hit) → outcome (p.visits ++ (p.place ∷ [])) vs (suc p.place) l ≡ some a → outcome (p.visits ++ (p.place ∷ [])) vs (suc p.place) m ≡ some b → SameHit a b
        go vs (us, rest, hu, hr, q) l m i i' a b x y =
            stepped p.visits (p.visits ++ (p.place ∷ [])) p.place (suc p.place) (vcons (con c us) rest) (vjoin us rest) (after t (taken sig js c)) ls (λ n k'. before n (all_in (shaped (k ∷ ks) ls t p) k')) (p.agree (vcons (con c us) rest) (of_kinds_cons (of_kind e hu) hr)) l m i i' a b (ap (λ z. outcome (p.visits ++ (p.place ∷ [])) z (suc p.place) l) (sym q) ∙ x) (ap (λ z. outcome (p.visits ++ (p.place ∷ [])) z (suc p.place) m) (sym q) ∙ y)
          where
            before : (n : Line) → Shaped sig (k ∷ ks) t n → outcome? (p.visits ++ (p.place ∷ [])) (vjoin us rest) (suc p.place) (after t (taken sig js c) n) ≡ outcome p.visits (vcons (con c us) rest) p.place n
            before n s = ap (λ z. outcome? (p.visits ++ (p.place ∷ [])) (vjoin us rest) (suc p.place) (after z (taken sig js c) n)) (sym p.made) ∙ taken_outcome sig p.visits p.place n.binds (subst (λ z. All (λ b. b.1 < z) n.binds) (sym p.made) s.made) n.rule n.plan k c rest s.cells e hu

all_false : (f : Line → Bool) (ls : List Line) (l : Line) → any f ls ≡ false → In l ls → f l ≡ false
all_false f [] l e x = elim x [ ]
all_false f (m ∷ ls) l e in_here = or_first (f m) (any f ls) e
  where
    or_first : (a b : Bool) → (a || b) ≡ false → a ≡ false
    or_first true b q = true≢false q
    or_first false b q = refl
all_false f (m ∷ ls) l e (in_there i) = all_false f ls l (or_second (f m) (any f ls) e) i
  where
    or_second : (a b : Bool) → (a || b) ≡ false → b ≡ false
    or_second true b q = true≢false q
    or_second false b q = q

module _ (sig : Signature) where
  module _ (facts : SigFacts sig) where
    past_value : (k : ℕ) (ks : List ℕ) (ls : List Line) (t : ℕ) (v : Value) → OfKind sig k v → All (Small sig) ks → any (λ m. refined sig k m.cells) ls ≡ false → Path sig (k ∷ ks) ls t → Path sig ks (somes (map (after t passed) ls)) (suc t)
    past_value k ks ls t v hv ms e p = record {
      small = ms;
      neat = all_somes (all_map (after t passed) (λ a q. after_neat sig t passed a q (kept_both (passed_rowed sig k q.cells) (passed_drops a.cells))) p.neat);
      visits = p.visits ++ (p.place ∷ []);
      place = p.place + size v;
      made = omega (arith, length-append p.visits (p.place ∷ []), p.made);
      visited = visited_more p.visits p.place (p.place + size v) (omega (arith, some_size v)) p.visited;
      agree = λ vs h l m i i' a b x y. stepped sig facts p.visits (p.visits ++ (p.place ∷ [])) p.place (p.place + size v) (vcons v vs) vs (after t passed) ls (λ n k'. before vs n (all_in (shaped sig facts (k ∷ ks) ls t p) k') (all_false (λ m. refined sig k m.cells) ls n e k')) (p.agree (vcons v vs) (of_kinds_cons hv h)) l m i i' a b x y;
    }
      where
        some_size : (v : Value) → 1 ≤ size v
        some_size (con c us) = omega arith

        before : (vs : Values) (n : Line) → Shaped sig (k ∷ ks) t n → refined sig k n.cells ≡ false → outcome? (p.visits ++ (p.place ∷ [])) vs (p.place + size v) (after t passed n) ≡ outcome p.visits (vcons v vs) p.place n
        before vs n s q = ap (λ z. outcome? (p.visits ++ (p.place ∷ [])) vs (p.place + size v) (after z passed n)) (sym p.made) ∙ passed_outcome sig p.visits p.place n.binds (subst (λ z. All (λ b. b.1 < z) n.binds) (sym p.made) s.made) n.rule n.plan k v vs s.cells hv q

    pub on_skip : (k : ℕ) (ks : List ℕ) (ls : List Line) (t : ℕ) → any (λ m. refined sig k m.cells) ls ≡ false → Path sig (k ∷ ks) ls t → Path sig ks (somes (map (after t passed) ls)) (suc t)
    on_skip k ks ls t e p = go (first_of p.small)
      where
        go : Small sig k → Path sig ks (somes (map (after t passed) ls)) (suc t)
        go (v, hv, lv) = past_value k ks ls t v hv (rest_of p.small) e p

    -- at a leaf
    leaf_hit : (visits : List ℕ) (j : ℕ) (l : Line) → Roweds sig [] l.cells → outcome visits vnil j l ≡ some (l.rule, l.plan, placed visits l.binds)
    leaf_hit visits j l h = go l.cells h
      where
        go : (cells : Rows) → Roweds sig [] cells → outcome visits vnil j (record { rule = l.rule; plan = l.plan; binds = l.binds; cells = cells }) ≡ some (l.rule, l.plan, placed visits l.binds)
        go cells roweds_nil = refl

    pub on_leaf : (l : Line) (ls : List Line) (t : ℕ) → Path sig [] (l ∷ ls) t → All (Leaf l.rule l.plan l.binds) (l ∷ ls)
    on_leaf l ls t p = in_all (l ∷ ls) (λ m i. one m i)
      where
        one : (m : Line) → In m (l ∷ ls) → Leaf l.rule l.plan l.binds m
        one m i =
            let n = all_in p.neat in_here in
            let n' = all_in p.neat i in
            let (a, b, s) = p.agree vnil of_kinds_nil l m in_here i (l.rule, l.plan, placed p.visits l.binds) (m.rule, m.plan, placed p.visits m.binds) (leaf_hit p.visits p.place l n.cells) (leaf_hit p.visits p.place m n'.cells) in
            (a, b, same_visits p.visits p.place p.visited (subst (λ z. Rising 0 z l.binds) (sym p.made) n.rising) (subst (λ z. Rising 0 z m.binds) (sym p.made) n'.rising) s)

pub same_final : (w w' : Row) (v : Value) (σ τ : Binds) → ((x j : ℕ) → binds x j σ ≡ row_binds w v 0 x j) → ((x j : ℕ) → binds x j τ ≡ row_binds w' v 0 x j) → Same σ τ → Same (final w v 0 []) (final w' v 0 [])
same_final w w' v σ τ a b s x j = final_binds w v 0 x j [] ∙ or_false (row_binds w v 0 x j) ∙ sym (a x j) ∙ s x j ∙ b x j ∙ sym (or_false (row_binds w' v 0 x j)) ∙ sym (final_binds w' v 0 x j [])
