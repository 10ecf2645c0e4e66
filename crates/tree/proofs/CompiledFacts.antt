-- The four rules: one tree only, and a bound that is enough for it.
use mathlib.Core.Path.{◌≡◌, ap, ◌∙◌, sym, ap₂, refl, subst}
use mathlib.Core.List.{List, ◌∷◌, [], ◌++◌, map}
use mathlib.Core.Option.{Option, none, some}
use mathlib.Core.Bool.{not, Bool, true, false, ◌||◌}
use Prim.Native.Nat.{ℕ, suc, ◌+◌, ◌≤◌, ◌*◌, ◌<◌, zero}
use native.Mathlib.Omega.{arith}
use lib.Dec.{eqb}
use lib.ListN.{length, length-append}
use Rattle.signature.specs.Limits.{argument_limit}
use Rattle.signature.specs.Lists.{All, also, all, memb, somes, any, none_left}
use Rattle.signature.specs.Signature.{Signature, arguments, heads, arguments_at}
use Rattle.signature.proofs.Heads.{open_refs, same_args, args_same, kind_of_head}
use Rattle.signature.proofs.Members.{all_of}
use Rattle.signature.proofs.Tests.{true≢false, eqb_eq}
use Rattle.pattern.specs.Places.{tick}
use Rattle.pattern.proofs.Once.{tick_one}
use Rattle.row.specs.Row.{Row, named, free, Rows, rnil, rcons, open_rows}
use Rattle.row.specs.RowFits.{place_count, places_count}
use Rattle.tree.specs.Compiled.{Leaf, Compiled, no_rows, no_columns, tested, skipped, Children, no_child, child}
use Rattle.tree.specs.Tree.{Line, hit, Tree, default, skip, Trees, tcons, rappend, after, taken, refined, branches, branch, passed, compile, children}
use Rattle.tree.proofs.EndFacts.{branch_head}
use Rattle.tree.proofs.TreeFacts.{Roweds, roweds_nil, roweds_cons, rowed_named, rowed_free, opens_rowed, Shaped}

first_leaf : {r p : ℕ} {bs : List (ℕ × ℕ)} {l : Line} {ls : List Line} → All (Leaf r p bs) (l ∷ ls) → Leaf r p bs l
first_leaf (also x h hs) = h

same_leaf : {r p r' p' : ℕ} {bs bs' : List (ℕ × ℕ)} (l : Line) → Leaf r p bs l → Leaf r' p' bs' l → hit r p bs ≡ hit r' p' bs'
same_leaf l (a, b, c) (a', b', c') = rw (a, b, c, a', b', c')

module _ (dft : ℕ) (sig : Signature) where
  -- one tree only
  mutual
    pub compiled_only : {ks : List ℕ} {ls : List Line} {t : ℕ} {a b : Tree} → Compiled dft sig ks ls t a → Compiled dft sig ks ls t b → a ≡ b
    compiled_only (no_rows x) (no_rows y) = ap default (x ∙ sym y)
    compiled_only (no_columns {l = l} h) (no_columns g) = same_leaf l (first_leaf h) (first_leaf g)
    compiled_only (tested {k = k} {l = l} {ls = ls} x e c) (tested y f d) = x ∙ ap (branch sig k (branches sig k (l ∷ ls))) (children_only c d) ∙ sym y
    compiled_only (tested x e c) (skipped f d) = true≢false (sym e ∙ f)
    compiled_only (skipped e c) (tested y f d) = true≢false (sym f ∙ e)
    compiled_only (skipped e c) (skipped f d) = ap skip (compiled_only c d)

    children_only : {ks : List ℕ} {ls : List Line} {t : ℕ} {cs : List ℕ} {a b : Trees} → Children dft sig ks ls t cs a → Children dft sig ks ls t cs b → a ≡ b
    children_only no_child no_child = refl
    children_only (child c cs) (child d ds) = ap₂ tcons (compiled_only c d) (children_only cs ds)

module _ (sig : Signature) where
  -- how many places of a row are refined
  abbrev mutual
    pub refs : ℕ → Row → ℕ
    refs k (named xs c rs) = suc (refs_all (arguments sig c) rs)
    refs k (free xs cs) = tick (not (all (λ c. memb c cs) (heads sig k)))

    pub refs_all : List ℕ → Rows → ℕ
    refs_all ks rnil = 0
    refs_all [] (rcons r rs) = 0
    refs_all (k ∷ ks) (rcons r rs) = refs k r + refs_all ks rs

  abbrev pub refs_lines : List ℕ → List Line → ℕ
  refs_lines ks [] = 0
  refs_lines ks (l ∷ ls) = refs_all ks l.cells + refs_lines ks ls

  -- at most its places
  mutual
    pub refs_places : (r : Row) (k : ℕ) → refs k r ≤ place_count r
    refs_places (named xs c rs) k = omega (arith, refs_places_all rs (arguments sig c))
    refs_places (free xs cs) k = tick_one (not (all (λ c. memb c cs) (heads sig k)))

    refs_places_all : (rs : Rows) (ks : List ℕ) → refs_all ks rs ≤ places_count rs
    refs_places_all rnil ks = omega arith
    refs_places_all (rcons r rs) [] = omega arith
    refs_places_all (rcons r rs) (k ∷ ks) = omega (arith, refs_places r k, refs_places_all rs ks)

  refs_join : {js : List ℕ} {rs : Rows} → Roweds sig js rs → (ks : List ℕ) (ss : Rows) → refs_all (js ++ ks) (rappend rs ss) ≡ refs_all js rs + refs_all ks ss
  refs_join roweds_nil ks ss = omega arith
  refs_join (roweds_cons {k = k} {r = r} p q) ks ss = omega (arith, refs_join q ks ss)

  refs_open : (js : List ℕ) → refs_all js (open_rows sig js) ≡ 0
  refs_open [] = refl
  refs_open (k ∷ js) = rw (open_refs sig k) (omega (arith, refs_open js))

  -- what is left of a line
  abbrev left_refs : List ℕ → Option Line → ℕ
  left_refs ks none = 0
  left_refs ks (some l) = refs_all ks l.cells

  taken_refs : (t k c : ℕ) {js ks : List ℕ} (l : Line) → arguments_at sig k c ≡ some js → Roweds sig (k ∷ ks) l.cells → left_refs (js ++ ks) (after t (taken sig js c) l) + tick (refined sig k l.cells) ≤ refs_all (k ∷ ks) l.cells
  taken_refs t k c {js} {ks} l e h = go l.cells h l.rule l.plan l.binds
    where
      go : (cells : Rows) → Roweds sig (k ∷ ks) cells → (a b : ℕ) (σ : List (ℕ × ℕ)) → left_refs (js ++ ks) (after t (taken sig js c) (record { rule = a; plan = b; binds = σ; cells = cells })) + tick (refined sig k cells) ≤ refs_all (k ∷ ks) cells
      go cells (roweds_cons {rs = ss} (rowed_named {c = d} {xs = xs} {js = is} {rs = qs} e' p) q) a b σ = on (eqb d c) refl
        where
          on : (z : Bool) → eqb d c ≡ z → left_refs (js ++ ks) (after t (taken sig js c) (record { rule = a; plan = b; binds = σ; cells = rcons (named xs d qs) ss })) + 1 ≤ suc (refs_all (arguments sig d) qs) + refs_all ks ss
          on true z =
              let same : is ≡ js = sym (same_args sig k d c e' e (eqb_eq d c z)) in
              let p' : Roweds sig js qs = subst (λ w. Roweds sig w qs) same p in
              let ar : arguments sig d ≡ js = args_same sig k d is e' ∙ same in
              rw (z, refs_join p' ks ss, ar) (omega arith)
          on false z = rw z (omega arith)
      go cells (roweds_cons {rs = ss} (rowed_free {xs = xs} {cs = cs}) q) a b σ = on (memb c cs) refl
        where
          on : (z : Bool) → memb c cs ≡ z → left_refs (js ++ ks) (after t (taken sig js c) (record { rule = a; plan = b; binds = σ; cells = rcons (free xs cs) ss })) + tick (not (all (λ x. memb x cs) (heads sig k))) ≤ tick (not (all (λ x. memb x cs) (heads sig k))) + refs_all ks ss
          on true z = rw (z, refs_join (opens_rowed sig js) ks ss, refs_open js) (omega arith)
          on false z = rw z (omega arith)

  passed_refs : (t k : ℕ) {ks : List ℕ} (l : Line) → Roweds sig (k ∷ ks) l.cells → left_refs ks (after t passed l) ≤ refs_all (k ∷ ks) l.cells
  passed_refs t k {ks} l h = go l.cells h l.rule l.plan l.binds
    where
      go : (cells : Rows) → Roweds sig (k ∷ ks) cells → (a b : ℕ) (σ : List (ℕ × ℕ)) → left_refs ks (after t passed (record { rule = a; plan = b; binds = σ; cells = cells })) ≤ refs_all (k ∷ ks) cells
      go cells (roweds_cons (rowed_named e p) q) a b σ = omega arith
      go cells (roweds_cons rowed_free q) a b σ = omega arith

  refs_somes : (ks : List ℕ) (o : Option Line) (os : List (Option Line)) → refs_lines ks (somes (o ∷ os)) ≡ left_refs ks o + refs_lines ks (somes os)
  refs_somes ks none os = omega arith
  refs_somes ks (some l) os = refl

tick_or : (a b : Bool) → tick (a || b) ≤ tick a + tick b
tick_or true b = omega arith
tick_or false b = omega arith

module _ (sig : Signature) where
  lines_taken : (t u k c : ℕ) {js ks : List ℕ} {ls : List Line} → arguments_at sig k c ≡ some js → All (Shaped sig (k ∷ ks) u) ls → refs_lines sig (js ++ ks) (somes (map (after t (taken sig js c)) ls)) + tick (any (λ m. refined sig k m.cells) ls) ≤ refs_lines sig (k ∷ ks) ls
  lines_taken t u k c e none_left = omega arith
  lines_taken t u k c {js} {ks} e (also l {xs = ls} h hs) = omega (arith, refs_somes sig (js ++ ks) (after t (taken sig js c) l) (map (after t (taken sig js c)) ls), taken_refs sig t k c l e h.cells, lines_taken t u k c e hs, tick_or (refined sig k l.cells) (any (λ m. refined sig k m.cells) ls))

  lines_passed : (t u k : ℕ) {ks : List ℕ} {ls : List Line} → All (Shaped sig (k ∷ ks) u) ls → refs_lines sig ks (somes (map (after t passed) ls)) ≤ refs_lines sig (k ∷ ks) ls
  lines_passed t u k none_left = omega arith
  lines_passed t u k {ks} (also l {xs = ls} h hs) = omega (arith, refs_somes sig ks (after t passed l) (map (after t passed) ls), passed_refs sig t k l h.cells, lines_passed t u k hs)

module _ (dft : ℕ) (sig : Signature) where
  module _ (few : (k c : ℕ) (js : List ℕ) → arguments_at sig k c ≡ some js → length js ≤ argument_limit) (Inv : List ℕ → List Line → ℕ → Type 0) (inv_shaped : (ks : List ℕ) (ls : List Line) (t : ℕ) → Inv ks ls t → All (Shaped sig ks t) ls) (inv_leaf : (l : Line) (ls : List Line) (t : ℕ) → Inv [] (l ∷ ls) t → All (Leaf l.rule l.plan l.binds) (l ∷ ls)) (inv_test : (k c : ℕ) (js ks : List ℕ) (ls : List Line) (t : ℕ) → arguments_at sig k c ≡ some js → Inv (k ∷ ks) ls t → Inv (js ++ ks) (somes (map (after t (taken sig js c)) ls)) (suc t)) (inv_skip : (k : ℕ) (ks : List ℕ) (ls : List Line) (t : ℕ) → any (λ m. refined sig k m.cells) ls ≡ false → Inv (k ∷ ks) ls t → Inv ks (somes (map (after t passed) ls)) (suc t)) where
    abbrev Ends : ℕ → Type 0
    Ends n = (ks : List ℕ) (ls : List Line) (t : ℕ) → Inv ks ls t → 4 * (refs_lines sig) ks ls + length ks < n → Compiled dft sig ks ls t (compile dft n sig ks ls t)

    children_of : (ks : List ℕ) (ls : List Line) (t : ℕ) (f : ℕ → Tree) {cs : List ℕ} → All (λ c. Compiled dft sig (arguments sig c ++ ks) (somes (map (after t (taken sig (arguments sig c) c)) ls)) (suc t) (f c)) cs → Children dft sig ks ls t cs (children f cs)
    children_of ks ls t f none_left = no_child
    children_of ks ls t f (also c h hs) = child h (children_of ks ls t f hs)

    -- fuel above 4 for each refined place and 1 for each column is enough
    pub compile_ends : (n : ℕ) → Ends n
    compile_ends zero ks ls t h l = absurd (omega arith)
    compile_ends (suc n) ks [] t h l = no_rows refl
    compile_ends (suc n) [] (m ∷ ls) t h l = no_columns (inv_leaf m ls t h)
    compile_ends (suc n) (k ∷ ks) (m ∷ ls) t h l = go (any (λ a. refined sig k a.cells) (m ∷ ls)) refl (λ ks' ls' t' h' l'. compile_ends n ks' ls' t' h' l')
      where
        one : any (λ a. refined sig k a.cells) (m ∷ ls) ≡ true → Ends n → (c : ℕ) → (js : List ℕ) × (arguments_at sig k c ≡ some js) → Compiled dft sig (arguments sig c ++ ks) (somes (map (after t (taken sig (arguments sig c) c)) (m ∷ ls))) (suc t) (compile dft n sig (arguments sig c ++ ks) (somes (map (after t (taken sig (arguments sig c) c)) (m ∷ ls))) (suc t))
        one q f c (js, e) =
            let less : refs_lines sig (js ++ ks) (somes (map (after t (taken sig js c)) (m ∷ ls))) + tick (any (λ a. refined sig k a.cells) (m ∷ ls)) ≤ refs_lines sig (k ∷ ks) (m ∷ ls) = lines_taken sig t t k c e (inv_shaped (k ∷ ks) (m ∷ ls) t h) in
            let less' : refs_lines sig (js ++ ks) (somes (map (after t (taken sig js c)) (m ∷ ls))) + 1 ≤ refs_lines sig (k ∷ ks) (m ∷ ls) = rw q at less in
            subst (λ z. Compiled dft sig (z ++ ks) (somes (map (after t (taken sig z c)) (m ∷ ls))) (suc t) (compile dft n sig (z ++ ks) (somes (map (after t (taken sig z c)) (m ∷ ls))) (suc t))) (sym (args_same sig k c js e)) (f (js ++ ks) (somes (map (after t (taken sig js c)) (m ∷ ls))) (suc t) (inv_test k c js ks (m ∷ ls) t e h) (omega (arith, few k c js e, length-append js ks)))

        go : (b : Bool) → any (λ a. refined sig k a.cells) (m ∷ ls) ≡ b → Ends n → Compiled dft sig (k ∷ ks) (m ∷ ls) t (compile dft (suc n) sig (k ∷ ks) (m ∷ ls) t)
        go true q f = rw q (tested refl q (children_of ks (m ∷ ls) t (λ c. compile dft n sig (arguments sig c ++ ks) (somes (map (after t (taken sig (arguments sig c) c)) (m ∷ ls))) (suc t)) (all_of (branches sig k (m ∷ ls)) (λ c e. one q f c (kind_of_head sig k c (branch_head sig k (m ∷ ls) c e))))))
        go false q f = rw q (skipped q (f ks (somes (map (after t passed) (m ∷ ls))) (suc t) (inv_skip k ks (m ∷ ls) t q h) (omega (arith, lines_passed sig t t k (inv_shaped (k ∷ ks) (m ∷ ls) t h)))))
