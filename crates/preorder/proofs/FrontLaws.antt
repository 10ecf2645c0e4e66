-- The words of a node before its links, and the node with its links and children behind them.
use mathlib.Core.Path.{◌≡◌, refl, sym, ap, ap₂, ◌∙◌}
use mathlib.Core.List.{List, [], ◌∷◌, ◌++◌, map, append_assoc, append-nil}
use mathlib.Core.Bool.{Bool, true, false, cond}
use Prim.Native.Nat.{ℕ, suc, ◌+◌, ◌-◌, ◌≤◌, ◌<◌}
use native.Mathlib.Omega.{arith}
use lib.Dec.{eqb}
use lib.ListN.{length, drop, take, set, length-append, drop_of_length-le}
use lib.Seq.{drop-drop, set_at, take_all, drop-cons}
use Rattle.signature.specs.Limits.{level_base}
use Rattle.signature.specs.Lists.{first}
use Rattle.signature.specs.Signature.{Signature, heads, is_number_kind, level_of}
use Rattle.signature.proofs.Tests.{eqb_eq, eqb_no}
use Rattle.sets.specs.Set.{members, Lowest, heads_width, bit}
use Rattle.tree.specs.Tree.{Tree, branch, children}
use Rattle.tree.specs.Words.{words, words_all, count, links, layout, layout_all}
use Rattle.tree.proofs.EndFacts.{split_branch, test_branch}
use Rattle.preorder.specs.Front.{heads_in, front_of, front_length}
use Rattle.preorder.proofs.HeadsLaws.{members_next, count_members, some_members}

pub front_long : (f s : ℕ) → length (front_of f s) ≡ front_length f (length (members s))
front_long f s = go (eqb f level_base)
  where
    go : (b : Bool) → length (cond b (4 ∷ (length (members s) ∷ members s)) (2 ∷ (f ∷ (length (members s) ∷ [])))) ≡ cond b (2 + length (members s)) 3
    go true = omega arith
    go false = refl

pub front_bounds : (f m : ℕ) → (2 ≤ front_length f m) × (front_length f m ≤ 3 + m)
front_bounds f m = go (eqb f level_base)
  where
    go : (b : Bool) → (2 ≤ cond b (2 + m) 3) × (cond b (2 + m) 3 ≤ 3 + m)
    go true = (omega arith, omega arith)
    go false = (omega arith, omega arith)

pub split_room : (f m n : ℕ) → f ≡ level_base → front_length f m ≤ n → 2 + m ≤ n
split_room f m n e l = rw e at l

pub test_room : (f m n : ℕ) → (f ≡ level_base → ⊥) → front_length f m ≤ n → 3 ≤ n
test_room f m n e l = rw (eqb_no f level_base e) at l

-- the words as they are written

module _ (f s m : ℕ) (em : m ≡ length (members s)) where
  pub front_split : (o ys : List ℕ) → f ≡ level_base → 2 + m ≤ length o → ys ≡ members s ++ drop m (take (length (set (set o 0 4) 1 m) - 2) (drop 2 (set (set o 0 4) 1 m))) → take 2 (set (set o 0 4) 1 m) ++ (ys ++ drop (length (set (set o 0 4) 1 m) - 2) (drop 2 (set (set o 0 4) 1 m))) ≡ front_of f s ++ drop (front_length f m) o
  front_split [] ys e l h = absurd (omega arith)
  front_split (x ∷ []) ys e l h = absurd (omega arith)
  front_split (x ∷ (y ∷ o)) ys e l h =
      let n : length (4 ∷ (m ∷ o)) - 2 ≡ length o = omega arith in
      let whole : take (length (4 ∷ (m ∷ o)) - 2) o ≡ o = take_all (length (4 ∷ (m ∷ o)) - 2) o (omega arith) in
      let end : drop (length (4 ∷ (m ∷ o)) - 2) o ≡ [] = drop_of_length-le o {i = length (4 ∷ (m ∷ o)) - 2} (omega arith) in
      let d : drop m o ≡ drop (2 + m) (x ∷ (y ∷ o)) = drop-drop m 2 (x ∷ (y ∷ o)) in
      let z : ys ≡ members s ++ drop m o = h ∙ ap (λ (w : List ℕ). members s ++ drop m w) whole in
      rw (e, ← em) (ap (λ (w : List ℕ). 4 ∷ (m ∷ w)) (ap (λ (w : List ℕ). ys ++ w) end ∙ append-nil ys ∙ z ∙ ap (λ (w : List ℕ). members s ++ w) d))

  pub front_test : (o : List ℕ) → (f ≡ level_base → ⊥) → 3 ≤ length o → set (set (set o 0 2) 1 f) 2 m ≡ front_of f s ++ drop (front_length f m) o
  front_test [] e l = absurd (omega arith)
  front_test (x ∷ []) e l = absurd (omega arith)
  front_test (x ∷ (y ∷ [])) e l = absurd (omega arith)
  front_test (x ∷ (y ∷ (z ∷ o))) e l = rw (eqb_no f level_base e, ← em)

-- members that are written, and those left
pub record Put (s : ℕ) (o₀ : List ℕ) (i left : ℕ) (o : List ℕ) : Type 0 where
  pub done : List ℕ
  pub is : done ++ members left ≡ members s
  pub long : length done ≡ i
  pub list : o ≡ done ++ drop i o₀

pub put_first : (s : ℕ) (o : List ℕ) → Put s o 0 s o
put_first s o = record { done = []; is = refl; long = refl; list = refl }

module _ {s : ℕ} {o₀ : List ℕ} {i left : ℕ} {o : List ℕ} (w : Put s o₀ i left o) where
  pub some_left : i < length (members s) → 0 < left
  some_left l = some_members left (omega (arith, ap length w.is, length-append w.done (members left), w.long))

  pub put_more : (h next : ℕ) → Lowest heads_width left h → ((j : ℕ) → bit next j ≡ cond (eqb j h) 0 (bit left j)) → i < length o → length o ≡ length o₀ → Put s o₀ (i + 1) next (set o i h)
  put_more h next m b l e =
      let q = members_next left next h m b in
      record {
        done = w.done ++ (h ∷ []);
        is = append_assoc w.done (h ∷ []) (members next) ∙ ap (λ xs. w.done ++ xs) (sym q) ∙ w.is;
        long = simp length-append (omega (arith, w.long));
        list = ap (λ xs. set xs i h) (w.list ∙ ap (λ xs. w.done ++ xs) (drop-cons o₀ i 0 (omega arith))) ∙ set_at w.done _ (drop (suc i) o₀) h i w.long ∙ ap (λ (n : ℕ). w.done ++ (h ∷ drop n o₀)) (let z : suc i ≡ i + 1 = omega arith in z) ∙ sym (append_assoc w.done (h ∷ []) (drop (i + 1) o₀));
      }

  pub put_all : (m : ℕ) → m ≡ length (members s) → m ≤ i → i ≤ m → o ≡ members s ++ drop m o₀
  put_all m e k l =
      let q : i ≡ m = omega arith in
      let n : length (members left) ≡ 0 = omega (arith, ap length w.is, length-append w.done (members left), w.long) in
      w.list ∙ ap₂ (λ xs (j : ℕ). xs ++ drop j o₀) (sym (append-nil w.done) ∙ ap (λ xs. w.done ++ xs) (sym (none (members left) n)) ∙ w.is) q
    where
      none : (xs : List ℕ) → length xs ≡ 0 → xs ≡ []
      none [] z = refl
      none (x ∷ xs) z = absurd (omega arith)

-- a node with these words in front and a child for each of these heads
pub record Node (T : Tree) (Fr hs : List ℕ) (child : ℕ → Tree) : Type 0 where
  pub words_are : words T ≡ length Fr + (length hs + words_all (children child hs))
  pub layout_is : (i : ℕ) → layout T i ≡ Fr ++ (links (children child hs) (i + (length Fr + length hs)) ++ layout_all (children child hs) (i + (length Fr + length hs)))

pub count_all : (child : ℕ → Tree) (hs : List ℕ) → count (children child hs) ≡ length hs
count_all child [] = refl
count_all child (h ∷ hs) = ap suc (count_all child hs)

levels_back : (ms : List ℕ) → map level_of (map (λ i. level_base + i) ms) ≡ ms
levels_back [] = refl
levels_back (m ∷ ms) = let q : level_base + m - level_base ≡ m = omega arith in ap₂ (λ x xs. x ∷ xs) q (levels_back ms)

pub node_of : (sig : Signature) (k f s : ℕ) (child : ℕ → Tree) → f ≡ first (heads sig k) → is_number_kind sig k ≡ eqb f level_base → Node (branch sig k (heads_in f s) (children child (heads_in f s))) (front_of f s) (heads_in f s) child
node_of sig k f s child e n = go (is_number_kind sig k) refl
  where
    hs : List ℕ
    hs = heads_in f s

    go : (b : Bool) → is_number_kind sig k ≡ b → Node (branch sig k hs (children child hs)) (front_of f s) hs child
    go false q = rw (test_branch sig k hs (children child hs) q, sym n ∙ q, ← e) (record {
      words_are = omega (arith, count_all child hs);
      layout_is = λ i.
          let c = count_all child hs in
          let m = count_members f s in
          let at : i + 3 + count (children child hs) ≡ i + (3 + length hs) = omega arith in
          rw (at, c ∙ m);
    })
    go true q = rw (split_branch sig k hs (children child hs) q, sym n ∙ q) (record {
      words_are = omega (arith, count_all child hs, ap length ends, count_members f s);
      layout_is = λ i.
          let c = count_all child hs in
          let m = count_members f s in
          let at : i + 2 + length (members s) + count (children child hs) ≡ i + (suc (suc (length (members s))) + length hs) = omega arith in
          rw (ends, at) (ap (λ xs. 4 ∷ (length (members s) ∷ xs)) refl);
    })
      where
        base : f ≡ level_base
        base = eqb_eq f level_base (sym n ∙ q)

        ends : map level_of hs ≡ members s
        ends = ap (λ (x : ℕ). map level_of (map (λ i. x + i) (members s))) base ∙ levels_back (members s)
