-- What the loop over the children of a node keeps.
use mathlib.Core.Path.{◌≡◌, refl, sym, ap, ap₂, ◌∙◌}
use mathlib.Core.List.{List, [], ◌∷◌, ◌++◌, append_assoc, append-nil}
use Prim.Native.Nat.{ℕ, suc, ◌+◌, ◌-◌, ◌≤◌}
use native.Mathlib.Omega.{arith}
use lib.ListN.{length, drop, take, set, length-append, drop_of_length-le, take-append-drop, length-drop}
use lib.Seq.{length-take-le, take_all, take_at, drop_at, set_at, drop-drop}
use Rattle.tree.specs.Tree.{Tree, children}
use Rattle.tree.specs.Words.{words, words_all, links, layout, layout_all}
use Rattle.tree.proofs.RunFacts.{length_layout}
use Rattle.path.specs.Wrote.{Wrote}
use Rattle.preorder.proofs.FrontLaws.{Node}

-- The words Fr stand in front, hs have a child, and es of them are left after i children: A is the front with their links, G the words where the other links come, F their words.
pub record Part (b : ℕ) (Fr hs es : List ℕ) (child : ℕ → Tree) (o₀ o : List ℕ) (at i : ℕ) : Type 0 where
  pub A : List ℕ
  pub G : List ℕ
  pub F : List ℕ
  pub head : A ++ links (children child es) (b + at) ≡ Fr ++ links (children child hs) (b + (length Fr + length hs))
  pub body : F ++ layout_all (children child es) (b + at) ≡ layout_all (children child hs) (b + (length Fr + length hs))
  pub list : o ≡ A ++ (G ++ (F ++ drop at o₀))
  pub len_a : length A ≡ length Fr + i
  pub lenG : length G ≡ length es
  pub len_f : at ≡ length Fr + length hs + length F
  pub total : at + words_all (children child es) ≡ length Fr + (length hs + words_all (children child hs))

pub part_none : (b : ℕ) (Fr hs : List ℕ) (child : ℕ → Tree) (X : List ℕ) → length hs ≤ length X → Part b Fr hs hs child (Fr ++ X) (Fr ++ X) (length Fr + length hs) 0
part_none b Fr hs child X h = record {
  A = Fr;
  G = take (length hs) X;
  F = [];
  head = refl;
  body = refl;
  list = ap (λ (l : List ℕ). Fr ++ l) (sym (take-append-drop (length hs) X) ∙ ap (λ (l : List ℕ). take (length hs) X ++ l) (sym rest));
  len_a = omega arith;
  lenG = length-take-le (length hs) X h;
  len_f = omega arith;
  total = omega arith;
}
  where
    rest : drop (length Fr + length hs) (Fr ++ X) ≡ drop (length hs) X
    rest = sym (drop-drop (length hs) (length Fr) (Fr ++ X)) ∙ ap (drop (length hs)) (drop_at Fr X (length Fr) refl)

tail_is : {b : ℕ} {Fr hs es : List ℕ} {child : ℕ → Tree} {o₀ o : List ℕ} {at i : ℕ} → i + length es ≡ length hs → Part b Fr hs es child o₀ o at i → drop at o ≡ drop at o₀
tail_is {o₀ = o₀} {at = at} h p =
    rw (p.list, ← append_assoc p.G p.F (drop at o₀), ← append_assoc p.A (p.G ++ p.F) (drop at o₀))
    (drop_at (p.A ++ (p.G ++ p.F)) (drop at o₀) at (simp length-append (omega (arith, p.len_a, p.lenG, p.len_f))))

-- the link is set, behind the child's words X
link_set : (A G F X D : List ℕ) (g x link : ℕ) → length A ≡ link
    → set ((A ++ ((g ∷ G) ++ F)) ++ ((X ++ D) ++ [])) link x ≡ (A ++ (x ∷ [])) ++ (G ++ ((F ++ X) ++ D))
link_set A G F X D g x link h = simp (append_assoc, append-nil) (set_at A g (G ++ (F ++ (X ++ D))) x link h)

-- a child is written behind, and its link
pub part_more : (b : ℕ) (Fr hs es : List ℕ) (e : ℕ) (child : ℕ → Tree) (o₀ o ys : List ℕ) (at i u : ℕ) → i + suc (length es) ≡ length hs → Part b Fr hs (e ∷ es) child o₀ o at i
    → u ≡ words (child e) → ys ≡ layout (child e) (b + at) ++ drop (words (child e)) (take (length o - at) (drop at o))
    → Part b Fr hs es child o₀ (set (take at o ++ (ys ++ drop (length o - at) (drop at o))) (length Fr + i) (b + at)) (at + u) (i + 1)
part_more b Fr hs es e child o₀ o ys at i u m p eu g0 = go p.G refl
  where
    X : List ℕ
    X = layout (child e) (b + at)

    go : (G : List ℕ) → p.G ≡ G → Part b Fr hs es child o₀ (set (take at o ++ (ys ++ drop (length o - at) (drop at o))) (length Fr + i) (b + at)) (at + u) (i + 1)
    go [] q = absurd (omega (arith, p.lenG, ap length q))
    go (g ∷ G) q =
        let front : take at o ≡ p.A ++ ((g ∷ G) ++ p.F) = ap (take at) (p.list ∙ (simp append_assoc)) ∙ take_at (p.A ++ (p.G ++ p.F)) (drop at o₀) at (simp length-append (omega (arith, p.len_a, p.lenG, p.len_f))) ∙ ap (λ (l : List ℕ). p.A ++ (l ++ p.F)) q in
        let end : drop (length o - at) (drop at o) ≡ [] = drop_of_length-le (drop at o) {i = length o - at} (simp length-drop (omega arith)) in
        let whole : take (length o - at) (drop at o) ≡ drop at o = take_all (length o - at) (drop at o) (simp length-drop (omega arith)) in
        let mid : ys ≡ X ++ drop (at + u) o₀ = g0 ∙ (rw (whole, tail_is m p, drop-drop (words (child e)) at o₀, ← eu)) in
        let step : b + at + words (child e) ≡ b + (at + u) = omega arith in
        record {
          A = p.A ++ ((b + at) ∷ []);
          G = G;
          F = p.F ++ X;
          head = append_assoc p.A ((b + at) ∷ []) _ ∙ ap (λ (l : List ℕ). p.A ++ l) (ap (λ (n : ℕ). (b + at) ∷ links (children child es) n) (sym step)) ∙ p.head;
          body = append_assoc p.F X _ ∙ ap (λ (l : List ℕ). p.F ++ l) (ap (λ (n : ℕ). X ++ layout_all (children child es) n) (sym step)) ∙ p.body;
          list = rw (front, mid, end) (link_set p.A G p.F X (drop (at + u) o₀) g (b + at) (length Fr + i) p.len_a);
          len_a = simp length-append (omega (arith, p.len_a));
          lenG = omega (arith, p.lenG, ap length q);
          len_f = simp length-append (omega (arith, p.len_f, length_layout (child e) (b + at)));
          total = omega (arith, p.total);
        }

-- all children are written
pub part_all : (T : Tree) (b : ℕ) (Fr hs : List ℕ) (child : ℕ → Tree) (e o₀ o : List ℕ) (at i : ℕ) → Node T Fr hs child → o₀ ≡ Fr ++ drop (length Fr) e → at ≤ length e → Part b Fr hs [] child o₀ o at i → Wrote T b at e o
part_all T b Fr hs child e o₀ o at i nd eo l p = go p.G refl
  where
    tail : drop at o₀ ≡ drop at e
    tail =
        let q : length Fr + (at - length Fr) ≡ at = omega (arith, p.len_f) in
        ap (drop at) eo ∙ ap (λ (n : ℕ). drop n (Fr ++ drop (length Fr) e)) (sym q) ∙ sym (drop-drop (at - length Fr) (length Fr) (Fr ++ drop (length Fr) e)) ∙ ap (drop (at - length Fr)) (drop_at Fr (drop (length Fr) e) (length Fr) refl) ∙ drop-drop (at - length Fr) (length Fr) e ∙ ap (λ (n : ℕ). drop n e) q

    go : (G : List ℕ) → p.G ≡ G → Wrote T b at e o
    go (g ∷ G) q = absurd (omega (arith, p.lenG, ap length q))
    go [] q =
        let start = b + (length Fr + length hs) in
        let end : at ≡ words T = omega (arith, p.total, nd.words_are) in
        let hd : p.A ≡ Fr ++ links (children child hs) start = sym (append-nil p.A) ∙ p.head in
        let bd : p.F ≡ layout_all (children child hs) start = sym (append-nil p.F) ∙ p.body in
        record {
          much = omega arith;
          wrote = λ w.
              p.list ∙ ap (λ (l : List ℕ). p.A ++ (l ++ (p.F ++ drop at o₀))) q
              ∙ ap₂ (λ (x y : List ℕ). x ++ (y ++ drop at o₀)) hd bd
              ∙ append_assoc Fr (links (children child hs) start) (layout_all (children child hs) start ++ drop at o₀)
              ∙ ap (λ (l : List ℕ). Fr ++ l) (sym (append_assoc (links (children child hs) start) (layout_all (children child hs) start) (drop at o₀)))
              ∙ sym (append_assoc Fr (links (children child hs) start ++ layout_all (children child hs) start) (drop at o₀))
              ∙ ap₂ (λ (x y : List ℕ). x ++ y) (sym (nd.layout_is b)) (tail ∙ ap (λ (n : ℕ). drop n e) end);
        }
