-- The rows of a well-formed pattern are of its kind.
use mathlib.Core.Path.{◌≡◌, refl, subst, sym}
use mathlib.Core.List.{List, [], ◌∷◌, ◌++◌, map}
use mathlib.Core.Option.{some}
use mathlib.Core.Bool.{Bool, true, false, not}
use Prim.Native.Nat.{ℕ, ◌<◌}
use native.Mathlib.Omega.{arith}
use lib.Dec.{eqb}
use Rattle.signature.specs.Decoded.{Known}
use Rattle.signature.specs.Lists.{All, none_left, also, keep}
use Rattle.signature.specs.Signature.{heads, arguments_at}
use Rattle.signature.proofs.Heads.{row_of, args_same}
use Rattle.signature.proofs.KnownFacts.{words_of, plain}
use Rattle.signature.proofs.ListFacts.{all_at}
use Rattle.pattern.specs.Pattern.{Pattern, head, and, or, wild, absurd_pat, neg, var, range, Patterns, pnil, pcons}
use Rattle.pattern.specs.Range.{within}
use Rattle.pattern.specs.WellFormed.{WellFormed, well_head, well_and, well_or, well_not, AllWellFormed, well_nil, well_cons}
use Rattle.rowlist.specs.Sides.{rows_of}
use Rattle.cell.specs.Coded.{kinds_of, Typed, Typeds}
use Rattle.sets.specs.Set.{Within}
use Rattle.rowlist.specs.Product.{AllTyped}
use Rattle.row.specs.Row.{named, rcons, each, allowing, other_than, open_row, open_rows, rows_plus, rows_minus, args_plus, args_minus}
use Rattle.cell.specs.RowList.{Every}
use Rattle.rowlist.proofs.Typed.{typed_each, typed_append}
use Rattle.rowlist.proofs.Kinded.{known_head, open_kind, kinds_same}
use Rattle.sets.proofs.ListSets.{within_keep}

pub every_append : {A : Type 0} (P : A → Type 0) (xs ys : List A) → Every P xs → Every P ys → Every P (xs ++ ys)
every_append P [] ys h g = g
every_append P (a ∷ xs) ys h g = (h.0, every_append P xs ys h.1 g)

every_map : {A B : Type 0} (P : A → Type 0) (Q : B → Type 0) (f : A → B) → ((a : A) → P a → Q (f a)) → (xs : List A) → Every P xs → Every Q (map f xs)
every_map P Q f h [] e = tt
every_map P Q f h (a ∷ xs) e = (h a e.0, every_map P Q f h xs e.1)

every_each : {A B C : Type 0} (P : A → Type 0) (Q : B → Type 0) (R : C → Type 0) (f : A → B → C) → ((a : A) (b : B) → P a → Q b → R (f a b)) → (xs : List A) (ys : List B) → Every P xs → Every Q ys → Every R (each f xs ys)
every_each P Q R f h [] ys e g = tt
every_each P Q R f h (a ∷ xs) ys e g = every_append R (map (f a) ys) (each f xs ys) (every_map Q R (f a) (λ b q. h a b e.0 q) ys g) (every_each P Q R f h xs ys e.1 g)

module _ {t : List ℕ} (g : Known t) where
  -- argument kinds exist
  pub args_there : (k c : ℕ) (ks : List ℕ) → arguments_at g.sig k c ≡ some ks → All (λ j. j < g.decoded.n) ks
  args_there k c ks e =
      let q = row_of g.sig (plain g) k c ks e in
      subst (λ (n : ℕ). All (λ j. j < n) ks) (sym (kinds_same g)) (subst (λ (js : List ℕ). All (λ j. j < (words_of g).n) js) q.4 (all_at (words_of g).args_exist q.0 q.1 q.2))

  typed_open : (k : ℕ) → k < g.decoded.n → Typed (kinds_of g.sig) t (open_row g.sig k) k
  typed_open k l = let o = open_kind g k l in (o.kind, o.some, o.within)

  typed_opens : (ks : List ℕ) → All (λ j. j < g.decoded.n) ks → Typeds (kinds_of g.sig) t (open_rows g.sig ks) ks
  typed_opens [] none_left = tt
  typed_opens (k ∷ ks) (also j l h) = (typed_open k l, typed_opens ks h)

  -- the row of the heads that pass a test
  typed_keep : (k : ℕ) (f : ℕ → Bool) → k < g.decoded.n → AllTyped (kinds_of g.sig) t k (allowing (keep f (heads g.sig k)))
  typed_keep k f l = go (keep f (heads g.sig k)) (within_keep _ f (heads g.sig k) (open_kind g k l).within)
    where
      go : (cs : List ℕ) → Within ((kinds_of g.sig).first k) cs → AllTyped (kinds_of g.sig) t k (allowing cs)
      go [] w = tt
      go (d ∷ ds) w = (((open_kind g k l).kind, refl, w), tt)

  mutual
    pub typed_rows : (p : Pattern) (b : Bool) (k : ℕ) → k < g.decoded.n → WellFormed g.sig k p → AllTyped (kinds_of g.sig) t k (rows_of g.sig k b p)
    typed_rows (head c ps) true k l (well_head {ks = ks} i e h) =
        rw (args_same g.sig k c ks e)
        (every_map (λ rs. Typeds (kinds_of g.sig) t rs ks) (λ r. Typed (kinds_of g.sig) t r k) (named [] c) (λ rs a. (known_head g k c ks (omega (arith, i)) e, rw (args_same g.sig k c ks e) a)) (args_plus g.sig ks ps) (typed_args_plus ps ks (args_there k c ks e) h))
    typed_rows (head c ps) false k l (well_head {ks = ks} i e h) =
        rw (args_same g.sig k c ks e)
        (typed_append (kinds_of g.sig) t k (other_than g.sig k c) (map (named [] c) (args_minus g.sig ks ps)) (typed_keep k (λ d. not (eqb c d)) l)
        (every_map (λ rs. Typeds (kinds_of g.sig) t rs ks) (λ r. Typed (kinds_of g.sig) t r k) (named [] c) (λ rs a. (known_head g k c ks (omega (arith, i)) e, rw (args_same g.sig k c ks e) a)) (args_minus g.sig ks ps) (typed_args_minus ps ks (args_there k c ks e) h)))
    typed_rows (and p q) true k l (well_and h i) = typed_each (kinds_of g.sig) t k (rows_plus g.sig k p) (rows_plus g.sig k q) (typed_rows p true k l h) (typed_rows q true k l i)
    typed_rows (and p q) false k l (well_and h i) = typed_append (kinds_of g.sig) t k (rows_minus g.sig k p) (rows_minus g.sig k q) (typed_rows p false k l h) (typed_rows q false k l i)
    typed_rows (or p q) true k l (well_or h i) = typed_append (kinds_of g.sig) t k (rows_plus g.sig k p) (rows_plus g.sig k q) (typed_rows p true k l h) (typed_rows q true k l i)
    typed_rows (or p q) false k l (well_or h i) = typed_each (kinds_of g.sig) t k (rows_minus g.sig k p) (rows_minus g.sig k q) (typed_rows p false k l h) (typed_rows q false k l i)
    typed_rows wild true k l h = (typed_open k l, tt)
    typed_rows wild false k l h = tt
    typed_rows absurd_pat true k l h = tt
    typed_rows absurd_pat false k l h = (typed_open k l, tt)
    typed_rows (neg p) true k l (well_not h) = typed_rows p false k l h
    typed_rows (neg p) false k l (well_not h) = typed_rows p true k l h
    typed_rows (var x) true k l h = (typed_open k l, tt)
    typed_rows (var x) false k l h = tt
    typed_rows (range low high) true k l h = typed_keep k (λ d. within low high d) l
    typed_rows (range low high) false k l h = typed_keep k (λ d. not (within low high d)) l

    pub typed_args_plus : (ps : Patterns) (ks : List ℕ) → All (λ j. j < g.decoded.n) ks → AllWellFormed g.sig ks ps → Every (λ rs. Typeds (kinds_of g.sig) t rs ks) (args_plus g.sig ks ps)
    typed_args_plus pnil [] none_left well_nil = (tt, tt)
    typed_args_plus (pcons p ps) (k ∷ ks) (also j l m) (well_cons h i) =
        every_each (λ r. Typed (kinds_of g.sig) t r k) (λ rs. Typeds (kinds_of g.sig) t rs ks) (λ rs. Typeds (kinds_of g.sig) t rs (k ∷ ks)) rcons (λ r rs a b. (a, b)) (rows_plus g.sig k p) (args_plus g.sig ks ps) (typed_rows p true k l h) (typed_args_plus ps ks m i)
    typed_args_plus pnil (k ∷ ks) _ x9 = elim x9 [ ]
    typed_args_plus (pcons p ps) [] _ x10 = elim x10 [ ]

    pub typed_args_minus : (ps : Patterns) (ks : List ℕ) → All (λ j. j < g.decoded.n) ks → AllWellFormed g.sig ks ps → Every (λ rs. Typeds (kinds_of g.sig) t rs ks) (args_minus g.sig ks ps)
    typed_args_minus pnil [] none_left well_nil = tt
    typed_args_minus (pcons p ps) (k ∷ ks) (also j l m) (well_cons h i) =
        every_append (λ rs. Typeds (kinds_of g.sig) t rs (k ∷ ks)) (map (λ r. rcons r (open_rows g.sig ks)) (rows_minus g.sig k p)) (map (rcons (open_row g.sig k)) (args_minus g.sig ks ps))
        (every_map (λ r. Typed (kinds_of g.sig) t r k) (λ rs. Typeds (kinds_of g.sig) t rs (k ∷ ks)) (λ r. rcons r (open_rows g.sig ks)) (λ r a. (a, typed_opens ks m)) (rows_minus g.sig k p) (typed_rows p false k l h))
        (every_map (λ rs. Typeds (kinds_of g.sig) t rs ks) (λ rs. Typeds (kinds_of g.sig) t rs (k ∷ ks)) (rcons (open_row g.sig k)) (λ rs a. (typed_open k l, a)) (args_minus g.sig ks ps) (typed_args_minus ps ks m i))
    typed_args_minus pnil (k ∷ ks) _ x9 = elim x9 [ ]
    typed_args_minus (pcons p ps) [] _ x10 = elim x10 [ ]
