-- Rows that are combined stay of their kind.
use mathlib.Core.Path.{refl, ◌≡◌, subst, sym}
use mathlib.Core.List.{List, ◌∷◌, [], ◌++◌, map}
use mathlib.Core.Option.{Option, none, some}
use mathlib.Core.Bool.{Bool, true, false, not}
use Prim.Native.Nat.{ℕ, ◌<◌}
use lib.Dec.{eqb}
use Rattle.signature.specs.Lists.{require, ◌>>=◌, is_empty, memb, keep, somes}
use Rattle.signature.proofs.Tests.{eqb_eq}
use Rattle.cell.specs.Cell.{Kinds}
use Rattle.cell.specs.Coded.{Typed, HeadOfKind, Typeds}
use Rattle.sets.specs.Set.{Within}
use Rattle.rowlist.specs.Product.{AllTyped}
use Rattle.row.specs.Row.{Row, Rows, named, rcons, free, combines, combine, rnil, each}
use Rattle.sets.proofs.ListSets.{within_keep}

-- each row that is there has it
abbrev pub If_some : {A : Type 0} → (A → Type 0) → Option A → Type 0
If_some P none = Unit {0}
If_some P (some a) = P a

module _ (K : Kinds) (ar : List ℕ) where
  typed_require : (b : Bool) (t : Row) (k : ℕ) → Typed K ar t k → If_some (λ t. Typed K ar t k) (require b >>= λ u. some t)
  typed_require true t k h = h
  typed_require false t k h = tt

  typed_named : (zs : List ℕ) (c k : ℕ) (m : Option Rows) → HeadOfKind K ar k c → If_some (λ ts. Typeds K ar ts (K.args c)) m → If_some (λ t. Typed K ar t k) (m >>= λ ts. some (named zs c ts))
  typed_named zs c k none h t = tt
  typed_named zs c k (some ts) h t = (h, t)

  typed_cons : (k : ℕ) (ks : List ℕ) (m : Option Row) (n : Option Rows) → If_some (λ t. Typed K ar t k) m → If_some (λ ts. Typeds K ar ts ks) n
      → If_some (λ ts. Typeds K ar ts (k ∷ ks)) (m >>= λ t. n >>= λ ts. some (rcons t ts))
  typed_cons k ks none n h g = tt
  typed_cons k ks (some t) none h g = tt
  typed_cons k ks (some t) (some ts) h g = (h, g)

  typed_free : (zs es : List ℕ) (k : ℕ) → k < 256 → Within (K.first k) es → If_some (λ t. Typed K ar t k) (require (not (is_empty es)) >>= λ u. some (free zs es))
  typed_free zs [] k l w = tt
  typed_free zs (e ∷ es) k l w = (l, refl, w)

  typed_nn : (b : Bool) (zs : List ℕ) (c d k : ℕ) (rs ss : Rows) → eqb c d ≡ b → HeadOfKind K ar k c → Typeds K ar rs (K.args c) → Typeds K ar ss (K.args d)
      → ((ks : List ℕ) → Typeds K ar rs ks → Typeds K ar ss ks → If_some (λ ts. Typeds K ar ts ks) (combines rs ss))
      → If_some (λ t. Typed K ar t k) (require b >>= λ u. combines rs ss >>= λ ts. some (named zs c ts))
  typed_nn true zs c d k rs ss e h t u ih =
      typed_named zs c k (combines rs ss) h (ih (K.args c) t (subst (λ (n : ℕ). Typeds K ar ss (K.args n)) (sym (eqb_eq c d e)) u))
  typed_nn false zs c d k rs ss e h t u ih = tt

  mutual
    pub typed_combine : (r s : Row) (k : ℕ) → Typed K ar r k → Typed K ar s k → If_some (λ t. Typed K ar t k) (combine r s)
    typed_combine (named xs c rs) (named ys d ss) k t u = typed_nn (eqb c d) (xs ++ ys) c d k rs ss refl t.0 t.1 u.1 (λ ks a b. typed_combines rs ss ks a b)
    typed_combine (named xs c rs) (free ys ds) k t u = typed_require (memb c ds) (named (xs ++ ys) c rs) k t
    typed_combine (free xs cs) (named ys d ss) k t u = typed_require (memb d cs) (named (xs ++ ys) d ss) k u
    typed_combine (free xs cs) (free ys ds) k t u = typed_free (xs ++ ys) (keep (λ c. memb c ds) cs) k t.0 (within_keep (K.first k) (λ c. memb c ds) cs t.2)

    pub typed_combines : (rs ss : Rows) (ks : List ℕ) → Typeds K ar rs ks → Typeds K ar ss ks → If_some (λ ts. Typeds K ar ts ks) (combines rs ss)
    typed_combines rnil rnil ks t u = t
    typed_combines rnil (rcons s ss) ks t u = tt
    typed_combines (rcons r rs) rnil ks t u = tt
    typed_combines (rcons r rs) (rcons s ss) [] t u = absurd t
    typed_combines (rcons r rs) (rcons s ss) (k ∷ ks) t u = typed_cons k ks (combine r s) (combines rs ss) (typed_combine r s k t.0 u.0) (typed_combines rs ss ks t.1 u.1)

  pub typed_append : (k : ℕ) (rs ss : List Row) → AllTyped K ar k rs → AllTyped K ar k ss → AllTyped K ar k (rs ++ ss)
  typed_append k [] ss t u = u
  typed_append k (r ∷ rs) ss t u = (t.0, typed_append k rs ss t.1 u)

  typed_somes : (k : ℕ) (m : Option Row) (ms : List (Option Row)) → If_some (λ t. Typed K ar t k) m → AllTyped K ar k (somes ms) → AllTyped K ar k (somes (m ∷ ms))
  typed_somes k none ms h t = t
  typed_somes k (some r) ms h t = (h, t)

  typed_ones : (k : ℕ) (r : Row) (ss : List Row) (more : List (Option Row)) → Typed K ar r k → AllTyped K ar k ss → AllTyped K ar k (somes more) → AllTyped K ar k (somes (map (combine r) ss ++ more))
  typed_ones k r [] more t u v = v
  typed_ones k r (s ∷ ss) more t u v = typed_somes k (combine r s) (map (combine r) ss ++ more) (typed_combine r s k t u.0) (typed_ones k r ss more t u.1 v)

  pub typed_each : (k : ℕ) (rs ss : List Row) → AllTyped K ar k rs → AllTyped K ar k ss → AllTyped K ar k (somes (each combine rs ss))
  typed_each k [] ss t u = tt
  typed_each k (r ∷ rs) ss t u = typed_ones k r ss (each combine rs ss) t.0 u (typed_each k rs ss t.1 u)
