-- The product of two rows fits what both fit.
use mathlib.Core.Path.{◌≡◌, sym, refl, ◌∙◌, ap, ap₂}
use mathlib.Core.List.{List, ◌++◌}
use mathlib.Core.Option.{Option, some, none}
use mathlib.Core.Bool.{◌&&◌, Bool, true, false}
use Prim.Native.Nat.{ℕ}
use lib.Dec.{eqb}
use Rattle.signature.specs.Lists.{◌>>=◌, require, memb, is_empty, keep}
use Rattle.signature.specs.Value.{Values, con, Value, vcons, vnil}
use Rattle.signature.proofs.Booleans.{and_false, and_true, and_both, apart, and_comm, and_pairs}
use Rattle.signature.proofs.Members.{memb_empty, memb_keep}
use Rattle.signature.proofs.Tests.{eqb_eq}
use Rattle.row.specs.Row.{Rows, named, Row, rcons, combine, free, combines, rnil}
use Rattle.row.specs.RowFits.{row_fits, rows_fit}
use Rattle.row.proofs.Kept.{kept_fits, kept_fit}

-- whether two rows as one fit
kept_named : (xs : List ℕ) (c d : ℕ) (vs : Values) (m : Option Rows) → kept_fits (m >>= λ ts. some (named xs c ts)) (con d vs) ≡ (eqb c d && kept_fit m vs)
kept_named xs c d vs none = sym (and_false (eqb c d))
kept_named xs c d vs (some ts) = refl

kept_cons : (v : Value) (vs : Values) (m : Option Row) (n : Option Rows) → kept_fit (m >>= λ t. n >>= λ ts. some (rcons t ts)) (vcons v vs) ≡ (kept_fits m v && kept_fit n vs)
kept_cons v vs none n = refl
kept_cons v vs (some t) none = sym (and_false (row_fits t v))
kept_cons v vs (some t) (some ts) = refl

named_free : (xs : List ℕ) (c d : ℕ) (rs : Rows) (vs : Values) (ds : List ℕ) → kept_fits (require (memb c ds) >>= λ u. some (named xs c rs)) (con d vs) ≡ ((eqb c d && rows_fit rs vs) && memb d ds)
named_free xs c d rs vs ds = go (memb c ds) (eqb c d) refl refl
  where
    go : (a b : Bool) → memb c ds ≡ a → eqb c d ≡ b → kept_fits (require (memb c ds) >>= λ u. some (named xs c rs)) (con d vs) ≡ ((eqb c d && rows_fit rs vs) && memb d ds)
    go true true p q = rw (p, q, ← eqb_eq c d q, p) (sym (and_true (rows_fit rs vs)))
    go true false p q = rw (p, q)
    go false true p q = rw (p, q, ← eqb_eq c d q, p) (sym (and_false (rows_fit rs vs)))
    go false false p q = rw (p, q)

free_free : (xs ys cs ds : List ℕ) (d : ℕ) (vs : Values) → kept_fits (combine (free xs cs) (free ys ds)) (con d vs) ≡ (memb d cs && memb d ds)
free_free xs ys cs ds d vs = go (is_empty (keep (λ c. memb c ds) cs)) refl
  where
    go : (b : Bool) → is_empty (keep (λ c. memb c ds) cs) ≡ b → kept_fits (combine (free xs cs) (free ys ds)) (con d vs) ≡ (memb d cs && memb d ds)
    go true e = rw e (sym (memb_empty d (keep (λ c. memb c ds) cs) e) ∙ memb_keep (λ c. memb c ds) d cs)
    go false e = rw e (memb_keep (λ c. memb c ds) d cs)

kept_nil : (m : Option Row) (n : Option Rows) → kept_fit (m >>= λ t. n >>= λ ts. some (rcons t ts)) vnil ≡ false
kept_nil none n = refl
kept_nil (some t) none = refl
kept_nil (some t) (some ts) = refl

mutual
  pub combine_fits : (r s : Row) (v : Value) → kept_fits (combine r s) v ≡ (row_fits r v && row_fits s v)
  combine_fits (named xs c rs) (named ys d ss) (con e vs) = go (eqb c d) refl (combines_fit rs ss vs)
    where
      go : (b : Bool) → eqb c d ≡ b → kept_fit (combines rs ss) vs ≡ (rows_fit rs vs && rows_fit ss vs) → kept_fits (combine (named xs c rs) (named ys d ss)) (con e vs) ≡ ((eqb c e && rows_fit rs vs) && (eqb d e && rows_fit ss vs))
      go true q h = rw (q, ← eqb_eq c d q) (kept_named (xs ++ ys) c e vs (combines rs ss) ∙ ap (λ x. eqb c e && x) h ∙ and_both (eqb c e) (rows_fit rs vs) (rows_fit ss vs))
      go false q h = rw q (sym (apart c d e (rows_fit rs vs) (rows_fit ss vs) q))
  combine_fits (named xs c rs) (free ys ds) (con e vs) = named_free (xs ++ ys) c e rs vs ds
  combine_fits (free xs cs) (named ys d ss) (con e vs) = named_free (xs ++ ys) d e ss vs cs ∙ and_comm (eqb d e && rows_fit ss vs) (memb e cs)
  combine_fits (free xs cs) (free ys ds) (con e vs) = free_free xs ys cs ds e vs

  pub combines_fit : (rs ss : Rows) (vs : Values) → kept_fit (combines rs ss) vs ≡ (rows_fit rs vs && rows_fit ss vs)
  combines_fit rnil rnil vnil = refl
  combines_fit rnil rnil (vcons v vs) = refl
  combines_fit rnil (rcons s ss) vnil = refl
  combines_fit rnil (rcons s ss) (vcons v vs) = refl
  combines_fit (rcons r rs) rnil vnil = refl
  combines_fit (rcons r rs) rnil (vcons v vs) = sym (and_false (row_fits r v && rows_fit rs vs))
  combines_fit (rcons r rs) (rcons s ss) vnil = kept_nil (combine r s) (combines rs ss)
  combines_fit (rcons r rs) (rcons s ss) (vcons v vs) = kept_cons v vs (combine r s) (combines rs ss) ∙ ap₂ ◌&&◌ (combine_fits r s v) (combines_fit rs ss vs) ∙ and_pairs (row_fits r v) (row_fits s v) (rows_fit rs vs) (rows_fit ss vs)
