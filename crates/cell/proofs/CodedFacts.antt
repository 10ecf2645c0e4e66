-- The cells of two rows as one are those of the row that the definitions give.
use borrow.Author.Tests.{ne_eqb}
use mathlib.Core.Path.{◌≡◌, refl, ◌∙◌, ap, subst, sym, ap₂}
use mathlib.Core.List.{List, [], ◌∷◌, ◌++◌}
use mathlib.Core.Option.{Option, none, some}
use mathlib.Core.Bool.{false, cond, Bool, true, not}
use Prim.Native.Nat.{ℕ, ◌<◌, ◌+◌}
use native.Mathlib.Omega.{arith}
use lib.Bits.{bit_and, and_comm, bit_or}
use lib.Dec.{eqb}
use Rattle.signature.specs.Lists.{is_empty, memb, keep, ◌>>=◌, require}
use Rattle.signature.proofs.Tests.{true≢false, eqb_eq}
use Rattle.cell.specs.Cell.{Kinds, all_words, cell_code}
use Rattle.cell.specs.Coded.{Typed, cells, Typeds, all_cells, HeadOfKind, row_code_of}
use Rattle.sets.specs.Set.{Within, set_of}
use Rattle.row.specs.Row.{Row, named, free, Rows, rnil, rcons, combines, combine}
use Rattle.cell.proofs.CellFacts.{Of, Ofs, gate, then, boths, both}
use Rattle.sets.proofs.ListSets.{set_some, set_one, set_lt, set_nil, set_meet, within_keep, set_append}

mask_pos : (f : ℕ) (cs : List ℕ) → is_empty cs ≡ false → Within f cs → 0 < set_of f cs
mask_pos f [] e w = true≢false e
mask_pos f (c ∷ cs) e w = let h = set_some f c cs w in omega (arith, h)

module _ (K : Kinds) (ar : List ℕ) where
  mutual
    pub of_cells : (r : Row) (k : ℕ) → Typed K ar r k → Of K ar (cells K r k) k
    of_cells (named xs c rs) k t = (
      record {
        low = t.0.low;
        tag = t.0.tag;
        known = t.0.known;
        arity = t.0.arity;
        set = set_one (K.first k) c;
        fits = set_lt (K.first k) (c ∷ []) (t.0.low, t.0.high, tt);
      },
      of_cellss rs (K.args c) t.1,
    )
    of_cells (free xs cs) k t = record { kind = t.0; tag = refl; some = mask_pos (K.first k) cs t.1 t.2; fits = set_lt (K.first k) cs t.2 }

    pub of_cellss : (rs : Rows) (ks : List ℕ) → Typeds K ar rs ks → Ofs K ar (all_cells K rs ks) ks
    of_cellss rnil [] t = tt
    of_cellss rnil (k ∷ ks) t = absurd t
    of_cellss (rcons r rs) [] t = absurd t
    of_cellss (rcons r rs) (k ∷ ks) t = (of_cells r k t.0, of_cellss rs ks t.1)

abbrev codes_of : Kinds → List ℕ → Option Rows → Option (List ℕ)
codes_of K ks none = none
codes_of K ks (some rs) = some (all_words (all_cells K rs ks))

-- a gate by a set is one by its list
gate_list : (f : ℕ) (es : List ℕ) (o : Option (List ℕ)) → Within f es → gate (set_of f es) o ≡ cond (is_empty es) none o
gate_list f [] o w = rw set_nil
gate_list f (e ∷ es) o w = rw (ne_eqb (set_of f (e ∷ es)) 0 (set_some f e es w))

-- one constructor's set and another's
keep_one : (c : ℕ) (ds : List ℕ) (b : Bool) → memb c ds ≡ b → keep (λ x. memb x ds) (c ∷ []) ≡ cond b (c ∷ []) []
keep_one c ds b e = rw e

-- what a gate by the members of both lets through
both_gate : (f : ℕ) (cs ds es : List ℕ) (F : ℕ → Option (List ℕ)) → Within f cs → Within f ds → keep (λ c. memb c ds) cs ≡ es
    → gate (bit_and (set_of f cs) (set_of f ds)) (F (bit_and (set_of f cs) (set_of f ds))) ≡ cond (is_empty es) none (F (set_of f es))
both_gate f cs ds es F w z e =
    let m : bit_and (set_of f cs) (set_of f ds) ≡ set_of f es = set_meet f cs ds w z ∙ ap (set_of f) e in
    ap (λ (n : ℕ). gate n (F n)) m ∙ gate_list f es (F (set_of f es)) (subst (λ (l : List ℕ). Within f l) e (within_keep f (λ c. memb c ds) cs w))

-- the set of one constructor, on the other side
flip_gate : (f d : ℕ) (cs es : List ℕ) (F : ℕ → Option (List ℕ)) → Within f cs → Within f (d ∷ []) → keep (λ c. memb c cs) (d ∷ []) ≡ es
    → gate (bit_and (set_of f cs) (set_of f (d ∷ []))) (F (bit_and (set_of f cs) (set_of f (d ∷ [])))) ≡ cond (is_empty es) none (F (set_of f es))
flip_gate f d cs es F w z e = ap (λ (n : ℕ). gate n (F n)) (and_comm (set_of f cs) (set_of f (d ∷ []))) ∙ both_gate f (d ∷ []) cs es F z w e

module _ (K : Kinds) (ar : List ℕ) (k : ℕ) where
  one_of : (c : ℕ) → HeadOfKind K ar k c → Within (K.first k) (c ∷ [])
  one_of c h = (h.low, h.high, tt)

  named_rest : (zs : List ℕ) (c : ℕ) (m : Option Rows)
      → then (some (cell_code c (set_of 0 zs) (set_of (K.first k) (c ∷ [])))) (codes_of K (K.args c) m) ≡ row_code_of K k (m >>= λ ts. some (named zs c ts))
  named_rest zs c none = refl
  named_rest zs c (some ts) = refl

  same_nn : (xs ys : List ℕ) (c d : ℕ) (rs ss : Rows) → HeadOfKind K ar k c → HeadOfKind K ar k d → Typeds K ar rs (K.args c) → Typeds K ar ss (K.args d)
      → ((ks : List ℕ) → Typeds K ar rs ks → Typeds K ar ss ks → boths (all_cells K rs ks) (all_cells K ss ks) ≡ codes_of K ks (combines rs ss))
      → (b : Bool) → eqb c d ≡ b → both (cells K (named xs c rs) k) (cells K (named ys d ss) k) ≡ row_code_of K k (combine (named xs c rs) (named ys d ss))
  same_nn xs ys c d rs ss h g t u ih true e =
      let q : c ≡ d = eqb_eq c d e in
      both_gate (K.first k) (c ∷ []) (d ∷ []) (c ∷ []) (λ m. then (some (cell_code c (bit_or (set_of 0 xs) (set_of 0 ys)) m)) (boths (all_cells K rs (K.args c)) (all_cells K ss (K.args d))))
      (one_of c h) (one_of d g) (rw e)
      ∙ ap (λ (n : ℕ). then (some (cell_code c (bit_or (set_of 0 xs) (set_of 0 ys)) (set_of (K.first k) (c ∷ [])))) (boths (all_cells K rs (K.args c)) (all_cells K ss (K.args n)))) (sym q)
      ∙ ap₂ (λ (v : ℕ) (o : Option (List ℕ)). then (some (cell_code c v (set_of (K.first k) (c ∷ [])))) o) (sym (set_append 0 xs ys)) (ih (K.args c) t (subst (λ (n : ℕ). Typeds K ar ss (K.args n)) (sym q) u))
      ∙ named_rest (xs ++ ys) c (combines rs ss)
      ∙ (rw e)
  same_nn xs ys c d rs ss h g t u ih false e =
      both_gate (K.first k) (c ∷ []) (d ∷ []) [] (λ m. then (some (cell_code c (bit_or (set_of 0 xs) (set_of 0 ys)) m)) (boths (all_cells K rs (K.args c)) (all_cells K ss (K.args d))))
      (one_of c h) (one_of d g) (rw e)
      ∙ (rw e)

  same_nf : (xs ys : List ℕ) (c : ℕ) (ds : List ℕ) (rs : Rows) → HeadOfKind K ar k c → Within (K.first k) ds
      → (b : Bool) → memb c ds ≡ b → both (cells K (named xs c rs) k) (cells K (free ys ds) k) ≡ row_code_of K k (combine (named xs c rs) (free ys ds))
  same_nf xs ys c ds rs h w b e =
      both_gate (K.first k) (c ∷ []) ds (cond b (c ∷ []) []) (λ m. some (cell_code c (bit_or (set_of 0 xs) (set_of 0 ys)) m ++ all_words (all_cells K rs (K.args c))))
      (one_of c h) w (keep_one c ds b e)
      ∙ go b e
    where
      go : (b : Bool) → memb c ds ≡ b
          → cond (is_empty (cond b (c ∷ []) [])) none (some (cell_code c (bit_or (set_of 0 xs) (set_of 0 ys)) (set_of (K.first k) (cond b (c ∷ []) [])) ++ all_words (all_cells K rs (K.args c))))
          ≡ row_code_of K k (combine (named xs c rs) (free ys ds))
      go true e = rw (e, set_append 0 xs ys)
      go false e = rw e

  same_fn : (xs ys : List ℕ) (d : ℕ) (cs : List ℕ) (ss : Rows) → HeadOfKind K ar k d → Within (K.first k) cs
      → (b : Bool) → memb d cs ≡ b → both (cells K (free xs cs) k) (cells K (named ys d ss) k) ≡ row_code_of K k (combine (free xs cs) (named ys d ss))
  same_fn xs ys d cs ss h w b e =
      flip_gate (K.first k) d cs (cond b (d ∷ []) []) (λ m. some (cell_code d (bit_or (set_of 0 xs) (set_of 0 ys)) m ++ all_words (all_cells K ss (K.args d))))
      w (one_of d h) (keep_one d cs b e)
      ∙ go b e
    where
      go : (b : Bool) → memb d cs ≡ b
          → cond (is_empty (cond b (d ∷ []) [])) none (some (cell_code d (bit_or (set_of 0 xs) (set_of 0 ys)) (set_of (K.first k) (cond b (d ∷ []) [])) ++ all_words (all_cells K ss (K.args d))))
          ≡ row_code_of K k (combine (free xs cs) (named ys d ss))
      go true e = rw (e, set_append 0 xs ys)
      go false e = rw e

  same_ff : (xs ys cs ds : List ℕ) → Within (K.first k) cs → Within (K.first k) ds → both (cells K (free xs cs) k) (cells K (free ys ds) k) ≡ row_code_of K k (combine (free xs cs) (free ys ds))
  same_ff xs ys cs ds w z =
      both_gate (K.first k) cs ds (keep (λ c. memb c ds) cs) (λ m. some (cell_code (256 + k) (bit_or (set_of 0 xs) (set_of 0 ys)) m)) w z refl
      ∙ go (keep (λ c. memb c ds) cs)
    where
      go : (es : List ℕ) → cond (is_empty es) none (some (cell_code (256 + k) (bit_or (set_of 0 xs) (set_of 0 ys)) (set_of (K.first k) es))) ≡ row_code_of K k (require (not (is_empty es)) >>= λ u. some (free (xs ++ ys) es))
      go [] = refl
      go (e ∷ es) = rw (set_append 0 xs ys)

module _ (K : Kinds) (ar : List ℕ) where
  cons_rest : (k : ℕ) (ks : List ℕ) (m : Option Row) (n : Option Rows)
      → then (row_code_of K k m) (codes_of K ks n) ≡ codes_of K (k ∷ ks) (m >>= λ t. n >>= λ ts. some (rcons t ts))
  cons_rest k ks none n = refl
  cons_rest k ks (some t) none = refl
  cons_rest k ks (some t) (some ts) = refl

  -- the words of two rows as one are the code of the definitions' combination
  mutual
    pub same : (r s : Row) (k : ℕ) → Typed K ar r k → Typed K ar s k → both (cells K r k) (cells K s k) ≡ row_code_of K k (combine r s)
    same (named xs c rs) (named ys d ss) k t u = same_nn K ar k xs ys c d rs ss t.0 u.0 t.1 u.1 (λ ks a b. sames rs ss ks a b) (eqb c d) refl
    same (named xs c rs) (free ys ds) k t u = same_nf K ar k xs ys c ds rs t.0 u.2 (memb c ds) refl
    same (free xs cs) (named ys d ss) k t u = same_fn K ar k xs ys d cs ss u.0 t.2 (memb d cs) refl
    same (free xs cs) (free ys ds) k t u = same_ff K ar k xs ys cs ds t.2 u.2

    pub sames : (rs ss : Rows) (ks : List ℕ) → Typeds K ar rs ks → Typeds K ar ss ks → boths (all_cells K rs ks) (all_cells K ss ks) ≡ codes_of K ks (combines rs ss)
    sames rnil rnil ks t u = refl
    sames rnil (rcons s ss) [] t u = absurd u
    sames rnil (rcons s ss) (k ∷ ks) t u = absurd t
    sames (rcons r rs) rnil [] t u = absurd t
    sames (rcons r rs) rnil (k ∷ ks) t u = absurd u
    sames (rcons r rs) (rcons s ss) [] t u = absurd t
    sames (rcons r rs) (rcons s ss) (k ∷ ks) t u = ap₂ then (same r s k t.0 u.0) (sames rs ss ks t.1 u.1) ∙ cons_rest k ks (combine r s) (combines rs ss)
