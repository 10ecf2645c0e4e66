-- Two rows by their first cells: apart, or not apart, or with one and the same cell, where their arguments decide.
use borrow.Author.Tests.{lt-ltb, le-ltb, eq-eqb, ne_eqb}
use mathlib.Core.Path.{◌≡◌, refl, ap, ap₂, sym, ◌∙◌}
use mathlib.Core.List.{List, [], ◌∷◌, ◌++◌}
use mathlib.Core.Bool.{Bool, true, false, not, cond, ◌&&◌}
use mathlib.Core.Option.{Option, none, some}
use Prim.Native.Nat.{ℕ, suc, ◌+◌, ◌-◌, ◌≤◌}
use native.Mathlib.Omega.{arith}
use lib.Bits.{bit_and, and_comm, and_self}
use lib.Dec.{eqb, ltb}
use lib.Pow.{pow_pos}
use lib.ListN.{length}
use Rattle.signature.specs.Lists.{is_some, require}
use Rattle.signature.proofs.Booleans.{and_left, and_right}
use Rattle.signature.proofs.Members.{some_both}
use Rattle.signature.proofs.Tests.{eqb_eq, eqb_ne, eqb_self, eqb_sym, true≢false}
use Rattle.sets.specs.Heads.{number_of}
use Rattle.sets.specs.Set.{set_of}
use Rattle.sets.proofs.HeadSets.{number_words}
use Rattle.sets.proofs.ListSets.{set_one, powers_meet}
use Rattle.cell.specs.Cell.{Kinds, kind_tag, all_words}
use Rattle.cell.specs.Coded.{Typed, Typeds, row_code, row_code_of, cells, all_cells}
use Rattle.cell.specs.Cursor.{cell_at, cell_of, opens_of}
use Rattle.cell.specs.declared.cell.Cell.{Cell}
use Rattle.cell.proofs.CellFacts.{gate, both}
use Rattle.cell.proofs.CodedFacts.{same, of_cells}
use Rattle.cell.proofs.Columns.{cell_there}
use Rattle.cell.proofs.Gates.{pos_zero}
use Rattle.row.specs.Row.{Row, Rows, named, free, rnil, rcons, combine, combines}
use Rattle.row.specs.RowFits.{place_count, places_count}
use Rattle.meeting.specs.Part.{RowAt, RowsAt, same_cell, apart_cell}

module _ (K : Kinds) (k : ℕ) where
  -- the first cell of a row of kind k, and what stands behind it
  abbrev pub tag_of : Row → ℕ
  tag_of (named xs c rs) = c
  tag_of (free xs cs) = kind_tag + k

  abbrev pub heads_of : Row → ℕ
  heads_of (named xs c rs) = set_of (K.first k) (c ∷ [])
  heads_of (free xs cs) = set_of (K.first k) cs

abbrev pub vars_of : Row → ℕ
vars_of (named xs c rs) = set_of 0 xs
vars_of (free xs cs) = set_of 0 xs

abbrev pub args_of : Row → Rows
args_of (named xs c rs) = rs
args_of (free xs cs) = rnil

-- the kinds of the arguments, by the tag
abbrev pub kinds_by : Kinds → ℕ → List ℕ
kinds_by K tag = cond (ltb tag kind_tag) (K.args tag) []

pub places_args : (r : Row) → place_count r ≡ suc (places_count (args_of r))
places_args (named xs c rs) = refl
places_args (free xs cs) = refl

module _ (K : Kinds) (t : List ℕ) where
  -- what is seen of a row where its words begin
  pub record Seen (a : List ℕ) (k at : ℕ) (r : Row) : Type 0 where
    pub cell : cell_at a at ≡ cell_of (tag_of K k r) (vars_of r) (heads_of K k r)
    pub room : at + 3 ≤ length a
    pub args : RowsAt K t a (kinds_by K (tag_of K k r)) (at + 3) (args_of r)
    pub size : length (row_code K r k) ≡ 3 + length (all_words (all_cells K (args_of r) (kinds_by K (tag_of K k r))))
    pub opens : opens_of t (tag_of K k r) ≡ length (kinds_by K (tag_of K k r))

  pub seen : (a : List ℕ) (k at : ℕ) (r : Row) → RowAt K t a k at r → Seen a k at r
  seen a k at (named xs c rs) h =
      let T = h.typed.0 in
      let C = cell_there a at c (set_of 0 xs) (set_of (K.first k) (c ∷ [])) (all_words (all_cells K rs (K.args c)) ++ h.rest) (omega (arith, T.tag)) h.code_is in
      let e : ltb c 256 ≡ true = lt-ltb c 256 T.tag in
      record {
        cell = C.cell;
        room = C.room;
        args = rw e (record { rest = h.rest; code_is = C.after; within = C.room; typed = h.typed.1 });
        size = rw e (omega arith);
        opens = rw e T.arity;
      }
  seen a k at (free xs cs) h =
      let C = cell_there a at (256 + k) (set_of 0 xs) (set_of (K.first k) cs) h.rest (omega (arith, h.typed.0)) h.code_is in
      let e : ltb (256 + k) 256 ≡ false = le-ltb (256 + k) 256 (omega arith) in
      record {
        cell = C.cell;
        room = C.room;
        args = rw e (record { rest = h.rest; code_is = C.after; within = C.room; typed = tt });
        size = omega arith;
        opens = rw e refl;
      }

-- a row is there where its words are
code_some : (K : Kinds) (k : ℕ) (o : Option Row) → is_some (row_code_of K k o) ≡ is_some o
code_some K k none = refl
code_some K k (some r) = refl

gate_none : (m : ℕ) (o : Option (List ℕ)) → m ≡ 0 → gate m o ≡ none
gate_none m o e = rw e refl

gate_there : (m : ℕ) (w : List ℕ) → ¬ (m ≡ 0) → is_some (gate m (some w)) ≡ true
gate_there m w h = rw (ne_eqb m 0 h) refl

module _ (K : Kinds) (t : List ℕ) (k : ℕ) where
  by_cells : (r s : Row) → Typed K t r k → Typed K t s k → is_some (combine r s) ≡ is_some (both (cells K r k) (cells K s k))
  by_cells r s h l = sym (code_some K k (combine r s)) ∙ ap is_some (sym (same K t r s k h l))

  -- no head in common
  pub apart_none : (r s : Row) → Typed K t r k → Typed K t s k → bit_and (heads_of K k r) (heads_of K k s) ≡ 0 → is_some (combine r s) ≡ false
  apart_none (named xs c rs) (named ys d ss) h l e = by_cells (named xs c rs) (named ys d ss) h l ∙ ap is_some (gate_none _ _ e)
  apart_none (named xs c rs) (free ys ds) h l e = by_cells (named xs c rs) (free ys ds) h l ∙ ap is_some (gate_none _ _ e)
  apart_none (free xs cs) (named ys d ss) h l e = by_cells (free xs cs) (named ys d ss) h l ∙ ap is_some (gate_none _ _ e)
  apart_none (free xs cs) (free ys ds) h l e = by_cells (free xs cs) (free ys ds) h l ∙ ap is_some (gate_none _ _ e)

  -- one in common, and not the same cell
  one_head : (c d : ℕ) → K.first k ≤ c → K.first k ≤ d → ¬ (bit_and (set_of (K.first k) (c ∷ [])) (set_of (K.first k) (d ∷ [])) ≡ 0) → c ≡ d
  one_head c d p q n =
      let e : c - K.first k ≡ d - K.first k = powers_meet (c - K.first k) (d - K.first k) (rw (set_one (K.first k) c, set_one (K.first k) d) at n) in
      omega (arith, e, p, q)

  pub differ_some : (r s : Row) → Typed K t r k → Typed K t s k → ¬ (bit_and (heads_of K k r) (heads_of K k s) ≡ 0) → (eqb (tag_of K k r) (tag_of K k s) && eqb (heads_of K k r) (heads_of K k s)) ≡ false → is_some (combine r s) ≡ true
  differ_some (named xs c rs) (named ys d ss) h l n e =
      let q : c ≡ d = one_head c d h.0.low l.0.low n in
      true≢false (sym (sym e ∙ ap (λ (z : ℕ). eqb c z && eqb (set_of (K.first k) (c ∷ [])) (set_of (K.first k) (z ∷ []))) (sym q) ∙ (rw (eqb_self c, eqb_self (set_of (K.first k) (c ∷ []))) refl)))
  differ_some (named xs c rs) (free ys ds) h l n e = by_cells (named xs c rs) (free ys ds) h l ∙ gate_there _ _ n
  differ_some (free xs cs) (named ys d ss) h l n e = by_cells (free xs cs) (named ys d ss) h l ∙ gate_there _ _ n
  differ_some (free xs cs) (free ys ds) h l n e = by_cells (free xs cs) (free ys ds) h l ∙ gate_there _ _ n

  -- the same cell: the arguments decide
  pub same_args : (r s : Row) → Typed K t r k → Typed K t s k → tag_of K k r ≡ tag_of K k s → heads_of K k r ≡ heads_of K k s → is_some (combine r s) ≡ is_some (combines (args_of r) (args_of s))
  same_args (named xs c rs) (named ys d ss) h l e f = some_both (require (eqb c d)) (combines rs ss) (λ u ts. named (xs ++ ys) c ts) ∙ (rw (eq-eqb c d e) refl)
  same_args (named xs c rs) (free ys ds) h l e f = absurd (omega (arith, e, h.0.tag))
  same_args (free xs cs) (named ys d ss) h l e f = absurd (omega (arith, e, l.0.tag))
  same_args (free xs cs) (free ys ds) h l e f =
      by_cells (free xs cs) (free ys ds) h l
      ∙ gate_there _ _ (λ z. let m : ℕ = set_of (K.first k) cs in pos_zero m (of_cells K t (free xs cs) k h).some (sym (and_self m) ∙ ap (bit_and m) f ∙ z))

-- a row and itself
module _ (K : Kinds) (t : List ℕ) where
  mutual
    pub self_some : (r : Row) (k : ℕ) → Typed K t r k → is_some (combine r r) ≡ true
    self_some (named xs c rs) k h = same_args K t k (named xs c rs) (named xs c rs) h h refl refl ∙ selves rs (K.args c) h.1
    self_some (free xs cs) k h = same_args K t k (free xs cs) (free xs cs) h h refl refl

    selves : (rs : Rows) (ks : List ℕ) → Typeds K t rs ks → is_some (combines rs rs) ≡ true
    selves rnil ks h = refl
    selves (rcons r rs) [] h = absurd h
    selves (rcons r rs) (k ∷ ks) h = some_both (combine r r) (combines rs rs) rcons ∙ (rw (self_some r k h.0, selves rs ks h.1) refl)

-- a cell says the tag and the heads of a row
pub record Says (K : Kinds) (k : ℕ) (c : Cell) (r : Row) : Type 0 where
  pub tag : c.tag ≡ tag_of K k r
  pub heads : number_of c.allowed ≡ heads_of K k r

pub says : (K : Kinds) (k : ℕ) (c : Cell) (r : Row) → c ≡ cell_of (tag_of K k r) (vars_of r) (heads_of K k r) → Says K k c r
says K k c r e = record { tag = ap (λ (z : Cell). z.tag) e; heads = ap (λ (z : Cell). number_of z.allowed) e ∙ number_words (heads_of K k r) }

-- a row of a class, with another of its place
module _ (K : Kinds) (t : List ℕ) (k : ℕ) (c d : Cell) (r s : Row) (h : Typed K t r k) (l : Typed K t s k) (e : Says K k c r) (f : Says K k d s) where
  apart_is : apart_cell c d ≡ eqb (bit_and (heads_of K k r) (heads_of K k s)) 0
  apart_is = ap (λ (n : ℕ). eqb n 0) (number_words _ ∙ ap₂ bit_and e.heads f.heads)

  same_is : same_cell c d ≡ (eqb (tag_of K k r) (tag_of K k s) && eqb (heads_of K k r) (heads_of K k s))
  same_is = ap₂ (λ (x y : Bool). x && y) (ap₂ eqb e.tag f.tag) (ap₂ eqb e.heads f.heads)

  -- not of the class: they combine where they have a head in common
  pub other_class : same_cell c d ≡ false → (is_some (combine r s) ≡ not (apart_cell c d)) × (is_some (combine s r) ≡ not (apart_cell c d))
  other_class n = go (eqb (bit_and (heads_of K k r) (heads_of K k s)) 0) refl
    where
      no : (eqb (tag_of K k r) (tag_of K k s) && eqb (heads_of K k r) (heads_of K k s)) ≡ false
      no = sym same_is ∙ n

      flip : (eqb (tag_of K k s) (tag_of K k r) && eqb (heads_of K k s) (heads_of K k r)) ≡ false
      flip = ap₂ (λ (x y : Bool). x && y) (eqb_sym (tag_of K k s) (tag_of K k r)) (eqb_sym (heads_of K k s) (heads_of K k r)) ∙ no

      go : (b : Bool) → eqb (bit_and (heads_of K k r) (heads_of K k s)) 0 ≡ b → (is_some (combine r s) ≡ not (apart_cell c d)) × (is_some (combine s r) ≡ not (apart_cell c d))
      go true z =
          let q : bit_and (heads_of K k r) (heads_of K k s) ≡ 0 = eqb_eq _ 0 z in
          let w : not (apart_cell c d) ≡ false = ap not (apart_is ∙ z) in
          (apart_none K t k r s h l q ∙ sym w, apart_none K t k s r l h (and_comm (heads_of K k s) (heads_of K k r) ∙ q) ∙ sym w)
      go false z =
          let q : ¬ (bit_and (heads_of K k r) (heads_of K k s) ≡ 0) = eqb_ne _ 0 z in
          let w : not (apart_cell c d) ≡ true = ap not (apart_is ∙ z) in
          (differ_some K t k r s h l q no ∙ sym w, differ_some K t k s r l h (λ x. q (and_comm (heads_of K k r) (heads_of K k s) ∙ x)) flip ∙ sym w)

  -- of the class: the same tag and heads, and so not apart
  pub same_tags : same_cell c d ≡ true → (tag_of K k r ≡ tag_of K k s) × (heads_of K k r ≡ heads_of K k s)
  same_tags n =
      let z : (eqb (tag_of K k r) (tag_of K k s) && eqb (heads_of K k r) (heads_of K k s)) ≡ true = sym same_is ∙ n in
      (eqb_eq (tag_of K k r) (tag_of K k s) (and_left (eqb (tag_of K k r) (tag_of K k s)) (eqb (heads_of K k r) (heads_of K k s)) z), eqb_eq (heads_of K k r) (heads_of K k s) (and_right (eqb (tag_of K k r) (tag_of K k s)) (eqb (heads_of K k r) (heads_of K k s)) z))

  pub same_touch : same_cell c d ≡ true → apart_cell c d ≡ false
  same_touch n = apart_is ∙ ne_eqb _ 0 (λ z. heads_some r h (sym (and_self (heads_of K k r)) ∙ ap (bit_and (heads_of K k r)) (same_tags n).1 ∙ z))
    where
      heads_some : (r : Row) → Typed K t r k → ¬ (heads_of K k r ≡ 0)
      heads_some (named xs c rs) h z = pos_zero (set_of (K.first k) (c ∷ [])) (rw (set_one (K.first k) c) (pow_pos (c - K.first k))) z
      heads_some (free xs cs) h z = pos_zero (set_of (K.first k) cs) (of_cells K t (free xs cs) k h).some z
