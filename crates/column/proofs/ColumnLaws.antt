-- What a cell, a row and the rows of a set say of the first column.
use mathlib.Core.Path.{◌≡◌, refl, sym, ap, ap₂, subst, ◌∙◌}
use mathlib.Core.Logic.{◌⊎◌, inl, inr}
use mathlib.Core.List.{List, []}
use mathlib.Core.Bool.{Bool, true, false, not, ◌&&◌, ◌||◌, cond}
use Prim.Native.Nat.{ℕ, zero, suc, ◌+◌, ◌-◌, ◌≤◌, ◌<◌, min, max}
use native.Mathlib.Omega.{arith}
use borrow.Author.Tests.{ltb-true, ltb-false, lt-ltb, le-ltb}
use lib.Dec.{eqb, ltb}
use lib.ListN.{length, get_or}
use Rattle.std.specs.Prelude.{Option, Some, None, is_some}
use Rattle.cell.specs.Cell.{kind_tag}
use Rattle.signature.specs.Decoded.{count_of, first_of, kind_of}
use Rattle.signature.specs.Limits.{kind_limit, level_base, level_count, last_level}
use Rattle.signature.specs.Lists.{memb, any, count_up}
use Rattle.signature.specs.Signature.{Signature, heads, levels, numbers, is_level, is_number_kind}
use Rattle.signature.proofs.Booleans.{and_true, or_true, or_false, or_assoc}
use Rattle.signature.proofs.Heads.{kind_of_head, level_is}
use Rattle.signature.proofs.KnownFacts.{words_of, head_is, number_first, count_length, few_heads as heads_most}
use Rattle.signature.proofs.Tests.{eqb_eq, eqb_ne, eqb_no, true≢false}
use Rattle.sets.specs.Heads.{number_of}
use Rattle.sets.specs.Set.{bit, members, heads_width}
use Rattle.sets.proofs.SetLaws.{bit_lt}
use Rattle.cell.specs.Cursor.{cell_at}
use Rattle.cell.specs.declared.cell.Cell.{Cell}
use Rattle.rowlist.proofs.Kinded.{kinds_same}
use Rattle.tree.specs.Tree.{just_one}
use Rattle.rowset.specs.Member.{member, NextIn}
use Rattle.path.specs.Standing.{refined_cell, allowed_of}
use Rattle.path.specs.State.{kept_by, cell_of}
use Rattle.column.specs.Column.{Seen, RowKind, Looking, Heading, Column, tag_at, allowed_at, edge_by}

module _ {t : List ℕ} {tag : ℕ} (g : Seen t tag) where
  -- a kind's number is below 32
  pub kind_small : g.k < kind_limit
  kind_small = omega (arith, g.there, kinds_same g.known, (words_of g.known).few_kinds)

  -- a tag that names no constructor is kind-tag and the kind
  pub seen_free : kind_tag ≤ tag → tag ≡ kind_tag + g.k
  seen_free l = go g.is
    where
      go : (tag ≡ kind_tag + g.k) ⊎ ((tag < kind_tag) × (memb tag (heads g.known.sig g.k) ≡ true)) → tag ≡ kind_tag + g.k
      go (inl e) = e
      go (inr (m, e)) = absurd (omega arith)

  pub seen_named : tag < kind_tag → kind_of t tag ≡ g.k
  seen_named l = go g.is
    where
      named : {js : List ℕ} → ((tag < length g.known.sig) × (is_number_kind g.known.sig g.k ≡ false) × (kind_of t tag ≡ g.k)) ⊎ ((is_level tag ≡ true) × (is_number_kind g.known.sig g.k ≡ true) × (js ≡ [])) → kind_of t tag ≡ g.k
      named (inl (a, b, q)) = q
      named (inr (v, b, q)) = absurd (omega (arith, (level_is tag v).0))

      go : (tag ≡ kind_tag + g.k) ⊎ ((tag < kind_tag) × (memb tag (heads g.known.sig g.k) ≡ true)) → kind_of t tag ≡ g.k
      go (inl e) = absurd (omega arith)
      go (inr (m, e)) = let (js, q) = kind_of_head g.known.sig g.k tag e in named (head_is g.known g.k tag js q)

  pub refined_named : (allowed : ℕ) → tag < kind_tag → true ≡ refined_cell g.known.sig g.k tag allowed
  refined_named allowed l = rw (lt-ltb tag kind_tag l)

  pub refined_free : (allowed n m : ℕ) → kind_tag ≤ tag → n ≡ length (members allowed) → m ≡ count_of t (tag - kind_tag) → not (eqb n m) ≡ refined_cell g.known.sig g.k tag allowed
  refined_free allowed n m l h e =
      let q : tag - kind_tag ≡ g.k = omega (arith, seen_free l) in
      rw (le-ltb tag kind_tag l, h, e ∙ ap (count_of t) q ∙ g.known.decoded.head_count g.k g.there)

  pub kind_saw : (allowed x : ℕ) (b : Bool) → b ≡ true → b ≡ refined_cell g.known.sig g.k tag allowed → x ≡ g.k → RowKind g.known.sig g.k tag allowed (Some x)
  kind_saw allowed x b e h i = record { plain = λ l. absurd cc; refines = λ y l. (let z : x ≡ y = cc in sym z ∙ i, sym h ∙ e) }

  pub plain_saw : (allowed : ℕ) (b : Bool) → b ≡ false → b ≡ refined_cell g.known.sig g.k tag allowed → RowKind g.known.sig g.k tag allowed None
  plain_saw allowed b e h = record { plain = λ l. sym h ∙ e; refines = λ y l. absurd cc }

-- the cell of a row of the set
abbrev pub seen_at : {t a rows : List ℕ} {n : ℕ} {re cur : List ℕ} (g : Looking t a rows n re cur) (r : ℕ) → r < n → member re r ≡ true → Seen t (tag_at a rows cur r)
seen_at g r l e = record { known = g.known; k = g.k; there = g.there; is = g.tags r l e }

-- what the cell that the code reads says
pub kind_from : (t a rows cur : List ℕ) (r : ℕ) (x : Option ℕ) (c : Cell) → c ≡ cell_at a (cell_of rows r (get_or cur r 0)) → ((s : Seen t c.tag) → RowKind s.known.sig s.k c.tag (number_of c.allowed) x)
    → (g : Seen t (tag_at a rows cur r)) → RowKind g.known.sig g.k (tag_at a rows cur r) (allowed_at a rows cur r) x
kind_from t a rows cur r x c h f = subst (λ (y : Cell). ((s : Seen t y.tag) → RowKind s.known.sig s.k y.tag (number_of y.allowed) x)) h f

-- no row before r refines the column
abbrev pub NoneRefines : Signature → List ℕ → List ℕ → List ℕ → List ℕ → ℕ → ℕ → Type 0
NoneRefines sig a rows re cur k r = (q : ℕ) → q < r → member re q ≡ true → refined_cell sig k (tag_at a rows cur q) (allowed_at a rows cur q) ≡ false

pub none_next : (sig : Signature) (a rows re cur : List ℕ) (k n r : ℕ) (x : Option ℕ) (r' : ℕ) → NoneRefines sig a rows re cur k r → RowKind sig k (tag_at a rows cur r) (allowed_at a rows cur r) x → x ≡ None → NextIn re (r + 1) n r' → NoneRefines sig a rows re cur k r'
none_next sig a rows re cur k n r x r' h w l f q m e = go (ltb q r) refl
  where
    here : (b : Bool) → eqb q r ≡ b → r ≤ q → refined_cell sig k (tag_at a rows cur q) (allowed_at a rows cur q) ≡ false
    here true i j = rw (eqb_eq q r i) (w.plain l)
    here false i j = true≢false (sym e ∙ f.between q (omega (arith, eqb_ne q r i)) m)

    go : (b : Bool) → ltb q r ≡ b → refined_cell sig k (tag_at a rows cur q) (allowed_at a rows cur q) ≡ false
    go true i = h q (ltb-true q r i) e
    go false i = here (eqb q r) refl (ltb-false q r i)

-- where a kind was seen, and where none was
none_there : {P : Type 0} (x : Option ℕ) → x ≡ None → is_some x ≡ true → P
none_there x e m = true≢false (sym m ∙ ap is_some e)

pub none_seen : (x : Option ℕ) → is_some x ≡ false → x ≡ None
none_seen None e = refl
none_seen (Some y) e = true≢false e

pub column_none : (sig : Signature) (a rows re cur : List ℕ) (n k r : ℕ) → n ≤ r → NoneRefines sig a rows re cur k r → Column sig a rows n re cur k None
column_none sig a rows re cur n k r l h = record { plain = λ e q m i. h q (omega arith) i; kind = λ y f. absurd cc; row = λ y f. absurd cc }

pub column_some : (sig : Signature) (a rows re cur : List ℕ) (n k r : ℕ) (x : Option ℕ) → r < n → member re r ≡ true → RowKind sig k (tag_at a rows cur r) (allowed_at a rows cur r) x → is_some x ≡ true → Column sig a rows n re cur k x
column_some sig a rows re cur n k r x l i v m = record { plain = λ e. none_there x e m; kind = λ y f. (v.refines y f).0; row = λ y f. (r, l, i, (v.refines y f).1) }

-- the rows that stay alive

module _ (s re : ℕ → Bool) (a rows : List ℕ) (q j r : ℕ) where
  abbrev word : ℕ
  word = allowed_of a (cell_of rows r q)

  module _ (c : Cell) (h : c ≡ cell_at a (cell_of rows r q)) where
    bit_is : eqb (bit (number_of c.allowed) j) 1 ≡ eqb (bit word j) 1
    bit_is = ap (λ (x : Cell). eqb (bit (number_of x.allowed) j) 1) h

    pub stays_allowed : (b : Bool) → re r ≡ true → eqb (bit (number_of c.allowed) j) 1 ≡ true → b ≡ s r → b ≡ kept_by a rows s re q j r
    stays_allowed b e y i = let z = sym bit_is ∙ y in i ∙ go (s r) (eqb (bit word j) 0) refl z
      where
        go : (y v : Bool) → eqb (bit word j) 0 ≡ v → eqb (bit word j) 1 ≡ true → y ≡ (y && not (re r && v))
        go y true w z = absurd (omega (arith, eqb_eq (bit word j) 0 w, eqb_eq (bit word j) 1 z))
        go true false w z = rw e
        go false false w z = refl

    pub stays_excluded : re r ≡ true → eqb (bit (number_of c.allowed) j) 1 ≡ false → false ≡ kept_by a rows s re q j r
    stays_excluded e y = go (s r) (eqb (bit word j) 0) refl (sym bit_is ∙ y)
      where
        go : (y v : Bool) → eqb (bit word j) 0 ≡ v → eqb (bit word j) 1 ≡ false → false ≡ (y && not (re r && v))
        go true true w z = rw e
        go false true w z = refl
        go y false w z = absurd (omega (arith, eqb_ne (bit word j) 0 w, eqb_ne (bit word j) 1 z, bit_lt word j))

  pub stays_virtual : (b : Bool) → re r ≡ false → b ≡ s r → b ≡ kept_by a rows s re q j r
  stays_virtual b e i = i ∙ go (s r)
    where
      go : (x : Bool) → x ≡ (x && not (re r && eqb (bit word j) 0))
      go true = rw e
      go false = refl

-- a bit is 1 where it is one of the set or of a row's edges

abbrev bit_if : Bool → ℕ
bit_if b = cond b 1 0

module _ (re : ℕ → Bool) (a rows : List ℕ) (q r m : ℕ) where
  abbrev held : ℕ
  held = allowed_of a (cell_of rows r q)

  pub edges_in : (c : Cell) → c ≡ cell_at a (cell_of rows r q) → re r ≡ true → (e s : ℕ) → ((j : ℕ) → bit e j ≡ cond (eqb (bit (number_of c.allowed) j) (bit (number_of c.allowed) (j + 1))) 0 1) → ((j : ℕ) → bit s j ≡ max (bit m j) (bit e j))
      → (j : ℕ) → bit s j ≡ cond (edge_by a rows re q j r) 1 (bit m j)
  edges_in c h i e s f g j = g j ∙ ap (max (bit m j)) (f j ∙ ap (λ (x : Cell). cond (eqb (bit (number_of x.allowed) j) (bit (number_of x.allowed) (j + 1))) 0 1) h) ∙ rw i (go (bit m j) (bit held j) (bit held (j + 1)) (bit_lt m j) (bit_lt held j) (bit_lt held (j + 1)))
    where
      go : (z x y : ℕ) → z < 2 → x < 2 → y < 2 → max z (cond (eqb x y) 0 1) ≡ cond (just_one (eqb x 1) (eqb y 1)) 1 z
      go (suc (suc z)) x y p u v = absurd (omega arith)
      go zero (suc (suc x)) y p u v = absurd (omega arith)
      go zero zero (suc (suc y)) p u v = absurd (omega arith)
      go zero zero zero p u v = refl
      go zero zero (suc zero) p u v = refl
      go zero (suc zero) (suc (suc y)) p u v = absurd (omega arith)
      go zero (suc zero) zero p u v = refl
      go zero (suc zero) (suc zero) p u v = refl
      go (suc zero) (suc (suc x)) y p u v = absurd (omega arith)
      go (suc zero) zero (suc (suc y)) p u v = absurd (omega arith)
      go (suc zero) zero zero p u v = refl
      go (suc zero) zero (suc zero) p u v = refl
      go (suc zero) (suc zero) (suc (suc y)) p u v = absurd (omega arith)
      go (suc zero) (suc zero) zero p u v = refl
      go (suc zero) (suc zero) (suc zero) p u v = refl

pub no_edge : (re : ℕ → Bool) (a rows : List ℕ) (q j r : ℕ) → re r ≡ false → edge_by a rows re q j r ≡ false
no_edge re a rows q j r i = rw i

-- one row more
any_more : (f : ℕ → Bool) (i m : ℕ) → any f (count_up i (suc m)) ≡ (any f (count_up i m) || f (i + m))
any_more f i zero = or_false (f i) ∙ ap f (omega arith)
any_more f i (suc m) =
    let e : suc i + m ≡ i + suc m = omega arith in
    ap (λ b. f i || b) (any_more f (suc i) m) ∙ sym (or_assoc (f i) (any f (count_up (suc i) m)) (f (suc i + m))) ∙ ap (λ x. (f i || any f (count_up (suc i) m)) || f x) e

-- the set of ends, row by row; f v r says whether row r has an edge behind v
module _ (f : ℕ → ℕ → Bool) where
  abbrev pub EndsOf : ℕ → ℕ → Type 0
  EndsOf n s = (j : ℕ) → bit s j ≡ cond (eqb j last_level || any (f j) (count_up 0 n)) 1 0

  pub ends_first : (s : ℕ) → ((j : ℕ) → bit s j ≡ cond (eqb j last_level) 1 0) → EndsOf 0 s
  ends_first s h j = h j ∙ ap bit_if (sym (or_false (eqb j last_level)))

  pub ends_next : (r s t : ℕ) → EndsOf r s → ((j : ℕ) → bit t j ≡ cond (f j r) 1 (bit s j)) → EndsOf (r + 1) t
  ends_next r s t h g j =
      let n : r + 1 ≡ suc r = omega arith in
      let z : 0 + r ≡ r = omega arith in
      g j ∙ ap (cond (f j r) 1) (h j) ∙ go (f j r) ∙ ap bit_if (or_assoc (eqb j last_level) (any (f j) (count_up 0 r)) (f j r) ∙ ap (λ b. eqb j last_level || b) (sym (ap (λ (m : ℕ). any (f j) (count_up 0 m)) n ∙ any_more (f j) 0 r ∙ ap (λ (x : ℕ). any (f j) (count_up 0 r) || f j x) z)))
    where
      go : (b : Bool) → cond b 1 (bit_if (eqb j last_level || any (f j) (count_up 0 r))) ≡ bit_if ((eqb j last_level || any (f j) (count_up 0 r)) || b)
      go true = ap bit_if (sym (or_true (eqb j last_level || any (f j) (count_up 0 r))))
      go false = ap bit_if (sym (or_false (eqb j last_level || any (f j) (count_up 0 r))))

  -- past rows without an edge
  ends_gap : (d r s : ℕ) → EndsOf r s → ((j q : ℕ) → r ≤ q → q < r + d → f j q ≡ false) → EndsOf (r + d) s
  ends_gap zero r s h g = let z : r ≡ r + 0 = omega arith in subst (λ (m : ℕ). EndsOf m s) z h
  ends_gap (suc d) r s h g =
      let z : (r + 1) + d ≡ r + suc d = omega arith in
      subst (λ (m : ℕ). EndsOf m s) z (ends_gap d (r + 1) s (ends_next r s s h (λ j. ap (λ (b : Bool). cond b 1 (bit s j)) (sym (g j r (omega arith) (omega arith))))) (λ j q a b. g j q (omega arith) (omega arith)))

  pub ends_past : (r r' s : ℕ) → r ≤ r' → EndsOf r s → ((j q : ℕ) → r ≤ q → q < r' → f j q ≡ false) → EndsOf r' s
  ends_past r r' s l h g =
      let z : r + (r' - r) ≡ r' = omega arith in
      subst (λ (m : ℕ). EndsOf m s) z (ends_gap (r' - r) r s h (λ j q a b. g j q a (omega arith)))

  pub ends_last : (n r s l m : ℕ) → n ≤ r → r ≤ n → EndsOf r s → ((j : ℕ) → bit l j ≡ cond (ltb j level_count) 1 0) → ((j : ℕ) → bit m j ≡ min (bit s j) (bit l j)) → (j : ℕ) → bit m j ≡ cond (ltb j level_count && (eqb j last_level || any (f j) (count_up 0 n))) 1 0
  ends_last n r s l m p q h g e j =
      let z : r ≡ n = omega arith in
      e j ∙ ap₂ min (h j ∙ ap (λ (x : ℕ). bit_if (eqb j last_level || any (f j) (count_up 0 x))) z) (g j) ∙ both (eqb j last_level || any (f j) (count_up 0 n)) (ltb j level_count)
    where
      both : (x y : Bool) → min (bit_if x) (bit_if y) ≡ bit_if (y && x)
      both true true = refl
      both true false = refl
      both false true = refl
      both false false = refl

-- the heads of a kind
module _ {t : List ℕ} {k : ℕ} (g : Heading t k) where
  pub few_heads : (k < kind_limit) × (count_of t k ≤ heads_width)
  few_heads = (omega (arith, g.there, kinds_same g.known, (words_of g.known).few_kinds), omega (arith, g.known.decoded.head_count k g.there, heads_most g.known k (omega (arith, g.there, kinds_same g.known))))

  pub all_levels : first_of t k ≡ level_base → count_of t k ≡ level_count
  all_levels e =
      let n : is_number_kind g.known.sig k ≡ true = number_first g.known k g.there ∙ rw e in
      g.known.decoded.head_count k g.there ∙ ap (λ b. length (cond b levels (numbers g.known.sig k))) n ∙ count_length level_base level_count

  pub level_heads : (s j : ℕ) (f : ℕ → Bool) → first_of t k ≡ level_base → bit s j ≡ cond (ltb j level_count && f j) 1 0 → bit s j ≡ cond (ltb j (count_of t k) && cond (eqb (first_of t k) level_base) (f j) true) 1 0
  level_heads s j f e h = rw (all_levels e, e) h

  pub other_heads : (s j m : ℕ) (f : ℕ → Bool) → (first_of t k ≡ level_base → ⊥) → m ≡ count_of t k → bit s j ≡ cond (ltb j m) 1 0 → bit s j ≡ cond (ltb j (count_of t k) && cond (eqb (first_of t k) level_base) (f j) true) 1 0
  other_heads s j m f e q h = h ∙ rw (q, eqb_no (first_of t k) level_base e) (ap bit_if (sym (and_true (ltb j (count_of t k)))))
