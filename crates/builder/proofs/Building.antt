-- What a pattern is, by its first word, and its leaves as they are written.
use mathlib.Core.Path.{refl, ◌≡◌, sym, ap, ◌∙◌}
use mathlib.Core.List.{List, ◌∷◌, [], ◌++◌}
use mathlib.Core.Bool.{Bool, true, false, not, ◌&&◌}
use Prim.Native.Nat.{ℕ, ◌≤◌, ◌<◌, ◌+◌, ◌-◌, ◌*◌}
use native.Mathlib.Omega.{arith}
use lib.Dec.{leb}
use native.Mathlib.Nat.{le_trans}
use lib.ListN.{length, get_or, set}
use lib.Pow.{pow-lt}
use Rattle.signature.specs.Lists.{somes}
use Rattle.signature.specs.Signature.{Signature, heads, is_number_kind}
use Rattle.signature.proofs.Booleans.{and_left, and_right}
use Rattle.signature.proofs.Tests.{times_less, le_of}
use Rattle.pattern.specs.Pattern.{Pattern, head, and, or, wild, absurd_pat, neg, var, range, pattern_code}
use Rattle.pattern.specs.Ranged.{ranged}
use Rattle.pattern.specs.Range.{right_range}
use Rattle.pattern.specs.Read.{Form, form, is_head, is_var, is_and, is_or, is_wild, is_absurd, is_not, is_range, is_other}
use Rattle.pattern.specs.Word.{own_words}
use Rattle.pattern.specs.Weight.{weight_plus, weight_minus, light_plus, light_minus}
use Rattle.pattern.specs.WellFormed.{WellFormed, well_and, well_or, well_not, well_var, well_range}
use Rattle.pattern.proofs.Opened.{shape}
use Rattle.rowlist.specs.Sides.{rows_of, Open}
use Rattle.builder.specs.Build.{light_of, making_of, GivenAs}
use Rattle.builder.specs.declared.build.Making.{Making}
use Rattle.builder.specs.declared.build.Making.TheVariants.{Head, Multiply, Add, One, Nothing, Swap, Range}
use Rattle.cell.specs.Cell.{kind_tag, Kinds, cell_code}
use Rattle.cell.specs.Cursor.{put_cell}
use Rattle.sets.specs.Heads.{number_of}
use Rattle.sets.specs.declared.heads.Heads.{Heads}
use Rattle.sets.specs.Set.{set_of}
use Rattle.rowlist.specs.Product.{Product}
use Rattle.row.specs.Row.{combine, each, rows_plus, rows_minus}
use Rattle.cell.specs.RowList.{entries}
use Rattle.sets.proofs.ListSets.{set_nil, set_one}
use Rattle.row.proofs.RowCount.{plus_count, minus_count}

-- a list of one row, as it is written
pub one_list : (t v : ℕ) (f : Heads) (o : List ℕ) → 5 ≤ length o → Product (3 ∷ cell_code t v (number_of f)) 4 (set (put_cell (set o 0 3) 1 (record { tag = t; vars = v; allowed = f })) 4 0)
one_list t v f [] h = absurd (omega arith)
one_list t v f (a ∷ []) h = absurd (omega arith)
one_list t v f (a ∷ (b ∷ [])) h = absurd (omega arith)
one_list t v f (a ∷ (b ∷ (c ∷ []))) h = absurd (omega arith)
one_list t v f (a ∷ (b ∷ (c ∷ (d ∷ [])))) h = absurd (omega arith)
one_list t v f (a ∷ (b ∷ (c ∷ (d ∷ (e ∷ o))))) h = record { size = refl; list = refl }

-- what tells one step from another
abbrev pub rank : Making → ℕ
rank (Head c) = 0
rank Multiply = 1
rank Add = 2
rank (One v) = 3
rank Nothing = 4
rank Swap = 5
rank Range = 6

abbrev vars_of : Making → ℕ
vars_of (Head c) = 0
vars_of Multiply = 0
vars_of Add = 0
vars_of (One v) = v
vars_of Nothing = 0
vars_of Swap = 0
vars_of Range = 0

abbrev pub head_number : Making → ℕ
head_number (Head c) = c
head_number Multiply = 0
head_number Add = 0
head_number (One v) = 0
head_number Nothing = 0
head_number Swap = 0
head_number Range = 0

-- a pattern's step is another one
pub other_step : {r s : Making} {A : Type 0} → r ≡ s → ¬ (rank r ≡ rank s) → A
other_step e h = absurd (h (ap rank e))

-- a word whose rows are not a range's is alone
own_one : (f : Form) (b : Bool) (s : Making) → making_of f b ≡ s → ¬ (6 ≡ rank s) → own_words f ≡ 1
own_one (is_head c) b s e h = refl
own_one (is_var x) b s e h = refl
own_one is_and b s e h = refl
own_one is_or b s e h = refl
own_one is_wild b s e h = refl
own_one is_absurd b s e h = refl
own_one is_not b s e h = refl
own_one is_range b s e h = other_step e h
own_one is_other b s e h = refl

pub one_word : (f : Form) {r s : Making} {own : ℕ} (b : Bool) → r ≡ making_of f b → r ≡ s → ¬ (6 ≡ rank s) → own ≡ own_words f → own ≡ 1
one_word f {s = s} b e q h o = o ∙ own_one f b s (sym e ∙ q) h

pub own_given : {s : Making} {t : List ℕ} {tag full own : ℕ} {w : List ℕ} {b : Bool} {n m : ℕ} → ¬ (6 ≡ rank s) → GivenAs s t tag full own w b n m → own ≡ 1
own_given {w = w} {b = b} h g = one_word (form (get_or w 0 0)) b refl g.word h g.own_is

parts_of : (a b c : Bool) → (a && b && c) ≡ true → (a ≡ true) × (b ≡ true) × (c ≡ true)
parts_of a b c e = (and_left a b (and_left (a && b) c e), and_right a b (and_left (a && b) c e), and_right (a && b) c e)

module _ (sig : Signature) (k : ℕ) where
  pub record Negated (p : Pattern) (b : Bool) : Type 0 where
    pub q : Pattern
    pub code_is : pattern_code p ≡ 260 ∷ pattern_code q
    pub well : WellFormed sig k q
    pub light : light_of (not b) q ≡ true
    pub ranges : ranged q ≡ true
    pub rows_is : rows_of sig k b p ≡ rows_of sig k (not b) q

  pub negated : (p : Pattern) (b : Bool) → WellFormed sig k p → light_of b p ≡ true → ranged p ≡ true → making_of (shape p) b ≡ Swap → Negated p b
  negated (head c ps) b h l y w = other_step w (λ z. omega (arith, z))
  negated (and p q) true h l y w = other_step w (λ z. omega (arith, z))
  negated (and p q) false h l y w = other_step w (λ z. omega (arith, z))
  negated (or p q) true h l y w = other_step w (λ z. omega (arith, z))
  negated (or p q) false h l y w = other_step w (λ z. omega (arith, z))
  negated wild true h l y w = other_step w (λ z. omega (arith, z))
  negated wild false h l y w = other_step w (λ z. omega (arith, z))
  negated absurd_pat true h l y w = other_step w (λ z. omega (arith, z))
  negated absurd_pat false h l y w = other_step w (λ z. omega (arith, z))
  negated (neg p) true (well_not h) l y w = record { q = p; code_is = refl; well = h; light = l; ranges = y; rows_is = refl }
  negated (neg p) false (well_not h) l y w = record { q = p; code_is = refl; well = h; light = l; ranges = y; rows_is = refl }
  negated (var x) true h l y w = other_step w (λ z. omega (arith, z))
  negated (var x) false h l y w = other_step w (λ z. omega (arith, z))
  negated (range low high) b h l y w = other_step w (λ z. omega (arith, z))

  -- two parts: their words and what holds of each
  pub record Two (p : Pattern) (b : Bool) : Type 0 where
    pub word : ℕ
    pub q : Pattern
    pub r : Pattern
    pub code_is : pattern_code p ≡ word ∷ (pattern_code q ++ pattern_code r)
    pub well : WellFormed sig k q × WellFormed sig k r
    pub light : (light_of b q ≡ true) × (light_of b r ≡ true)
    pub ranges : (ranged q ≡ true) × (ranged r ≡ true)

  -- two parts that are multiplied
  pub record Multiplied (p : Pattern) (b : Bool) : Type 0 where
    pub two : Two p b
    pub few : length (rows_of sig k b two.q) * length (rows_of sig k b two.r) ≤ 64
    pub rows_is : rows_of sig k b p ≡ somes (each combine (rows_of sig k b two.q) (rows_of sig k b two.r))

  pub multiplied : (p : Pattern) (b : Bool) → WellFormed sig k p → light_of b p ≡ true → ranged p ≡ true → making_of (shape p) b ≡ Multiply → Multiplied p b
  multiplied (head c ps) b h l y w = other_step w (λ z. omega (arith, z))
  multiplied (and p q) true (well_and h i) l y w =
      let s = parts_of (leb (weight_plus p * weight_plus q) 64) (light_plus p) (light_plus q) l in
      record {
        two = record { word = 256; q = p; r = q; code_is = refl; well = (h, i); light = (s.1, s.2); ranges = (and_left (ranged p) (ranged q) y, and_right (ranged p) (ranged q) y) };
        few = le_trans (times_less (length (rows_plus sig k p)) (weight_plus p) (length (rows_plus sig k q)) (weight_plus q) (plus_count sig p k) (plus_count sig q k)) (le_of (weight_plus p * weight_plus q) 64 s.0);
        rows_is = refl;
      }
  multiplied (and p q) false h l y w = other_step w (λ z. omega (arith, z))
  multiplied (or p q) true h l y w = other_step w (λ z. omega (arith, z))
  multiplied (or p q) false (well_or h i) l y w =
      let s = parts_of (leb (weight_minus p * weight_minus q) 64) (light_minus p) (light_minus q) l in
      record {
        two = record { word = 257; q = p; r = q; code_is = refl; well = (h, i); light = (s.1, s.2); ranges = (and_left (ranged p) (ranged q) y, and_right (ranged p) (ranged q) y) };
        few = le_trans (times_less (length (rows_minus sig k p)) (weight_minus p) (length (rows_minus sig k q)) (weight_minus q) (minus_count sig p k) (minus_count sig q k)) (le_of (weight_minus p * weight_minus q) 64 s.0);
        rows_is = refl;
      }
  multiplied wild true h l y w = other_step w (λ z. omega (arith, z))
  multiplied wild false h l y w = other_step w (λ z. omega (arith, z))
  multiplied absurd_pat true h l y w = other_step w (λ z. omega (arith, z))
  multiplied absurd_pat false h l y w = other_step w (λ z. omega (arith, z))
  multiplied (neg p) b h l y w = other_step w (λ z. omega (arith, z))
  multiplied (var x) true h l y w = other_step w (λ z. omega (arith, z))
  multiplied (var x) false h l y w = other_step w (λ z. omega (arith, z))
  multiplied (range low high) b h l y w = other_step w (λ z. omega (arith, z))

  -- two parts that are added
  pub record Added (p : Pattern) (b : Bool) : Type 0 where
    pub two : Two p b
    pub rows_is : rows_of sig k b p ≡ rows_of sig k b two.q ++ rows_of sig k b two.r

  pub added : (p : Pattern) (b : Bool) → WellFormed sig k p → light_of b p ≡ true → ranged p ≡ true → making_of (shape p) b ≡ Add → Added p b
  added (head c ps) b h l y w = other_step w (λ z. omega (arith, z))
  added (and p q) true h l y w = other_step w (λ z. omega (arith, z))
  added (and p q) false (well_and h i) l y w =
      let s = parts_of (leb (weight_minus p + weight_minus q) 64) (light_minus p) (light_minus q) l in
      record { two = record { word = 256; q = p; r = q; code_is = refl; well = (h, i); light = (s.1, s.2); ranges = (and_left (ranged p) (ranged q) y, and_right (ranged p) (ranged q) y) }; rows_is = refl }
  added (or p q) true (well_or h i) l y w =
      let s = parts_of (leb (weight_plus p + weight_plus q) 64) (light_plus p) (light_plus q) l in
      record { two = record { word = 257; q = p; r = q; code_is = refl; well = (h, i); light = (s.1, s.2); ranges = (and_left (ranged p) (ranged q) y, and_right (ranged p) (ranged q) y) }; rows_is = refl }
  added (or p q) false h l y w = other_step w (λ z. omega (arith, z))
  added wild true h l y w = other_step w (λ z. omega (arith, z))
  added wild false h l y w = other_step w (λ z. omega (arith, z))
  added absurd_pat true h l y w = other_step w (λ z. omega (arith, z))
  added absurd_pat false h l y w = other_step w (λ z. omega (arith, z))
  added (neg p) b h l y w = other_step w (λ z. omega (arith, z))
  added (var x) true h l y w = other_step w (λ z. omega (arith, z))
  added (var x) false h l y w = other_step w (λ z. omega (arith, z))
  added (range low high) b h l y w = other_step w (λ z. omega (arith, z))

-- a range
pub record RangeOf (sig : Signature) (k : ℕ) (p : Pattern) : Type 0 where
  pub low : ℕ
  pub high : ℕ
  pub p_is : p ≡ range low high
  pub number : is_number_kind sig k ≡ true
  pub right : right_range low high ≡ true

pub range_of : (sig : Signature) (k : ℕ) (p : Pattern) (b : Bool) → WellFormed sig k p → ranged p ≡ true → making_of (shape p) b ≡ Range → RangeOf sig k p
range_of sig k (range low high) b (well_range n) r w = record { low = low; high = high; p_is = refl; number = n; right = r }
range_of sig k (head c ps) b h r w = other_step w (λ z. omega (arith, z))
range_of sig k (and p q) true h r w = other_step w (λ z. omega (arith, z))
range_of sig k (and p q) false h r w = other_step w (λ z. omega (arith, z))
range_of sig k (or p q) true h r w = other_step w (λ z. omega (arith, z))
range_of sig k (or p q) false h r w = other_step w (λ z. omega (arith, z))
range_of sig k wild true h r w = other_step w (λ z. omega (arith, z))
range_of sig k wild false h r w = other_step w (λ z. omega (arith, z))
range_of sig k absurd_pat true h r w = other_step w (λ z. omega (arith, z))
range_of sig k absurd_pat false h r w = other_step w (λ z. omega (arith, z))
range_of sig k (neg p) b h r w = other_step w (λ z. omega (arith, z))
range_of sig k (var x) true h r w = other_step w (λ z. omega (arith, z))
range_of sig k (var x) false h r w = other_step w (λ z. omega (arith, z))

module _ (K : Kinds) (sig : Signature) (k tag full : ℕ) (o : Open K sig k tag full) where
  one_row : (v : ℕ) (xs : List ℕ) → v ≡ set_of 0 xs → ◌≡◌ {A = List ℕ} (3 ∷ cell_code tag v full) (3 ∷ cell_code (kind_tag + k) (set_of 0 xs) (set_of (K.first k) (heads sig k)))
  one_row v xs e = rw (e, o.tag_is, o.full_is)

  -- a variable's set is small
  vars_small : (x : ℕ) → x < 16 → set_of 0 (x ∷ []) < 65536
  vars_small x l = rw (set_one 0 x) (pow-lt {i = x - 0} {j = 16} (omega (arith, l)))

  -- a pattern of one word: its rows are these
  pub record Leaf (p : Pattern) (b : Bool) (ws : List ℕ) : Type 0 where
    pub short : length (pattern_code p) ≡ 1
    pub rows_is : ws ≡ entries K k (rows_of sig k b p)

  pub one_of : (p : Pattern) (b : Bool) (v : ℕ) → WellFormed sig k p → making_of (shape p) b ≡ One v → Leaf p b (3 ∷ cell_code tag v full) × (v < 65536)
  one_of (head c ps) b v h w = other_step w (λ z. omega (arith, z))
  one_of (and p q) true v h w = other_step w (λ z. omega (arith, z))
  one_of (and p q) false v h w = other_step w (λ z. omega (arith, z))
  one_of (or p q) true v h w = other_step w (λ z. omega (arith, z))
  one_of (or p q) false v h w = other_step w (λ z. omega (arith, z))
  one_of wild true v h w = (record { short = refl; rows_is = one_row v [] (sym (ap vars_of w) ∙ sym (set_nil 0)) }, omega (arith, ap vars_of w))
  one_of wild false v h w = other_step w (λ z. omega (arith, z))
  one_of absurd_pat true v h w = other_step w (λ z. omega (arith, z))
  one_of absurd_pat false v h w = (record { short = refl; rows_is = one_row v [] (sym (ap vars_of w) ∙ sym (set_nil 0)) }, omega (arith, ap vars_of w))
  one_of (neg p) b v h w = other_step w (λ z. omega (arith, z))
  one_of (var x) true v (well_var h) w = (record { short = refl; rows_is = one_row v (x ∷ []) (sym (ap vars_of w)) }, omega (arith, ap vars_of w, vars_small x h))
  one_of (var x) false v h w = other_step w (λ z. omega (arith, z))
  one_of (range low high) b v h w = other_step w (λ z. omega (arith, z))

  pub none_of : (p : Pattern) (b : Bool) → making_of (shape p) b ≡ Nothing → Leaf p b []
  none_of (head c ps) b w = other_step w (λ z. omega (arith, z))
  none_of (and p q) true w = other_step w (λ z. omega (arith, z))
  none_of (and p q) false w = other_step w (λ z. omega (arith, z))
  none_of (or p q) true w = other_step w (λ z. omega (arith, z))
  none_of (or p q) false w = other_step w (λ z. omega (arith, z))
  none_of wild true w = other_step w (λ z. omega (arith, z))
  none_of wild false w = record { short = refl; rows_is = refl }
  none_of absurd_pat true w = record { short = refl; rows_is = refl }
  none_of absurd_pat false w = other_step w (λ z. omega (arith, z))
  none_of (neg p) b w = other_step w (λ z. omega (arith, z))
  none_of (var x) true w = other_step w (λ z. omega (arith, z))
  none_of (var x) false w = record { short = refl; rows_is = refl }
  none_of (range low high) b w = other_step w (λ z. omega (arith, z))
