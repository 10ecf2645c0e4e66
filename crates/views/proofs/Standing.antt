-- A row's cells in preorder: where the cells of the rows still to come begin, and the cell in front.
use borrow.Author.Tests.{lt-ltb, le-ltb}
use mathlib.Core.Path.{◌≡◌, refl, ap, sym, subst, ◌∙◌}
use mathlib.Core.Logic.{◌⊎◌, inl, inr}
use mathlib.Core.List.{List, [], ◌∷◌, ◌++◌, append_assoc, append-nil}
use mathlib.Core.Bool.{true, false}
use mathlib.Core.Option.{some}
use Prim.Native.Nat.{ℕ, suc, ◌+◌, ◌-◌, ◌*◌, ◌≤◌, ◌<◌}
use native.Mathlib.Omega.{arith}
use lib.ListN.{length, drop, length-append, length-drop}
use lib.Seq.{drop-drop, drop_at}
use Rattle.signature.specs.Decoded.{Known, kind_of}
use Rattle.signature.specs.Lists.{first}
use Rattle.signature.specs.Signature.{Signature, arguments, arguments_at, heads, is_level, is_number_kind}
use Rattle.signature.proofs.Heads.{args_same, level_is}
use Rattle.signature.proofs.KnownFacts.{head_is, words_of}
use Rattle.row.specs.Row.{Row, named, free, Rows, rnil, rcons}
use Rattle.row.specs.RowFits.{Good, good_named, good_free, Goods, goods_nil, goods_cons, place_count, places_count}
use Rattle.sets.specs.Set.{set_of, Within}
use Rattle.cell.specs.Cell.{cell_code, kind_tag, tag_limit, all_words}
use Rattle.cell.specs.Coded.{kinds_of, all_cells, row_code}
use Rattle.cell.specs.Cursor.{cell_at, cell_of, opens_of}
use Rattle.cell.proofs.Columns.{cell_there}
use Rattle.rowlist.proofs.Kinded.{kind_there, kinds_same, known_head, within_kind}
use Rattle.witness.proofs.Behind.{◌behind◌, count, count_behind, count_goods, count_places, goods_behind, words_behind}
use Rattle.witness.proofs.Filling.{kind_here, within_all}
use Rattle.cell.specs.Cursor.{cell_kind}
use Rattle.views.specs.Write.{GivenPart}

-- the rows below the cell at the top, and their kinds; its tag, variables and heads
abbrev pub below : Row → Rows
below (named xs c rs) = rs
below (free xs cs) = rnil

abbrev pub below_kinds : Signature → Row → List ℕ
below_kinds sig (named xs c rs) = arguments sig c
below_kinds sig (free xs cs) = []

abbrev pub tag_of : ℕ → Row → ℕ
tag_of k (named xs c rs) = c
tag_of k (free xs cs) = kind_tag + k

abbrev pub vars_of : Row → List ℕ
vars_of (named xs c rs) = xs
vars_of (free xs cs) = xs

abbrev pub allowed_of : Row → List ℕ
allowed_of (named xs c rs) = c ∷ []
allowed_of (free xs cs) = cs

-- the words of the cell at the top
abbrev pub top_code : Signature → ℕ → Row → List ℕ
top_code sig k r = cell_code (tag_of k r) (set_of 0 (vars_of r)) (set_of (first (heads sig k)) (allowed_of r))

pub code_parts : (sig : Signature) (k : ℕ) (r : Row) → row_code (kinds_of sig) r k ≡ top_code sig k r ++ all_words (all_cells (kinds_of sig) (below r) (below_kinds sig r))
code_parts sig k (named xs c rs) = refl
code_parts sig k (free xs cs) = refl

pub places_below : (r : Row) → place_count r ≡ suc (places_count (below r))
places_below (named xs c rs) = refl
places_below (free xs cs) = refl

-- three words a cell
module _ {sig : Signature} where
  mutual
    pub code_length : {k : ℕ} {r : Row} → Good sig k r → length (row_code (kinds_of sig) r k) ≡ 3 * place_count r
    code_length {k} (good_named {c = c} {js = js} {rs = rs} l e gs) = let z = rw (← args_same sig k c js e) at (codes_length gs) in omega (arith, z)
    code_length (good_free a) = refl

    pub codes_length : {ks : List ℕ} {rs : Rows} → Goods sig ks rs → length (all_words (all_cells (kinds_of sig) rs ks)) ≡ 3 * places_count rs
    codes_length goods_nil = refl
    codes_length (goods_cons {k = k} {ks = ks} {r = r} {rs = rs} g gs) = length-append (row_code (kinds_of sig) r k) (all_words (all_cells (kinds_of sig) rs ks)) ∙ omega (arith, code_length g, codes_length gs)

-- what the table of the signature says of the cell at the top
pub record Parts {t : List ℕ} (g : Known t) (k : ℕ) (r : Row) : Type 0 where
  pub there : k < g.decoded.n
  pub small : tag_of k r < tag_limit
  pub opens : opens_of t (tag_of k r) ≡ length (below_kinds g.sig r)
  pub kind : cell_kind t (tag_of k r) ≡ k
  pub within : Within (first (heads g.sig k)) (allowed_of r)
  pub goods : Goods g.sig (below_kinds g.sig r) (below r)

module _ {t : List ℕ} (g : Known t) where
  pub kind_few : {k : ℕ} → k < g.decoded.n → k < 32
  kind_few l = omega (arith, l, kinds_same g, (words_of g).few_kinds)

  own_kind : (k c : ℕ) (js : List ℕ) → c < 256 → arguments_at g.sig k c ≡ some js → kind_of t c ≡ k
  own_kind k c js l e = go (head_is g k c js e)
    where
      go : ((c < length g.sig) × (is_number_kind g.sig k ≡ false) × (kind_of t c ≡ k)) ⊎ ((is_level c ≡ true) × (is_number_kind g.sig k ≡ true) × (js ≡ [])) → kind_of t c ≡ k
      go (inl q) = q.2
      go (inr q) = absurd (omega (arith, (level_is c q.0).0))

  pub parts : {k : ℕ} {r : Row} → Good g.sig k r → Parts g k r
  parts {k} (good_named {c = c} {js = js} {rs = rs} l e gs) =
      let K = known_head g k c js (omega (arith, l)) e in
      record {
        there = kind_there g k c js e;
        small = omega (arith, l);
        opens = rw (lt-ltb c kind_tag K.tag) K.arity;
        kind = rw (lt-ltb c kind_tag K.tag) (own_kind k c js l e);
        within = (K.low, K.high, tt);
        goods = subst (λ (ks : List ℕ). Goods g.sig ks rs) (sym (args_same g.sig k c js e)) gs;
      }
  parts {k} (good_free {c = d} {cs = cs} a) =
      let l = kind_here g k d cs a in
      record {
        there = l;
        small = omega (arith, kind_few l);
        opens = rw (le-ltb (kind_tag + k) kind_tag (omega arith));
        kind = rw (le-ltb (kind_tag + k) kind_tag (omega arith)) (omega arith);
        within = within_all (first (heads g.sig k)) (heads g.sig k) (within_kind g k l) a;
        goods = goods_nil;
      }

-- from a word on stand the cells of the rows still to come, and then the rest
pub record Stands (sig : Signature) (row rest : List ℕ) (at left : ℕ) (ks : List ℕ) (todo : Rows) : Type 0 where
  pub good : Goods sig ks todo
  pub code_is : drop at row ≡ all_words (all_cells (kinds_of sig) todo ks) ++ rest
  pub within : at ≤ length row
  pub left_is : left ≡ count todo

-- the row in front
pub record Front {t : List ℕ} (g : Known t) (row rest : List ℕ) (at left : ℕ) (k : ℕ) (ks : List ℕ) (r : Row) (todo : Rows) : Type 0 where
  pub good : Good g.sig k r
  pub parts : Parts g k r
  pub code_is : drop at row ≡ row_code (kinds_of g.sig) r k ++ (all_words (all_cells (kinds_of g.sig) todo ks) ++ rest)
  pub see : at + 3 ≤ length row
  pub cell : cell_at row at ≡ cell_of (tag_of k r) (set_of 0 (vars_of r)) (set_of (first (heads g.sig k)) (allowed_of r))
  -- the rows below it are next
  pub into : (w : ℕ) → w ≡ opens_of t (tag_of k r) → Stands g.sig row rest (at + 3) (left - 1 + w) (below_kinds g.sig r ++ ks) (below r behind todo)
  -- or they are passed
  pub past : (n : ℕ) → n ≡ at + length (row_code (kinds_of g.sig) r k) → Stands g.sig row rest n (left - 1) ks todo

pub start : {t row : List ℕ} (g : GivenPart t row) → Stands g.known.sig row g.rest 0 1 (g.kind ∷ []) (rcons g.r rnil)
start g = record {
  good = goods_cons g.good goods_nil;
  code_is = g.code_is ∙ ap (λ (l : List ℕ). l ++ g.rest) (sym (append-nil (row_code (kinds_of g.known.sig) g.r g.kind)));
  within = omega arith;
  left_is = refl;
}

module _ {t : List ℕ} (g : Known t) (row rest : List ℕ) (at left : ℕ) where
  pub front : {k : ℕ} {ks : List ℕ} {r : Row} {todo : Rows} → Good g.sig k r → Goods g.sig ks todo → Stands g.sig row rest at left (k ∷ ks) (rcons r todo) → Front g row rest at left k ks r todo
  front {k} {ks} {r} {todo} h hs m =
      let K = kinds_of g.sig in
      let P = parts g h in
      let tail : List ℕ = all_words (all_cells K todo ks) in
      let inner : List ℕ = all_words (all_cells K (below r) (below_kinds g.sig r)) in
      let e : drop at row ≡ row_code K r k ++ (tail ++ rest) = m.code_is ∙ append_assoc (row_code K r k) tail rest in
      let f : drop at row ≡ top_code g.sig k r ++ (inner ++ (tail ++ rest)) = e ∙ ap (λ (l : List ℕ). l ++ (tail ++ rest)) (code_parts g.sig k r) in
      let T = cell_there row at (tag_of k r) _ _ (inner ++ (tail ++ rest)) P.small f in
      record {
        good = h;
        parts = P;
        code_is = e;
        see = T.room;
        cell = T.cell;
        into = λ w ew. record {
          good = goods_behind P.goods hs;
          code_is = T.after ∙ sym (append_assoc inner tail rest) ∙ ap (λ (l : List ℕ). l ++ rest) (sym (words_behind K ks todo P.goods));
          within = T.room;
          left_is = omega (arith, m.left_is, count_behind (below r) todo, count_goods P.goods, ew, P.opens);
        };
        past = λ n en. record {
          good = hs;
          code_is = ap (λ (z : ℕ). drop z row) en ∙ sym (drop-drop (length (row_code K r k)) at row) ∙ ap (drop (length (row_code K r k))) e ∙ drop_at (row_code K r k) (tail ++ rest) (length (row_code K r k)) refl;
          within = omega (arith, length-drop at row, simp length-append at (ap length e), en, m.within);
          left_is = omega (arith, m.left_is);
        };
      }

-- as many rows, with their cells, as there is room for
pub few : (sig : Signature) (row rest : List ℕ) (at left : ℕ) {ks : List ℕ} {todo : Rows} → Stands sig row rest at left ks todo → (at + 3 * places_count todo ≤ length row) × (left ≤ places_count todo)
few sig row rest at left {ks} {todo} m = (omega (arith, m.within, length-drop at row, codes_length m.good, simp length-append at (ap length m.code_is)), omega (arith, m.left_is, count_places todo))

-- at the end the rest stands
pub ended : (sig : Signature) (row rest : List ℕ) (at left : ℕ) {ks : List ℕ} {todo : Rows} → Goods sig ks todo → Stands sig row rest at left ks todo → left ≡ 0 → (ks ≡ []) × (todo ≡ rnil) × (drop at row ≡ rest)
ended sig row rest at left goods_nil m e = (refl, refl, m.code_is)
ended sig row rest at left (goods_cons h hs) m e = absurd (omega (arith, m.left_is))
