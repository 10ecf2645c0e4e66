-- The columns of a row on a path: a step of its cursor is a step of them.
use mathlib.Core.Path.{◌≡◌, refl, sym, ap, subst, ◌∙◌}
use mathlib.Core.List.{List, [], ◌∷◌, ◌++◌, append_assoc}
use Prim.Native.Nat.{ℕ, suc, ◌+◌, ◌-◌, ◌≤◌, ◌<◌}
use native.Mathlib.Omega.{arith}
use lib.ListN.{length, drop, length-append}
use Rattle.signature.specs.Lists.{first}
use Rattle.signature.specs.Signature.{Signature, arguments}
use Rattle.row.specs.Row.{Row, Rows, rnil, rcons, open_row, open_rows}
use Rattle.cell.specs.Cell.{all_words, words}
use Rattle.cell.specs.Coded.{kinds_of, cells, all_cells}
use Rattle.tree.specs.Tree.{rappend}
use Rattle.path.specs.Standing.{RowStands, RowsStand, At}

abbrev tail_of : List ℕ → List ℕ
tail_of [] = []
tail_of (k ∷ ks) = ks

module _ (sig : Signature) where
  open_append : (js ks : List ℕ) (rs : Rows) → rappend (open_rows sig (js ++ ks)) rs ≡ rappend (open_rows sig js) (rappend (open_rows sig ks) rs)
  open_append [] ks rs = refl
  open_append (j ∷ js) ks rs = ap (rcons (open_row sig j)) (open_append js ks rs)

module _ (sig : Signature) (t : List ℕ) where
  goods_append : (qs : Rows) (js : List ℕ) (rs : Rows) (ks : List ℕ) → RowsStand sig t qs js → RowsStand sig t rs ks → RowsStand sig t (rappend qs rs) (js ++ ks)
  goods_append rnil [] rs ks g h = h
  goods_append rnil (j ∷ js) rs ks g h = absurd g
  goods_append (rcons q qs) [] rs ks g h = absurd g
  goods_append (rcons q qs) (j ∷ js) rs ks g h = (g.0, goods_append qs js rs ks g.1 h)

  words_append : (qs : Rows) (js : List ℕ) (rs : Rows) (ks : List ℕ) → RowsStand sig t qs js → all_words (all_cells (kinds_of sig) (rappend qs rs) (js ++ ks)) ≡ all_words (all_cells (kinds_of sig) qs js) ++ all_words (all_cells (kinds_of sig) rs ks)
  words_append rnil [] rs ks g = refl
  words_append rnil (j ∷ js) rs ks g = absurd g
  words_append (rcons q qs) [] rs ks g = absurd g
  words_append (rcons q qs) (j ∷ js) rs ks g = ap (λ (l : List ℕ). words (cells (kinds_of sig) q j) ++ l) (words_append qs js rs ks g.1) ∙ sym (append_assoc (words (cells (kinds_of sig) q j)) _ _)

  -- wildcards in front
  pub opened : (a : List ℕ) (stop at own : ℕ) (js ks : List ℕ) (rs : Rows) → At sig t a stop at own ks rs → At sig t a stop at own (js ++ ks) (rappend (open_rows sig js) rs)
  opened a stop at own js ks rs h = record {
    virt = js ++ h.virt;
    mine = h.mine;
    qs = h.qs;
    rest = h.rest;
    kinds_are = ap (λ (l : List ℕ). js ++ l) h.kinds_are ∙ sym (append_assoc js h.virt h.mine);
    columns_are = ap (rappend (open_rows sig js)) h.columns_are ∙ sym (open_append sig js h.virt h.qs);
    good = h.good;
    code_is = h.code_is;
    within = h.within;
    own_is = h.own_is;
    ends = h.ends;
  }

  -- cells of arguments in front
  pub entered : (a : List ℕ) (stop at : ℕ) (qs : Rows) (js : List ℕ) (rs : Rows) (ks rest : List ℕ) → RowsStand sig t qs js → RowsStand sig t rs ks
      → drop at a ≡ all_words (all_cells (kinds_of sig) qs js) ++ (all_words (all_cells (kinds_of sig) rs ks) ++ rest) → at ≤ length a
      → at + (length (all_words (all_cells (kinds_of sig) qs js)) + length (all_words (all_cells (kinds_of sig) rs ks))) ≡ stop → At sig t a stop at (length js + length ks) (js ++ ks) (rappend qs rs)
  entered a stop at qs js rs ks rest g h e l n = let w = words_append qs js rs ks g in record {
    virt = [];
    mine = js ++ ks;
    qs = rappend qs rs;
    rest = rest;
    kinds_are = refl;
    columns_are = refl;
    good = goods_append qs js rs ks g h;
    code_is = e ∙ sym (append_assoc (all_words (all_cells (kinds_of sig) qs js)) _ rest) ∙ ap (λ (z : List ℕ). z ++ rest) (sym w);
    within = l;
    own_is = sym (length-append js ks);
    ends = rw w (simp length-append n);
  }

  -- the first column is a wildcard that no cell stands for
  pub record VirtAt (a : List ℕ) (stop at own k : ℕ) (ks : List ℕ) (rs : Rows) : Type 0 where
    pub cols : Rows
    pub is : rs ≡ rcons (open_row sig k) cols
    pub here : At sig t a stop at own ks cols

  virt_go : (a : List ℕ) (stop at own k : ℕ) (ks : List ℕ) (rs : Rows) (h : At sig t a stop at own (k ∷ ks) rs) (vs : List ℕ) → h.virt ≡ vs → own < suc (length ks) → VirtAt a stop at own k ks rs
  virt_go a stop at own k ks rs h [] e l = absurd (omega (arith, h.own_is, ap length (h.kinds_are ∙ ap (λ (z : List ℕ). z ++ h.mine) e)))
  virt_go a stop at own k ks rs h (j ∷ vs) e l =
      let q : k ∷ ks ≡ j ∷ (vs ++ h.mine) = h.kinds_are ∙ ap (λ (z : List ℕ). z ++ h.mine) e in
      let i : k ≡ j = ap first q in
      record {
        cols = rappend (open_rows sig vs) h.qs;
        is = h.columns_are ∙ ap (λ (z : List ℕ). rappend (open_rows sig z) h.qs) e ∙ ap (λ (z : ℕ). rcons (open_row sig z) (rappend (open_rows sig vs) h.qs)) (sym i);
        here = record {
          virt = vs;
          mine = h.mine;
          qs = h.qs;
          rest = h.rest;
          kinds_are = ap tail_of q;
          columns_are = refl;
          good = h.good;
          code_is = h.code_is;
          within = h.within;
          own_is = h.own_is;
          ends = h.ends;
        };
      }

  pub is_virt : (a : List ℕ) (stop at own k : ℕ) (ks : List ℕ) (rs : Rows) → At sig t a stop at own (k ∷ ks) rs → own < suc (length ks) → VirtAt a stop at own k ks rs
  is_virt a stop at own k ks rs h l = virt_go a stop at own k ks rs h h.virt refl l

  -- the first column is the row's own
  pub record RealAt (a : List ℕ) (stop at k : ℕ) (ks : List ℕ) (rs : Rows) : Type 0 where
    pub r : Row
    pub qs : Rows
    pub rest : List ℕ
    pub is : rs ≡ rcons r qs
    pub good : RowStands sig t r k
    pub goods : RowsStand sig t qs ks
    pub code_is : drop at a ≡ words (cells (kinds_of sig) r k) ++ (all_words (all_cells (kinds_of sig) qs ks) ++ rest)
    pub ends : at + (length (words (cells (kinds_of sig) r k)) + length (all_words (all_cells (kinds_of sig) qs ks))) ≡ stop

  real_row : (a : List ℕ) (stop at k : ℕ) (ks : List ℕ) (rs : Rows) (rest : List ℕ) → RowsStand sig t rs (k ∷ ks) → drop at a ≡ all_words (all_cells (kinds_of sig) rs (k ∷ ks)) ++ rest → at + length (all_words (all_cells (kinds_of sig) rs (k ∷ ks))) ≡ stop → RealAt a stop at k ks rs
  real_row a stop at k ks rnil rest g e n = absurd g
  real_row a stop at k ks (rcons r qs) rest g e n = record {
    r = r;
    qs = qs;
    rest = rest;
    is = refl;
    good = g.0;
    goods = g.1;
    code_is = e ∙ append_assoc (words (cells (kinds_of sig) r k)) _ rest;
    ends = ap (λ (z : ℕ). at + z) (sym (length-append (words (cells (kinds_of sig) r k)) (all_words (all_cells (kinds_of sig) qs ks)))) ∙ n;
  }

  real_go : (a : List ℕ) (stop at own k : ℕ) (ks : List ℕ) (rs : Rows) (h : At sig t a stop at own (k ∷ ks) rs) (vs : List ℕ) → h.virt ≡ vs → own ≡ suc (length ks) → RealAt a stop at k ks rs
  real_go a stop at own k ks rs h [] e l =
      let q : k ∷ ks ≡ h.mine = h.kinds_are ∙ ap (λ (z : List ℕ). z ++ h.mine) e in
      let i : rs ≡ h.qs = h.columns_are ∙ ap (λ (z : List ℕ). rappend (open_rows sig z) h.qs) e in
      rw i (real_row a stop at k ks h.qs h.rest
      (subst (λ (z : List ℕ). RowsStand sig t h.qs z) (sym q) h.good)
      (h.code_is ∙ ap (λ (z : List ℕ). all_words (all_cells (kinds_of sig) h.qs z) ++ h.rest) (sym q))
      (ap (λ (z : List ℕ). at + length (all_words (all_cells (kinds_of sig) h.qs z))) q ∙ h.ends))
  real_go a stop at own k ks rs h (j ∷ vs) e l =
      let q : k ∷ ks ≡ j ∷ (vs ++ h.mine) = h.kinds_are ∙ ap (λ (z : List ℕ). z ++ h.mine) e in
      absurd (omega (arith, h.own_is, ap length q, length-append vs h.mine))

  pub is_real : (a : List ℕ) (stop at own k : ℕ) (ks : List ℕ) (rs : Rows) → At sig t a stop at own (k ∷ ks) rs → own ≡ suc (length ks) → RealAt a stop at k ks rs
  is_real a stop at own k ks rs h l = real_go a stop at own k ks rs h h.virt refl l
