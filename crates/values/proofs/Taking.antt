-- A row and the words of a value side by side: each word is a head, and stands at a cell or below an open one.
use borrow.Author.Tests.{lt-ltb, le-ltb}
use mathlib.Core.Path.{◌≡◌, refl, ap, sym, subst, ◌∙◌}
use mathlib.Core.List.{List, [], ◌∷◌, ◌++◌, append-nil}
use mathlib.Core.Bool.{Bool, true, false, cond, ◌&&◌}
use mathlib.Core.Option.{some}
use Prim.Native.Nat.{ℕ, ◌+◌, ◌-◌, ◌≤◌, ◌<◌}
use native.Mathlib.Omega.{arith}
use lib.Dec.{eqb, ltb}
use lib.ListN.{length, drop, get_or, length-append, length-drop}
use Rattle.signature.specs.Decoded.{head_arity, first_of}
use Rattle.signature.specs.Lawful.{of_kind, OfKinds, of_kinds_nil, of_kinds_cons}
use Rattle.signature.specs.Limits.{kind_limit, heads_limit, level_base, constructor_limit, argument_limit}
use Rattle.signature.specs.Lists.{All, first, memb}
use Rattle.signature.specs.Signature.{Signature, arguments_at, heads}
use Rattle.signature.specs.Value.{Values, con, vnil, vcons, code, codes}
use Rattle.signature.proofs.Booleans.{and_true}
use Rattle.signature.proofs.Heads.{args_same, same_args, has_kind}
use Rattle.signature.proofs.KnownFacts.{head_arity_is, few_of_head, is_constructor, few_constructors, few_kinds}
use Rattle.signature.proofs.Tests.{eqb_eq, true≢false}
use Rattle.row.specs.Row.{Rows, named, free, rnil, rcons}
use Rattle.row.specs.RowFits.{good_named, good_free, Goods, goods_nil, goods_cons, row_fits, rows_fit}
use Rattle.cell.specs.Cell.{kind_tag, free_tag, tag_limit, all_words, cell_code}
use Rattle.cell.specs.Coded.{kinds_of, all_cells, row_code}
use Rattle.cell.specs.Cursor.{cell_of, look_at, next_of, Room, wild_cell}
use Rattle.cell.specs.declared.cell.Cell.{Cell}
use Rattle.cell.specs.declared.cell.Cursor.{Cursor}
use Rattle.cell.proofs.Columns.{cell_there}
use Rattle.cell.proofs.Turns.{zero_cursor}
use Rattle.cell.proofs.Walk.{word_at}
use Rattle.rowlist.proofs.Kinded.{within_kind}
use Rattle.sets.specs.Set.{set_of}
use Rattle.sets.proofs.HeadSets.{number_words}
use Rattle.sets.proofs.ListSets.{bit_set_of, one_if, within_one}
use Rattle.witness.proofs.Behind.{◌behind◌, goods_behind, words_behind}
use Rattle.witness.proofs.Filling.{within_all, kind_here}
use Rattle.values.specs.Takes.{GivenTakes, Near, allows_of}
use Rattle.values.proofs.Beside.{◌beside◌, codes_beside, kinds_beside, fits_beside}

-- in the loop: values that stand below an open cell, then the rows still to come with a value each
pub record Mid {t row b : List ℕ} (g : GivenTakes t row b) (y : Cursor) (i : ℕ) (ks js : List ℕ) (ws us : Values) (todo : Rows) : Type 0 where
  pub below : OfKinds g.known.sig ks ws
  pub wilds : y.wildcards ≡ length ks
  pub good : Goods g.known.sig js todo
  pub values : OfKinds g.known.sig js us
  pub code_is : drop y.at row ≡ all_words (all_cells (kinds_of g.known.sig) todo js) ++ g.rest
  pub within : y.at ≤ length row
  pub words : drop i b ≡ codes ws ++ codes us
  pub same : row_fits g.r g.value ≡ rows_fit todo us

abbrev pub Now : {t row b : List ℕ} → GivenTakes t row b → Cursor → ℕ → Type 0
Now g y i = (ks : List ℕ) × (js : List ℕ) × (ws : Values) × (us : Values) × (todo : Rows) × Mid g y i ks js ws us todo

-- the head c in front, and what its cell p says of it
pub record Front {t row b : List ℕ} (g : GivenTakes t row b) (y : Cursor) (i : ℕ) (p : Cell) (c : ℕ) : Type 0 where
  pub see : Room row y
  pub near : Near t p.tag c
  pub head : c < level_base → c < constructor_limit
  pub few : head_arity t c ≤ argument_limit
  pub fit : y.wildcards ≤ length b
  pub at_most : y.at ≤ length row
  pub yes : allows_of t p c ≡ true → (y' : Cursor) → y' ≡ next_of y p.tag (head_arity t c) → Now g y' (i + 1)
  pub no : allows_of t p c ≡ false → row_fits g.r g.value ≡ false

-- as many words as values, at least
some_words : {sig : Signature} {ks : List ℕ} {ws : Values} → OfKinds sig ks ws → length ks ≤ length (codes ws)
some_words of_kinds_nil = omega arith
some_words (of_kinds_cons {v = con c vs} {vs = ws} h hs) = simp length-append (omega (arith, some_words hs))

one_if_test : (m : Bool) → eqb (one_if m) 1 ≡ m
one_if_test true = refl
one_if_test false = refl

module _ {t row b : List ℕ} (g : GivenTakes t row b) where
  pub start : Now g zero_cursor 0
  start = (
    [],
    g.kind ∷ [],
    vnil,
    vcons g.value vnil,
    rcons g.r rnil,
    record {
      below = of_kinds_nil;
      wilds = refl;
      good = goods_cons g.good goods_nil;
      values = of_kinds_cons g.kinded of_kinds_nil;
      code_is = g.code_is ∙ ap (λ (l : List ℕ). l ++ g.rest) (sym (append-nil (row_code (kinds_of g.known.sig) g.r g.kind)));
      within = omega arith;
      words = g.words ∙ sym (append-nil (code g.value));
      same = sym (and_true (row_fits g.r g.value));
    },
  )

  module _ (y : Cursor) (i : ℕ) where
    fits_in : {ks js : List ℕ} {ws us : Values} {todo : Rows} → Mid g y i ks js ws us todo → y.wildcards ≤ length b
    fits_in {ws = ws} {us = us} M = omega (arith, M.wilds, some_words M.below, simp length-append at (ap length M.words), length-drop i b)

    -- a head below an open cell
    wild_front : (k d : ℕ) (ds ks js : List ℕ) (vs ws us : Values) (todo : Rows) → arguments_at g.known.sig k d ≡ some ds → OfKinds g.known.sig ds vs → OfKinds g.known.sig ks ws
        → Mid g y i (k ∷ ks) js (vcons (con d vs) ws) us todo → Front g y i (look_at row y) (get_or b i 0)
    wild_front k d ds ks js vs ws us todo e h hs M =
        let q = word_at b i d _ M.words in
        let some_wild : ltb 0 y.wildcards ≡ true = lt-ltb 0 y.wildcards (omega (arith, M.wilds)) in
        let L : look_at row y ≡ wild_cell = rw some_wild in
        let ar : head_arity t d ≡ length ds = head_arity_is g.known k d ds e in
        subst (λ (p : Cell). Front g y i p (get_or b i 0)) (sym L)
        (subst (λ (c : ℕ). Front g y i wild_cell c) (sym q.0) record {
          see = omega (arith, M.wilds, M.within);
          near = λ a l. absurd (omega (arith, l));
          head = λ l. omega (arith, is_constructor g.known k d ds l e, few_constructors g.known);
          few = omega (arith, ar, few_of_head g.known k d ds e);
          fit = fits_in M;
          at_most = M.within;
          yes = λ a y' ey. subst (λ (x : Cursor). Now g x (i + 1)) (sym (ey ∙ next_is some_wild)) (
            ds ++ ks,
            js,
            vs beside ws,
            us,
            todo,
            record {
              below = kinds_beside h hs;
              wilds = simp length-append (omega (arith, M.wilds, ar));
              good = M.good;
              values = M.values;
              code_is = M.code_is;
              within = M.within;
              words = q.2 ∙ ap (λ (l : List ℕ). l ++ codes us) (sym (codes_beside vs ws));
              same = M.same;
            },
          );
          no = λ a. true≢false a;
        })
      where
        next_is : ltb 0 y.wildcards ≡ true → next_of y free_tag (head_arity t d) ≡ record { at = y.at; wildcards = y.wildcards - 1 + head_arity t d }
        next_is z = rw z

    -- a head at a cell: what is seen of the cell, and what is behind it
    module _ (c v m : ℕ) (w : List ℕ) (l : c < tag_limit) (e : drop y.at row ≡ cell_code c v m ++ w) (z : y.wildcards ≡ 0) where
      seen : look_at row y ≡ cell_of c v m
      seen = rw (le-ltb 0 y.wildcards (omega (arith, z))) (cell_there row y.at c v m w l e).cell

      room : y.at + 3 ≤ length row
      room = (cell_there row y.at c v m w l e).room

      next_is : (n : ℕ) → next_of y c n ≡ record { at = y.at + 3; wildcards = cond (ltb c kind_tag) 0 n }
      next_is n = rw (le-ltb 0 y.wildcards (omega (arith, z)))

    named_front : (k c d : ℕ) (xs cs ds js : List ℕ) (rs todo : Rows) (vs us : Values) → c < constructor_limit → arguments_at g.known.sig k c ≡ some cs → Goods g.known.sig cs rs → Goods g.known.sig js todo
        → arguments_at g.known.sig k d ≡ some ds → OfKinds g.known.sig ds vs → OfKinds g.known.sig js us → Mid g y i [] (k ∷ js) vnil (vcons (con d vs) us) (rcons (named xs c rs) todo) → Front g y i (look_at row y) (get_or b i 0)
    named_front k c d xs cs ds js rs todo vs us l ec gs G ed hd hs M =
        let K = kinds_of g.known.sig in
        let q = word_at b i d _ M.words in
        let small : c < tag_limit = omega (arith, l) in
        let C = cell_there row y.at c _ _ _ small M.code_is in
        let is_named : ltb c kind_tag ≡ true = lt-ltb c kind_tag l in
        let ar : head_arity t d ≡ length ds = head_arity_is g.known k d ds ed in
        subst (λ (p : Cell). Front g y i p (get_or b i 0)) (sym (seen c _ _ _ small M.code_is M.wilds))
        (subst (λ (x : ℕ). Front g y i (cell_of c (set_of 0 xs) (set_of (first (heads g.known.sig k)) (c ∷ []))) x) (sym q.0) record {
          see = omega (arith, C.room);
          near = λ a h. absurd (omega (arith, a, l));
          head = λ h. omega (arith, is_constructor g.known k d ds h ed, few_constructors g.known);
          few = omega (arith, ar, few_of_head g.known k d ds ed);
          fit = fits_in M;
          at_most = M.within;
          yes = λ a y' ey.
              let same : eqb c d ≡ true = rw is_named at a in
              subst (λ (x : Cursor). Now g x (i + 1)) (sym (ey ∙ next_is c _ _ _ small M.code_is M.wilds (head_arity t d)))
              (rw is_named (
                [],
                cs ++ js,
                vnil,
                vs beside us,
                rs behind todo,
                record {
                  below = of_kinds_nil;
                  wilds = refl;
                  good = goods_behind gs G;
                  values = kinds_beside (own same) hs;
                  code_is = C.after ∙ ap (λ (x : List ℕ). x ++ g.rest) (ap (λ (is : List ℕ). all_words (all_cells K rs is) ++ all_words (all_cells K todo js)) (args_same g.known.sig k c cs ec) ∙ sym (words_behind K js todo gs));
                  within = C.room;
                  words = q.2 ∙ sym (codes_beside vs us);
                  same = M.same ∙ ap (λ (x : Bool). (x && rows_fit rs vs) && rows_fit todo us) same ∙ sym (fits_beside todo us gs (own same));
                },
              ));
          no = λ a. M.same ∙ ap (λ (x : Bool). (x && rows_fit rs vs) && rows_fit todo us) (rw is_named at a);
        })
      where
        own : eqb c d ≡ true → OfKinds g.known.sig cs vs
        own h = subst (λ (is : List ℕ). OfKinds g.known.sig is vs) (same_args g.known.sig k c d ec ed (eqb_eq c d h)) hd

    free_front : (k d f : ℕ) (xs cs ds js : List ℕ) (todo : Rows) (vs us : Values) → All (λ x. memb x (heads g.known.sig k) ≡ true) (f ∷ cs) → Goods g.known.sig js todo
        → arguments_at g.known.sig k d ≡ some ds → OfKinds g.known.sig ds vs → OfKinds g.known.sig js us → Mid g y i [] (k ∷ js) vnil (vcons (con d vs) us) (rcons (free xs (f ∷ cs)) todo) → Front g y i (look_at row y) (get_or b i 0)
    free_front k d f xs cs ds js todo vs us a G ed hd hs M =
        let q = word_at b i d _ M.words in
        let small : kind_tag + k < tag_limit = omega (arith, kl) in
        let C = cell_there row y.at (kind_tag + k) _ _ _ small M.code_is in
        let open_cell : ltb (kind_tag + k) kind_tag ≡ false = le-ltb (kind_tag + k) kind_tag (omega arith) in
        let ar : head_arity t d ≡ length ds = head_arity_is g.known k d ds ed in
        subst (λ (p : Cell). Front g y i p (get_or b i 0)) (sym (seen (kind_tag + k) _ _ _ small M.code_is M.wilds))
        (subst (λ (x : ℕ). Front g y i (cell_of (kind_tag + k) (set_of 0 xs) (set_of F (f ∷ cs))) x) (sym q.0) record {
          see = omega (arith, C.room);
          near = λ o h. let z : kind_tag + k - kind_tag ≡ k = omega arith in rw z (kl, omega (arith, first_is, in_kind.0), omega (arith, first_is, in_kind.1));
          head = λ h. omega (arith, is_constructor g.known k d ds h ed, few_constructors g.known);
          few = omega (arith, ar, few_of_head g.known k d ds ed);
          fit = fits_in M;
          at_most = M.within;
          yes = λ h y' ey.
              subst (λ (x : Cursor). Now g x (i + 1)) (sym (ey ∙ next_is (kind_tag + k) _ _ _ small M.code_is M.wilds (head_arity t d)))
              (rw open_cell (
                ds,
                js,
                vs,
                us,
                todo,
                record {
                  below = hd;
                  wilds = ar;
                  good = G;
                  values = hs;
                  code_is = C.after;
                  within = C.room;
                  words = q.2;
                  same = M.same ∙ ap (λ (x : Bool). x && rows_fit todo us) (sym allowed_is ∙ h);
                },
              ));
          no = λ h. M.same ∙ ap (λ (x : Bool). x && rows_fit todo us) (sym allowed_is ∙ h);
        })
      where
        F : ℕ
        F = first (heads g.known.sig k)

        there : k < g.known.decoded.n
        there = kind_here g.known k f cs a

        kl : k < kind_limit
        kl = omega (arith, there, few_kinds g.known)

        first_is : first_of t k ≡ F
        first_is = g.known.decoded.first_head k there

        in_kind : (F ≤ d) × (d < F + heads_limit)
        in_kind = within_one F d (heads g.known.sig k) (within_kind g.known k there) (has_kind g.known.sig k d ds ed)

        allowed_is : allows_of t (cell_of (kind_tag + k) (set_of 0 xs) (set_of F (f ∷ cs))) d ≡ memb d (f ∷ cs)
        allowed_is =
            let z : kind_tag + k - kind_tag ≡ k = omega arith in
            let p : F + (d - F) ≡ d = omega (arith, in_kind.0) in
            rw (le-ltb (kind_tag + k) kind_tag (omega arith), lt-ltb (kind_tag + k) free_tag (omega (arith, kl)), number_words (set_of F (f ∷ cs)), z, first_is)
            (ap (λ (n : ℕ). eqb n 1) (bit_set_of F (d - F) (f ∷ cs) (within_all F (heads g.known.sig k) (within_kind g.known k there) a)) ∙ one_if_test (memb (F + (d - F)) (f ∷ cs)) ∙ ap (λ (x : ℕ). memb x (f ∷ cs)) p)

    front_cells : {ks js : List ℕ} {ws us : Values} {todo : Rows} → OfKinds g.known.sig ks ws → Goods g.known.sig js todo → OfKinds g.known.sig js us → Mid g y i ks js ws us todo → i < length b → Front g y i (look_at row y) (get_or b i 0)
    front_cells (of_kinds_cons (of_kind e h) hs) G U M l = wild_front _ _ _ _ _ _ _ _ _ e h hs M
    front_cells of_kinds_nil goods_nil of_kinds_nil M l = absurd (omega (arith, l, ap length M.words, length-drop i b))
    front_cells of_kinds_nil (goods_cons (good_named c e gs) G) (of_kinds_cons (of_kind ed hd) hs) M l = named_front _ _ _ _ _ _ _ _ _ _ _ c e gs G ed hd hs M
    front_cells of_kinds_nil (goods_cons (good_free a) G) (of_kinds_cons (of_kind ed hd) hs) M l = free_front _ _ _ _ _ _ _ _ _ _ a G ed hd hs M

    pub front : Now g y i → i < length b → (p : Cell) (c : ℕ) → p ≡ look_at row y → c ≡ get_or b i 0 → Front g y i p c
    front (ks, js, ws, us, todo, M) l p c ep ec = subst (λ (x : Cell). Front g y i x c) (sym ep) (subst (λ (x : ℕ). Front g y i (look_at row y) x) (sym ec) (front_cells M.below M.good M.values M l))

    end_at : {ks js : List ℕ} {ws us : Values} {todo : Rows} → OfKinds g.known.sig ks ws → Goods g.known.sig js todo → OfKinds g.known.sig js us → Mid g y i ks js ws us todo → length b ≤ i → true ≡ row_fits g.r g.value
    end_at (of_kinds_cons (of_kind e h) hs) G U M l = absurd (omega (arith, l, (word_at b i _ _ M.words).1))
    end_at of_kinds_nil goods_nil of_kinds_nil M l = sym M.same
    end_at of_kinds_nil (goods_cons a G) (of_kinds_cons (of_kind ed hd) hs) M l = absurd (omega (arith, l, (word_at b i _ _ M.words).1))

    pub end : Now g y i → length b ≤ i → true ≡ row_fits g.r g.value
    end (ks, js, ws, us, todo, M) l = end_at M.below M.good M.values M l
