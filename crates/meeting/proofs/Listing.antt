-- Lists of rows behind each other: their rows gathered, and whether no two of them meet.
use mathlib.Core.Path.{◌≡◌, refl, sym, ap, subst, ◌∙◌}
use mathlib.Core.List.{List, [], ◌∷◌, ◌++◌, append_assoc, append-nil, map}
use mathlib.Core.Bool.{Bool, true, false, not, ◌&&◌, ◌||◌}
use mathlib.Core.Option.{Option, none, some}
use Prim.Native.Nat.{ℕ, suc, ◌+◌, ◌*◌, ◌≤◌, ◌<◌}
use native.Mathlib.Omega.{arith}
use lib.ListN.{length, drop, get_or, length-append, length-drop}
use lib.Seq.{drop-drop, drop_at}
use Rattle.signature.specs.Lists.{all, any, is_empty, somes}
use Rattle.signature.proofs.Booleans.{and_left, and_right}
use Rattle.signature.proofs.Tests.{none≢some, true≢false}
use Rattle.cell.specs.Cell.{Kinds}
use Rattle.cell.specs.Coded.{row_code}
use Rattle.cell.specs.RowList.{Every, each_with, list_code, from}
use Rattle.cell.proofs.Walk.{word_at, from_is, code_long}
use Rattle.rowlist.specs.Grow.{words_list, Filled, ListFirst}
use Rattle.row.specs.Row.{Row, combine, each}
use Rattle.rowset.specs.Limits.{row_limit}
use Rattle.rowset.specs.Member.{set_words}
use Rattle.meeting.specs.Lists.{rows_in, lists_meet, none_by, GivenLists, ListsGathered}
use Rattle.meeting.specs.Rows.{Proper, Gathered, GivenGather, Gathers, GivenMeet, Matrix, SomeMet}
use Rattle.meeting.proofs.Reading.{lists_met}

-- none of a list stands in a relation: one more behind
module _ {A : Type 0} (f : A → A → Bool) where
  pub none_more : (xs : List A) (y : A) → none_by f xs ≡ true → any (λ x. f x y) xs ≡ false → none_by f (xs ++ (y ∷ [])) ≡ true
  none_more [] y h e = refl
  none_more (x ∷ xs) y h e = go (λ z. none_more xs y (and_right (all (λ z. not (f x z)) xs) (none_by f xs) h) z) (f x y) refl e
    where
      all_last : (g : A → Bool) (zs : List A) → all g zs ≡ true → g y ≡ true → all g (zs ++ (y ∷ [])) ≡ true
      all_last g [] a b = rw b refl
      all_last g (z ∷ zs) a b = rw (and_left (g z) (all g zs) a, all_last g zs (and_right (g z) (all g zs) a) b) refl

      go : (any (λ x. f x y) xs ≡ false → none_by f (xs ++ (y ∷ [])) ≡ true) → (b : Bool) → f x y ≡ b → (b || any (λ x. f x y) xs) ≡ false → (all (λ z. not (f x z)) (xs ++ (y ∷ [])) && none_by f (xs ++ (y ∷ []))) ≡ true
      go more true q z = true≢false z
      go more false q z = rw (all_last (λ z. not (f x z)) xs (and_left (all (λ z. not (f x z)) xs) (none_by f xs) h) (ap not q), more z) refl

  pub none_less : (xs : List A) (y : A) (zs : List A) → any (λ x. f x y) xs ≡ true → none_by f (xs ++ (y ∷ zs)) ≡ false
  none_less [] y zs e = true≢false (sym e)
  none_less (x ∷ xs) y zs e = go (λ z. none_less xs y zs z) (f x y) refl e
    where
      last_false : (x : Bool) {c : Bool} → c ≡ false → (x && c) ≡ false
      last_false true e = e
      last_false false e = refl

      reached : (g : A → Bool) (ws : List A) → g y ≡ false → all g (ws ++ (y ∷ zs)) ≡ false
      reached g [] b = rw b refl
      reached g (w ∷ ws) b = last_false (g w) (reached g ws b)

      go : (any (λ x. f x y) xs ≡ true → none_by f (xs ++ (y ∷ zs)) ≡ false) → (b : Bool) → f x y ≡ b → (b || any (λ x. f x y) xs) ≡ true → (all (λ z. not (f x z)) (xs ++ (y ∷ zs)) && none_by f (xs ++ (y ∷ zs))) ≡ false
      go less true q z = ap (λ (b : Bool). b && none_by f (xs ++ (y ∷ zs))) (reached (λ z. not (f x z)) xs (ap not q))
      go less false q z = last_false (all (λ z. not (f x z)) (xs ++ (y ∷ zs))) (less z)

-- rows of lists
pub in_append : (xss yss : List (List Row)) → rows_in (xss ++ yss) ≡ rows_in xss ++ rows_in yss
in_append [] yss = refl
in_append (xs ∷ xss) yss = ap (λ (l : List Row). xs ++ l) (in_append xss yss) ∙ sym (append_assoc xs (rows_in xss) (rows_in yss))

pub in_last : (xss : List (List Row)) (ys : List Row) → rows_in (xss ++ (ys ∷ [])) ≡ rows_in xss ++ ys
in_last xss ys = in_append xss (ys ∷ []) ∙ ap (λ (l : List Row). rows_in xss ++ l) (append-nil ys)

-- some row of several lists: some list has it
any_in : (xss : List (List Row)) (ys : List Row) → lists_meet (rows_in xss) ys ≡ any (λ xs. lists_meet xs ys) xss
any_in [] ys = refl
any_in (xs ∷ xss) ys = ap (λ (l : List (Option Row)). not (is_empty (somes l))) (each_append xs (rows_in xss)) ∙ joined (each combine xs ys) (each combine (rows_in xss) ys) ∙ ap (λ (b : Bool). lists_meet xs ys || b) (any_in xss ys)
  where
    each_append : (cs bs : List Row) → each combine (cs ++ bs) ys ≡ each combine cs ys ++ each combine bs ys
    each_append [] bs = refl
    each_append (c ∷ cs) bs = ap (λ (l : List (Option Row)). map (combine c) ys ++ l) (each_append cs bs) ∙ sym (append_assoc (map (combine c) ys) (each combine cs ys) (each combine bs ys))

    joined : (cs bs : List (Option Row)) → not (is_empty (somes (cs ++ bs))) ≡ (not (is_empty (somes cs)) || not (is_empty (somes bs)))
    joined [] bs = refl
    joined (none ∷ cs) bs = joined cs bs
    joined (some c ∷ cs) bs = refl

-- a list of rows as a list of words
pub words_are : (K : Kinds) (k : ℕ) (rs : List Row) → each_with (λ r. row_code K r k) rs ≡ words_list (map (λ r. row_code K r k) rs)
words_are K k [] = refl
words_are K k (r ∷ rs) = ap (λ (l : List ℕ). length (row_code K r k) ∷ (row_code K r k ++ l)) (words_are K k rs)

pub words_filled : (K : Kinds) (k : ℕ) (rs : List Row) → Filled (map (λ r. row_code K r k) rs)
words_filled K k [] = tt
words_filled K k (r ∷ rs) = (code_long K k r, words_filled K k rs)

pub words_many : {A B : Type 0} (f : A → B) (rs : List A) → length (map f rs) ≡ length rs
words_many f [] = refl
words_many f (r ∷ rs) = ap suc (words_many f rs)

-- a list of rows stands there, as a list of words
abbrev pub list_first : (K : Kinds) (k : ℕ) (a : List ℕ) (at : ℕ) (rs : List Row) (rest : List ℕ) → drop at a ≡ list_code K k rs ++ rest → ListFirst (from a at)
list_first K k a at rs rest e = record { rows = map (λ r. row_code K r k) rs; rest = rest; code_is = from_is a at ∙ e ∙ ap (λ (l : List ℕ). (l ++ (0 ∷ [])) ++ rest) (words_are K k rs); filled = words_filled K k rs }

module _ {t a : List ℕ} {n : ℕ} (g : GivenLists t a n) where
  -- lists that are past, and those still to come, from a word on
  pub record Walk (at low j : ℕ) (past todo : List (List Row)) : Type 0 where
    pub are : g.rss ≡ past ++ todo
    pub code_is : drop at a ≡ each_with (list_code g.K g.kind) todo ++ g.rest
    pub proper : Every (Every (Proper g.K t g.kind)) todo
    pub low_is : low ≡ length (rows_in past)
    pub many : j + length todo ≡ n

  walk_start : Walk 0 0 0 [] g.rss
  walk_start = record { are = refl; code_is = g.code_is; proper = g.proper; low_is = refl; many = omega (arith, g.many) }

  -- the next list
  pub record Next (at low j : ℕ) (past : List (List Row)) (rs : List Row) (todo : List (List Row)) : Type 0 where
    pub there : at + 1 + get_or a at 0 ≤ length a
    pub code_is : drop (at + 1) a ≡ list_code g.K g.kind rs ++ (each_with (list_code g.K g.kind) todo ++ g.rest)
    pub proper : Every (Proper g.K t g.kind) rs
    pub few : low + length rs ≤ row_limit
    pub whole : rows_in g.rss ≡ rows_in past ++ (rs ++ rows_in todo)
    pub walk : Walk (at + 1 + get_or a at 0) (low + length rs) (j + 1) (past ++ (rs ∷ [])) todo

  next : (at low j : ℕ) (past : List (List Row)) (rs : List Row) (todo : List (List Row)) → Walk at low j past (rs ∷ todo) → Next at low j past rs todo
  next at low j past rs todo w =
      let L : List ℕ = list_code g.K g.kind rs in
      let W = word_at a at _ _ w.code_is in
      let c : drop (at + 1) a ≡ L ++ (each_with (list_code g.K g.kind) todo ++ g.rest) = W.2 ∙ append_assoc L (each_with (list_code g.K g.kind) todo) g.rest in
      let len : get_or a at 0 ≡ length L = W.0 in
      let all_rows : rows_in g.rss ≡ rows_in past ++ (rs ++ rows_in todo) = ap rows_in w.are ∙ in_append past (rs ∷ todo) in
      record {
        there = omega (arith, len, W.1, length-drop (at + 1) a, ap length c ∙ length-append L (each_with (list_code g.K g.kind) todo ++ g.rest));
        code_is = c;
        proper = w.proper.0;
        few = omega (arith, g.few, w.low_is, ap length all_rows, length-append (rows_in past) (rs ++ rows_in todo), length-append rs (rows_in todo));
        whole = all_rows;
        walk = record {
          are = w.are ∙ sym (append_assoc past (rs ∷ []) todo);
          code_is = sym (drop-drop (get_or a at 0) (at + 1) a) ∙ ap (drop (get_or a at 0)) c ∙ drop_at L (each_with (list_code g.K g.kind) todo ++ g.rest) (get_or a at 0) (sym len);
          proper = w.proper.1;
          low_is = omega (arith, w.low_is, ap length (in_last past rs), length-append (rows_in past) rs);
          many = omega (arith, w.many);
        };
      }

  -- the rows so far are gathered
  abbrev pub Now : ℕ → ℕ → ℕ → List ℕ → Type 0
  Now at q j cur = (past : List (List Row)) × (todo : List (List Row)) × Walk at q j past todo × Gathered g.K t a g.kind (rows_in past) cur

  pub start : (cur : List ℕ) → Now 0 0 0 cur
  start cur = ([], g.rss, walk_start, record { there = λ i r e. none≢some e; few = λ i r e. none≢some e })

  pub record Turn (at q j : ℕ) (cur : List ℕ) : Type 0 where
    pub there : at + 1 + get_or a at 0 ≤ length a
    pub given : GivenGather a (at + 1) q cur
    pub past : (r : ℕ) (cur1 : List ℕ) → Gathers given r cur1 → Now (at + 1 + get_or a at 0) r (j + 1) cur1

  turn_at : (at q j : ℕ) (cur : List ℕ) (past : List (List Row)) (rs : List Row) (todo : List (List Row)) → Walk at q j past (rs ∷ todo) → Gathered g.K t a g.kind (rows_in past) cur → Turn at q j cur
  turn_at at q j cur past rs todo w G =
      let x = next at q j past rs todo w in
      record {
        there = x.there;
        given = record { K = g.K; t = t; kind = g.kind; rs = rows_in past; before = G; many = w.low_is; ss = rs; rest = each_with (list_code g.K g.kind) todo ++ g.rest; code_is = x.code_is; proper = x.proper; room = x.few };
        past = λ r cur1 h. (past ++ (rs ∷ []), todo, subst (λ (z : ℕ). Walk (at + 1 + get_or a at 0) z (j + 1) (past ++ (rs ∷ [])) todo) (sym h.count) x.walk, subst (λ (l : List Row). Gathered g.K t a g.kind l cur1) (sym (in_last past rs)) h.rows);
      }

  module _ (at q j : ℕ) (cur : List ℕ) (w : Now at q j cur) where
    pub turn : j < n → Turn at q j cur
    turn l = go w.1 w.2 w.3
      where
        go : (todo : List (List Row)) → Walk at q j w.0 todo → Gathered g.K t a g.kind (rows_in w.0) cur → Turn at q j cur
        go [] v G = absurd (omega (arith, v.many, l))
        go (rs ∷ todo) v G = turn_at at q j cur w.0 rs todo v G

    pub finished : n ≤ j → ListsGathered g q cur
    finished l = go w.1 w.2 w.3
      where
        go : (todo : List (List Row)) → Walk at q j w.0 todo → Gathered g.K t a g.kind (rows_in w.0) cur → ListsGathered g q cur
        go [] v G = let e : g.rss ≡ w.0 = v.are ∙ append-nil w.0 in record { count = v.low_is ∙ ap (λ (l : List (List Row)). length (rows_in l)) (sym e); rows = subst (λ (l : List (List Row)). Gathered g.K t a g.kind (rows_in l) cur) (sym e) G }
        go (rs ∷ todo) v G = absurd (omega (arith, v.many, l))

  -- their matrix
  abbrev pub to_meet : (r : ℕ) (cur : List ℕ) (room : ℕ) → ListsGathered g r cur → set_words * row_limit ≤ room → GivenMeet t a r cur room
  to_meet r cur room h l = record { K = g.K; kind = g.kind; rs = rows_in g.rss; rows = h.rows; many = h.count; few = omega (arith, h.count, g.few); roomy = omega (arith, h.count, g.few, l) }

  -- no two lists so far meet
  module _ (m : List ℕ) (M : Matrix (rows_in g.rss) m) where
    pub record Apart (at low j : ℕ) : Type 0 where
      pub past : List (List Row)
      pub todo : List (List Row)
      pub walk : Walk at low j past todo
      pub none : none_by lists_meet past ≡ true

    pub apart_start : Apart 0 0 0
    apart_start = record { past = []; todo = g.rss; walk = walk_start; none = refl }

    pub record ApartTurn (at low j : ℕ) : Type 0 where
      pub there : at + 1 + get_or a at 0 ≤ length a
      pub first : ListFirst (from a (at + 1))
      pub few : low + length first.rows ≤ row_limit
      pub within : low + length first.rows ≤ length (rows_in g.rss)
      pub met : (k : ℕ) (b : Bool) → k ≡ length first.rows → SomeMet m low (low + k) b → b ≡ true → false ≡ none_by lists_meet g.rss
      pub past : (k : ℕ) (b : Bool) → k ≡ length first.rows → SomeMet m low (low + k) b → b ≡ false → Apart (at + 1 + get_or a at 0) (low + k) (j + 1)

    apart_turn_at : (at low j : ℕ) (past : List (List Row)) (rs : List Row) (todo : List (List Row)) → Walk at low j past (rs ∷ todo) → none_by lists_meet past ≡ true → ApartTurn at low j
    apart_turn_at at low j past rs todo w o =
        let x = next at low j past rs todo w in
        let ws : List (List ℕ) = map (λ r. row_code g.K r g.kind) rs in
        let count : length ws ≡ length rs = words_many (λ r. row_code g.K r g.kind) rs in
        let M2 : Matrix (rows_in past ++ (rs ++ rows_in todo)) m = subst (λ (l : List Row). Matrix l m) x.whole M in
        let said : (k : ℕ) (b : Bool) → k ≡ length ws → SomeMet m low (low + k) b → b ≡ any (λ xs. lists_meet xs rs) past =
        λ k b c S. lists_met (rows_in past) rs (rows_in todo) m b M2 (subst (λ (z : ℕ). SomeMet m (length (rows_in past)) z b) (omega (arith, w.low_is, count, c)) (subst (λ (z : ℕ). SomeMet m z (low + k) b) w.low_is S)) ∙ any_in past rs in
        record {
          there = x.there;
          first = list_first g.K g.kind a (at + 1) rs (each_with (list_code g.K g.kind) todo ++ g.rest) x.code_is;
          few = omega (arith, x.few, count);
          within = omega (arith, w.low_is, count, ap length x.whole, length-append (rows_in past) (rs ++ rows_in todo), length-append rs (rows_in todo));
          met = λ k b c S e. sym (ap (none_by lists_meet) w.are ∙ none_less lists_meet past rs todo (sym (said k b c S) ∙ e));
          past = λ k b c S e. record { past = past ++ (rs ∷ []); todo = todo; walk = subst (λ (z : ℕ). Walk (at + 1 + get_or a at 0) z (j + 1) (past ++ (rs ∷ [])) todo) (ap (λ (z : ℕ). low + z) (sym (c ∙ count))) x.walk; none = none_more lists_meet past rs o (sym (said k b c S) ∙ e) };
        }

    module _ (at low j : ℕ) (w : Apart at low j) where
      pub apart_turn : j < n → ApartTurn at low j
      apart_turn l = go w.todo w.walk
        where
          go : (todo : List (List Row)) → Walk at low j w.past todo → ApartTurn at low j
          go [] v = absurd (omega (arith, v.many, l))
          go (rs ∷ todo) v = apart_turn_at at low j w.past rs todo v w.none

      pub apart_end : n ≤ j → true ≡ none_by lists_meet g.rss
      apart_end l = go w.todo w.walk
        where
          go : (todo : List (List Row)) → Walk at low j w.past todo → true ≡ none_by lists_meet g.rss
          go [] v = sym (ap (none_by lists_meet) (v.are ∙ append-nil w.past) ∙ w.none)
          go (rs ∷ todo) v = absurd (omega (arith, v.many, l))
