-- Rows that are gathered, and the matrix of all of them.
use borrow.Author.Tests.{lt-ltb, le-ltb, ltb-true}
use mathlib.Core.Path.{◌≡◌, refl, ap, ap₂, sym, subst, ◌∙◌}
use mathlib.Core.List.{List, [], ◌∷◌, ◌++◌, append_assoc, append-nil}
use mathlib.Core.Logic.{◌⊎◌, inl, inr}
use mathlib.Core.Option.{some}
use mathlib.Core.Bool.{true, false}
use Prim.Native.Nat.{ℕ, zero, suc, ◌+◌, ◌≤◌, ◌<◌}
use native.Mathlib.Omega.{arith}
use lib.Dec.{ltb}
use lib.ListN.{length, drop, get_or, get_elem?, set, length-append, length-drop}
use lib.Seq.{get_or-set_same, get_or-set_other, drop-drop, drop_at}
use Rattle.signature.specs.Lists.{is_some}
use Rattle.signature.proofs.Tests.{some_inj, none≢some}
use Rattle.pattern.specs.Limits.{pattern_limit}
use Rattle.cell.specs.Coded.{row_code}
use Rattle.cell.specs.RowList.{Every, list_code}
use Rattle.cell.proofs.Walk.{word_at, code_long}
use Rattle.row.specs.Row.{Row, free, combine}
use Rattle.row.specs.RowFits.{place_count}
use Rattle.rowset.specs.Limits.{row_limit}
use Rattle.rowset.specs.Member.{member}
use Rattle.meeting.specs.Matrix.{meets}
use Rattle.meeting.specs.Part.{RowAt}
use Rattle.meeting.specs.Descent.{Roomy, Standing, Visited}
use Rattle.meeting.specs.Rows.{Proper, Gathered, GivenGather, Gathers, GivenMeet, Matrix}

-- an element of a list with one more is one of the list, or that one
pub last_or : {A : Type 0} (xs : List A) (x : A) (q : ℕ) (y : A) → get_elem? (xs ++ (x ∷ [])) q ≡ some y → ((get_elem? xs q ≡ some y) × (q < length xs)) ⊎ ((q ≡ length xs) × (x ≡ y))
last_or [] x zero y e = inr (refl, some_inj x y e)
last_or [] x (suc q) y e = none≢some e
last_or (z ∷ xs) x zero y e = inl (e, omega arith)
last_or (z ∷ xs) x (suc q) y e = go (last_or xs x q y e)
  where
    go : ((get_elem? xs q ≡ some y) × (q < length xs)) ⊎ ((q ≡ length xs) × (x ≡ y)) → ((get_elem? xs q ≡ some y) × (suc q < suc (length xs))) ⊎ ((suc q ≡ suc (length xs)) × (x ≡ y))
    go (inl (a, l)) = inl (a, omega arith)
    go (inr (a, b)) = inr (ap suc a, b)

module _ {a : List ℕ} {at n : ℕ} {cur : List ℕ} (g : GivenGather a at n cur) where
  -- the rows that are past, and those still to come, from a word on
  pub record Mid (from q : ℕ) (cur1 : List ℕ) (done todo : List Row) : Type 0 where
    pub are : g.ss ≡ done ++ todo
    pub count : q ≡ n + length done
    pub code_is : drop from a ≡ list_code g.K g.kind todo ++ g.rest
    pub proper : Every (Proper g.K g.t g.kind) todo
    pub rows : Gathered g.K g.t a g.kind (g.rs ++ done) cur1

  abbrev pub Now : ℕ → ℕ → List ℕ → Type 0
  Now from q cur1 = (done : List Row) × (todo : List Row) × Mid from q cur1 done todo

  pub start : Now at n cur
  start = (
    [],
    g.ss,
    record {
      are = refl;
      count = omega arith;
      code_is = g.code_is;
      proper = g.proper;
      rows = subst (λ (z : List Row). Gathered g.K g.t a g.kind z cur) (sym (append-nil g.rs)) g.before;
    },
  )

  module _ (from q : ℕ) (cur1 : List ℕ) where
    there_at : (done todo : List Row) → Mid from q cur1 done todo → from < length a
    there_at done [] m = (word_at a from 0 g.rest m.code_is).1
    there_at done (s ∷ todo) m = (word_at a from _ _ m.code_is).1

    pub there : Now from q cur1 → from < length a
    there (done, todo, m) = there_at done todo m

    pub finished : Now from q cur1 → get_or a from 0 ≤ 0 → Gathers g q cur1
    finished (done, todo, m) z = go todo m
      where
        go : (todo : List Row) → Mid from q cur1 done todo → Gathers g q cur1
        go [] m = let e : g.ss ≡ done = m.are ∙ append-nil done in record { count = m.count ∙ ap (λ (l : List Row). n + length l) (sym e); rows = subst (λ (l : List Row). Gathered g.K g.t a g.kind (g.rs ++ l) cur1) (sym e) m.rows }
        go (s ∷ todo) m = absurd (omega (arith, z, (word_at a from _ _ m.code_is).0, code_long g.K g.kind s))

    -- one row more
    pub record Turn : Type 0 where
      pub few : q < row_limit
      pub on : from + 1 + get_or a from 0 ≤ length a
      pub now : q < length cur1 → Now (from + 1 + get_or a from 0) (q + 1) (set cur1 q (from + 1))

    turn_at : (done : List Row) (s : Row) (todo : List Row) → Mid from q cur1 done (s ∷ todo) → Turn
    turn_at done s todo m =
        let w : List ℕ = row_code g.K s g.kind in
        let W = word_at a from _ _ m.code_is in
        let len : get_or a from 0 ≡ length w = W.0 in
        let c : drop (from + 1) a ≡ w ++ (list_code g.K g.kind todo ++ g.rest) = W.2 ∙ (simp append_assoc) in
        let size : from + 1 + length w ≤ length a = omega (arith, W.1, length-drop (from + 1) a, simp length-append at (ap length c)) in
        record {
          few = omega (arith, m.count, g.room, ap length m.are, length-append done (s ∷ todo));
          on = omega (arith, size, len);
          now = λ l. (
            done ++ (s ∷ []),
            todo,
            record {
              are = m.are ∙ sym (append_assoc done (s ∷ []) todo);
              count = omega (arith, m.count, length-append done (s ∷ []));
              code_is = sym (drop-drop (get_or a from 0) (from + 1) a) ∙ ap (drop (get_or a from 0)) c ∙ drop_at w (list_code g.K g.kind todo ++ g.rest) (get_or a from 0) (sym len);
              proper = m.proper.1;
              rows = record { there = λ i r e. more l i r (one i r e); few = λ i r e. small i r (one i r e) };
            },
          );
        }
      where
        q_is : q ≡ length (g.rs ++ done)
        q_is = omega (arith, m.count, g.many, length-append g.rs done)

        one : (i : ℕ) (r : Row) → get_elem? (g.rs ++ (done ++ (s ∷ []))) i ≡ some r → ((get_elem? (g.rs ++ done) i ≡ some r) × (i < length (g.rs ++ done))) ⊎ ((i ≡ length (g.rs ++ done)) × (s ≡ r))
        one i r e = last_or (g.rs ++ done) s i r (subst (λ (z : List Row). get_elem? z i ≡ some r) (sym (append_assoc g.rs done (s ∷ []))) e)

        more : q < length cur1 → (i : ℕ) (r : Row) → ((get_elem? (g.rs ++ done) i ≡ some r) × (i < length (g.rs ++ done))) ⊎ ((i ≡ length (g.rs ++ done)) × (s ≡ r)) → RowAt g.K g.t a g.kind (get_or (set cur1 q (from + 1)) i 0) r
        more l i r (inl (e, k)) = subst (λ (z : ℕ). RowAt g.K g.t a g.kind z r) (sym (get_or-set_other cur1 q i (from + 1) 0 (λ z. omega (arith, z, k, q_is)))) (m.rows.there i r e)
        more l i r (inr (k, e)) =
            let z : get_or (set cur1 q (from + 1)) i 0 ≡ from + 1 = ap (λ (j : ℕ). get_or (set cur1 q (from + 1)) j 0) (k ∙ sym q_is) ∙ get_or-set_same cur1 q (from + 1) 0 l in
            let W = word_at a from _ _ m.code_is in
            subst (λ (x : Row). RowAt g.K g.t a g.kind (get_or (set cur1 q (from + 1)) i 0) x) e (record {
              rest = list_code g.K g.kind todo ++ g.rest;
              code_is = ap (λ (j : ℕ). drop j a) z ∙ W.2 ∙ (simp append_assoc);
              within = omega (arith, z, W.1);
              typed = m.proper.0.typed;
            })

        small : (i : ℕ) (r : Row) → ((get_elem? (g.rs ++ done) i ≡ some r) × (i < length (g.rs ++ done))) ⊎ ((i ≡ length (g.rs ++ done)) × (s ≡ r)) → place_count r ≤ pattern_limit
        small i r (inl (e, k)) = m.rows.few i r e
        small i r (inr (k, e)) = subst (λ (z : Row). place_count z ≤ pattern_limit) e m.proper.0.few

    pub turn : Now from q cur1 → 0 < get_or a from 0 → Turn
    turn (done, todo, m) h = go todo m
      where
        go : (todo : List Row) → Mid from q cur1 done todo → Turn
        go [] m = absurd (omega (arith, h, (word_at a from 0 g.rest m.code_is).0))
        go (s ∷ todo) m = turn_at done s todo m

-- all rows at their first cells
abbrev row_of : List Row → ℕ → Row
row_of [] i = free [] []
row_of (r ∷ rs) zero = r
row_of (r ∷ rs) (suc i) = row_of rs i

row_there : (rs : List Row) (i : ℕ) → i < length rs → get_elem? rs i ≡ some (row_of rs i)
row_there [] i l = absurd (omega arith)
row_there (r ∷ rs) zero l = refl
row_there (r ∷ rs) (suc i) l = row_there rs i (omega arith)

row_is : (rs : List Row) (i : ℕ) (r : Row) → get_elem? rs i ≡ some r → (row_of rs i ≡ r) × (i < length rs)
row_is [] i r e = none≢some e
row_is (x ∷ rs) zero r e = (some_inj x r e, omega arith)
row_is (x ∷ rs) (suc i) r e = let q = row_is rs i r e in (q.0, omega (arith, q.1))

module _ {t a : List ℕ} {n : ℕ} {cur : List ℕ} {room : ℕ} (g : GivenMeet t a n cur room) (all : List ℕ) (first : (q : ℕ) → q < row_limit → member all q ≡ ltb q n) where
  below : (q : ℕ) → q < row_limit → member all q ≡ true → q < n
  below q l e = ltb-true q n (sym (first q l) ∙ e)

  pub standing : Standing t a (member all) pattern_limit cur
  standing = record {
    K = g.K;
    kind = g.kind;
    part = row_of g.rs;
    stands = λ q l e. g.rows.there q (row_of g.rs q) (row_there g.rs q (omega (arith, below q l e, g.many)));
    small = λ q l e. g.rows.few q (row_of g.rs q) (row_there g.rs q (omega (arith, below q l e, g.many)));
  }

  pub roomy : Roomy (member all) room
  roomy q l e = omega (arith, below q l e, g.roomy)

  pub matrix : (cur1 m1 m2 : List ℕ) → ((i j : ℕ) → i < n → j < row_limit → meets m1 i j ≡ member all j) → Visited standing cur1 m1 m2 → Matrix g.rs m2
  unfolding standing
  matrix cur1 m1 m2 f v = record { pairs = pairs; beyond = beyond }
    where
      in_all : (i : ℕ) → i < n → member all i ≡ true
      in_all i l = first i (omega (arith, l, g.few)) ∙ lt-ltb i n l

      pairs : (i j : ℕ) (r s : Row) → get_elem? g.rs i ≡ some r → get_elem? g.rs j ≡ some s → meets m2 i j ≡ is_some (combine r s)
      pairs i j r s e h =
          let x = row_is g.rs i r e in
          let y = row_is g.rs j s h in
          let li : i < n = omega (arith, x.1, g.many) in
          let lj : j < n = omega (arith, y.1, g.many) in
          let b : meets m1 i j ≡ true = f i j li (omega (arith, lj, g.few)) ∙ in_all j lj in
          v.kept i j (omega (arith, li, g.few)) (omega (arith, lj, g.few)) ∙ (rw (in_all i li, in_all j lj, b) (ap₂ (λ (p q : Row). is_some (combine p q)) x.0 y.0))

      beyond : (i j : ℕ) → i < length g.rs → length g.rs ≤ j → j < row_limit → meets m2 i j ≡ false
      beyond i j l k h =
          let li : i < n = omega (arith, l, g.many) in
          let no : member all j ≡ false = first j h ∙ le-ltb j n (omega (arith, k, g.many)) in
          v.kept i j (omega (arith, li, g.few)) h ∙ (rw (in_all i li, no) (f i j li h ∙ no))
