-- The lowest row that is met: from the matrix, and in lists behind each other.
use borrow.Author.Tests.{ltb-true, ltb-false}
use mathlib.Core.Path.{◌≡◌, refl, sym, ap, subst, ◌∙◌}
use mathlib.Core.List.{List, ◌++◌}
use mathlib.Core.Bool.{Bool, true, false}
use mathlib.Core.Option.{some}
use Prim.Native.Nat.{ℕ, ◌+◌, ◌-◌, ◌*◌, ◌≤◌, ◌<◌, min}
use native.Mathlib.Omega.{arith}
use lib.Dec.{ltb}
use lib.ListN.{length, get_elem?, length-append}
use Rattle.signature.specs.Lists.{any, is_some}
use Rattle.signature.proofs.Heads.{any_at, any_there}
use Rattle.signature.proofs.ListFacts.{at_left}
use Rattle.row.specs.Row.{Row, combine}
use Rattle.row.proofs.Symmetric.{combine_sym}
use Rattle.rowset.specs.Limits.{row_limit}
use Rattle.rowset.specs.Member.{set_words}
use Rattle.meeting.specs.Lists.{ListsGathered, rows_in}
use Rattle.meeting.specs.Matrix.{meets}
use Rattle.meeting.specs.Rows.{FirstMet, GivenGather, Gathers, GivenMeet, Matrix}
use Rattle.signature.proofs.KnownFacts.{at_some, at_below}
use Rattle.meeting.proofs.Reading.{at_right}
use Rattle.sharing.specs.Lowest.{LeastMet, GivenLowest, Lowest, met_by}

-- row by row
pub least_start : (m : List ℕ) (low : ℕ) → LeastMet m low low row_limit
least_start m low = record { before = λ i j a b. absurd (omega (arith, a, b)); there = λ l. absurd (omega (arith, l)) }

pub least_more : (m : List ℕ) (low i least j r : ℕ) → low ≤ i → LeastMet m low i least → FirstMet m i j → r ≡ min j least → LeastMet m low (i + 1) r
least_more m low i least j r h L F e = go (ltb j least) refl
  where
    below : (q : ℕ) → q ≤ least → q ≤ j → (x y : ℕ) → low ≤ x → x < i + 1 → y < q → meets m x y ≡ false
    below q a b x y c d l = by (ltb x i) refl
      where
        by : (z : Bool) → ltb x i ≡ z → meets m x y ≡ false
        by true z = L.before x y c (ltb-true x i z) (omega (arith, a, l))
        by false z = let w : x ≡ i = omega (arith, d, ltb-false x i z) in ap (λ (n : ℕ). meets m n y) w ∙ F.before y (omega (arith, b, l))

    go : (z : Bool) → ltb j least ≡ z → LeastMet m low (i + 1) r
    go true z =
        let w : j ≡ r = omega (arith, e, ltb-true j least z) in
        subst (LeastMet m low (i + 1)) w (record { before = below j (omega (arith, ltb-true j least z)) (omega arith); there = λ l. (i, h, omega arith, F.there l) })
    go false z =
        let w : least ≡ r = omega (arith, e, ltb-false j least z) in
        subst (LeastMet m low (i + 1)) w (record { before = below least (omega arith) (omega (arith, ltb-false j least z)); there = λ l. let (x, a, b, v) = L.there l in (x, a, omega (arith, b), v) })

-- the least row is the lowest of the first list
pub lowest_of : (xs ss : List Row) (m : List ℕ) (r : ℕ) → Matrix (xs ++ ss) m → length xs ≤ row_limit → LeastMet m (length xs) (length xs + length ss) r → Lowest (met_by ss) xs r
lowest_of xs ss m r M few L = record { before = before; there = there }
  where
    pair : (k j : ℕ) (s x : Row) → get_elem? ss k ≡ some s → get_elem? xs j ≡ some x → meets m (length xs + k) j ≡ is_some (combine x s)
    pair k j s x e f = M.pairs (length xs + k) j s x (at_right xs ss k ∙ e) (at_left xs ss j x f) ∙ combine_sym s x

    before : (j : ℕ) (x : Row) → get_elem? xs j ≡ some x → j < r → met_by ss x ≡ false
    before j x e l = by (met_by ss x) refl
      where
        by : (b : Bool) → met_by ss x ≡ b → b ≡ false
        by false z = refl
        by true z =
            let (k, s, f, w) = any_at (λ s. is_some (combine x s)) ss z in
            sym w ∙ sym (pair k j s x f e) ∙ L.before (length xs + k) j (omega arith) (omega (arith, at_below ss k s f)) l

    there : (x : Row) → get_elem? xs r ≡ some x → met_by ss x ≡ true
    there x e =
        let (i, a, b, w) = L.there (omega (arith, at_below xs r x e, few)) in
        let z : length xs + (i - length xs) ≡ i = omega (arith, a) in
        let (s, f) = at_some ss (i - length xs) (omega (arith, a, b)) in
        any_there (λ s. is_some (combine x s)) ss (i - length xs) s f (sym (pair (i - length xs) r s x f e) ∙ ap (λ (n : ℕ). meets m n r) z ∙ w)

-- a list among others: the lowest row is behind it, or one of its rows
module _ (f : Row → Bool) (xs rs ys : List Row) (r : ℕ) (L : Lowest f (xs ++ (rs ++ ys)) r) where
  pub none_met : length xs + length rs ≤ r → any f rs ≡ false
  none_met l = by (any f rs) refl
    where
      by : (b : Bool) → any f rs ≡ b → b ≡ false
      by false z = refl
      by true z =
          let (k, x, e, w) = any_at f rs z in
          sym w ∙ L.before (length xs + k) x (at_right xs (rs ++ ys) k ∙ at_left rs ys k x e) (omega (arith, l, at_below rs k x e))

  pub one_met : length xs ≤ r → r < length xs + length rs → any f rs ≡ true
  one_met a b =
      let z : length xs + (r - length xs) ≡ r = omega (arith, a) in
      let (x, e) = at_some rs (r - length xs) (omega (arith, a, b)) in
      any_there f rs (r - length xs) x e (L.there x (ap (get_elem? (xs ++ (rs ++ ys))) (sym z) ∙ at_right xs (rs ++ ys) (r - length xs) ∙ at_left rs ys (r - length xs) x e))

module _ {t a : List ℕ} {n at : ℕ} (g : GivenLowest t a n at) where
  -- the one list behind the others
  abbrev pub to_gather : (r : ℕ) (cur : List ℕ) → ListsGathered g.lists r cur → GivenGather a at r cur
  to_gather r cur h = record { K = g.lists.K; t = t; kind = g.lists.kind; rs = rows_in g.lists.rss; before = h.rows; many = h.count; ss = g.ss; rest = g.rest; code_is = g.code_is; proper = g.proper; room = omega (arith, h.count, g.room) }

  module _ (r : ℕ) (cur : List ℕ) (h : ListsGathered g.lists r cur) (q : ℕ) (cur' : List ℕ) (h' : Gathers (to_gather r cur h) q cur') where
    abbrev pub to_meet : (room : ℕ) → set_words * row_limit ≤ room → GivenMeet t a q cur' room
    to_meet room l = record { K = g.lists.K; kind = g.lists.kind; rs = rows_in g.lists.rss ++ g.ss; rows = h'.rows; many = omega (arith, h'.count, h.count, length-append (rows_in g.lists.rss) g.ss); few = omega (arith, h'.count, h.count, g.room); roomy = omega (arith, h'.count, h.count, g.room, l) }

    pub bounds : (r ≤ q) × (q ≤ row_limit)
    bounds = (omega (arith, h'.count), omega (arith, h'.count, h.count, g.room))

    pub lowest : (m : List ℕ) (k : ℕ) → Matrix (rows_in g.lists.rss ++ g.ss) m → LeastMet m r q k → Lowest (met_by g.ss) (rows_in g.lists.rss) k
    lowest m k M L = lowest_of (rows_in g.lists.rss) g.ss m k M (omega (arith, g.room)) (subst (λ (z : ℕ). LeastMet m z (length (rows_in g.lists.rss) + length g.ss) k) h.count (subst (λ (z : ℕ). LeastMet m r z k) (omega (arith, h'.count, h.count)) L))
