-- The pairs of a leaf are those of its line, and how they are written one behind the other.
use mathlib.Core.Path.{◌≡◌, refl, sym, ap, ap₂, ◌∙◌}
use mathlib.Core.List.{List, [], ◌∷◌, ◌++◌, append_assoc, append-nil}
use mathlib.Core.Bool.{Bool, true, false, cond}
use Prim.Native.Nat.{ℕ, zero, suc, ◌+◌, ◌*◌, ◌≤◌, ◌<◌}
use native.Mathlib.Nat.{add-zero}
use native.Mathlib.Omega.{arith}
use lib.Dec.{eqb}
use lib.ListN.{length, drop, take, set, length-append, take-append-drop}
use lib.Seq.{take_at, drop_at, drop-drop, length-take-le}
use Rattle.sets.specs.Set.{bit}
use Rattle.signature.proofs.Tests.{leb_yes, leb_no}
use Rattle.pattern.specs.Limits.{variable_count}
use Rattle.tree.specs.Tree.{insert, inserts}
use Rattle.tree.specs.Words.{pairs}
use Rattle.std.specs.Prelude.{Some, None}
use Rattle.leaf.specs.Leaf.{cell_pair, cell_pairs, pairs_from, all_pairs, Paired}
use Rattle.cell.specs.Cursor.{cell_at}
use Rattle.cell.specs.declared.cell.Cell.{Cell}
use Rattle.path.specs.Standing.{vars_of}
use Rattle.path.specs.State.{bound, cell_of, visit_of}
use Rattle.path.specs.Variables.{variables, variables_from}

-- the pairs of each variable, instead of those of each cell

variables_are : (m : ℕ) → variables m ≡ variables_from m 0 variable_count
unfolding variables
variables_are m = refl

module _ (a rows vis : List ℕ) (r : ℕ) where
  -- pairs of variable x in front of others are passed over by a larger one
  past : (x y u q : ℕ) (bs : List (ℕ × ℕ)) → x < y → insert (y, u) (cell_pairs a rows vis r x q ++ bs) ≡ cell_pairs a rows vis r x q ++ insert (y, u) bs
  past x y u zero bs l = refl
  past x y u (suc q) bs l = go (eqb (bit (vars_of a (cell_of rows r q)) x) 1) (past x y u q bs l)
    where
      go : (b : Bool) → insert (y, u) (cell_pairs a rows vis r x q ++ bs) ≡ cell_pairs a rows vis r x q ++ insert (y, u) bs
          → insert (y, u) ((cond b ((x, visit_of vis r q) ∷ []) [] ++ cell_pairs a rows vis r x q) ++ bs) ≡ (cond b ((x, visit_of vis r q) ∷ []) [] ++ cell_pairs a rows vis r x q) ++ insert (y, u) bs
      go true h = rw (leb_no y x l) (ap (λ (l : List (ℕ × ℕ)). (x, visit_of vis r q) ∷ l) h)
      go false h = h

  past_all : (x u q m i n : ℕ) (bs : List (ℕ × ℕ)) → x < i → inserts u (variables_from m i n) (cell_pairs a rows vis r x q ++ bs) ≡ cell_pairs a rows vis r x q ++ inserts u (variables_from m i n) bs
  past_all x u q m i zero bs l = refl
  past_all x u q m i (suc n) bs l = go (eqb (bit m i) 1) (past_all x u q m (suc i) n bs (omega arith))
    where
      go : (b : Bool) → inserts u (variables_from m (suc i) n) (cell_pairs a rows vis r x q ++ bs) ≡ cell_pairs a rows vis r x q ++ inserts u (variables_from m (suc i) n) bs
          → inserts u (cond b (i ∷ variables_from m (suc i) n) (variables_from m (suc i) n)) (cell_pairs a rows vis r x q ++ bs) ≡ cell_pairs a rows vis r x q ++ inserts u (cond b (i ∷ variables_from m (suc i) n) (variables_from m (suc i) n)) bs
      go true h = ap (insert (i, u)) h ∙ past x i u q (inserts u (variables_from m (suc i) n) bs) l
      go false h = h

  -- a pair comes before those of no smaller variable
  abbrev Starts : ℕ → List (ℕ × ℕ) → Type 0
  Starts x [] = Unit {0}
  Starts x (b ∷ bs) = x ≤ b.0

  front : (x u : ℕ) (bs : List (ℕ × ℕ)) → Starts x bs → insert (x, u) bs ≡ (x, u) ∷ bs
  front x u [] h = refl
  front x u (b ∷ bs) h = rw (leb_yes x b.0 h)

  starts_cells : (x y q : ℕ) (bs : List (ℕ × ℕ)) → x ≤ y → Starts x bs → Starts x (cell_pairs a rows vis r y q ++ bs)
  starts_cells x y zero bs l h = h
  starts_cells x y (suc q) bs l h = go (eqb (bit (vars_of a (cell_of rows r q)) y) 1) (starts_cells x y q bs l h)
    where
      go : (b : Bool) → Starts x (cell_pairs a rows vis r y q ++ bs) → Starts x ((cond b ((y, visit_of vis r q) ∷ []) [] ++ cell_pairs a rows vis r y q) ++ bs)
      go true i = l
      go false i = i

  starts_from : (x q i n : ℕ) → x ≤ i → Starts x (pairs_from a rows vis r q i n)
  starts_from x q i zero l = tt
  starts_from x q i (suc n) l = starts_cells x i q (pairs_from a rows vis r q (suc i) n) l (starts_from x q (suc i) n (omega arith))

  -- one cell more
  more_from : (q i n : ℕ) → inserts (visit_of vis r q) (variables_from (vars_of a (cell_of rows r q)) i n) (pairs_from a rows vis r q i n) ≡ pairs_from a rows vis r (suc q) i n
  more_from q i zero = refl
  more_from q i (suc n) = go (eqb (bit (vars_of a (cell_of rows r q)) i) 1) (past_all i (visit_of vis r q) q (vars_of a (cell_of rows r q)) (suc i) n (pairs_from a rows vis r q (suc i) n) (omega arith) ∙ ap (λ (l : List (ℕ × ℕ)). cell_pairs a rows vis r i q ++ l) (more_from q (suc i) n))
    where
      m : ℕ
      m = vars_of a (cell_of rows r q)

      go : (b : Bool) → inserts (visit_of vis r q) (variables_from (vars_of a (cell_of rows r q)) (suc i) n) (cell_pairs a rows vis r i q ++ pairs_from a rows vis r q (suc i) n) ≡ cell_pairs a rows vis r i q ++ pairs_from a rows vis r (suc q) (suc i) n
          → inserts (visit_of vis r q) (cond b (i ∷ variables_from (vars_of a (cell_of rows r q)) (suc i) n) (variables_from (vars_of a (cell_of rows r q)) (suc i) n)) (cell_pairs a rows vis r i q ++ pairs_from a rows vis r q (suc i) n)
          ≡ (cond b ((i, visit_of vis r q) ∷ []) [] ++ cell_pairs a rows vis r i q) ++ pairs_from a rows vis r (suc q) (suc i) n
      go true h = ap (insert (i, visit_of vis r q)) h ∙ front i (visit_of vis r q) _ (starts_cells i i q _ (omega arith) (starts_from i (suc q) (suc i) n (omega arith)))
      go false h = h

  none_from : (x n : ℕ) → pairs_from a rows vis r 0 x n ≡ []
  none_from x zero = refl
  none_from x (suc n) = none_from (suc x) n

  pub bound_rising : (q : ℕ) → bound a rows vis r q ≡ all_pairs a rows vis r q
  bound_rising zero = sym (none_from 0 variable_count)
  bound_rising (suc q) = ap₂ (λ (ws : List ℕ) (bs : List (ℕ × ℕ)). inserts (visit_of vis r q) ws bs) (variables_are (vars_of a (cell_of rows r q))) (bound_rising q) ∙ more_from q 0 variable_count

-- pairs written

pairs_append : (bs cs : List (ℕ × ℕ)) → pairs (bs ++ cs) ≡ pairs bs ++ pairs cs
pairs_append [] cs = refl
pairs_append (b ∷ bs) cs = ap (λ (l : List ℕ). b.0 ∷ (b.1 ∷ l)) (pairs_append bs cs)

pub pairs_length : (bs : List (ℕ × ℕ)) → length (pairs bs) ≡ 2 * length bs
pairs_length [] = refl
pairs_length (b ∷ bs) = omega (arith, pairs_length bs)

pub paired_none : (at : ℕ) (o : List ℕ) → at ≤ length o → Paired [] at (Some at) o o
paired_none at o l = record { short = λ e. absurd cc; ends = λ u e. (let z : at ≡ u = cc in omega arith, let z : at ≡ u = cc in omega arith); wrote = λ h. rw (add-zero at) (sym (take-append-drop at o)) }

two_set : (at x v : ℕ) (o : List ℕ) → at + 2 ≤ length o → set (set o at x) (at + 1) v ≡ take at o ++ (x ∷ (v ∷ drop (at + 2) o))
two_set zero x v [] l = absurd (omega arith)
two_set zero x v (y ∷ []) l = absurd (omega arith)
two_set zero x v (y ∷ (z ∷ o)) l = refl
two_set (suc at) x v [] l = absurd (omega arith)
two_set (suc at) x v (y ∷ o) l =
    let p : suc at + 1 ≡ suc (at + 1) = omega arith in
    let q : suc at + 2 ≡ suc (at + 2) = omega arith in
    rw (p, q) (ap (λ (l : List ℕ). y ∷ l) (two_set at x v o (omega arith)))

paired_one : (x v at : ℕ) (o : List ℕ) → at + 2 ≤ length o → Paired ((x, v) ∷ []) at (Some (at + 2)) o (set (set o at x) (at + 1) v)
paired_one x v at o l = record { short = λ e. absurd cc; ends = λ u e. (let z : at + 2 ≡ u = cc in omega arith, let z : at + 2 ≡ u = cc in omega arith); wrote = λ h. two_set at x v o l }

paired_full : (x v at : ℕ) (o : List ℕ) → length o < at + 2 → Paired ((x, v) ∷ []) at None o o
paired_full x v at o l = record { short = λ e. l; ends = λ u e. absurd cc; wrote = λ h. absurd (omega arith) }

module _ (a rows vis : List ℕ) (r x p : ℕ) (c : Cell) (e : c ≡ cell_at a (cell_of rows r p)) (at : ℕ) (o : List ℕ) where
  abbrev bit_of : Bool
  bit_of = eqb (bit c.vars x) 1

  same : bit_of ≡ eqb (bit (vars_of a (cell_of rows r p)) x) 1
  same = ap (λ (y : Cell). eqb (bit y.vars x) 1) e

  pub pair_wrote : bit_of ≡ true → at + 2 ≤ length o → Paired (cell_pair a rows vis r x p) at (Some (at + 2)) o (set (set o at x) (at + 1) (visit_of vis r p))
  pair_wrote b l = rw (sym same ∙ b) (paired_one x (visit_of vis r p) at o l)

  pub pair_full : bit_of ≡ true → length o < at + 2 → Paired (cell_pair a rows vis r x p) at None o o
  pair_full b l = rw (sym same ∙ b) (paired_full x (visit_of vis r p) at o l)

  pub pair_none : bit_of ≡ false → at ≤ length o → Paired (cell_pair a rows vis r x p) at (Some at) o o
  pair_none b l = rw (sym same ∙ b) (paired_none at o l)

-- pairs are written, others are still to come
pub record Sofar (bs rest : List (ℕ × ℕ)) (at to : ℕ) (o₀ o : List ℕ) : Type 0 where
  pub done : List (ℕ × ℕ)
  pub split : bs ≡ done ++ rest
  pub to_is : to ≡ at + 2 * length done
  pub fits : to ≤ length o
  pub len : length o ≡ length o₀
  pub list : o ≡ take at o₀ ++ (pairs done ++ drop to o₀)

pub sofar_start : (bs : List (ℕ × ℕ)) (at : ℕ) (o : List ℕ) → at ≤ length o → Sofar bs bs at at o o
sofar_start bs at o l = record { done = []; split = refl; to_is = omega arith; fits = l; len = refl; list = sym (take-append-drop at o) }

pub sofar_more : (bs cs rest : List (ℕ × ℕ)) (at to u : ℕ) (o₀ o o' : List ℕ) → Sofar bs (cs ++ rest) at to o₀ o → Paired cs to (Some u) o o' → length o' ≡ length o → Sofar bs rest at u o₀ o'
sofar_more bs cs rest at to u o₀ o o' s w e =
    let i : u ≡ to + 2 * length cs = (w.ends u refl).0 in
    let room : u ≤ length o = (w.ends u refl).1 in
    let front : List ℕ = take at o₀ ++ pairs s.done in
    let long : length front ≡ to = simp length-append (omega (arith, length-take-le at o₀ (omega (arith, s.to_is, s.fits, s.len)), pairs_length s.done, s.to_is)) in
    let whole : o ≡ front ++ drop to o₀ = s.list ∙ sym (append_assoc (take at o₀) (pairs s.done) (drop to o₀)) in
    let fr : take to o ≡ front = ap (take to) whole ∙ take_at front (drop to o₀) to long in
    let tl : drop (to + 2 * length cs) o ≡ drop u o₀ = sym (drop-drop (2 * length cs) to o) ∙ ap (drop (2 * length cs)) (ap (drop to) whole ∙ drop_at front (drop to o₀) to long) ∙ drop-drop (2 * length cs) to o₀ ∙ ap (λ (n : ℕ). drop n o₀) (sym i) in
    record {
      done = s.done ++ cs;
      split = s.split ∙ sym (append_assoc s.done cs rest);
      to_is = simp length-append (omega (arith, s.to_is, i));
      fits = omega (arith, room, e);
      len = e ∙ s.len;
      list = w.wrote (omega (arith, i, room)) ∙ (rw (fr, tl, pairs_append s.done cs) (simp append_assoc));
    }

pub sofar_full : (bs cs rest : List (ℕ × ℕ)) (at to : ℕ) (o₀ o o' o'' : List ℕ) → Sofar bs (cs ++ rest) at to o₀ o → Paired cs to None o o' → Paired bs at None o₀ o''
sofar_full bs cs rest at to o₀ o o' o'' s w =
    let n : length bs ≡ length s.done + (length cs + length rest) = ap length s.split ∙ (simp length-append) in
    let m : length o < to + 2 * length cs = w.short refl in
    record { short = λ e. omega (arith, m, s.to_is, s.len, n); ends = λ u e. absurd cc; wrote = λ l. absurd (omega (arith, m, s.to_is, s.len, n)) }

pub sofar_end : (bs : List (ℕ × ℕ)) (at to : ℕ) (o₀ o : List ℕ) → Sofar bs [] at to o₀ o → Paired bs at (Some to) o₀ o
sofar_end bs at to o₀ o s =
    let e : bs ≡ s.done = s.split ∙ append-nil s.done in
    let n : length bs ≡ length s.done = ap length e in
    record {
      short = λ e. absurd cc;
      ends = λ u e. (let z : to ≡ u = cc in omega (arith, s.to_is, n), let z : to ≡ u = cc in omega (arith, s.fits, s.len));
      wrote = λ l. s.list ∙ ap₂ (λ (cs : List (ℕ × ℕ)) (m : ℕ). take at o₀ ++ (pairs cs ++ drop m o₀)) (sym e) (let q : to ≡ at + 2 * length bs = omega (arith, s.to_is, n) in q);
    }
