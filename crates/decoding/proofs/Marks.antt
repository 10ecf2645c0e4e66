-- The rows that declare number kinds, marked one after the other.
use mathlib.Core.Path.{◌≡◌, refl, sym, ap, ap₂, ◌∙◌}
use mathlib.Core.List.{List, [], ◌∷◌, ◌++◌}
use mathlib.Core.Option.{some}
use mathlib.Core.Bool.{Bool, true, false, cond, not, ◌&&◌, ◌||◌}
use Prim.Native.Nat.{ℕ, zero, suc, ◌+◌, ◌*◌, ◌≤◌, ◌<◌}
use native.Mathlib.Nat.{zero-add}
use native.Mathlib.Numerals.{add-one}
use native.Mathlib.Omega.{arith}
use lib.ListN.{length, get_or, set, length-set}
use lib.Seq.{get_or-set_same, get_or-set_other}
use lib.Dec.{eqb}
use Rattle.signature.specs.Limits.{constructor_limit, kind_limit, level_base, level_count}
use Rattle.signature.specs.Lists.{all}
use Rattle.signature.specs.Signature.{Signature, declares, is_number_kind}
use Rattle.signature.specs.Decoded.{decoded_length, stride, kind_stride, kinds_at, unkinded, kind_of, arity_of, argument_of, first_of, count_of, least_head_of}
use Rattle.decoding.specs.Decoding.{declares_number, row, rows, alone_by, plain, marked, mark_of, Marked}
use Rattle.signature.proofs.Booleans.{and_false, and_left, and_right, not_true, or_false, or_true}
use Rattle.signature.proofs.Members.{any_append}
use Rattle.signature.proofs.Counting.{counted_more}
use Rattle.signature.proofs.ListFacts.{at_count as at_row, test_at}
use Rattle.signature.proofs.Tests.{eqb_self, eqb_eq, eqb_ne, eqb_no}

-- whether a row declares a number kind, as the code finds it
pub number_not : (t : List ℕ) (c a : ℕ) → a ≡ arity_of t c → 0 < a → false ≡ declares_number t c
number_not t c a e l = rw (eqb_no (arity_of t c) 0 (λ p. omega arith))

pub number_so : (t : List ℕ) (c a x : ℕ) → a ≡ arity_of t c → a ≤ 0 → x ≡ argument_of t c 0 → eqb x 1 ≡ declares_number t c
number_so t c a x e l f =
    let z : arity_of t c ≡ 0 = omega arith in
    ap (λ y. eqb y 1) f ∙ ap (λ y. eqb y 0 && eqb (argument_of t c 0) 1) (sym z)

-- whether a row stands alone, as the code finds it
pub alone_not : (t : List ℕ) (c : ℕ) → declares_number t c ≡ false → true ≡ alone_by t (row t c)
alone_not t c e = ap (λ b. not b || eqb (count_of t (kind_of t c)) 1) (sym e)

pub alone_count : (t : List ℕ) (c j k x : ℕ) → declares_number t c ≡ true → j ≡ kind_of t c → k ≡ j → x ≡ count_of t k → eqb x 1 ≡ alone_by t (row t c)
alone_count t c j k x e p q r = ap (λ z. eqb z 1) (r ∙ ap (count_of t) (q ∙ p)) ∙ ap (λ b. not b || eqb (count_of t (kind_of t c)) 1) (sym e)

-- rows of which none declares a number kind
pub all_alone : (t : List ℕ) (cs : Signature) → plain cs ≡ true → true ≡ all (alone_by t) cs
all_alone t [] e = refl
all_alone t (c ∷ cs) e = rw (and_left (not c.number) (plain cs) e) (all_alone t cs (and_right (not c.number) (plain cs) e))

-- whether a row is marked, as the code finds it
pub mark_not : (t : List ℕ) (c : ℕ) → declares_number t c ≡ false → t ≡ mark_of t c
mark_not t c e = ap (λ b. cond b (marked t c (kind_of t c)) t) (sym e)

pub mark_is : (t : List ℕ) (c j k : ℕ) → declares_number t c ≡ true → j ≡ kind_of t c → k ≡ j → marked t c k ≡ mark_of t c
mark_is t c j k e p q = ap (marked t c) (q ∙ p) ∙ ap (λ b. cond b (marked t c (kind_of t c)) t) (sym e)

-- the words of a table in which a row is marked
module _ (u : List ℕ) (c k : ℕ) where
  abbrev at : ℕ
  at = kinds_at + kind_stride * k

  abbrev one : List ℕ
  one = set u (stride * c) unkinded

  abbrev two : List ℕ
  two = set one at level_base

  abbrev three : List ℕ
  three = set two (at + 1) level_count

  pub marked_long : length (marked u c k) ≡ length u
  marked_long = length-set three (at + 2) level_base ∙ length-set two (at + 1) level_count ∙ length-set one at level_base ∙ length-set u (stride * c) unkinded

  away : (i : ℕ) → ¬ (i ≡ stride * c) → ¬ (i ≡ at) → ¬ (i ≡ at + 1) → ¬ (i ≡ at + 2) → get_or (marked u c k) i 0 ≡ get_or u i 0
  away i p q r s = get_or-set_other three (at + 2) i level_base 0 s ∙ get_or-set_other two (at + 1) i level_count 0 r ∙ get_or-set_other one at i level_base 0 q ∙ get_or-set_other u (stride * c) i unkinded 0 p

  module _ (long : length u ≡ decoded_length) (l : c < constructor_limit) (m : k < kind_limit) where
    at_kind : kind_of (marked u c k) c ≡ unkinded
    at_kind = get_or-set_other three (at + 2) (stride * c) level_base 0 (λ p. omega arith) ∙ get_or-set_other two (at + 1) (stride * c) level_count 0 (λ p. omega arith) ∙ get_or-set_other one at (stride * c) level_base 0 (λ p. omega arith) ∙ get_or-set_same u (stride * c) unkinded 0 (omega arith)

    at_first : first_of (marked u c k) k ≡ level_base
    at_first = get_or-set_other three (at + 2) at level_base 0 (λ p. omega arith) ∙ get_or-set_other two (at + 1) at level_count 0 (λ p. omega arith) ∙ get_or-set_same one at level_base 0 (omega (arith, length-set u (stride * c) unkinded))

    at_count : count_of (marked u c k) k ≡ level_count
    at_count = get_or-set_other three (at + 2) (at + 1) level_base 0 (λ p. omega arith) ∙ get_or-set_same two (at + 1) level_count 0 (omega (arith, length-set one at level_base, length-set u (stride * c) unkinded))

    at_least : least_head_of (marked u c k) k ≡ level_base
    at_least = get_or-set_same three (at + 2) level_base 0 (omega (arith, length-set two (at + 1) level_count, length-set one at level_base, length-set u (stride * c) unkinded))

-- one row more
module _ (t : List ℕ) (n : ℕ) where
  more : (k : ℕ) → is_number_kind (rows t 0 (n + 1)) k ≡ (is_number_kind (rows t 0 n) k || declares k (row t n))
  more k = ap (λ z. is_number_kind z k) (counted_more (λ d. row t d) 0 n ∙ ap (λ z. rows t 0 n ++ (row t z ∷ [])) (zero-add n)) ∙ any_append (declares k) (rows t 0 n) (row t n ∷ []) ∙ ap (λ z. is_number_kind (rows t 0 n) k || z) (or_false (declares k (row t n)))

  more_here : (row t n).number ≡ true → is_number_kind (rows t 0 (n + 1)) (kind_of t n) ≡ true
  more_here q = more (kind_of t n) ∙ rw (q, eqb_self (kind_of t n)) (or_true (is_number_kind (rows t 0 n) (kind_of t n)))

  more_other : (k : ℕ) → ¬ (kind_of t n ≡ k) → is_number_kind (rows t 0 (n + 1)) k ≡ is_number_kind (rows t 0 n) k
  more_other k p = more k ∙ rw (eqb_no (kind_of t n) k p, and_false (row t n).number) (or_false (is_number_kind (rows t 0 n) k))

  more_not : (k : ℕ) → (row t n).number ≡ false → is_number_kind (rows t 0 (n + 1)) k ≡ is_number_kind (rows t 0 n) k
  more_not k q = more k ∙ rw q (or_false (is_number_kind (rows t 0 n) k))

pub marked_none : (t : List ℕ) → Marked t 0 t
marked_none t = record { long = refl; others = λ i l f. refl; kind = λ c l. absurd (omega arith); first = λ k. refl; count = λ k. refl; lowest_heads = λ k. refl; sizes_same = λ k l. refl; kinds_same = refl; constructors_same = refl }

module _ (t u : List ℕ) (n : ℕ) (long : length t ≡ decoded_length) (l : n < constructor_limit) (h : Marked t n u) where
  kind_same : kind_of u n ≡ kind_of t n
  kind_same = h.others (stride * n) (omega arith) (λ c p e. omega arith)

  number_same : declares_number u n ≡ declares_number t n
  number_same = ap₂ (λ x y. eqb x 0 && eqb y 1) (h.others (stride * n + 1) (omega arith) (λ c p e. omega arith)) (h.others (stride * n + 2 + 0) (omega arith) (λ c p e. omega arith))

  pub kind_low : kind_of t n < kind_limit → kind_of u n < kind_limit
  kind_low m = omega (arith, kind_same)

  marked_not : declares_number u n ≡ false → Marked t (n + 1) u
  marked_not f = record { long = h.long; others = λ i p g. h.others i p (λ c q. g c (omega arith)); kind = kind; first = λ k. h.first k ∙ ap (λ b. cond b level_base (first_of t k)) (sym (more_not t n k q)); count = λ k. h.count k ∙ ap (λ b. cond b level_count (count_of t k)) (sym (more_not t n k q)); lowest_heads = λ k. h.lowest_heads k ∙ ap (λ b. cond b level_base (least_head_of t k)) (sym (more_not t n k q)); sizes_same = h.sizes_same; kinds_same = h.kinds_same; constructors_same = h.constructors_same }
    where
      q : (row t n).number ≡ false
      q = sym number_same ∙ f

      kind : (c : ℕ) → c < n + 1 → kind_of u c ≡ cond (row t c).number unkinded (kind_of t c)
      kind c p = go (eqb c n) refl
        where
          go : (b : Bool) → eqb c n ≡ b → kind_of u c ≡ cond (row t c).number unkinded (kind_of t c)
          go true e = let z : c ≡ n = eqb_eq c n e in rw (z, q) kind_same
          go false e = let z : ¬ (c ≡ n) = eqb_ne c n e in h.kind c (omega arith)

  module _ (k : ℕ) (m : k < kind_limit) (ek : k ≡ kind_of u n) (f : declares_number u n ≡ true) where
    abbrev v : List ℕ
    v = marked u n k

    long_u : length u ≡ decoded_length
    long_u = h.long ∙ long

    q : (row t n).number ≡ true
    q = sym number_same ∙ f

    here : k ≡ kind_of t n
    here = ek ∙ kind_same

    others : (i : ℕ) → i < kinds_at → ((c : ℕ) → c < n + 1 → i ≡ stride * c → ⊥) → get_or v i 0 ≡ get_or t i 0
    others i p g = away u n k i (g n (omega arith)) (λ z. omega arith) (λ z. omega arith) (λ z. omega arith) ∙ h.others i p (λ c z. g c (omega arith))

    kind : (c : ℕ) → c < n + 1 → kind_of v c ≡ cond (row t c).number unkinded (kind_of t c)
    kind c p = go (eqb c n) refl
      where
        go : (b : Bool) → eqb c n ≡ b → kind_of v c ≡ cond (row t c).number unkinded (kind_of t c)
        go true e = let z : c ≡ n = eqb_eq c n e in rw (z, q) (at_kind u n k long_u l m)
        go false e = let z : ¬ (c ≡ n) = eqb_ne c n e in away u n k (stride * c) (λ w. omega arith) (λ w. omega arith) (λ w. omega arith) (λ w. omega arith) ∙ h.kind c (omega arith)

    -- the row of kind k has three of its words marked, the others none
    kinds : (x : ℕ) (of_v of_u of_t : ℕ → ℕ) → of_v k ≡ x → ((j : ℕ) → ¬ (j ≡ k) → of_v j ≡ of_u j) → ((j : ℕ) → of_u j ≡ cond (is_number_kind (rows t 0 n) j) x (of_t j)) → (j : ℕ) → of_v j ≡ cond (is_number_kind (rows t 0 (n + 1)) j) x (of_t j)
    kinds x of_v of_u of_t e o g j = go (eqb j k) refl
      where
        go : (b : Bool) → eqb j k ≡ b → of_v j ≡ cond (is_number_kind (rows t 0 (n + 1)) j) x (of_t j)
        go true p =
            let z : j ≡ k = eqb_eq j k p in
            rw (z, here, more_here t n q) (ap of_v (sym here) ∙ e)
        go false p =
            let z : ¬ (j ≡ k) = eqb_ne j k p in
            o j z ∙ g j ∙ ap (λ b. cond b x (of_t j)) (sym (more_other t n j (λ w. z (sym (here ∙ w)))))

    marked_more : Marked t (n + 1) v
    marked_more = record {
      long = marked_long u n k ∙ h.long;
      others = others;
      kind = kind;
      first = kinds level_base (first_of v) (first_of u) (first_of t) (at_first u n k long_u l m) (λ j p. away u n k (kinds_at + kind_stride * j) (λ z. omega arith) (λ z. p (omega arith)) (λ z. omega arith) (λ z. omega arith)) h.first;
      count = kinds level_count (count_of v) (count_of u) (count_of t) (at_count u n k long_u l m) (λ j p. away u n k (kinds_at + kind_stride * j + 1) (λ z. omega arith) (λ z. omega arith) (λ z. p (omega arith)) (λ z. omega arith)) h.count;
      lowest_heads = kinds level_base (least_head_of v) (least_head_of u) (least_head_of t) (at_least u n k long_u l m) (λ j p. away u n k (kinds_at + kind_stride * j + 2) (λ z. omega arith) (λ z. omega arith) (λ z. omega arith) (λ z. p (omega arith))) h.lowest_heads;
      sizes_same = λ j p. away u n k (kinds_at + kind_stride * j + 3) (λ z. omega arith) (λ z. omega arith) (λ z. omega arith) (λ z. omega arith) ∙ h.sizes_same j p;
      kinds_same = away u n k (kinds_at + kind_stride * kind_limit) (λ z. omega arith) (λ z. omega arith) (λ z. omega arith) (λ z. omega arith) ∙ h.kinds_same;
      constructors_same = away u n k (kinds_at + kind_stride * kind_limit + 1) (λ z. omega arith) (λ z. omega arith) (λ z. omega arith) (λ z. omega arith) ∙ h.constructors_same;
    }

  pub mark_more : kind_of t n < kind_limit → Marked t (n + 1) (mark_of u n)
  mark_more m = go (declares_number u n) refl
    where
      go : (b : Bool) → declares_number u n ≡ b → Marked t (n + 1) (cond b (marked u n (kind_of u n)) u)
      go true q = marked_more (kind_of u n) (kind_low m) refl q
      go false q = marked_not q

pub marked_plain : (t : List ℕ) (n : ℕ) → length t ≡ decoded_length → n ≤ constructor_limit → plain (rows t 0 n) ≡ true → Marked t n t
marked_plain t n long l e = go n (omega arith)
  where
    not_one : (c : ℕ) → c < n → declares_number t c ≡ false
    not_one c m = not_true (declares_number t c) (test_at (λ d. not d.number) (rows t 0 n) c (row t c) e (at_row (λ d. row t d) 0 n c m ∙ ap (λ z. some (row t z)) (zero-add c)))

    go : (m : ℕ) → m ≤ n → Marked t m t
    go zero p = marked_none t
    go (suc m) p = rw (← add-one m) (marked_not t t m long (omega arith) (go m (omega arith)) (not_one m (omega arith)))
