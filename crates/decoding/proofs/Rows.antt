-- Reading the constructors' words into rows.
use mathlib.Core.Path.{◌≡◌, refl, sym, ap, ap₂, ◌∙◌}
use mathlib.Core.List.{List, [], ◌∷◌, ◌++◌, append_assoc}
use mathlib.Core.Option.{Option, none, some}
use mathlib.Core.Bool.{Bool, true, false, ◌&&◌}
use Prim.Native.Nat.{ℕ, zero, suc, ◌+◌, ◌-◌, ◌*◌, ◌≤◌, ◌<◌, max}
use native.Mathlib.Numerals.{add-one}
use native.Mathlib.Nat.{zero-add, add-zero, add-suc, suc-add}
use native.Mathlib.Decide.{dec_le}
use native.Mathlib.Omega.{arith}
use lib.ListN.{length, get_or, set, take, drop, length-drop, length-set}
use lib.Seq.{drop-cons, drop-drop, get_or-set_same, get_or-set_other}
use lib.Dec.{eqb, ltb}
use Rattle.signature.specs.Limits.{argument_limit, constructor_limit, number_count}
use Rattle.signature.specs.Lists.{◌>>=◌, split, all}
use Rattle.signature.specs.Read.{read_arguments, read_constructors}
use Rattle.signature.specs.Signature.{Signature, Constructor}
use Rattle.signature.specs.Decoded.{decoded_length, stride, kinds_at, kind_of, arity_of, argument_of}
use Rattle.decoding.specs.Decoding.{words_from, declares_number, row, rows, SameBelow, read_constructor, argument_count, flag_by, below, Highest, Copied, RowRead, Arities, led_by}
use Rattle.signature.proofs.ListFacts.{split_none, split_some}
use Rattle.signature.proofs.Booleans.{and_assoc, and_false, and_true}
use Rattle.signature.proofs.Tests.{leb_yes, ltb_yes, ltb_no, le_of, lt_of_not, eqb_eq, eqb_ne}
use Rattle.signature.proofs.Counting.{counted_same, counted_more, set_is, set_apart}

-- copying

pub copied_more : (w : List ℕ) (from : ℕ) (t : List ℕ) (to n : ℕ) (u : List ℕ) → to + n < length t → Copied w from t to n u → Copied w from t to (n + 1) (set u (to + n) (get_or w (from + n) 0))
copied_more w from t to n u l h = record { long = length-set u (to + n) (get_or w (from + n) 0) ∙ h.long; there = there; before = λ i m. set_apart u (to + n) i (get_or w (from + n) 0) (omega arith) ∙ h.before i m; behind = λ i m. get_or-set_other u (to + n) i (get_or w (from + n) 0) 0 (λ p. omega arith) ∙ h.behind i (omega arith) }
  where
    there : (j : ℕ) → j < n + 1 → get_or (set u (to + n) (get_or w (from + n) 0)) (to + j) 0 ≡ get_or w (from + j) 0
    there j m = go (eqb j n) refl
      where
        go : (b : Bool) → eqb j n ≡ b → get_or (set u (to + n) (get_or w (from + n) 0)) (to + j) 0 ≡ get_or w (from + j) 0
        go true q = let e : j ≡ n = eqb_eq j n q in rw e (get_or-set_same u (to + n) (get_or w (from + n) 0) 0 (omega (arith, h.long)))
        go false q =
            let e : ¬ (j ≡ n) = eqb_ne j n q in
            get_or-set_other u (to + n) (to + j) (get_or w (from + n) 0) 0 (λ p. e (omega arith)) ∙ h.there j (omega arith)

-- the highest word
pub all_more : {A : Type 0} (f : A → Bool) (xs : List A) (y : A) → all f (xs ++ (y ∷ [])) ≡ (all f xs && f y)
all_more f [] y = and_true (f y)
all_more f (x ∷ xs) y = ap (λ z. f x && z) (all_more f xs y) ∙ and_assoc (f x) (all f xs) (f y)

pub highest_more : (w : List ℕ) (from i m h r : ℕ) → ((k : ℕ) → ltb r k ≡ (ltb h k && ltb (get_or w (from + i) 0) k)) → Highest m (words_from w from i) h → Highest m (words_from w from (i + 1)) r
highest_more w from i m h r e g k = e k ∙ ap (λ z. z && ltb (get_or w (from + i) 0) k) (g k) ∙ sym (and_assoc (ltb m k) (below k (words_from w from i)) (ltb (get_or w (from + i) 0) k)) ∙ ap (λ z. ltb m k && z) (sym (ap (below k) (counted_more (λ j. get_or w j 0) from i) ∙ all_more (λ j. ltb j k) (words_from w from i) (get_or w (from + i) 0)))

pub higher_max : (a b r : ℕ) → r ≡ max a b → (k : ℕ) → ltb r k ≡ (ltb a k && ltb b k)
higher_max a b r e k = go (ltb r k) refl
  where
    go : (x : Bool) → ltb r k ≡ x → ltb r k ≡ (ltb a k && ltb b k)
    go true q = let l : r < k = le_of (suc r) k q in rw (q, ltb_yes a k (omega arith), ltb_yes b k (omega arith))
    go false q = on (dec_le (suc a) k)
      where
        on : Dec (a < k) → ltb r k ≡ (ltb a k && ltb b k)
        on (yes l) = let m : k < suc r = lt_of_not (suc r) k q in rw (q, ltb_no b k (omega arith), and_false (ltb a k))
        on (no l) = rw (q, ltb_no a k (omega arith))

-- one constructor, then the others
pub read_one : (n : ℕ) (ws : List ℕ) → read_constructors (suc n) ws ≡ (read_constructor ws >>= λ r. read_constructors n r.1 >>= λ cs. some (r.0 ∷ cs))
read_one n [] = refl
read_one n (k ∷ []) = refl
read_one n (k ∷ (m ∷ ws)) = go (read_arguments m ws)
  where
    found : List ℕ × List ℕ → Option (Constructor × List ℕ)
    found r = some (record { kind = k; args = r.0; number = eqb m number_count }, r.1)

    go : (o : Option (List ℕ × List ℕ)) → (o >>= λ r. read_constructors n r.1 >>= λ cs. some (record { kind = k; args = r.0; number = eqb m number_count } ∷ cs)) ≡ ((o >>= λ r. found r) >>= λ r. read_constructors n r.1 >>= λ cs. some (r.0 ∷ cs))
    go none = refl
    go (some r) = refl

-- what a place has no constructor for
two_words : (w : List ℕ) (p : ℕ) → p + 2 ≤ length w → drop p w ≡ get_or w p 0 ∷ (get_or w (p + 1) 0 ∷ drop (p + 2) w)
two_words w p l =
    let e : suc (suc p) ≡ p + 2 = omega arith in
    drop-cons w p 0 (omega arith) ∙ ap (λ z. get_or w p 0 ∷ z) (drop-cons w (suc p) 0 (omega arith) ∙ ap₂ (λ i j. get_or w i 0 ∷ drop j w) (sym (add-one p)) e)

few_words : (ws : List ℕ) → length ws < 2 → read_constructor ws ≡ none
few_words [] l = refl
few_words (k ∷ []) l = refl
few_words (k ∷ (m ∷ ws)) l = absurd (omega arith)

pub row_short : (w : List ℕ) (p : ℕ) → length w - p < 2 → read_constructor (drop p w) ≡ none
row_short w p l = few_words (drop p w) (omega (arith, length-drop p w))

pub row_cut : (w : List ℕ) (p : ℕ) → p + 2 ≤ length w → get_or w (p + 1) 0 ≤ number_count → length w - p - 2 < argument_count (get_or w (p + 1) 0) → read_constructor (drop p w) ≡ none
row_cut w p l m n =
    let s : split (argument_count (get_or w (p + 1) 0)) (drop (p + 2) w) ≡ none = split_none (argument_count (get_or w (p + 1) 0)) (drop (p + 2) w) (omega (arith, length-drop (p + 2) w)) in
    rw (two_words w p l, leb_yes (get_or w (p + 1) 0) number_count m, s)

-- a row's second word
pub few_of : (m : ℕ) → m ≤ number_count → argument_count m ≤ argument_limit
few_of m l = go (eqb m number_count) refl
  where
    go : (b : Bool) → eqb m number_count ≡ b → argument_count m ≤ argument_limit
    go true q = rw q (omega arith)
    go false q =
        let z : ¬ (m ≡ number_count) = eqb_ne m number_count q in
        rw q (omega arith)

-- and the word in the place of the first argument
number_is : (m x : ℕ) → (argument_count m ≡ 0 → x ≡ flag_by m) → (eqb (argument_count m) 0 && eqb x 1) ≡ eqb m number_count
number_is m x h = go (eqb m number_count) refl
  where
    plain : (b : Bool) → eqb m number_count ≡ false → eqb m 0 ≡ b → (eqb m 0 && eqb x 1) ≡ false
    plain true q e =
        let z : argument_count m ≡ 0 = rw q (eqb_eq m 0 e) in
        let f : x ≡ 0 = h z ∙ (rw q) in
        rw (e, f)
    plain false q e = rw e

    go : (b : Bool) → eqb m number_count ≡ b → (eqb (argument_count m) 0 && eqb x 1) ≡ eqb m number_count
    go true q =
        let z : argument_count m ≡ 0 = rw q in
        let f : x ≡ 1 = h z ∙ (rw q) in
        rw (z, f, q)
    go false q = rw q (plain (eqb m 0) q refl)

words_taken : (u w : List ℕ) (b a m : ℕ) → a + m ≤ length w → ((j : ℕ) → j < m → get_or u (b + j) 0 ≡ get_or w (a + j) 0) → take m (drop a w) ≡ words_from u b m
words_taken u w b a zero l h = refl
words_taken u w b a (suc m) l h =
    let e : get_or u b 0 ≡ get_or w a 0 = rw (add-zero b, add-zero a) at (h 0 (omega arith)) in
    rw (drop-cons w a 0 (omega arith), e) (ap (λ z. get_or w a 0 ∷ z) (words_taken u w (suc b) (suc a) m (omega arith) (λ j k. rw (suc-add b j, suc-add a j, ← add-suc b j, ← add-suc a j) (h (suc j) (omega arith)))))

module _ (w : List ℕ) (p : ℕ) (t : List ℕ) (c m : ℕ) (u : List ℕ) (n f : ℕ) where
  abbrev one : List ℕ
  one = set t (stride * c) (get_or w p 0)

  abbrev two : List ℕ
  two = set one (stride * c + 1) n

  abbrev pub Begun : List ℕ
  Begun = set two (stride * c + 2) f

  pub row_taken : length t ≡ decoded_length → c < constructor_limit → m ≡ n → n ≡ argument_count (get_or w (p + 1) 0) → get_or w (p + 1) 0 ≤ number_count → p + 2 + m ≤ length w → f ≡ flag_by (get_or w (p + 1) 0) → Copied w (p + 2) Begun (stride * c + 2) m u → RowRead w p t c u (m + 2)
  row_taken lt lc mn en lb lw ef h = record { long = h.long ∙ long; within = omega arith; taken = taken; two = omega arith; kind = kind; number = number; arity = omega (arith, arity, la); before = before; behind = behind }
    where
      em : m ≡ argument_count (get_or w (p + 1) 0)
      em = mn ∙ en

      la : m ≤ argument_limit
      la = omega (arith, few_of (get_or w (p + 1) 0) lb)

      long : length Begun ≡ length t
      long = length-set two (stride * c + 2) f ∙ length-set one (stride * c + 1) n ∙ length-set t (stride * c) (get_or w p 0)

      below : (i : ℕ) → i < stride * c + 2 → get_or u i 0 ≡ get_or two i 0
      below i l = h.before i l ∙ set_apart two (stride * c + 2) i f l

      kind : kind_of u c ≡ get_or w p 0
      kind = below (stride * c) (omega arith) ∙ set_apart one (stride * c + 1) (stride * c) n (omega arith) ∙ set_is t (stride * c) (stride * c) (get_or w p 0) (omega arith) refl

      arity : arity_of u c ≡ m
      arity = below (stride * c + 1) (omega arith) ∙ set_is one (stride * c + 1) (stride * c + 1) n (omega (arith, length-set t (stride * c) (get_or w p 0))) refl ∙ sym mn

      flag : argument_count (get_or w (p + 1) 0) ≡ 0 → argument_of u c 0 ≡ flag_by (get_or w (p + 1) 0)
      flag z = h.behind (stride * c + 2 + 0) (omega arith) ∙ set_is two (stride * c + 2) (stride * c + 2 + 0) f (omega (arith, long, length-set two (stride * c + 2) f)) (omega arith) ∙ ef

      number : declares_number u c ≡ eqb (get_or w (p + 1) 0) number_count
      number = ap (λ z. eqb z 0 && eqb (argument_of u c 0) 1) (arity ∙ em) ∙ number_is (get_or w (p + 1) 0) (argument_of u c 0) flag

      before : SameBelow (stride * c) t u
      before i l = below i (omega arith) ∙ set_apart one (stride * c + 1) i n (omega arith) ∙ set_apart t (stride * c) i (get_or w p 0) l

      behind : (i : ℕ) → kinds_at ≤ i → get_or u i 0 ≡ get_or t i 0
      behind i l = h.behind i (omega (arith, la)) ∙ get_or-set_other two (stride * c + 2) i f 0 (λ z. omega arith) ∙ get_or-set_other one (stride * c + 1) i n 0 (λ z. omega arith) ∙ get_or-set_other t (stride * c) i (get_or w p 0) 0 (λ z. omega arith)

      cut : split m (drop (p + 2) w) ≡ some (words_from u (stride * c + 2) m, drop (p + (m + 2)) w)
      cut =
          let e : p + 2 + m ≡ p + (m + 2) = omega arith in
          split_some m (drop (p + 2) w) (omega (arith, length-drop (p + 2) w)) ∙ ap₂ (λ a b. some (a, b)) (words_taken u w (stride * c + 2) (p + 2) m lw h.there) (drop-drop m (p + 2) w ∙ ap (λ z. drop z w) e)

      found : read_constructor (drop p w) ≡ some (record { kind = get_or w p 0; args = words_from u (stride * c + 2) m; number = eqb (get_or w (p + 1) 0) number_count }, drop (p + (m + 2)) w)
      found = rw (two_words w p (omega arith), leb_yes (get_or w (p + 1) 0) number_count lb, ← em, cut)

      taken : read_constructor (drop p w) ≡ some (row u c, drop (p + (m + 2)) w)
      taken = found ∙ sym (ap (λ z. some (z, drop (p + (m + 2)) w)) (ap₂ (λ x y. record { kind = x; args = words_from u (stride * c + 2) y; number = declares_number u c }) kind arity ∙ ap (λ z. record { kind = get_or w p 0; args = words_from u (stride * c + 2) m; number = z }) number))

  pub row_highest : (most r : ℕ) → length t ≡ decoded_length → c < constructor_limit → m ≡ n → p + 2 + m ≤ length w → Copied w (p + 2) Begun (stride * c + 2) m u → Highest most (words_from w (p + 2) m) r → Highest most (row u c).args r
  row_highest most r lt lc mn lw h g k = g k ∙ ap (λ z. ltb most k && below k z) (sym (words_taken w w (p + 2) (p + 2) m lw (λ j l. refl)) ∙ words_taken u w (stride * c + 2) (p + 2) m lw h.there ∙ ap (words_from u (stride * c + 2)) (sym arity))
    where
      arity : arity_of u c ≡ m
      arity = h.before (stride * c + 1) (omega arith) ∙ set_apart two (stride * c + 2) (stride * c + 1) f (omega arith) ∙ set_is one (stride * c + 1) (stride * c + 1) n (omega (arith, length-set t (stride * c) (get_or w p 0))) refl ∙ sym mn

-- rows that nothing has written since
pub row_same : (t u : List ℕ) (m c : ℕ) → SameBelow m t u → stride * c + stride ≤ m → arity_of t c ≤ argument_limit → row u c ≡ row t c
row_same t u m c h l a =
    let k : kind_of u c ≡ kind_of t c = h (stride * c) (omega arith) in
    let n : arity_of u c ≡ arity_of t c = h (stride * c + 1) (omega arith) in
    let f : declares_number u c ≡ declares_number t c = ap₂ (λ x y. eqb x 0 && eqb y 1) n (h (stride * c + 2 + 0) (omega arith)) in
    ap₂ (λ x xs. record { kind = x; args = xs; number = declares_number u c }) k (ap (words_from u (stride * c + 2)) n ∙ counted_same (λ j. get_or u j 0) (λ j. get_or t j 0) (stride * c + 2) (arity_of t c) (λ j z. h (stride * c + 2 + j) (omega arith))) ∙ ap (λ x. record { kind = kind_of t c; args = words_from t (stride * c + 2) (arity_of t c); number = x }) f

pub rows_same : (t u : List ℕ) (m n : ℕ) → SameBelow m t u → stride * n ≤ m → Arities t n → rows u 0 n ≡ rows t 0 n
rows_same t u m n h l a = counted_same (λ d. row u d) (λ d. row t d) 0 n (λ j z. rw (zero-add j) (row_same t u m j h (omega arith) (a j z)))

-- the turns of the reader
led_one : (cs : Signature) (d : Constructor) (o : Option Signature) → led_by cs (o >>= λ ds. some (d ∷ ds)) ≡ led_by (cs ++ (d ∷ [])) o
led_one cs d none = refl
led_one cs d (some ds) = ap some (sym (append_assoc cs (d ∷ []) ds))

pub rows_more : (w t u : List ℕ) (p c words m : ℕ) → RowRead w p t c u words → read_constructors (c + suc m) (drop 1 w) ≡ led_by (rows t 0 c) (read_constructors (suc m) (drop p w)) → read_constructors (c + suc m) (drop 1 w) ≡ led_by (rows t 0 c ++ (row u c ∷ [])) (read_constructors m (drop (p + words) w))
rows_more w t u p c words m h e = e ∙ ap (led_by (rows t 0 c)) (read_one m (drop p w) ∙ ap (λ o. o >>= λ r. read_constructors m r.1 >>= λ cs. some (r.0 ∷ cs)) h.taken) ∙ led_one (rows t 0 c) (row u c) (read_constructors m (drop (p + words) w))

pub arities_more : (w t u : List ℕ) (p c m : ℕ) → RowRead w p t c u m → Arities t c → Arities u (c + 1)
arities_more w t u p c m h a j l = go (eqb j c) refl
  where
    go : (b : Bool) → eqb j c ≡ b → arity_of u j ≤ argument_limit
    go true q = let e : j ≡ c = eqb_eq j c q in rw e h.arity
    go false q =
        let e : ¬ (j ≡ c) = eqb_ne j c q in
        let s : arity_of u j ≡ arity_of t j = h.before (stride * j + 1) (omega arith) in
        let b : arity_of t j ≤ argument_limit = a j (omega arith) in
        omega arith
