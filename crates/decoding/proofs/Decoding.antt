-- What decoding answers, step by step.
use mathlib.Core.Path.{◌≡◌, refl, sym, ap, ap₂, ◌∙◌, subst}
use mathlib.Core.List.{List, [], ◌∷◌, map, append-nil}
use mathlib.Core.Option.{Option, none, some}
use mathlib.Core.Bool.{Bool, true, false, cond, not, ◌&&◌, ◌||◌}
use Prim.Native.Nat.{ℕ, zero, suc, ◌+◌, ◌*◌, ◌≤◌, ◌<◌}
use native.Mathlib.Nat.{zero-add, add-zero}
use native.Mathlib.Decide.{dec_le}
use native.Mathlib.Omega.{arith}
use lib.ListN.{length, get_or, drop, get_elem?}
use lib.Seq.{drop-length}
use lib.Dec.{leb, ltb, eqb}
use Rattle.signature.specs.Limits.{constructor_limit, kind_limit, argument_limit, row_limit, level_base, level_count, small_size}
use Rattle.signature.specs.Lists.{◌>>=◌, require, all, count_up, first, is_some}
use Rattle.signature.specs.Lawful.{SignatureWords}
use Rattle.signature.specs.Read.{read_constructors, read_signature, count_kinds, stands_alone, lawful, lawful_kinds, least, Signed}
use Rattle.signature.specs.Signature.{Signature, Constructor, numbers, levels, declares, is_number_kind, heads}
use Rattle.signature.specs.Decoded.{Decoded, stride, kinds_at, kind_of, arity_of, argument_of, first_of, count_of, least_head_of, head_kind, least_head}
use Rattle.decoding.specs.Decoding.{row, rows, SameBelow, kinds_or_0, kinds_due, alone_by, plain, Noted, Reading, Unlawful, Fit, Spanned, span, KindsNoted, Marked}
use Rattle.signature.proofs.Booleans.{and_left, and_right, and_false}
use Rattle.signature.proofs.Members.{some_when}
use Rattle.signature.proofs.ListFacts.{all_in, all_is, any_in, at_count, at_count_is, at_out, test_at}
use Rattle.signature.proofs.Counting.{counted_length}
use Rattle.signature.proofs.Tests.{none≢some, some_inj, bind_some, leb_yes, leb_no, ltb_yes, ltb_no, le_of, eqb_eq}
use Rattle.signature.proofs.Heads.{Consecutive, consecutive_nil, consecutive_cons, consecutive_of}
use Rattle.signature.proofs.SignatureBack.{signature_is}
use Rattle.signature.proofs.KnownFacts.{count_length}
use Rattle.signature.proofs.LeastValue.{lowest_level}
use Rattle.decoding.proofs.Rows.{row_same, rows_same}
use Rattle.decoding.proofs.Ordering.{rising}
use Rattle.decoding.proofs.Fewest.{numbers_none}
use Rattle.decoding.proofs.Narrow.{Exist, least_number, size_same, small_same, head_same}

-- both promises of decoding
abbrev pub Answer : List ℕ → Bool → List ℕ → Type 0
Answer w r u = record { answer : r ≡ is_some (read_signature w); table : (sig : Signature) → read_signature w ≡ some sig → Decoded sig u }

refused : (w u : List ℕ) → read_signature w ≡ none → Answer w false u
refused w u e = record { answer = rw e; table = λ sig f. none≢some (sym e ∙ f) }

-- the constructor count is wrong, or there is none
module _ (w u : List ℕ) where
  never : ((sig : Signature) → SignatureWords w sig → ⊥) → Answer w false u
  never f = refused w u (go (read_signature w) refl)
    where
      go : (o : Option Signature) → read_signature w ≡ o → read_signature w ≡ none
      go none e = e
      go (some sig) e = absurd (f sig (signature_is w sig e))

  counts : (sig : Signature) → SignatureWords w sig → get_or w 0 0 ≡ length sig
  counts sig h = ap (λ z. get_or z 0 0) h.is_code

  pub many_constructors : (n : ℕ) → n ≡ get_or w 0 0 → constructor_limit < n → Answer w false u
  many_constructors n e l = never (λ sig h. omega (arith, counts sig h, h.at_most))

read_is : (w : List ℕ) (o : Option Signature) → 0 < length w → read_constructors (get_or w 0 0) (drop 1 w) ≡ o → read_signature w ≡ (o >>= λ sig. require (lawful sig) >>= λ x. some sig)
read_is [] o l e = absurd (omega arith)
read_is (n ∷ ws) o l e = ap (λ z. z >>= λ sig. require (lawful sig) >>= λ x. some sig) e

-- the tests of `lawful`
abbrev Few : Signature → ℕ → Bool
Few sig m = all (λ k. leb (length (numbers sig k)) row_limit) (count_up 0 m)

abbrev Alone : Signature → Bool
Alone sig = all (stands_alone sig) sig

abbrev There : Signature → ℕ → Bool
There sig m = all (λ c. all (λ k. ltb k m) c.args) sig

abbrev Small : Signature → ℕ → Bool
Small sig m = all (λ j. leb j small_size) (least small_size sig m)

lawful_is : (sig : Signature) (m : ℕ) → count_kinds sig ≡ some m → 1 ≤ length sig → length sig ≤ constructor_limit → m ≤ kind_limit → lawful sig ≡ (Few sig m && Alone sig && There sig m && Small sig m)
lawful_is sig m e a b c = ap (lawful_kinds sig) e ∙ rw (leb_yes 1 (length sig) a, leb_yes (length sig) constructor_limit b, leb_yes m kind_limit c)

kinds_positive : (sig : Signature) (m : ℕ) → count_kinds sig ≡ some m → 0 < m
kinds_positive [] m e = none≢some e
kinds_positive (c ∷ cs) m e = let (u, e₁, e₂) = bind_some (require (eqb c.kind 0)) _ m e in omega (arith, rising 0 m cs e₂)

due_end : (m : ℕ) → 0 < m → kinds_due m [] ≡ some m
due_end zero l = absurd (omega arith)
due_end (suc k) l = refl

not_ordered : (sig : Signature) → 0 ≡ kinds_or_0 (count_kinds sig) → lawful sig ≡ false
not_ordered sig h = go (count_kinds sig) refl
  where
    far : (j : ℕ) → kind_limit < j → lawful_kinds sig (some j) ≡ false
    far j l = rw (leb_no j kind_limit l, and_false (leb 1 (length sig) && leb (length sig) constructor_limit))

    go : (o : Option ℕ) → count_kinds sig ≡ o → lawful_kinds sig o ≡ false
    go none e = refl
    go (some j) e = on (dec_le j kind_limit)
      where
        on : Dec (j ≤ kind_limit) → lawful_kinds sig (some j) ≡ false
        on (yes l) = absurd (let z : 0 ≡ j = h ∙ ap kinds_or_0 e ∙ (rw (leb_yes j kind_limit l)) in omega (arith, kinds_positive sig j e))
        on (no l) = far j (omega arith)

all_same : (f g : ℕ → Bool) (i n : ℕ) → ((j : ℕ) → i ≤ j → j < i + n → f j ≡ g j) → all f (count_up i n) ≡ all g (count_up i n)
all_same f g i zero e = refl
all_same f g i (suc n) e = ap₂ ◌&&◌ (e i (omega arith) (omega arith)) (all_same f g (suc i) n (λ j l m. e j (omega arith) (omega arith)))

pub not_read : (w v : List ℕ) (n : ℕ) → 0 < length w → n ≡ get_or w 0 0 → Unlawful w n → Answer w false v
not_read w v n l e h = refused w v (read_is w (read_constructors n (drop 1 w)) l (ap (λ x. read_constructors x (drop 1 w)) (sym e)) ∙ go (read_constructors n (drop 1 w)) refl)
  where
    go : (o : Option Signature) → read_constructors n (drop 1 w) ≡ o → (o >>= λ sig. require (lawful sig) >>= λ x. some sig) ≡ none
    go none q = refl
    go (some sig) q = rw (not_ordered sig (h sig q))

all_rows : (f g : Constructor → Bool) (h : ℕ → Constructor) (i n : ℕ) → ((j : ℕ) → i ≤ j → j < i + n → f (h j) ≡ g (h j)) → all f (map h (count_up i n)) ≡ all g (map h (count_up i n))
all_rows f g h i zero e = refl
all_rows f g h i (suc n) e = ap₂ ◌&&◌ (e i (omega arith) (omega arith)) (all_rows f g h (suc i) n (λ j l m. e j (omega arith) (omega arith)))

at_within : {A : Type 0} (xs : List A) (i : ℕ) (a : A) → get_elem? xs i ≡ some a → i < length xs
at_within xs i a e = go (dec_le (length xs) i)
  where
    go : Dec (length xs ≤ i) → i < length xs
    go (yes l) = none≢some (sym (at_out xs i l) ∙ e)
    go (no l) = omega arith

-- the rows of a kind stand together
consecutive_up : {f : ℕ} {xs : List ℕ} → Consecutive f xs → xs ≡ count_up f (length xs)
consecutive_up consecutive_nil = refl
consecutive_up (consecutive_cons {f = f} r) = ap (λ z. f ∷ z) (consecutive_up r)

abbrev Run : List ℕ → Type 0
Run xs = xs ≡ count_up (first xs) (length xs)

consecutive_run : {f : ℕ} {xs : List ℕ} → Consecutive f xs → Run xs
consecutive_run consecutive_nil = refl
consecutive_run (consecutive_cons r) = consecutive_up (consecutive_cons r)

one_run : (xs : List ℕ) → length xs ≡ 1 → Run xs
one_run [] e = refl
one_run (x ∷ []) e = refl
one_run (x ∷ (y ∷ xs)) e = absurd (omega arith)

number_alone : (sig : Signature) (k : ℕ) → Alone sig ≡ true → is_number_kind sig k ≡ true → length (numbers sig k) ≡ 1
number_alone sig k h e =
    let (d, i, q) = any_in (declares k) sig e in
    let n : d.number ≡ true = and_left d.number (eqb d.kind k) q in
    let z : d.kind ≡ k = eqb_eq d.kind k (and_right d.number (eqb d.kind k) q) in
    let a : stands_alone sig d ≡ true = all_in (all_is {P = λ c. stands_alone sig c ≡ true} (stands_alone sig) (λ c p. p) sig h) i in
    eqb_eq (length (numbers sig k)) 1 (rw (n, z) at a)

numbers_run : (sig : Signature) (k m : ℕ) → count_kinds sig ≡ some m → Alone sig ≡ true → Run (numbers sig k)
numbers_run sig k m e h = go (is_number_kind sig k) refl (consecutive_of sig k m e)
  where
    go : (b : Bool) → is_number_kind sig k ≡ b → (f : ℕ) × Consecutive f (heads sig k) → Run (numbers sig k)
    go true q r = one_run (numbers sig k) (number_alone sig k h q)
    go false q (f, r) = consecutive_run (rw q at r)

-- the rows of n constructors have been read into u, m kinds in lawful order
pub record Begun (w : List ℕ) (n : ℕ) (u : List ℕ) (m top declared : ℕ) : Type 0 where
  pub some_word : 0 < length w
  pub count : n ≡ get_or w 0 0
  pub one : ¬ (n ≡ 0)
  pub most : n ≤ constructor_limit
  pub read : Reading w u n (length w) m top declared

module _ {w : List ℕ} {n : ℕ} {u : List ℕ} {m top declared : ℕ} (k : Begun w n u m top declared) where
  abbrev sig : Signature
  sig = rows u 0 n

  most : n ≤ constructor_limit
  most = k.most

  reading : Reading w u n (length w) m top declared
  reading = k.read

  kind_there : 0 < m
  kind_there = let z : ¬ (n ≡ 0) = k.one in reading.some_kind (omega arith)

  pub few_kinds : m ≤ kind_limit
  few_kinds = reading.few_kinds

  pub bare : declared ≡ 0 → plain sig ≡ true
  bare = reading.bare

  taken : read_constructors n (drop 1 w) ≡ some sig
  taken = ap (λ x. read_constructors x (drop 1 w)) (sym (add-zero n)) ∙ reading.read 0 ∙ rw (drop-length w, append-nil)

  signed : read_signature w ≡ (require (lawful sig) >>= λ x. some sig)
  signed = read_is w (some sig) k.some_word (ap (λ x. read_constructors x (drop 1 w)) (sym k.count) ∙ taken)

  unlawful : (x : List ℕ) → lawful sig ≡ false → Answer w false x
  unlawful x e = refused w x (signed ∙ rw e)

  long : length sig ≡ n
  long = counted_length (λ d. row u d) 0 n

  known : count_kinds sig ≡ some m
  known = ap count_kinds (sym (append-nil sig)) ∙ reading.due [] ∙ due_end m kind_there

  noted : (i : ℕ) → i < m → (first_of u i ≡ first (numbers sig i)) × (count_of u i ≡ length (numbers sig i))
  noted i l =
      let h : Noted sig [] n m u = subst (λ z. Noted z [] n m u) (append-nil sig) (reading.noted []) in
      let (a, b) = h.seen i l in
      (a, omega arith)

  tested : lawful sig ≡ (Few sig m && Alone sig && There sig m && Small sig m)
  tested = let z : ¬ (n ≡ 0) = k.one in lawful_is sig m known (omega (arith, long)) (omega (arith, long, most)) reading.few_kinds

  few_is : (f : Bool) → f ≡ all (λ i. leb (count_of u i) row_limit) (count_up 0 m) → Few sig m ≡ f
  few_is f e = sym (e ∙ all_same (λ i. leb (count_of u i) row_limit) (λ i. leb (length (numbers sig i)) row_limit) 0 m (λ j l z. ap (λ y. leb y row_limit) (noted j (omega arith)).1))

  pub many_rows : (x : List ℕ) (f : Bool) → f ≡ all (λ i. leb (count_of u i) row_limit) (count_up 0 m) → f ≡ false → Answer w false x
  many_rows x f e z = unlawful x (tested ∙ rw (few_is f e ∙ z))

  there_is : (y : ℕ) → y ≡ top → ltb y m ≡ There sig m
  there_is y e = ap (λ z. ltb z m) e ∙ reading.highest m kind_there

  pub kind_missing : (x : List ℕ) (y : ℕ) → y ≡ top → m ≤ y → Answer w false x
  kind_missing x y e l = unlawful x (tested ∙ rw (sym (there_is y e) ∙ ltb_no y m l, and_false (Few sig m && Alone sig)))

  alone_is : (s : Bool) → s ≡ all (alone_by u) sig → Alone sig ≡ s
  alone_is s e = sym (e ∙ all_rows (alone_by u) (stands_alone sig) (λ d. row u d) 0 n (λ j l z. ap (λ y. not (row u j).number || eqb y 1) (noted (kind_of u j) (reading.each j (omega arith))).1))

  pub not_alone : (x : List ℕ) (s : Bool) → s ≡ all (alone_by u) sig → s ≡ false → Answer w false x
  not_alone x s e z = unlawful x (tested ∙ rw (alone_is s e ∙ z, and_false (Few sig m)))

  pub kinds_low : (c : ℕ) → c < n → kind_of u c < kind_limit
  kinds_low c l = omega (arith, reading.each c l, reading.few_kinds)

  module _ (y : ℕ) (ey : y ≡ top) (ly : y < m) where
    exist : Exist m sig
    exist = sym (there_is y ey) ∙ ltb_yes y m ly

    fit : Fit u n
    fit = record { long = reading.long; few = most; each = λ c l. record { kind = kinds_low c l; arity = reading.arities c l; arguments = λ j i. omega (arith, reading.few_kinds, argument c l j i) } }
      where
        argument : (c : ℕ) → c < n → (j : ℕ) → j < arity_of u c → argument_of u c j < m
        argument c l j i =
            let p : all (λ i. ltb i m) (row u c).args ≡ true = test_at (λ d. all (λ i. ltb i m) d.args) sig c (row u c) exist (at_count (λ d. row u d) 0 n c l ∙ ap (λ i. some (row u i)) (zero-add c)) in
            le_of (suc (argument_of u c j)) m (test_at (λ i. ltb i m) (row u c).args j (argument_of u c j) p (at_count (λ i. get_or u i 0) (stride * c + 2) (arity_of u c) j i))

    pub spanned : (s : Bool) → s ≡ all (alone_by u) sig → s ≡ true → Spanned u n m
    spanned s e z = record { fit = fit; few = reading.few_kinds; together = together; beyond = λ i l. numbers_none u i 0 n (λ j p q r. omega (arith, reading.each j (omega arith))) }
      where
        together : (i : ℕ) → i < m → numbers sig i ≡ span u i
        together i l = numbers_run sig i m known (alone_is s e ∙ z) ∙ sym (ap₂ count_up (noted i l).0 (noted i l).1)

    pub fit_after : (x : List ℕ) (r : Bool) → KindsNoted u n m x r → Fit x n
    fit_after x r h = record { long = h.long; few = most; each = λ c l. let g = fit.each c l in let a : arity_of x c ≡ arity_of u c = h.rows_same (stride * c + 1) (omega (arith, most)) in record { kind = omega (arith, h.rows_same (stride * c) (omega (arith, most)), g.kind); arity = omega (arith, g.arity); arguments = λ j i. omega (arith, h.rows_same (stride * c + 2 + j) (omega (arith, most, g.arity)), g.arguments j (omega arith)) } }

    same_rows : (x : List ℕ) (r : Bool) → KindsNoted u n m x r → rows x 0 n ≡ sig
    same_rows x r h = rows_same u x kinds_at n h.rows_same (omega (arith, most)) reading.arities

    pub bare_after : (x : List ℕ) (r : Bool) → KindsNoted u n m x r → declared ≡ 0 → plain (rows x 0 n) ≡ true
    bare_after x r h z = ap plain (same_rows x r h) ∙ reading.bare z

  -- the table is whole
  module _ (z : ℕ) (ez : z ≡ top) (lz : z < m) (x y : List ℕ) (f s r : Bool) (ef : f ≡ all (λ i. leb (count_of u i) row_limit) (count_up 0 m)) (zf : f ≡ true) (es : s ≡ all (alone_by u) sig) (zs : s ≡ true) (h : KindsNoted u n m x r) (o : Marked x n y) where
    there : Exist m sig
    there = exist z ez lz

    answer : r ≡ lawful sig
    answer = h.small ∙ sym (tested ∙ rw (few_is f ef ∙ zf, alone_is s es ∙ zs, there) (small_same sig m there reading.few_kinds))

    kept : SameBelow kinds_at u x
    kept = h.rows_same

    row_of : (c : ℕ) (d : Constructor) → get_elem? sig c ≡ some d → (c < n) × (row x c ≡ d)
    row_of c d e =
        let l : c < n = omega (arith, at_within sig c d e, long) in
        (l, row_same u x kinds_at c kept (omega (arith, most)) (reading.arities c l) ∙ ap (λ z. row u z) (sym (zero-add c)) ∙ at_count_is (λ z. row u z) 0 n c d e)

    -- what marking leaves of a row
    unmarked : (c i : ℕ) → c < n → 1 ≤ i → i < stride → get_or y (stride * c + i) 0 ≡ get_or x (stride * c + i) 0
    unmarked c i l p q = o.others (stride * c + i) (omega (arith, most)) (λ d z e. omega arith)

    kind_is : (c : ℕ) (d : Constructor) → get_elem? sig c ≡ some d → kind_of y c ≡ head_kind d
    kind_is c d e = let (l, q) = row_of c d e in o.kind c l ∙ ap head_kind q

    arity_is : (c : ℕ) (d : Constructor) → get_elem? sig c ≡ some d → arity_of y c ≡ length d.args
    arity_is c d e = let (l, q) = row_of c d e in unmarked c 1 l (omega arith) (omega arith) ∙ sym (counted_length (λ z. get_or x z 0) (stride * c + 2) (arity_of x c)) ∙ ap (λ z. length z.args) q

    argument_is : (c j i : ℕ) (d : Constructor) → get_elem? sig c ≡ some d → get_elem? d.args j ≡ some i → argument_of y c j ≡ i
    argument_is c j i d e z =
        let (l, q) = row_of c d e in
        let p : get_elem? (row x c).args j ≡ some i = ap (λ b. get_elem? b.args j) q ∙ z in
        let b : j < arity_of x c = omega (arith, at_within (row x c).args j i p, counted_length (λ s. get_or x s 0) (stride * c + 2) (arity_of x c)) in
        let few : arity_of x c ≤ argument_limit = omega (arith, kept (stride * c + 1) (omega (arith, most)), reading.arities c l) in
        o.others (stride * c + 2 + j) (omega (arith, most)) (λ s t w. omega arith) ∙ at_count_is (λ s. get_or x s 0) (stride * c + 2) (arity_of x c) j i p

    module _ (i : ℕ) (l : i < m) where
      number_same : is_number_kind (rows x 0 n) i ≡ is_number_kind sig i
      number_same = ap (λ z. is_number_kind z i) (same_rows z ez lz x r h)

      first_is : first_of y i ≡ first (heads sig i)
      first_is = o.first i ∙ ap₂ (λ b v. cond b level_base v) number_same ((h.heads_same i l).0 ∙ (noted i l).0) ∙ go (is_number_kind sig i)
        where
          go : (b : Bool) → cond b level_base (first (numbers sig i)) ≡ first (cond b levels (numbers sig i))
          go true = refl
          go false = refl

      count_is : count_of y i ≡ length (heads sig i)
      count_is = o.count i ∙ ap₂ (λ b v. cond b level_count v) number_same ((h.heads_same i l).1 ∙ (noted i l).1) ∙ go (is_number_kind sig i)
        where
          go : (b : Bool) → cond b level_count (length (numbers sig i)) ≡ length (cond b levels (numbers sig i))
          go true = sym (count_length level_base level_count)
          go false = refl

      lowest_is : Signed sig → least_head_of y i ≡ least_head sig m i
      lowest_is s = o.lowest_heads i ∙ ap₂ (λ b v. cond b level_base v) number_same (h.lowest_heads i l ∙ head_same sig m there reading.few_kinds i l) ∙ go (is_number_kind sig i) refl
        where
          go : (b : Bool) → is_number_kind sig i ≡ b → cond b level_base (least_number sig m i) ≡ least_head sig m i
          go true q = sym (lowest_level sig s m known i l q)
          go false q = rw q

    table : Signed sig → Decoded sig y
    table s = record {
      n = m;
      kinds_are = known;
      long = o.long ∙ h.long;
      kind_count = o.kinds_same ∙ h.kind_count;
      constructor_count = o.constructors_same ∙ h.constructor_count ∙ sym long;
      kind = kind_is;
      arity = arity_is;
      argument = argument_is;
      first_head = first_is;
      head_count = count_is;
      lowest_least = λ i l. lowest_is i l s;
      smallest = λ i l. o.sizes_same i (omega (arith, reading.few_kinds)) ∙ h.least_sizes i l ∙ size_same sig m there reading.few_kinds i l;
    }

    pub decoded : Answer w r y
    decoded = record { answer = answer ∙ sym (ap is_some (signed) ∙ some_when (lawful sig) sig); table = λ q e. go q e (same_sig q e) }
      where
        same_sig : (q : Signature) → read_signature w ≡ some q → sig ≡ q
        same_sig q e = let (z, e₁, e₂) = bind_some (require (lawful sig)) (λ z. some sig) q (sym (signed) ∙ e) in some_inj sig q e₂

        go : (q : Signature) → read_signature w ≡ some q → sig ≡ q → Decoded q y
        go q e p = subst (λ z. Decoded z y) p (table (w, e ∙ ap some (sym p)))
