-- What a state shows of the signature.
use mathlib.Core.Path.{◌≡◌, refl, sym, ap, subst, ◌∙◌}
use mathlib.Core.List.{List, [], ◌∷◌, ◌++◌, append_assoc}
use mathlib.Core.Option.{some}
use mathlib.Core.Bool.{Bool, true, false}
use Prim.Native.Nat.{ℕ, zero, suc, ◌+◌, ◌-◌, ◌*◌, ◌/◌, ◌%◌, ◌≤◌, ◌<◌}
use native.Mathlib.Nat.{zero-add}
use native.Mathlib.Omega.{arith}
use lib.Dec.{eqb, leb}
use lib.ListN.{length, take, drop, get_or, get_elem?, length-append, length-drop}
use lib.Seq.{take_at, drop_at, drop-drop, get_or-drop}
use Rattle.signature.specs.Lawful.{SignatureWords, constructor_words, count_word}
use Rattle.signature.specs.Limits.{argument_limit, constructor_limit, kind_limit, level_base}
use Rattle.signature.specs.Lists.{All, none_left, also, first, is_some}
use Rattle.signature.specs.Decoded.{stride}
use Rattle.signature.specs.Read.{count_kinds, read_signature}
use Rattle.signature.specs.Signature.{Signature, Constructor, heads, arguments, arguments_at, declares, is_number_kind}
use Rattle.stepping.specs.State.{heads_at, rows_at, values_at, state_words, signature_limit, row_in, row_starts, row_word, head_word, begun_word, begun, head_in, count_in, has_row, state_view}
use Rattle.signature.proofs.Counting.{getD_counted, counted_length}
use Rattle.signature.proofs.Heads.{any_there, below_levels, constructor_of, level_bare}
use Rattle.signature.proofs.KnownFacts.{at_below}
use Rattle.signature.proofs.LawfulFacts.{kinds_above, sig_facts, few}
use Rattle.signature.proofs.LeastValue.{arguments_exist}
use Rattle.signature.proofs.SignatureBack.{signature_is, plain_words, is_kinds}
use Rattle.signature.proofs.Tests.{none≢some, some_inj, same_some, true≢false, leb_yes, ltb_yes, ltb_no, le_of, lt_of_not}
use Rattle.booking.proofs.PartLaws.{missing}
use Rattle.booking.proofs.Steps.{Sees}
use Rattle.booking.proofs.Views.{head_test, some_there}

-- the heads of each kind, and where each row begins
pub record Shows (sig : Signature) (st : List ℕ) : Type 0 where
  pub long : length st ≡ state_words
  pub head_words : (j : ℕ) → j < 2 * kind_limit → get_or st (heads_at + j) 0 ≡ head_word sig j
  pub row_words : (c : ℕ) → c < constructor_limit → row_in st c ≡ row_word sig c

module _ (sig : Signature) where
  -- a word before the first step
  pub begun_is : (i : ℕ) → i < state_words → get_or (begun (some sig)) i 0 ≡ begun_word sig i
  begun_is i l = getD_counted (begun_word sig) 0 state_words i l ∙ ap (begun_word sig) (zero-add i)

  -- a word among the heads
  begun_head : (j : ℕ) → j < 2 * kind_limit → begun_word sig (heads_at + j) ≡ head_word sig j
  begun_head j l =
      let e : heads_at + j - heads_at ≡ j = omega arith in
      rw (ltb_no (heads_at + j) heads_at (omega arith), ltb_yes (heads_at + j) rows_at (omega arith), e)

  -- a word among the rows
  begun_row : (c : ℕ) → c < constructor_limit → begun_word sig (rows_at + c) ≡ row_word sig c
  begun_row c l =
      let e : rows_at + c - rows_at ≡ c = omega arith in
      rw (ltb_no (rows_at + c) heads_at (omega arith), ltb_no (rows_at + c) rows_at (omega arith), ltb_yes (rows_at + c) values_at (omega arith), e)

  -- the state before the first step shows the signature
  pub begun_shows : Shows sig (begun (some sig))
  begun_shows = record {
    long = counted_length (begun_word sig) 0 state_words;
    head_words = λ j l. begun_is (heads_at + j) (omega arith) ∙ begun_head j l;
    row_words = λ c l. begun_is (rows_at + c) (omega arith) ∙ begun_row c l;
  }

-- where a row begins, its words stand
row_behind : (pre : List ℕ) (i : ℕ) (sig : Signature) (c : ℕ) (d : Constructor) → length pre ≡ i → get_elem? sig c ≡ some d → (rest : List ℕ) × (drop (get_or (row_starts i sig) c 0) (pre ++ constructor_words sig) ≡ d.kind ∷ (count_word d ∷ (d.args ++ rest)))
row_behind pre i [] c d l e = none≢some e
row_behind pre i (a ∷ cs) zero d l e = (constructor_words cs, drop_at pre (constructor_words (a ∷ cs)) i l ∙ ap (λ b. b.kind ∷ (count_word b ∷ (b.args ++ constructor_words cs))) (some_inj a d e))
row_behind pre i (a ∷ cs) (suc c) d l e =
    let own = a.kind ∷ (count_word a ∷ a.args) in
    let (rest, f) = row_behind (pre ++ own) (i + 2 + length a.args) cs c d (omega (arith, length-append pre own)) e in
    (rest, ap (drop (get_or (row_starts (i + 2 + length a.args) cs) c 0)) (sym (append_assoc pre own (constructor_words cs))) ∙ f)

-- a constructor has at most six words
words_short : {sig : Signature} → All (λ c. length c.args ≤ argument_limit) sig → length (constructor_words sig) ≤ stride * length sig
words_short none_left = omega arith
words_short (also c {xs = cs} l h) = omega (arith, length-append c.args (constructor_words cs), words_short h)

-- a head's row in the signature's words: its argument kinds and how many they are
record Row (ss : List ℕ) (at : ℕ) (ks : List ℕ) : Type 0 where
  behind : List ℕ
  kinds : drop (at + 2) ss ≡ ks ++ behind
  count : get_or ss (suc at) 0 ≡ length ks
  inside : at + 2 + length ks ≤ length ss

-- from its words
row_of : (ss : List ℕ) (at k : ℕ) (ks behind : List ℕ) → drop at ss ≡ k ∷ (length ks ∷ (ks ++ behind)) → Row ss at ks
row_of ss at k ks behind e =
    let n : at + 1 ≡ suc at = omega arith in
    let f : length (drop at ss) ≡ suc (suc (length (ks ++ behind))) = ap length e in
    record {
      behind = behind;
      kinds = sym (drop-drop 2 at ss) ∙ ap (drop 2) e;
      count = ap (λ x. get_or ss x 0) (sym n) ∙ sym (get_or-drop at ss 1 0) ∙ ap (λ us. get_or us 1 0) e;
      inside = omega (arith, length-drop at ss, length-append ks behind);
    }

module _ (ss : List ℕ) (sig : Signature) (e : read_signature ss ≡ some sig) where
  -- the signature is lawful
  words : SignatureWords ss sig
  words = signature_is ss sig e

  -- the signature's words fit
  pub words_fit : length ss ≤ signature_limit
  words_fit = omega (arith, ap length words.is_code, words_short words.few_arguments, words.at_most)

  -- a constructor of a kind that is no number kind has its argument kinds in its row
  row_at : (k w : ℕ) (d : Constructor) → is_number_kind sig k ≡ false → get_elem? sig w ≡ some d → eqb d.kind k ≡ true → Row ss (row_word sig w) d.args
  row_at k w d q p r = go d.number refl
    where
      go : (b : Bool) → d.number ≡ b → Row ss (row_word sig w) d.args
      go true m = true≢false (sym (any_there (declares k) sig w d p (rw (m, r))) ∙ q)
      go false m =
          let (behind, f) = row_behind (length sig ∷ []) 1 sig w d refl p in
          let c : count_word d ≡ length d.args = rw m in
          row_of ss (row_word sig w) d.kind d.args behind (ap (drop (row_word sig w)) words.is_code ∙ f ∙ ap (λ x. d.kind ∷ (x ∷ (d.args ++ behind))) c)

  module _ (n : ℕ) (kinds_are : count_kinds sig ≡ some n) (st : List ℕ) (s : Shows sig st) where
    -- the kinds have words in the state
    few_kinds : n ≤ kind_limit
    few_kinds = omega (arith, same_some words.n n (count_kinds sig) (is_kinds words.rises) kinds_are, words.few_kinds)

    -- a kind's first head
    head_first : (k : ℕ) → k < n → get_or st (heads_at + 2 * k) 0 ≡ first (heads sig k)
    head_first k l =
        let r : (2 * k) % 2 ≡ 0 = omega arith in
        let q : (2 * k) / 2 ≡ k = omega arith in
        s.head_words (2 * k) (omega (arith, few_kinds)) ∙ (rw (r, q))

    -- how many heads it has
    head_count : (k : ℕ) → k < n → get_or st (suc (heads_at + 2 * k)) 0 ≡ length (heads sig k)
    head_count k l =
        let z : suc (heads_at + 2 * k) ≡ heads_at + (2 * k + 1) = omega arith in
        let r : (2 * k + 1) % 2 ≡ 1 = omega arith in
        let q : (2 * k + 1) / 2 ≡ k = omega arith in
        ap (λ x. get_or st x 0) z ∙ s.head_words (2 * k + 1) (omega (arith, few_kinds)) ∙ (rw (r, q))

    -- the test of a head
    head_shown : (k w : ℕ) → k < n → head_in st k w ≡ is_some (arguments_at sig k w)
    head_shown k w l = rw (ltb_yes k kind_limit (omega (arith, few_kinds)), head_first k l, head_count k l) (head_test sig n kinds_are k w)

    -- the row of a head that is no level
    row_shown : (k w : ℕ) → w < level_base → is_some (arguments_at sig k w) ≡ true → (w < constructor_limit) × Row ss (row_in st w) (arguments sig w)
    row_shown k w l h =
        let a = some_there sig k w h in
        let q = below_levels sig k w (arguments sig w) l a in
        let (d, p, r, f) = constructor_of sig k w (arguments sig w) q a in
        let m : w < constructor_limit = omega (arith, at_below sig w d p, words.at_most) in
        (m, rw (s.row_words w m, ← f) (row_at k w d q p r))

    -- a head has a row
    has_shown : (k w : ℕ) → is_some (arguments_at sig k w) ≡ true → has_row ss st w ≡ true
    has_shown k w h = go (leb level_base w) refl
      where
        go : (b : Bool) → leb level_base w ≡ b → has_row ss st w ≡ true
        go true q = rw q
        go false q =
            let (m, r) = row_shown k w (lt_of_not level_base w q) h in
            let four : get_or ss (suc (row_in st w)) 0 ≤ argument_limit = omega (arith, r.count, few sig (sig_facts sig (ss, e)) k w (arguments sig w) (some_there sig k w h)) in
            rw (q, ltb_yes w constructor_limit m, ltb_yes (suc (row_in st w)) (length ss) (omega (arith, r.inside)), leb_yes (get_or ss (suc (row_in st w)) 0) argument_limit four)

    -- the whole test
    head_is : (k w : ℕ) → k < n → (state_view ss st).head k w ≡ is_some (arguments_at sig k w)
    head_is k w l = go (is_some (arguments_at sig k w)) refl
      where
        go : (b : Bool) → is_some (arguments_at sig k w) ≡ b → (state_view ss st).head k w ≡ is_some (arguments_at sig k w)
        go true q = rw (head_shown k w l, has_shown k w q, q)
        go false q = rw (head_shown k w l, q)

    -- what passes it
    head_of : (k w : ℕ) → k < n → (state_view ss st).head k w ≡ true → is_some (arguments_at sig k w) ≡ true
    head_of k w l h = sym (head_is k w l) ∙ h

    -- a head's argument kinds; of a level there are none
    head_kinds : (k w : ℕ) → is_some (arguments_at sig k w) ≡ true → take (count_in ss st w) (drop (row_in st w + 2) ss) ≡ arguments sig w
    head_kinds k w h = go (leb level_base w) refl
      where
        go : (b : Bool) → leb level_base w ≡ b → take (count_in ss st w) (drop (row_in st w + 2) ss) ≡ arguments sig w
        go true q = rw (q, level_bare sig (plain_words words) w (le_of level_base w q))
        go false q = let (m, r) = row_shown k w (lt_of_not level_base w q) h in rw (q, r.count, r.kinds) (take_at (arguments sig w) r.behind (length (arguments sig w)) refl)

    -- they stand inside the signature's words
    head_inside : (k w : ℕ) → is_some (arguments_at sig k w) ≡ true → 0 < count_in ss st w → row_in st w + 2 + count_in ss st w ≤ length ss
    head_inside k w h = go (leb level_base w) refl
      where
        go : (b : Bool) → leb level_base w ≡ b → 0 < count_in ss st w → row_in st w + 2 + count_in ss st w ≤ length ss
        go true q c = absurd (let z : count_in ss st w ≡ 0 = rw q in omega arith)
        go false q c = let (m, r) = row_shown k w (lt_of_not level_base w q) h in rw (q, r.count) r.inside

    -- what the state shows is the signature
    pub seen : Sees sig n (state_view ss st)
    seen = record {
      some_kind = kinds_above sig n kinds_are;
      is = λ k w l h. some_there sig k w (head_of k w l h) ∙ ap some (sym (head_kinds k w (head_of k w l h)));
      is_not = λ k w l h. missing (arguments_at sig k w) (sym h ∙ head_is k w l);
      inside = λ k w l h. head_inside k w (head_of k w l h);
      below = λ k w l h. subst (All (λ j. j < n)) (sym (head_kinds k w (head_of k w l h))) (arguments_exist sig (ss, e) n kinds_are k w (arguments sig w) (some_there sig k w (head_of k w l h)));
    }
