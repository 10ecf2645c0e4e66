-- What the table of a lawful signature says.
use mathlib.Core.Path.{◌≡◌, refl, sym, ◌∙◌, ap}
use mathlib.Core.Logic.{◌⊎◌, inl, inr}
use mathlib.Core.List.{List, [], ◌∷◌}
use mathlib.Core.Option.{some, none}
use mathlib.Core.Bool.{Bool, true, false}
use Prim.Native.Nat.{ℕ, zero, suc, ◌≤◌, ◌<◌}
use native.Mathlib.Decide.{dec_le}
use native.Mathlib.Omega.{arith}
use lib.Dec.{eqb, leb}
use lib.ListN.{length, get_or, get_elem?}
use Rattle.signature.specs.Decoded.{Known, decoded_length, kind_of, arity_of, head_arity, argument_of, first_of, constructors_of, head_kind, unkinded}
use Rattle.signature.specs.Lawful.{SignatureWords}
use Rattle.signature.specs.Limits.{argument_limit, constructor_limit, kind_limit, heads_limit, level_base, level_count}
use Rattle.signature.specs.Lists.{All, memb, first, count_up}
use Rattle.signature.specs.Signature.{Constructor, arguments, arguments_at, numbers, heads, declares, is_number_kind, is_level}
use Rattle.signature.proofs.Booleans.{and_left, and_right, or_false}
use Rattle.signature.proofs.Heads.{Plain, any_at, any_there, has_number, number_has, args_same, kind_of_head, no_head, constructor_arguments, constructor_of, level_of_kind, level_is, level_bare, level_arguments}
use Rattle.signature.proofs.ListFacts.{all_at, at_getD, at_out}
use Rattle.signature.proofs.SignatureBack.{signature_is, plain_words, is_kinds}
use Rattle.signature.proofs.LeastValue.{arguments_exist}
use Rattle.signature.proofs.Tests.{none≢some, some_inj, same_some, true≢false, eqb_self, eqb_eq, eqb_no, leb_yes, leb_no, le_of, lt_of_not}

-- there is something at each place below the length
pub at_some : {A : Type 0} (xs : List A) (i : ℕ) → i < length xs → (a : A) × (get_elem? xs i ≡ some a)
at_some [] i l = absurd (omega arith)
at_some (x ∷ xs) zero l = (x, refl)
at_some (x ∷ xs) (suc i) l = at_some xs i (omega arith)

pub at_below : {A : Type 0} (xs : List A) (i : ℕ) (a : A) → get_elem? xs i ≡ some a → i < length xs
at_below [] i a e = none≢some e
at_below (x ∷ xs) zero a e = omega arith
at_below (x ∷ xs) (suc i) a e = omega (arith, at_below xs i a e)

one_of : (xs : List ℕ) (a b : ℕ) → length xs ≡ 1 → memb a xs ≡ true → memb b xs ≡ true → a ≡ b
one_of [] a b e p q = absurd (omega arith)
one_of (x ∷ []) a b e p q = eqb_eq a x (rw (or_false (eqb a x)) at p) ∙ sym (eqb_eq b x (rw (or_false (eqb b x)) at q))
one_of (x ∷ (y ∷ ys)) a b e p q = absurd (omega arith)

pub count_length : (f n : ℕ) → length (count_up f n) ≡ n
count_length f zero = refl
count_length f (suc n) = ap suc (count_length (suc f) n)

module _ {t : List ℕ} (g : Known t) where
  pub words_of : SignatureWords g.signed.0 g.sig
  words_of = signature_is g.signed.0 g.sig g.signed.1

  pub long : length t ≡ decoded_length
  long = g.decoded.long

  pub constructors : constructors_of t ≡ length g.sig
  constructors = g.decoded.constructor_count

  pub few_constructors : length g.sig ≤ constructor_limit
  few_constructors = words_of.at_most

  pub plain : Plain g.sig
  plain = plain_words words_of

  -- a kind of which a row declares no number kind is none
  pub plain_kind : (c : ℕ) (d : Constructor) → get_elem? g.sig c ≡ some d → d.number ≡ false → is_number_kind g.sig d.kind ≡ false
  plain_kind c d e n = go (is_number_kind g.sig d.kind) refl
    where
      twice : (i : ℕ) × (b : Constructor) × (get_elem? g.sig i ≡ some b) × (declares d.kind b ≡ true) → is_number_kind g.sig d.kind ≡ false
      twice (i, b, e', r) =
          let m : b.number ≡ true = and_left b.number (eqb b.kind d.kind) r in
          let z : b.kind ≡ d.kind = eqb_eq b.kind d.kind (and_right b.number (eqb b.kind d.kind) r) in
          let one : length (numbers g.sig b.kind) ≡ 1 = all_at words_of.only_row i b e' m in
          let q : c ≡ i = one_of (numbers g.sig b.kind) c i one (has_number g.sig c b.kind d e (rw z (eqb_self d.kind))) (has_number g.sig i b.kind b e' (eqb_self b.kind)) in
          let same : d ≡ b = same_some d b (get_elem? g.sig c) e (rw q e') in
          true≢false (sym m ∙ ap (λ x. x.number) (sym same) ∙ n)

      go : (b : Bool) → is_number_kind g.sig d.kind ≡ b → is_number_kind g.sig d.kind ≡ false
      go false q = q
      go true q = twice (any_at (declares d.kind) g.sig q)

  module _ (c : ℕ) (l : c < length g.sig) where
    pub arity_is : arity_of t c ≡ length (arguments g.sig c)
    arity_is = let (d, e) = at_some g.sig c l in rw e (g.decoded.arity c d e)

    pub few_arguments : length (arguments g.sig c) ≤ argument_limit
    few_arguments = let (d, e) = at_some g.sig c l in rw e (all_at words_of.few_arguments c d e)

    pub argument_is : (j : ℕ) → j < length (arguments g.sig c) → argument_of t c j ≡ get_or (arguments g.sig c) j 0
    argument_is j h = let (d, e) = at_some g.sig c l in go d e (rw e at h)
      where
        go : (d : Constructor) → get_elem? g.sig c ≡ some d → j < length d.args → argument_of t c j ≡ get_or (arguments g.sig c) j 0
        go d e h' = rw e (g.decoded.argument c j (get_or d.args j 0) d e (at_getD d.args j h'))

    pub argument_small : (j : ℕ) → j < length (arguments g.sig c) → argument_of t c j < kind_limit
    argument_small j h = let (d, e) = at_some g.sig c l in go d e (rw e at h)
      where
        go : (d : Constructor) → get_elem? g.sig c ≡ some d → j < length d.args → argument_of t c j < kind_limit
        go d e h' =
            let k = get_or d.args j 0 in
            let p : k < words_of.n = all_at (all_at words_of.args_exist c d e) j k (at_getD d.args j h') in
            omega (arith, g.decoded.argument c j k d e (at_getD d.args j h'), words_of.few_kinds)

    pub right_kind : (k : ℕ) → k < kind_limit → kind_of t c ≡ k → arguments_at g.sig k c ≡ some (arguments g.sig c)
    right_kind k m q = let (d, e) = at_some g.sig c l in go d e d.number refl (sym (g.decoded.kind c d e) ∙ q)
      where
        go : (d : Constructor) → get_elem? g.sig c ≡ some d → (b : Bool) → d.number ≡ b → head_kind d ≡ k → arguments_at g.sig k c ≡ some (arguments g.sig c)
        go d e true n p = absurd (let z : unkinded ≡ k = rw n at p in omega arith)
        go d e false n p =
            let z : d.kind ≡ k = rw n at p in
            let a : arguments g.sig c ≡ d.args = rw e in
            constructor_arguments g.sig k c d (rw z at (plain_kind c d e n)) e (rw z (eqb_self k)) ∙ ap some (sym a)

  -- a head is a constructor whose row has its kind, or a level
  pub head_is : (k c : ℕ) (ks : List ℕ) → arguments_at g.sig k c ≡ some ks → ((c < length g.sig) × (is_number_kind g.sig k ≡ false) × (kind_of t c ≡ k)) ⊎ ((is_level c ≡ true) × (is_number_kind g.sig k ≡ true) × (ks ≡ []))
  head_is k c ks e = go (is_number_kind g.sig k) refl
    where
      own_kind : (d : Constructor) → get_elem? g.sig c ≡ some d → eqb d.kind k ≡ true → is_number_kind g.sig k ≡ false → (b : Bool) → d.number ≡ b → kind_of t c ≡ k
      own_kind d p r q true n = true≢false (sym (any_there (declares k) g.sig c d p (rw (n, r))) ∙ q)
      own_kind d p r q false n = g.decoded.kind c d p ∙ rw n (eqb_eq d.kind k r)

      go : (b : Bool) → is_number_kind g.sig k ≡ b → ((c < length g.sig) × (is_number_kind g.sig k ≡ false) × (kind_of t c ≡ k)) ⊎ ((is_level c ≡ true) × (is_number_kind g.sig k ≡ true) × (ks ≡ []))
      go true q =
          let v : is_level c ≡ true = level_of_kind g.sig k c ks q e in
          inr (v, q, sym (args_same g.sig k c ks e) ∙ level_bare g.sig plain c (level_is c v).0)
      go false q =
          let (d, p, r, a) = constructor_of g.sig k c ks q e in
          inl (at_below g.sig c d p, q, own_kind d p r q d.number refl)

  pub no_arguments : (k c : ℕ) → ((ks : List ℕ) → arguments_at g.sig k c ≡ some ks → ⊥) → arguments_at g.sig k c ≡ none
  no_arguments k c f = go (memb c (heads g.sig k)) refl
    where
      go : (b : Bool) → memb c (heads g.sig k) ≡ b → arguments_at g.sig k c ≡ none
      go false q = no_head g.sig k c q
      go true q = absurd (let (js, e) = kind_of_head g.sig k c q in f js e)

  pub wrong_kind : (c : ℕ) → c < length g.sig → (k : ℕ) → (kind_of t c ≡ k → ⊥) → arguments_at g.sig k c ≡ none
  wrong_kind c l k f = no_arguments k c (λ ks e. go (head_is k c ks e))
    where
      go : {ks : List ℕ} → ((c < length g.sig) × (is_number_kind g.sig k ≡ false) × (kind_of t c ≡ k)) ⊎ ((is_level c ≡ true) × (is_number_kind g.sig k ≡ true) × (ks ≡ [])) → ⊥
      go (inl (a, b, q)) = f q
      go (inr (v, b, q)) = let (m, n) = level_is c v in omega (arith, few_constructors)

  pub no_constructor : (k c : ℕ) → length g.sig ≤ c → is_level c ≡ false → arguments_at g.sig k c ≡ none
  no_constructor k c l v = no_arguments k c (λ ks e. go (head_is k c ks e))
    where
      go : {ks : List ℕ} → ((c < length g.sig) × (is_number_kind g.sig k ≡ false) × (kind_of t c ≡ k)) ⊎ ((is_level c ≡ true) × (is_number_kind g.sig k ≡ true) × (ks ≡ [])) → ⊥
      go (inl (a, b, q)) = omega arith
      go (inr (w, b, q)) = true≢false (sym w ∙ v)

  -- a level stands at a number kind alone
  pub no_level : (k c : ℕ) → is_level c ≡ true → is_number_kind g.sig k ≡ false → arguments_at g.sig k c ≡ none
  no_level k c v n = no_arguments k c (λ ks e. go (head_is k c ks e))
    where
      go : {ks : List ℕ} → ((c < length g.sig) × (is_number_kind g.sig k ≡ false) × (kind_of t c ≡ k)) ⊎ ((is_level c ≡ true) × (is_number_kind g.sig k ≡ true) × (ks ≡ [])) → ⊥
      go (inl (a, b, q)) = let (m, o) = level_is c v in omega (arith, few_constructors)
      go (inr (w, b, q)) = true≢false (sym b ∙ n)

  pub a_level : (k c : ℕ) → is_level c ≡ true → is_number_kind g.sig k ≡ true → arguments_at g.sig k c ≡ some []
  a_level k c v n = level_arguments g.sig plain k c n v

  -- a constructor that may stand somewhere
  pub is_constructor : (k c : ℕ) (ks : List ℕ) → c < level_base → arguments_at g.sig k c ≡ some ks → c < length g.sig
  is_constructor k c ks l e = go (head_is k c ks e)
    where
      go : ((c < length g.sig) × (is_number_kind g.sig k ≡ false) × (kind_of t c ≡ k)) ⊎ ((is_level c ≡ true) × (is_number_kind g.sig k ≡ true) × (ks ≡ [])) → c < length g.sig
      go (inl (a, b, q)) = a
      go (inr (v, b, q)) = absurd (let (m, n) = level_is c v in omega arith)

  -- the arguments of a head
  pub head_arity_is : (k c : ℕ) (ks : List ℕ) → arguments_at g.sig k c ≡ some ks → head_arity t c ≡ length ks
  head_arity_is k c ks e = go (head_is k c ks e)
    where
      go : ((c < length g.sig) × (is_number_kind g.sig k ≡ false) × (kind_of t c ≡ k)) ⊎ ((is_level c ≡ true) × (is_number_kind g.sig k ≡ true) × (ks ≡ [])) → head_arity t c ≡ length ks
      go (inl (a, b, q)) = rw (leb_no level_base c (omega (arith, few_constructors))) (arity_is c a ∙ ap length (args_same g.sig k c ks e))
      go (inr (v, b, q)) = rw (leb_yes level_base c (level_is c v).0, q)

  pub few_of_head : (k c : ℕ) (ks : List ℕ) → arguments_at g.sig k c ≡ some ks → length ks ≤ argument_limit
  few_of_head k c ks e = go (head_is k c ks e)
    where
      go : ((c < length g.sig) × (is_number_kind g.sig k ≡ false) × (kind_of t c ≡ k)) ⊎ ((is_level c ≡ true) × (is_number_kind g.sig k ≡ true) × (ks ≡ [])) → length ks ≤ argument_limit
      go (inl (a, b, q)) = rw (args_same g.sig k c ks e) at (few_arguments c a)
      go (inr (v, b, q)) = rw q (omega arith)

  -- a number kind is one whose first head is the first level
  pub number_first : (k : ℕ) → k < g.decoded.n → is_number_kind g.sig k ≡ eqb (first_of t k) level_base
  number_first k l = go (is_number_kind g.sig k) refl
    where
      low : (xs : List ℕ) → ((c : ℕ) → memb c xs ≡ true → c < length g.sig) → eqb (first xs) level_base ≡ false
      low [] f = refl
      low (x ∷ xs) f = eqb_no x level_base (λ p. omega (arith, f x (rw (eqb_self x)), few_constructors))

      go : (b : Bool) → is_number_kind g.sig k ≡ b → is_number_kind g.sig k ≡ eqb (first_of t k) level_base
      go true q = rw (g.decoded.first_head k l, q)
      go false q = rw (g.decoded.first_head k l, q) (sym (low (numbers g.sig k) (λ c m. let (d, p, r) = number_has g.sig c k m in at_below g.sig c d p)))

  -- the heads of a kind are at most 101
  pub few_heads : (k : ℕ) → k < words_of.n → length (heads g.sig k) ≤ heads_limit
  few_heads k l = go (is_number_kind g.sig k) refl
    where
      go : (b : Bool) → is_number_kind g.sig k ≡ b → length (heads g.sig k) ≤ heads_limit
      go true q = rw (q, count_length level_base level_count) (omega arith)
      go false q = rw q (omega (arith, words_of.few_rows k l))

  pub kinds_same : words_of.n ≡ g.decoded.n
  kinds_same = some_inj words_of.n g.decoded.n (sym (is_kinds words_of.rises) ∙ g.decoded.kinds_are)

  pub few_kinds : g.decoded.n ≤ kind_limit
  few_kinds = omega (arith, kinds_same, words_of.few_kinds)

  -- the argument kinds of a head exist
  pub arguments_below : (k c : ℕ) (ks : List ℕ) → arguments_at g.sig k c ≡ some ks → All (λ j. j < g.decoded.n) ks
  arguments_below = arguments_exist g.sig g.signed g.decoded.n g.decoded.kinds_are

  -- a constructor's arguments, or none of a level
  pub arity_any : (c : ℕ) → (c < level_base → c < length g.sig) → head_arity t c ≡ length (arguments g.sig c)
  arity_any c f = go (leb level_base c) refl
    where
      go : (b : Bool) → leb level_base c ≡ b → head_arity t c ≡ length (arguments g.sig c)
      go true q = rw (q, level_bare g.sig plain c (le_of level_base c q))
      go false q = rw q (arity_is c (f (lt_of_not level_base c q)))

  pub few_any : (c : ℕ) → (c < level_base → c < length g.sig) → length (arguments g.sig c) ≤ argument_limit
  few_any c f = go (leb level_base c) refl
    where
      go : (b : Bool) → leb level_base c ≡ b → length (arguments g.sig c) ≤ argument_limit
      go true q = rw (level_bare g.sig plain c (le_of level_base c q)) (omega arith)
      go false q = few_arguments c (f (lt_of_not level_base c q))

  -- what has an argument is a constructor
  pub has_arguments : (c j : ℕ) → j < length (arguments g.sig c) → c < length g.sig
  has_arguments c j l = go (dec_le (length g.sig) c)
    where
      go : Dec (length g.sig ≤ c) → c < length g.sig
      go (no m) = omega arith
      go (yes m) = absurd (let z : arguments g.sig c ≡ [] = rw (at_out g.sig c m) in let y : length (arguments g.sig c) ≡ 0 = ap length z in omega arith)
