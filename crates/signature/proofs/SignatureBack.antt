-- Signatures are read exactly when they are lawful.
use mathlib.Core.Path.{◌≡◌, sym, refl, ap, ◌∙◌, ap₂, subst}
use mathlib.Core.List.{[], ◌∷◌, List, ◌++◌}
use mathlib.Core.Option.{some, Option, none}
use mathlib.Core.Bool.{Bool, true, false, cond, not, ◌&&◌, ◌||◌}
use Prim.Native.Nat.{ℕ, suc, zero, ◌≤◌, ◌<◌, ◌+◌}
use native.Mathlib.Nat.{zero-add}
use native.Mathlib.Omega.{arith}
use lib.Dec.{eqb, leb, ltb}
use lib.ListN.{length}
use Rattle.signature.specs.Lawful.{KindsRise, rise_end, rise_same, rise_next, KindsStart, start_0, constructor_words, SignatureWords}
use Rattle.signature.specs.Limits.{constructor_limit, kind_limit, row_limit, number_count, small_size, argument_limit}
use Rattle.signature.specs.Lists.{require, split, All, none_left, also, all, count_up, ◌>>=◌}
use Rattle.signature.specs.Read.{kinds_from, count_kinds, read_arguments, read_constructors, read_signature, stands_alone, lawful_kinds, least, lawful}
use Rattle.signature.specs.Signature.{Signature, arguments_at, numbers}
use Rattle.signature.proofs.Booleans.{and_left, and_right}
use Rattle.signature.proofs.Heads.{Plain, row_of}
use Rattle.signature.proofs.Least.{arguments_read, few_args, bare_rows, least_exists, small_least}
use Rattle.signature.proofs.ListFacts.{split_append, all_at, count_all, all_is, is_all, all_count}
use Rattle.signature.proofs.Tests.{some_inj, eqb_eq, bind_some, require_some, eqb_self, eqb_no, none≢some, leb_yes, true≢false, le_of, ltb_yes}

-- kinds
rising_is : (k m : ℕ) (cs : Signature) → kinds_from k cs ≡ some m → KindsRise k cs m
rising_is k m [] e = rise_end (sym (some_inj (suc k) m e))
rising_is k m (c ∷ cs) e = go (eqb c.kind k) refl (rising_is k m cs) (rising_is (suc k) m cs)
  where
    go : (b : Bool) → eqb c.kind k ≡ b → (kinds_from k cs ≡ some m → KindsRise k cs m) → (kinds_from (suc k) cs ≡ some m → KindsRise (suc k) cs m) → KindsRise k (c ∷ cs) m
    go true q f g = rise_same (eqb_eq c.kind k q) (f (rw q at e))
    go false q f g =
        let (u, e₁, e₂) = bind_some (require (eqb c.kind (suc k))) _ m (rw q at e) in
        rise_next (eqb_eq c.kind (suc k) (require_some (eqb c.kind (suc k)) u e₁)) (g e₂)

is_rising : {k m : ℕ} {cs : Signature} → KindsRise k cs m → kinds_from k cs ≡ some m
is_rising (rise_end e) = ap some (sym e)
is_rising (rise_same {k = k} e h) = rw (e, eqb_self k) (is_rising h)
is_rising (rise_next {k = k} {c = c} e h) =
    let z : eqb (suc k) k ≡ false = eqb_no (suc k) k (λ p. omega arith) in
    rw (e, z, eqb_self (suc k)) (is_rising h)

kinds_is : (sig : Signature) (m : ℕ) → count_kinds sig ≡ some m → KindsStart sig m
kinds_is [] m e = none≢some e
kinds_is (c ∷ cs) m e = let (u, e₁, e₂) = bind_some (require (eqb c.kind 0)) _ m e in start_0 (eqb_eq c.kind 0 (require_some (eqb c.kind 0) u e₁)) (rising_is 0 m cs e₂)

pub is_kinds : {sig : Signature} {m : ℕ} → KindsStart sig m → count_kinds sig ≡ some m
is_kinds (start_0 e h) = rw e (is_rising h)

ctors_are : (n : ℕ) (ws : List ℕ) (sig : Signature) → read_constructors n ws ≡ some sig → (n ≡ length sig) × (ws ≡ constructor_words sig)
ctors_are zero [] sig e = (ap length (some_inj [] sig e), ap constructor_words (some_inj [] sig e))
ctors_are zero (w ∷ ws) sig e = none≢some e
ctors_are (suc n) [] sig e = none≢some e
ctors_are (suc n) (k ∷ []) sig e = none≢some e
ctors_are (suc n) (k ∷ (m ∷ ws)) sig e =
    let (r, e₂, f₂) = bind_some (read_arguments m ws) _ sig e in
    let (cs, e₃, f₃) = bind_some (read_constructors n r.1) _ sig f₂ in
    let (a, b) = ctors_are n r.1 cs e₃ in
    let (l, h, p, q) = arguments_read m ws r e₂ in
    let z : record { kind = k; args = r.0; number = eqb m number_count } ∷ cs ≡ sig = some_inj (record { kind = k; args = r.0; number = eqb m number_count } ∷ cs) sig f₃ in
    (ap suc a ∙ ap length z, ap₂ (λ x xs. k ∷ (x ∷ xs)) (sym p) (q ∙ ap (λ x. r.0 ++ x) b) ∙ ap constructor_words z)

-- a row's argument kinds are read back
row_back : (b : Bool) (xs rest : List ℕ) → length xs ≤ argument_limit → (b ≡ true → xs ≡ []) → (read_arguments (cond b number_count (length xs)) (xs ++ rest) ≡ some (xs, rest)) × (eqb (cond b number_count (length xs)) number_count ≡ b)
row_back true xs rest l h = (ap (λ z. split 0 (z ++ rest)) (h refl) ∙ ap (λ z. some (z, rest)) (sym (h refl)), refl)
row_back false xs rest l h =
    let z : eqb (length xs) number_count ≡ false = eqb_no (length xs) number_count (λ p. omega arith) in
    (rw (leb_yes (length xs) number_count (omega arith), z, split_append xs rest), z)

are_ctors : (sig : Signature) → All (λ c. length c.args ≤ argument_limit) sig → All (λ c. c.number ≡ true → c.args ≡ []) sig → read_constructors (length sig) (constructor_words sig) ≡ some sig
are_ctors [] none_left none_left = refl
are_ctors (c ∷ cs) (also x l h) (also y b g) =
    let (p, q) = row_back c.number c.args (constructor_words cs) l b in
    rw (p, q, are_ctors cs h g)

-- a row that declares a number kind stands alone
alone_is : (b d : Bool) → (not b || d) ≡ true → b ≡ true → d ≡ true
alone_is true d e h = e
alone_is false d e h = true≢false (sym h)

is_alone : (b d : Bool) → (b ≡ true → d ≡ true) → (not b || d) ≡ true
is_alone true d f = f refl
is_alone false d f = refl

pub plain_words : {ws : List ℕ} {sig : Signature} → SignatureWords ws sig → Plain sig
plain_words h = record { short = omega (arith, h.at_most); bare = h.bare }

-- argument kinds exist, constructor by constructor
args_of : (sig : Signature) → Plain sig → (n : ℕ) → All (λ c. All (λ k. k < n) c.args) sig → (k c : ℕ) (js : List ℕ) → arguments_at sig k c ≡ some js → All (λ j. j < n) js
args_of sig p n h k c js e = let (i, d, e₁, q, a) = row_of sig p k c js e in subst (All (λ j. j < n)) a (all_at h i d e₁)

-- read, then lawful words
pub signature_is : (ws : List ℕ) (sig : Signature) → read_signature ws ≡ some sig → SignatureWords ws sig
signature_is [] sig e = none≢some e
signature_is (w ∷ ws) sig e = go₀ (bind_some (read_constructors w ws) _ sig e)
  where
    go : (o : Option ℕ) → count_kinds sig ≡ o → lawful_kinds sig o ≡ true → read_constructors w ws ≡ some sig → SignatureWords (w ∷ ws) sig
    go none q h f = true≢false (sym h)
    go (some m) q h f =
        let a₁ = leb 1 (length sig) in
        let a₂ = leb (length sig) constructor_limit in
        let a₃ = leb m kind_limit in
        let a₄ = all (λ k. leb (length (numbers sig k)) row_limit) (count_up 0 m) in
        let a₅ = all (stands_alone sig) sig in
        let a₆ = all (λ c. all (λ k. ltb k m) c.args) sig in
        let a₇ = all (λ j. leb j small_size) (least small_size sig m) in
        let h₆ : (a₁ && a₂ && a₃ && a₄ && a₅ && a₆) ≡ true = and_left (a₁ && a₂ && a₃ && a₄ && a₅ && a₆) a₇ h in
        let h₅ : (a₁ && a₂ && a₃ && a₄ && a₅) ≡ true = and_left (a₁ && a₂ && a₃ && a₄ && a₅) a₆ h₆ in
        let h₄ : (a₁ && a₂ && a₃ && a₄) ≡ true = and_left (a₁ && a₂ && a₃ && a₄) a₅ h₅ in
        let h₃ : (a₁ && a₂ && a₃) ≡ true = and_left (a₁ && a₂ && a₃) a₄ h₄ in
        let h₂ : (a₁ && a₂) ≡ true = and_left (a₁ && a₂) a₃ h₃ in
        let (x, y) = ctors_are w ws sig f in
        let most : length sig ≤ constructor_limit = le_of (length sig) constructor_limit (and_right a₁ a₂ h₂) in
        let bare : All (λ c. c.number ≡ true → c.args ≡ []) sig = bare_rows w ws sig f in
        record {
          is_code = ap₂ (λ z zs. z ∷ zs) x y;
          some_constructor = le_of 1 (length sig) (and_left a₁ a₂ h₂);
          at_most = most;
          few_arguments = few_args w ws sig f;
          bare = bare;
          only_row = all_is (stands_alone sig) (λ c t z. eqb_eq (length (numbers sig c.kind)) 1 (alone_is c.number (eqb (length (numbers sig c.kind)) 1) t z)) sig (and_right (a₁ && a₂ && a₃ && a₄) a₅ h₅);
          n = m;
          rises = kinds_is sig m q;
          few_kinds = le_of m kind_limit (and_right (a₁ && a₂) a₃ h₃);
          few_rows = λ k l. le_of (length (numbers sig k)) row_limit (rw (zero-add k) at (count_all (λ j. leb (length (numbers sig j)) row_limit) 0 m (and_right (a₁ && a₂ && a₃) a₄ h₄) k l));
          args_exist = all_is (λ c. all (λ k. ltb k m) c.args) (λ c z. all_is (λ k. ltb k m) (λ k t. le_of (suc k) m t) c.args z) sig (and_right (a₁ && a₂ && a₃ && a₄ && a₅) a₆ h₆);
          small = least_exists sig (record { short = omega arith; bare = bare }) m (and_right (a₁ && a₂ && a₃ && a₄ && a₅ && a₆) a₇ h);
        }

    go₀ : (s : Signature) × (read_constructors w ws ≡ some s) × ((require (lawful s) >>= λ u. some s) ≡ some sig) → SignatureWords (w ∷ ws) sig
    go₀ (s, e₁, f₁) =
        let (u, e₂, f₂) = bind_some (require (lawful s)) _ sig f₁ in
        let q : s ≡ sig = some_inj s sig f₂ in
        go (count_kinds sig) refl (ap lawful (sym q) ∙ require_some (lawful s) u e₂) (e₁ ∙ ap some q)

-- lawful words, then read
pub is_signature : (ws : List ℕ) (sig : Signature) → SignatureWords ws sig → read_signature ws ≡ some sig
is_signature ws sig h = ap read_signature h.is_code ∙ rw (are_ctors sig h.few_arguments h.bare, ok)
  where
    m : ℕ
    m = h.n

    args : all (λ c. all (λ k. ltb k h.n) c.args) sig ≡ true
    args = is_all (λ c. all (λ k. ltb k h.n) c.args) (λ c z. is_all (λ k. ltb k h.n) (λ k (t : k < h.n). ltb_yes k h.n t) z) h.args_exist

    many : all (λ k. leb (length (numbers sig k)) row_limit) (count_up 0 h.n) ≡ true
    many = all_count (λ k. leb (length (numbers sig k)) row_limit) 0 h.n (λ j l. leb_yes (length (numbers sig (0 + j))) row_limit (rw (zero-add j) (h.few_rows j l)))

    alone : all (stands_alone sig) sig ≡ true
    alone = is_all (stands_alone sig) (λ c (f : c.number ≡ true → length (numbers sig c.kind) ≡ 1). is_alone c.number (eqb (length (numbers sig c.kind)) 1) (λ t. rw (f t))) h.only_row

    little : all (λ j. leb j small_size) (least small_size sig h.n) ≡ true
    little = small_least sig (plain_words h) h.n (args_of sig (plain_words h) h.n h.args_exist) h.small

    ok : lawful sig ≡ true
    ok = ap (lawful_kinds sig) (is_kinds h.rises) ∙ rw (leb_yes 1 (length sig) h.some_constructor, leb_yes (length sig) constructor_limit h.at_most, leb_yes h.n kind_limit h.few_kinds, many, alone, args, little)
