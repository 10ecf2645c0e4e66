-- What the table of a signature shows is the signature.
use mathlib.Core.Logic.{◌⊎◌, inl, inr}
use mathlib.Core.Path.{◌≡◌, refl, sym, ap, ◌∙◌, subst}
use mathlib.Core.List.{List, []}
use mathlib.Core.Option.{some}
use mathlib.Core.Bool.{Bool, true, false, ◌&&◌, ◌||◌}
use Prim.Native.Nat.{ℕ, suc, ◌+◌, ◌-◌, ◌*◌, ◌≤◌, ◌<◌}
use native.Mathlib.Omega.{arith}
use native.Mathlib.Decide.{dec_le}
use lib.Dec.{eqb, leb, ltb}
use lib.ListN.{length, take, drop, length-drop}
use lib.Seq.{length-take-le, get_or-take, get_or-drop}
use Rattle.signature.specs.Decoded.{Known, kinds_of, kind_of, first_of, count_of, arity_of, head_arity, stride}
use Rattle.signature.specs.Limits.{argument_limit, constructor_limit, level_base, last_level}
use Rattle.signature.specs.Lists.{is_some, memb, first, All}
use Rattle.signature.specs.Read.{count_kinds}
use Rattle.signature.specs.Signature.{Signature, arguments, arguments_at, heads, is_level, is_number_kind}
use Rattle.booking.specs.Walk.{among, decoded_view}
use Rattle.signature.proofs.Booleans.{and_false, both_ways}
use Rattle.signature.proofs.Heads.{Consecutive, consecutive_nil, consecutive_cons, consecutive_of, level_bare, level_is}
use Rattle.signature.proofs.KnownFacts.{long, few_constructors, arity_is, few_arguments, argument_is, is_constructor, arguments_below, head_is, plain}
use Rattle.signature.proofs.LawfulFacts.{kinds_above}
use Rattle.signature.proofs.ListFacts.{same_lists}
use Rattle.signature.proofs.Members.{some_when}
use Rattle.signature.proofs.Tests.{eqb_eq, eqb_ne, leb_yes, leb_no, ltb_yes, ltb_no, le_of, lt_of_not, true≢false}
use Rattle.booking.proofs.PartLaws.{missing}
use Rattle.booking.proofs.Steps.{Sees}

-- an element of a run of numbers
run_memb : {f : ℕ} {xs : List ℕ} (c : ℕ) → Consecutive f xs → among f (length xs) c ≡ memb c xs
run_memb {f} c consecutive_nil = rw (ltb_no (c - f) 0 (omega arith)) (and_false (leb f c))
run_memb c (consecutive_cons {f = f} {xs = xs} r) = go (eqb c f) refl (run_memb c r)
  where
    off : Dec (c ≤ f) → ¬ (c ≡ f) → (leb f c && ltb (c - f) (suc (length xs))) ≡ (leb (suc f) c && ltb (c - suc f) (length xs))
    off (yes h) n = rw (leb_no f c (omega arith), leb_no (suc f) c (omega arith))
    off (no h) n =
        let e : c - f ≡ suc (c - suc f) = omega arith in
        rw (leb_yes f c (omega arith), leb_yes (suc f) c (omega arith), e) (both_ways (ltb (suc (c - suc f)) (suc (length xs))) (ltb (c - suc f) (length xs)) (λ q. ltb_yes (c - suc f) (length xs) (omega (arith, le_of (suc (suc (c - suc f))) (suc (length xs)) q))) (λ q. ltb_yes (suc (c - suc f)) (suc (length xs)) (omega (arith, le_of (suc (c - suc f)) (length xs) q))))

    go : (b : Bool) → eqb c f ≡ b → (leb (suc f) c && ltb (c - suc f) (length xs)) ≡ memb c xs → (leb f c && ltb (c - f) (suc (length xs))) ≡ (b || memb c xs)
    go true q h = let e : c ≡ f = eqb_eq c f q in let z : c - f ≡ 0 = omega arith in rw (leb_yes f c (omega arith), z, ltb_yes 0 (suc (length xs)) (omega arith))
    go false q h = off (dec_le c f) (eqb_ne c f q) ∙ h

pub run_test : {f : ℕ} {xs : List ℕ} (c : ℕ) → Consecutive f xs → among (first xs) (length xs) c ≡ memb c xs
run_test c consecutive_nil = rw (ltb_no (c - 0) 0 (omega arith)) (and_false (leb 0 c))
run_test c (consecutive_cons r) = run_memb c (consecutive_cons r)

-- a word is a head of a kind if it is one of so many from the first on
pub head_test : (sig : Signature) (m : ℕ) → count_kinds sig ≡ some m → (k w : ℕ) → among (first (heads sig k)) (length (heads sig k)) w ≡ is_some (arguments_at sig k w)
head_test sig m e k w = run_test w (consecutive_of sig k m e).1 ∙ sym (some_when (memb w (heads sig k)) (arguments sig w))

-- the argument kinds of a head
pub some_there : (sig : Signature) (k w : ℕ) → is_some (arguments_at sig k w) ≡ true → arguments_at sig k w ≡ some (arguments sig w)
some_there sig k w e = go (memb w (heads sig k)) refl (sym (some_when (memb w (heads sig k)) (arguments sig w)) ∙ e)
  where
    go : (b : Bool) → memb w (heads sig k) ≡ b → memb w (heads sig k) ≡ true → arguments_at sig k w ≡ some (arguments sig w)
    go true q f = rw q
    go false q f = true≢false (sym f ∙ q)

module _ {t : List ℕ} (g : Known t) where
  -- the kinds of a constructor's arguments
  row_kinds : (c : ℕ) → c < length g.sig → take (arity_of t c) (drop (stride * c + 2) t) ≡ arguments g.sig c
  row_kinds c l =
      let m : length (take (arity_of t c) (drop (stride * c + 2) t)) ≡ arity_of t c = length-take-le (arity_of t c) (drop (stride * c + 2) t) (omega (arith, length-drop (stride * c + 2) t, long g, few_constructors g, arity_is g c l, few_arguments g c l)) in
      same_lists (take (arity_of t c) (drop (stride * c + 2) t)) (arguments g.sig c) (m ∙ arity_is g c l)
      (λ x h. get_or-take (arity_of t c) (drop (stride * c + 2) t) x 0 (omega arith) ∙ get_or-drop (stride * c + 2) t x 0 ∙ argument_is g c l x (omega (arith, arity_is g c l)))

  -- of a level there are none
  head_kinds : (k w : ℕ) → is_some (arguments_at g.sig k w) ≡ true → take (head_arity t w) (drop (stride * w + 2) t) ≡ arguments g.sig w
  head_kinds k w e = go (leb level_base w) refl
    where
      go : (b : Bool) → leb level_base w ≡ b → take (head_arity t w) (drop (stride * w + 2) t) ≡ arguments g.sig w
      go true q = rw (q, level_bare g.sig (plain g) w (le_of level_base w q))
      go false q = rw q (row_kinds w (is_constructor g k w (arguments g.sig w) (lt_of_not level_base w q) (some_there g.sig k w e)))

  head_inside : (k w : ℕ) → is_some (arguments_at g.sig k w) ≡ true → 0 < head_arity t w → stride * w + 2 + head_arity t w ≤ length t
  head_inside k w e h = go (leb level_base w) refl h
    where
      go : (b : Bool) → leb level_base w ≡ b → 0 < head_arity t w → stride * w + 2 + head_arity t w ≤ length t
      go true q m = absurd (let z : head_arity t w ≡ 0 = rw q in omega arith)
      go false q m =
          let l : w < length g.sig = is_constructor g k w (arguments g.sig w) (lt_of_not level_base w q) (some_there g.sig k w e) in
          let z : head_arity t w ≡ arity_of t w = rw q in
          omega (arith, long g, few_constructors g, arity_is g w l, few_arguments g w l)

  -- a head is a constructor's number or a level
  pub head_small : (k w : ℕ) → is_some (arguments_at g.sig k w) ≡ true → w ≤ level_base + last_level
  head_small k w e = go (head_is g k w (arguments g.sig w) (some_there g.sig k w e))
    where
      go : ((w < length g.sig) × (is_number_kind g.sig k ≡ false) × (kind_of t w ≡ k)) ⊎ ((is_level w ≡ true) × (is_number_kind g.sig k ≡ true) × (arguments g.sig w ≡ [])) → w ≤ level_base + last_level
      go (inl (l, a, b)) = omega (arith, few_constructors g)
      go (inr (l, a, b)) = (level_is w l).1

  pub constructor_below : (k w : ℕ) → is_some (arguments_at g.sig k w) ≡ true → w < level_base → w < constructor_limit
  constructor_below k w e l = omega (arith, few_constructors g, is_constructor g k w (arguments g.sig w) l (some_there g.sig k w e))

  pub head_few : (k w : ℕ) → is_some (arguments_at g.sig k w) ≡ true → head_arity t w ≤ argument_limit
  head_few k w e = go (leb level_base w) refl
    where
      go : (b : Bool) → leb level_base w ≡ b → head_arity t w ≤ argument_limit
      go true q = rw q (omega arith)
      go false q =
          let l : w < length g.sig = is_constructor g k w (arguments g.sig w) (lt_of_not level_base w q) (some_there g.sig k w e) in
          rw q (omega (arith, arity_is g w l, few_arguments g w l))

  pub seen : Sees g.sig (kinds_of t) (decoded_view g.sig t)
  seen = rw g.decoded.kind_count (record {
    some_kind = kinds_above g.sig g.decoded.n g.decoded.kinds_are;
    is = λ k w l e. some_there g.sig k w e ∙ ap some (sym (head_kinds k w e));
    is_not = λ k w l e. missing _ (sym e);
    inside = λ k w l e. head_inside k w e;
    below = λ k w l e. subst (All (λ j. j < g.decoded.n)) (sym (head_kinds k w e)) (arguments_below g k w (arguments g.sig w) (some_there g.sig k w e));
  })

  -- the test of the code
  pub stands : (k w f n : ℕ) → k < kinds_of t → f ≡ first_of t k → n ≡ count_of t k → among f n w ≡ is_some (arguments_at g.sig k w)
  stands k w f n l e c =
      let m : k < g.decoded.n = omega (arith, g.decoded.kind_count) in
      rw (e, c, g.decoded.first_head k m, g.decoded.head_count k m) (head_test g.sig g.decoded.n g.decoded.kinds_are k w)
