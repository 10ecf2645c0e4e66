-- The least values of a head's arguments, one after the other.
use mathlib.Core.Path.{◌≡◌, refl, ap, sym, ◌∙◌, subst}
use mathlib.Core.List.{List, [], ◌∷◌, ◌++◌, append_assoc, append-nil}
use mathlib.Core.Option.{some}
use mathlib.Core.Bool.{true, false}
use mathlib.Core.Logic.{⊎_elim}
use Prim.Native.Nat.{ℕ, zero, suc, ◌+◌, ◌-◌, ◌≤◌, ◌<◌, min}
use native.Mathlib.Omega.{arith}
use lib.ListN.{length, drop, take, get_or, set, length-append, length-drop, drop_of_length-le}
use lib.Seq.{drop-drop, drop_at, take_at}
use Rattle.signature.specs.Decoded.{Known, least_size, least_head_of, argument_of, head_arity, kind_of}
use Rattle.signature.specs.Lawful.{OfKinds, of_kind, of_kinds_nil, of_kinds_cons}
use Rattle.signature.specs.Limits.{small_size, over_small, constructor_limit, kind_limit, argument_limit, level_base, last_level}
use Rattle.signature.specs.Lists.{All}
use Rattle.signature.specs.Read.{best, least}
use Rattle.signature.specs.Signature.{Signature, arguments_at, arguments, is_number_kind, is_level}
use Rattle.signature.specs.Value.{Value, Values, con, vnil, vcons, code, codes, size, sizes}
use Rattle.signature.proofs.Counting.{counted_length}
use Rattle.signature.proofs.ListFacts.{at_getD, all_first}
use Rattle.cell.specs.RowList.{from}
use Rattle.rowlist.proofs.Typing.{args_there}
use Rattle.cell.proofs.Walk.{from_is, back, word_at}
use Rattle.signature.proofs.LeastValue.{HeadReaches, least_head_reaches}
use Rattle.signature.proofs.Heads.{args_same, level_is}
use Rattle.signature.proofs.KnownFacts.{argument_is, argument_small, is_constructor, few_constructors, few_of_head, head_is, head_arity_is}
use Rattle.overlap.specs.Least.{GivenHead, Written, fewest}

-- words of values
mutual
  pub code_size : (v : Value) → length (code v) ≡ size v
  code_size (con c vs) = ap suc (codes_size vs)

  codes_size : (vs : Values) → length (codes vs) ≡ sizes vs
  codes_size vnil = refl
  codes_size (vcons v vs) = simp length-append (omega (arith, code_size v, codes_size vs))

-- one kind more
long : (sig : Signature) (n d : ℕ) → length (least d sig n) ≡ n
long sig n zero = counted_length (λ j. over_small) 0 n
long sig n (suc d) = counted_length (λ j. min over_small (best sig (least d sig n) j)) 0 n

pub fewest_cons : {t : List ℕ} (g : Known t) (k : ℕ) (ks : List ℕ) → k < g.decoded.n → fewest g (k ∷ ks) ≡ least_size g.sig g.decoded.n k + fewest g ks
fewest_cons g k ks l = rw (at_getD (least small_size g.sig g.decoded.n) k (omega (arith, long g.sig g.decoded.n small_size))) refl

-- in the loop: w is written behind the first word, and the kinds still to come
pub record Mid {t : List ℕ} {c : ℕ} {o₀ : List ℕ} (g : GivenHead t c o₀) (at j : ℕ) (o todo : List ℕ) : Type 0 where
  pub w : List ℕ
  pub size : at ≡ suc (length w)
  pub list : o ≡ take 1 o₀ ++ (w ++ drop at o₀)
  pub kinds : drop j g.ks ≡ todo
  pub passed : j ≤ length g.ks
  pub there : All (λ k. k < g.known.decoded.n) todo
  pub room : at + fewest g.known todo ≤ length o₀
  pub finish : (us : Values) → OfKinds g.known.sig todo us → sizes us ≡ fewest g.known todo → (vs : Values) × OfKinds g.known.sig g.ks vs × (codes vs ≡ w ++ codes us) × (sizes vs ≡ fewest g.known g.ks)

abbrev pub Now : {t : List ℕ} {c : ℕ} {o₀ : List ℕ} → GivenHead t c o₀ → ℕ → ℕ → List ℕ → Type 0
Now g at j o = (todo : List ℕ) × Mid g at j o todo

take_drop_1 : (o : List ℕ) → o ≡ take 1 o ++ drop 1 o
take_drop_1 [] = refl
take_drop_1 (x ∷ o) = refl

pub start : {t : List ℕ} {c : ℕ} {o₀ : List ℕ} (g : GivenHead t c o₀) → Now g 1 0 o₀
start {c = c} {o₀ = o₀} g = (
  g.ks,
  record {
    w = [];
    size = refl;
    list = take_drop_1 o₀;
    kinds = refl;
    passed = omega arith;
    there = args_there g.known g.kind c g.ks g.is;
    room = omega (arith, g.room);
    finish = λ us h e. (us, h, refl, e);
  },
)

take_1 : (o : List ℕ) → 1 ≤ length o → length (take 1 o) ≡ 1
take_1 [] h = absurd (omega arith)
take_1 (x ∷ o) h = refl

-- a part came back with n words of a value in front
part_back : (o₀ o w v : List ℕ) (at n : ℕ) → 1 ≤ length o₀ → at ≡ suc (length w) → o ≡ take 1 o₀ ++ (w ++ drop at o₀) → (ys : List ℕ) → ys ≡ v ++ drop n (from o at)
    → back o at ys ≡ take 1 o₀ ++ ((w ++ v) ++ drop (at + n) o₀)
part_back o₀ o w v at n h e l ys f =
    let A : List ℕ = take 1 o₀ ++ w in
    let len : length A ≡ at = simp length-append (omega (arith, take_1 o₀ h)) in
    let l2 : o ≡ A ++ drop at o₀ = l ∙ sym (append_assoc (take 1 o₀) w (drop at o₀)) in
    let ta : take at o ≡ A = ap (take at) l2 ∙ take_at A (drop at o₀) at len in
    let da : drop at o ≡ drop at o₀ = ap (drop at) l2 ∙ drop_at A (drop at o₀) at len in
    let fr : from o at ≡ drop at o₀ = from_is o at ∙ da in
    let yy : ys ≡ v ++ drop (at + n) o₀ = f ∙ ap (λ (z : List ℕ). v ++ drop n z) fr ∙ ap (λ (z : List ℕ). v ++ z) (drop-drop n at o₀) in
    let no : drop (length o - at) (drop at o) ≡ [] = drop_of_length-le (drop at o) {i = length o - at} (omega (arith, length-drop at o)) in
    rw (ta, no, append-nil ys, yy) (append_assoc (take 1 o₀) w (v ++ drop (at + n) o₀) ∙ ap (λ (z : List ℕ). take 1 o₀ ++ z) (sym (append_assoc w v (drop (at + n) o₀))))

module _ {t : List ℕ} {c : ℕ} {o₀ : List ℕ} (g : GivenHead t c o₀) where
  -- what the table says of the head
  pub arity_here : head_arity t c ≡ length g.ks
  arity_here = head_arity_is g.known g.kind c g.ks g.is

  pub tag_here : c < level_base → c < constructor_limit
  tag_here l = omega (arith, is_constructor g.known g.kind c g.ks l g.is, few_constructors g.known)

  pub word_here : c ≤ level_base + last_level
  word_here = ⊎_elim (λ (a : (c < length g.known.sig) × (is_number_kind g.known.sig g.kind ≡ false) × (kind_of t c ≡ g.kind)). omega (arith, a.0, few_constructors g.known)) (λ (b : (is_level c ≡ true) × (is_number_kind g.known.sig g.kind ≡ true) × (g.ks ≡ [])). (level_is c b.0).1) (head_is g.known g.kind c g.ks g.is)

  -- one that has arguments is a constructor
  in_signature : 0 < length g.ks → c < length g.known.sig
  in_signature h = ⊎_elim (λ (a : (c < length g.known.sig) × (is_number_kind g.known.sig g.kind ≡ false) × (kind_of t c ≡ g.kind)). a.0) (λ (b : (is_level c ≡ true) × (is_number_kind g.known.sig g.kind ≡ true) × (g.ks ≡ [])). absurd (omega (arith, h, ap length b.2))) (head_is g.known g.kind c g.ks g.is)

  pub constructor_here : (j : ℕ) → j < length g.ks → c < constructor_limit
  constructor_here j h = omega (arith, in_signature (omega (arith, h)), few_constructors g.known)

  same_ks : arguments g.known.sig c ≡ g.ks
  same_ks = args_same g.known.sig g.kind c g.ks g.is

  pub arity_small : length g.ks ≤ argument_limit
  arity_small = few_of_head g.known g.kind c g.ks g.is

  pub argument_there : (j : ℕ) → j < length g.ks → argument_of t c j < kind_limit
  argument_there j h = argument_small g.known c (in_signature (omega (arith, h))) j (rw same_ks h)

  module _ (at j : ℕ) (o : List ℕ) where
    reach : (k : ℕ) → k < g.known.decoded.n → HeadReaches g.known.sig g.known.decoded.n k
    reach = least_head_reaches g.known.sig g.known.signed g.known.decoded.n g.known.decoded.kinds_are

    whole_at : (todo : List ℕ) → Mid g at j o todo → length o ≡ length o₀
    whole_at todo m = ap length m.list ∙ simp (length-append, length-drop) (omega (arith, take_1 o₀ (omega (arith, g.room)), m.size, m.room))

    pub whole : Now g at j o → (length o ≡ length o₀) × (1 ≤ at) × (at ≤ length o₀)
    whole m = (whole_at m.0 m.1, omega (arith, m.1.size), omega (arith, m.1.room))

    first_todo : (k : ℕ) (todo : List ℕ) → Mid g at j o (k ∷ todo) → argument_of t c j ≡ k
    first_todo k todo m =
        let q = word_at g.ks j k todo m.kinds in
        argument_is g.known c (in_signature (omega (arith, q.1))) j (rw same_ks q.1) ∙ ap (λ (l : List ℕ). get_or l j 0) same_ks ∙ q.0

    unfoldable given_at : (k hh : ℕ) (todo : List ℕ) → Mid g at j o (k ∷ todo) → hh ≡ least_head_of t k → GivenHead t hh (from o at)
    given_at k hh todo m e =
        let l : k < g.known.decoded.n = (all_first m.there).0 in
        let r = reach k l in
        record {
          known = g.known;
          kind = k;
          ks = r.args;
          is = subst (λ (z : ℕ). arguments_at g.known.sig k z ≡ some r.args) (sym (e ∙ g.known.decoded.lowest_least k l)) r.has_args;
          room = rw (from_is o at) (omega (arith, length-drop at o, whole_at (k ∷ todo) m, m.room, fewest_cons g.known k todo l, r.reaches));
        }

    given_todo : (todo : List ℕ) (kk hh : ℕ) → Mid g at j o todo → j < length g.ks → kk ≡ argument_of t c j → hh ≡ least_head_of t kk → GivenHead t hh (from o at)
    given_todo [] kk hh m h a e = absurd (omega (arith, length-drop j g.ks, ap length m.kinds))
    given_todo (k ∷ todo) kk hh m h a e = given_at k hh todo m (e ∙ ap (least_head_of t) (a ∙ first_todo k todo m))

    pub given : (kk hh : ℕ) → Now g at j o → j < length g.ks → kk ≡ argument_of t c j → hh ≡ least_head_of t kk → GivenHead t hh (from o at)
    given kk hh m h a e = given_todo m.0 kk hh m.1 h a e

    turn_at : (todo : List ℕ) (kk hh n : ℕ) (ys : List ℕ) → Mid g at j o todo → j < length g.ks → kk ≡ argument_of t c j → hh ≡ least_head_of t kk
        → ((q : GivenHead t hh (from o at)) → Written q n ys) → Now g (at + n) (j + 1) (back o at ys)
    unfolding given_at
    turn_at [] kk hh n ys m h a e f = absurd (omega (arith, length-drop j g.ks, ap length m.kinds))
    turn_at (k ∷ todo) kk hh n ys m h a e f =
        let l : k < g.known.decoded.n = (all_first m.there).0 in
        let q = given_at k hh todo m (e ∙ ap (least_head_of t) (a ∙ first_todo k todo m)) in
        let W = f q in
        let v : Value = con hh W.vs in
        let r = reach k l in
        let sz : n ≡ least_size g.known.sig g.known.decoded.n k = W.count ∙ ap suc W.size_is ∙ r.reaches in
        let fc = fewest_cons g.known k todo l in (
          todo,
          record {
            w = m.w ++ code v;
            size = simp length-append (omega (arith, m.size, code_size v, W.count));
            list = part_back o₀ o m.w (code v) at n (omega (arith, g.room)) m.size m.list ys W.list;
            kinds = (word_at g.ks j k todo m.kinds).2;
            passed = omega (arith, h);
            there = (all_first m.there).1;
            room = omega (arith, m.room, fc, sz);
            finish = λ us hs es.
                let p = m.finish (vcons v us) (of_kinds_cons (of_kind q.is W.kinded) hs) (omega (arith, W.count, sz, fc, es)) in
                (p.0, p.1, p.2 ∙ sym (append_assoc m.w (code v) (codes us)), p.3);
          },
        )

    pub turn : (kk hh n : ℕ) (ys : List ℕ) → Now g at j o → j < length g.ks → kk ≡ argument_of t c j → hh ≡ least_head_of t kk
        → ((q : GivenHead t hh (from o at)) → Written q n ys) → Now g (at + n) (j + 1) (back o at ys)
    turn kk hh n ys m h a e f = turn_at m.0 kk hh n ys m.1 h a e f

    set_first : (X : List ℕ) (l : List ℕ) → 1 ≤ length l → set (take 1 l ++ X) 0 c ≡ c ∷ X
    set_first X [] h = absurd (omega arith)
    set_first X (z ∷ l) h = refl

    end_at : (todo : List ℕ) → Mid g at j o todo → length g.ks ≤ j → Written g at (set o 0 c)
    end_at (k ∷ todo) m h = absurd (omega (arith, (word_at g.ks j k todo m.kinds).1))
    end_at [] m h =
        let p = m.finish vnil of_kinds_nil refl in
        let cs : codes p.0 ≡ m.w = p.2 ∙ append-nil m.w in
        record {
          vs = p.0;
          kinded = p.1;
          size_is = p.3;
          count = m.size ∙ ap suc (ap length (sym cs) ∙ codes_size p.0);
          list = ap (λ (z : List ℕ). set z 0 c) m.list ∙ set_first (m.w ++ drop at o₀) o₀ (omega (arith, g.room)) ∙ ap (λ (z : List ℕ). c ∷ (z ++ drop at o₀)) (sym cs);
        }

    pub end : Now g at j o → length g.ks ≤ j → Written g at (set o 0 c)
    end m h = end_at m.0 m.1 h
