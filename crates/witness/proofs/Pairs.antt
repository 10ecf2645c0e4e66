-- Two rows as one, and a value that it takes.
use mathlib.Core.Path.{◌≡◌, refl, ap, sym, ◌∙◌, subst}
use mathlib.Core.List.{List, [], ◌++◌, append-nil}
use mathlib.Core.Bool.{true, ◌&&◌}
use mathlib.Core.Option.{Option, none, some}
use Prim.Native.Nat.{ℕ, suc, ◌+◌, ◌*◌, ◌≤◌}
use native.Mathlib.Omega.{arith}
use lib.ListN.{length, drop, take}
use lib.Seq.{take_at}
use Rattle.signature.specs.Decoded.{Known}
use Rattle.signature.specs.Lists.{is_some, first}
use Rattle.signature.specs.Signature.{heads}
use Rattle.signature.specs.Value.{code}
use Rattle.signature.proofs.Booleans.{and_left, and_right}
use Rattle.signature.proofs.Heads.{args_same}
use Rattle.signature.proofs.ListFacts.{Kept, kept, dropped}
use Rattle.signature.proofs.Tests.{none≢some, some_inj}
use Rattle.pattern.specs.Limits.{pattern_limit}
use Rattle.row.specs.Row.{Row, Rows, combine}
use Rattle.row.specs.RowFits.{Good, good_named, good_free, Goods, goods_nil, goods_cons, place_count, row_fits}
use Rattle.row.proofs.Kept.{kept_fits}
use Rattle.row.proofs.OverlapFacts.{combine_good}
use Rattle.row.proofs.Places.{combine_places}
use Rattle.row.proofs.RowMeet.{combine_fits}
use Rattle.std.specs.Prelude.{Option as CodeOption, None, Some}
use Rattle.cell.specs.Coded.{kinds_of, row_code, row_code_of, Typed, Typeds}
use Rattle.cell.specs.Lockstep.{GivenRows, Result}
use Rattle.cell.proofs.RowListFacts.{not_both, kept_is, kept_le}
use Rattle.rowlist.proofs.Kinded.{known_head, open_kind, within_kind}
use Rattle.builder.proofs.Rooms.{code_places}
use Rattle.witness.specs.Fill.{GivenRow, Filled}
use Rattle.witness.specs.Pair.{GivenPair, Both, Found}
use Rattle.witness.proofs.Filling.{kind_here, within_all}

-- a good row is one of its kind under the table
module _ {t : List ℕ} (g : Known t) where
  mutual
    pub typed_good : {k : ℕ} {r : Row} → Good g.sig k r → Typed (kinds_of g.sig) t r k
    typed_good {k} (good_named {c = c} {js = js} l e gs) = (known_head g k c js (omega (arith, l)) e, rw (args_same g.sig k c js e) (typeds_good gs))
    typed_good {k} (good_free {c = c} {cs = cs} a) = let l = kind_here g k c cs a in ((open_kind g k l).kind, refl, within_all (first (heads g.sig k)) (heads g.sig k) (within_kind g k l) a)

    typeds_good : {ks : List ℕ} {rs : Rows} → Goods g.sig ks rs → Typeds (kinds_of g.sig) t rs ks
    typeds_good goods_nil = tt
    typeds_good (goods_cons h hs) = (typed_good h, typeds_good hs)

kept_there : {A : Type 0} {P : A → Type 0} {o : Option A} → Kept P o → (a : A) → o ≡ some a → P a
kept_there dropped a e = none≢some e
kept_there {P = P} (kept x h) a e = subst P (some_inj x a e) h

-- what combine left in front
front_of : (w e e' : List ℕ) (n : ℕ) (res : CodeOption ℕ) → Result (some w) res e e' → res ≡ Some n → take n e' ≡ w
front_of w e e' n res R q =
    let (w', a, b, c) = kept_is (some w) res n e e' R q in
    ap (take n) c ∙ take_at w' (drop n e) n (sym b) ∙ sym (some_inj w w' a)

-- three words a place
abbrev pair_words : ℕ
pair_words = 3 * (pattern_limit + pattern_limit)

module _ {t a b o : List ℕ} (g : GivenPair t a b o) where
  unfoldable pub given : (e : List ℕ) → pair_words ≤ length e → GivenRows t a b e
  given e h = record {
    K = kinds_of g.known.sig;
    kind = g.kind;
    r = g.r;
    s = g.s;
    rest_a = g.rest_a;
    rest_b = g.rest_b;
    code_a = g.code_a;
    code_b = g.code_b;
    typed_r = typed_good g.known g.proper_r.good;
    typed_s = typed_good g.known g.proper_s.good;
    room = omega (arith, g.proper_r.few, g.proper_s.few, code_places (kinds_of g.known.sig) g.r g.kind, code_places (kinds_of g.known.sig) g.s g.kind);
  }

  module _ (u : Row) (e : combine g.r g.s ≡ some u) where
    places : suc (place_count u) ≤ place_count g.r + place_count g.s
    places = kept_there (combine_places g.r g.s) u e

    unfoldable row_given : (w : List ℕ) → w ≡ row_code (kinds_of g.known.sig) u g.kind → GivenRow t w o
    row_given w f = record {
      known = g.known;
      kind = g.kind;
      r = u;
      rest = [];
      good = kept_there (combine_good g.known.sig g.r g.s g.proper_r.good g.proper_s.good) u e;
      code_is = f ∙ sym (append-nil (row_code (kinds_of g.known.sig) u g.kind));
      room = omega (arith, places, g.proper_r.few, g.proper_s.few, g.room);
    }

    both_of : (w : List ℕ) (f : w ≡ row_code (kinds_of g.known.sig) u g.kind) (n : ℕ) (o' : List ℕ) → Filled (row_given w f) n o' → Found (Both g.known.sig g.kind (row_fits g.r) (row_fits g.s)) true (Some n) o o'
    unfolding row_given
    both_of w f n o' F =
        let v = F.value in
        let T = F.taken in
        let h : ◌≡◌ (row_fits g.r v && row_fits g.s v) true = sym (combine_fits g.r g.s v) ∙ ap (λ (m : Option Row). kept_fits m v) e ∙ T.fits in
        (v, record { kinded = T.kinded; few = omega (arith, T.few, places, g.proper_r.few, g.proper_s.few); deep = omega (arith, T.deep, places, g.proper_r.few, g.proper_s.few); passes_f = and_left (row_fits g.r v) (row_fits g.s v) h; passes_g = and_right (row_fits g.r v) (row_fits g.s v) h }, ap Some F.count, F.list ∙ ap (λ (k : ℕ). code v ++ drop k o) F.count)

  -- by what combine answered
  abbrev Left : Option Row → CodeOption ℕ → List ℕ → List ℕ → Type 0
  Left m res e e' = Result (row_code_of (kinds_of g.known.sig) g.kind m) res e e'

  abbrev FoundBoth : Option Row → CodeOption ℕ → List ℕ → Type 0
  FoundBoth m res o' = Found (Both g.known.sig g.kind (row_fits g.r) (row_fits g.s)) (is_some m) res o o'

  none_at : (m : Option Row) (res : CodeOption ℕ) (e e' : List ℕ) → Left m res e e' → res ≡ None → FoundBoth m None o
  none_at none res e e' R q = (refl, refl)
  none_at (some u) res e e' R q = absurd (not_both R.0 q)

  given_at : (m : Option Row) (res : CodeOption ℕ) (n : ℕ) (e e' : List ℕ) → combine g.r g.s ≡ m → Left m res e e' → res ≡ Some n → GivenRow t (take n e') o
  given_at none res n e e' c R q = absurd (not_both q R)
  given_at (some u) res n e e' c R q = row_given u c (take n e') (front_of _ e e' n res R q)

  found_at : (m : Option Row) (res : CodeOption ℕ) (n : ℕ) (e e' : List ℕ) → combine g.r g.s ≡ m → Left m res e e' → res ≡ Some n → (k : ℕ) (o' : List ℕ) → ((q : GivenRow t (take n e') o) → Filled q k o') → FoundBoth m (Some k) o'
  found_at none res n e e' c R q k o' F = absurd (not_both q R)
  found_at (some u) res n e e' c R q k o' F = both_of u c (take n e') (front_of _ e e' n res R q) k o' (F (row_given u c (take n e') (front_of _ e e' n res R q)))

  module _ (res : CodeOption ℕ) (e e' : List ℕ) (h : pair_words ≤ length e) (R : (q : GivenRows t a b e) → Result (row_code_of q.K q.kind (combine q.r q.s)) res e e') where
    pub none_of : res ≡ None → FoundBoth (combine g.r g.s) None o
    unfolding given
    none_of q = none_at (combine g.r g.s) res e e' (R (given e h)) q

    pub row_of : (n : ℕ) → res ≡ Some n → GivenRow t (take n e') o
    unfolding given
    row_of n q = given_at (combine g.r g.s) res n e e' refl (R (given e h)) q

    pub found_of : (n : ℕ) → res ≡ Some n → (k : ℕ) (o' : List ℕ) → ((q : GivenRow t (take n e') o) → Filled q k o') → FoundBoth (combine g.r g.s) (Some k) o'
    unfolding given
    found_of n q k o' F = found_at (combine g.r g.s) res n e e' refl (R (given e h)) q k o' F

    pub fits_in : (n : ℕ) → res ≡ Some n → n ≤ length e'
    unfolding given
    fits_in n q = kept_le (row_code_of (kinds_of g.known.sig) g.kind (combine g.r g.s)) res n e e' (R (given e h)) q
