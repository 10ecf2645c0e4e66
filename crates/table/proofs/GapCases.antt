-- 02, job 4: the gaps of a few tables, by a test of all bookings of a signature whose bookings have a bay and a charge.
use mathlib.Core.Path.{◌≡◌, refl, ap, ap₂, sym, subst, ◌∙◌}
use mathlib.Core.List.{List, [], ◌∷◌, map}
use mathlib.Core.Option.{Option, none, some}
use mathlib.Core.Bool.{Bool, true, false, not, ◌&&◌, ◌||◌}
use Prim.Native.Nat.{ℕ}
use lib.Dec.{eqb}
use Rattle.signature.specs.Cases.{T, words_T, L, words_L}
use Rattle.signature.specs.Lawful.{OfKind, of_kind, OfKinds, of_kinds_nil, of_kinds_cons}
use Rattle.signature.specs.Lists.{all, any, memb, is_empty, In, in_here, in_there}
use Rattle.signature.specs.Read.{read_signature, read_booking}
use Rattle.signature.specs.Signature.{Signature, heads, arguments}
use Rattle.signature.specs.Value.{Value, Values, con, vnil, vcons, code}
use Rattle.signature.proofs.Booleans.{and_left, and_right}
use Rattle.signature.proofs.Heads.{has_kind, args_same}
use Rattle.signature.proofs.ListFacts.{any_in, in_map}
use Rattle.signature.proofs.Tests.{eqb_eq, true≢false}
use Rattle.signature.proofs.Values.{booking_lawful, lawful_booking}
use Rattle.table.specs.Cases.{rules_T, sole}
use Rattle.table.specs.Decide.{direct}
use Rattle.table.specs.Demand2.{ByRelation}
use Rattle.table.specs.Gap.{Gap}
use Rattle.table.specs.GapCases.{GapCases, GapsAre, both}
use Rattle.table.specs.Limits.{limits}
use Rattle.table.specs.Rule.{Rule, table_words}
use Rattle.table.specs.Sound.{sound}
use Rattle.table.proofs.ByRelation.{by_relation}
use Rattle.table.proofs.Laws.{demand_2}
use Rattle.table.proofs.SoundFacts.{sound_table}

all_memb : (f : ℕ → Bool) (xs : List ℕ) (c : ℕ) → all f xs ≡ true → memb c xs ≡ true → f c ≡ true
all_memb f [] c a m = true≢false (sym m)
all_memb f (x ∷ xs) c a m = go (eqb c x) refl (all_memb f xs c (and_right (f x) (all f xs) a))
  where
    go : (b : Bool) → eqb c x ≡ b → (memb c xs ≡ true → f c ≡ true) → f c ≡ true
    go true q k = ap f (eqb_eq c x q) ∙ and_left (f x) (all f xs) a
    go false q k = k (rw q at m)

all_in : {A : Type 0} (f : A → Bool) (xs : List A) (x : A) → all f xs ≡ true → In x xs → f x ≡ true
all_in {A = A} f [] x a x4 = elim x4 [ ]
all_in f (y ∷ xs) x a in_here = and_left (f y) (all f xs) a
all_in f (y ∷ xs) x a (in_there i) = all_in f xs x (and_right (f y) (all f xs) a) i

to_map : {A B : Type 0} (f : A → B) {x : A} {xs : List A} → In x xs → In (f x) (map f xs)
to_map f in_here = in_here
to_map f (in_there i) = in_there (to_map f i)

no_values : {sig : Signature} {vs : Values} → OfKinds sig [] vs → vs ≡ vnil
no_values of_kinds_nil = refl

empty_is : {A : Type 0} (xs : List A) → is_empty xs ≡ true → xs ≡ []
empty_is [] e = refl
empty_is (x ∷ xs) e = true≢false (sym e)

-- a booking's two words behind its first
abbrev words : ℕ × ℕ → List ℕ
words p = 0 ∷ p.0 ∷ p.1 ∷ []

abbrev value : ℕ × ℕ → Value
value p = con 0 (vcons (con p.0 vnil) (vcons (con p.1 vnil) vnil))

abbrev listed : List (ℕ × ℕ) → ℕ × ℕ → Bool
listed ps q = any (λ p. eqb q.0 p.0 && eqb q.1 p.1) ps

module _ (sig : Signature) (rs : List Rule) where
  -- no rule takes it
  abbrev free : Value → Bool
  free v = eqb (direct 0 sig rs v).rule 0

  abbrev free_booking : Option Value → Bool
  free_booking none = false
  free_booking (some v) = free v

  -- each listed booking is free
  abbrev each_free : List (ℕ × ℕ) → Bool
  each_free ps = all (λ p. free_booking (read_booking sig (words p))) ps

  -- each free booking is listed
  abbrev free_listed : List (ℕ × ℕ) → Bool
  free_listed ps = all (λ b. all (λ d. listed ps (b, d) || not (free (value (b, d)))) (heads sig 2)) (heads sig 1)

-- a kind whose heads have no arguments
abbrev bare : Signature → ℕ → Bool
bare sig k = all (λ c. is_empty (arguments sig c)) (heads sig k)

module _ (sig : Signature) where
  leaf : (k : ℕ) → bare sig k ≡ true → (v : Value) → OfKind sig k v → (c : ℕ) × (v ≡ con c vnil) × (memb c (heads sig k) ≡ true)
  leaf k a (con c vs) (of_kind {ks = ks} e os) =
      let m = has_kind sig k c ks e in
      let z : ks ≡ [] = sym (args_same sig k c ks e) ∙ empty_is (arguments sig c) (all_memb (λ d. is_empty (arguments sig d)) (heads sig k) c a m) in
      (c, ap (con c) (no_values (subst (λ js. OfKinds sig js vs) z os)), m)

  module _ (heads_0 : heads sig 0 ≡ 0 ∷ []) (args_0 : arguments sig 0 ≡ 1 ∷ 2 ∷ []) (bare_1 : bare sig 1 ≡ true) (bare_2 : bare sig 2 ≡ true) where
    shapes : {vs : Values} → OfKinds sig (1 ∷ 2 ∷ []) vs → (p : ℕ × ℕ) × (vs ≡ vcons (con p.0 vnil) (vcons (con p.1 vnil) vnil)) × (memb p.0 (heads sig 1) ≡ true) × (memb p.1 (heads sig 2) ≡ true)
    shapes (of_kinds_cons {v = v} a (of_kinds_cons {v = w} b of_kinds_nil)) =
        let (c, e, m) = leaf 1 bare_1 v a in
        let (d, f, n) = leaf 2 bare_2 w b in
        ((c, d), ap₂ (λ x y. vcons x (vcons y vnil)) e f, m, n)

    shape : (v : Value) → OfKind sig 0 v → (p : ℕ × ℕ) × (v ≡ value p) × (memb p.0 (heads sig 1) ≡ true) × (memb p.1 (heads sig 2) ≡ true)
    shape (con c vs) (of_kind {ks = ks} e os) =
        let z : c ≡ 0 = eqb_eq c 0 (all_memb (λ d. eqb d 0) (0 ∷ []) c refl (subst (λ hs. memb c hs ≡ true) heads_0 (has_kind sig 0 c ks e))) in
        let y : ks ≡ 1 ∷ 2 ∷ [] = sym (args_same sig 0 c ks e) ∙ ap (arguments sig) z ∙ args_0 in
        let (p, q, m, n) = shapes (subst (λ js. OfKinds sig js vs) y os) in
        (p, ap₂ con z q, m, n)

    module _ (ss : List ℕ) (lawful : read_signature ss ≡ some sig) (rs : List Rule) (holds : sound limits sig (table_words limits 0 rs) ≡ some rs) where
      by : (bs : List ℕ) (v : Value) → read_booking sig bs ≡ some v → ByRelation 0 sig rs bs (direct 0 sig rs v)
      by bs v b =
          let h = sound_table sig (ss, lawful) (table_words limits 0 rs) rs holds in
          by_relation 0 sig (ss, lawful) (table_words limits 0 rs) rs h bs v b (direct 0 sig rs v) (demand_2.answered 0 sig (ss, lawful) (table_words limits 0 rs) rs h bs v b)

      gaps_are : (ps : List (ℕ × ℕ)) → each_free sig rs ps ≡ true → free_listed sig rs ps ≡ true → GapsAre sig rs (map words ps)
      gaps_are ps each others bs = (there, back)
        where
          there : In bs (map words ps) → (g : Gap sig rs) × (g.booking ≡ bs)
          there i =
              let (p, j, q) = in_map words ps i in
              go p q (read_booking sig (words p)) refl (all_in (λ r. free_booking sig rs (read_booking sig (words r))) ps p each j)
            where
              go : (p : ℕ × ℕ) → bs ≡ words p → (o : Option Value) → read_booking sig (words p) ≡ o → free_booking sig rs o ≡ true → (g : Gap sig rs) × (g.booking ≡ bs)
              go p q none b t = true≢false (sym t)
              go p q (some v) b t = (record { booking = words p; value = v; lawful = booking_lawful sig (words p) v b; failed = (by (words p) v b).default.0 (eqb_eq (direct 0 sig rs v).rule 0 t) }, sym q)

          chosen : (a b : Bool) → (a || not b) ≡ true → b ≡ true → a ≡ true
          chosen true b e f = refl
          chosen false true e f = e
          chosen false false e f = f

          back : (g : Gap sig rs) × (g.booking ≡ bs) → In bs (map words ps)
          back (g, e) =
              let z : (direct 0 sig rs g.value).rule ≡ 0 = (by g.booking g.value (lawful_booking sig g.booking g.value g.lawful)).default.1 g.failed in
              let (p, q, m, n) = shape g.value g.lawful.kind_0 in
              let t = all_memb (λ d. listed ps (p.0, d) || not (free sig rs (value (p.0, d)))) (heads sig 2) p.1 (all_memb (λ b. all (λ d. listed ps (b, d) || not (free sig rs (value (b, d)))) (heads sig 2)) (heads sig 1) p.0 others m) n in
              let f : free sig rs (value p) ≡ true = ap (λ v. eqb (direct 0 sig rs v).rule 0) (sym q) ∙ ap (λ x. eqb x 0) z in
              let (r, j, y) = any_in (λ x. eqb p.0 x.0 && eqb p.1 x.1) ps (chosen (listed ps p) (free sig rs (value p)) t f) in
              let w : words p ≡ words r = ap₂ (λ x y. 0 ∷ x ∷ y ∷ []) (eqb_eq p.0 r.0 (and_left (eqb p.0 r.0) (eqb p.1 r.1) y)) (eqb_eq p.1 r.1 (and_right (eqb p.0 r.0) (eqb p.1 r.1) y)) in
              subst (λ x. In x (map words ps)) (sym w ∙ sym (ap code q) ∙ g.lawful.is_code ∙ e) (to_map words j)

on_T : (rs : List Rule) (ps : List (ℕ × ℕ)) → sound limits T (table_words limits 0 rs) ≡ some rs → each_free T rs ps ≡ true → free_listed T rs ps ≡ true → GapsAre T rs (map words ps)
on_T rs ps h = gaps_are T refl refl refl refl words_T refl rs h ps

on_L : (rs : List Rule) (ps : List (ℕ × ℕ)) → sound limits L (table_words limits 0 rs) ≡ some rs → each_free L rs ps ≡ true → free_listed L rs ps ≡ true → GapsAre L rs (map words ps)
on_L rs ps h = gaps_are L refl refl refl refl words_L refl rs h ps

abbrev pairs_T : List (ℕ × ℕ)
pairs_T = (1, 4) ∷ (1, 5) ∷ (2, 4) ∷ (2, 5) ∷ (3, 4) ∷ (3, 5) ∷ []

pub gap_cases : GapCases
gap_cases = record {
  rules_of_T = on_T rules_T ((2, 4) ∷ (3, 4) ∷ []) refl refl refl;
  no_rules = on_T [] pairs_T refl refl refl;
  takes_none = on_T (sole (260 ∷ 261 ∷ [])) pairs_T refl refl refl;
  wildcard = on_T (sole (258 ∷ [])) [] refl refl refl;
  only_constructor = on_T (sole (0 ∷ 258 ∷ 258 ∷ [])) [] refl refl refl;
  exclusions = on_T (sole (0 ∷ 257 ∷ 260 ∷ 1 ∷ 260 ∷ 2 ∷ 258 ∷ [])) [] refl refl refl;
  excluded = on_T (both (0 ∷ 260 ∷ 1 ∷ 258 ∷ []) (0 ∷ 1 ∷ 258 ∷ [])) [] refl refl refl;
  level_left = on_L (both (0 ∷ 258 ∷ 280 ∷ 0 ∷ 49 ∷ []) (0 ∷ 258 ∷ 280 ∷ 51 ∷ 100 ∷ [])) ((1, 1050) ∷ (2, 1050) ∷ []) refl refl refl;
  no_level_left = on_L (both (0 ∷ 258 ∷ 280 ∷ 0 ∷ 49 ∷ []) (0 ∷ 258 ∷ 280 ∷ 50 ∷ 100 ∷ [])) [] refl refl refl;
}
