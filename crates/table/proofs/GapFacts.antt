-- 02, job 4: what the gap call's answer says.
use mathlib.Core.Path.{◌≡◌, refl, ap, ap₂, sym, subst, ◌∙◌}
use mathlib.Core.Logic.{◌⊎◌, inl, inr}
use mathlib.Core.List.{List}
use mathlib.Core.Option.{some}
use mathlib.Core.Bool.{Bool, true, false, ◌&&◌}
use Prim.Native.Nat.{ℕ, zero, suc, ◌≤◌}
use native.Mathlib.Omega.{arith}
use lib.ListN.{length, take, drop}
use Rattle.signature.specs.Lawful.{LawfulBooking}
use Rattle.signature.specs.Lists.{In}
use Rattle.signature.specs.Read.{read_signature, read_booking}
use Rattle.signature.specs.Signature.{Signature}
use Rattle.signature.specs.Value.{Value}
use Rattle.signature.proofs.ListFacts.{take_exact}
use Rattle.signature.proofs.Tests.{leb_yes}
use Rattle.signature.proofs.Values.{booking_lawful, lawful_booking}
use Rattle.pattern.specs.Match.{Binds}
use Rattle.pattern.specs.Takes.{TakesNot}
use Rattle.tree.specs.Answer.{Answer, no_rule}
use Rattle.table.specs.Calls.{Start, refused, begin, start, enter_start, long_witness}
use Rattle.table.specs.Demand2.{ByRelation}
use Rattle.table.specs.Gap.{Gap, ShowsGap, GapFrom, GapCall, GapTold, GapLaws}
use Rattle.table.specs.Limits.{limits, table_length, witness_length}
use Rattle.table.specs.Rule.{Rule}
use Rattle.table.specs.Sound.{SoundTable}
use Rattle.table.proofs.Laws.{demand_2}
use Rattle.table.proofs.SoundFacts.{table_sound}

-- a number that is not 0
positive : (n : ℕ) → (n ≡ 0 → ⊥) → 1 ≤ n
positive zero f = absurd (f refl)
positive (suc n) f = omega arith

module _ {sig : Signature} {rs : List Rule} {dft : ℕ} where
  -- a gap gets the default
  at_gap : (g : Gap sig rs) (bs : List ℕ) → g.booking ≡ bs → (a : Answer) → ByRelation dft sig rs bs a → a ≡ no_rule dft
  at_gap g bs e a r = r.default_is (r.default.1 (subst (λ z. (q : Rule) → In q rs → (σ : Binds) × TakesNot sig q.pattern z σ) e g.failed))

  -- and where there is none every lawful booking gets a rule
  by_a_rule : (Gap sig rs → ⊥) → (bs : List ℕ) (v : Value) → read_booking sig bs ≡ some v → (a : Answer) → ByRelation dft sig rs bs a → 1 ≤ a.rule
  by_a_rule f bs v b a r = positive a.rule (λ e. f (record { booking = bs; value = v; lawful = booking_lawful sig bs v b; failed = r.default.0 e }))

-- rules of which the one list has all of the other's
gap_of : {sig : Signature} {rs qs : List Rule} → ((r : Rule) → In r qs → In r rs) → Gap sig rs → Gap sig qs
gap_of f g = record { booking = g.booking; value = g.value; lawful = g.lawful; failed = λ r i. g.failed r (f r i) }

module _ (ss : List ℕ) (sig : Signature) (lawful : read_signature ss ≡ some sig) (table : List ℕ) (rs : List Rule) (h : SoundTable limits sig table rs) where
  started : (witness : List ℕ) (b : Bool) → long_witness witness ≡ b → enter_start limits ss table witness ≡ start limits ss b table
  started witness b q = ap₂ (λ x y. start limits ss (x && y) table) (leb_yes (table_length limits) (length table) h.long) q

  begun : start limits ss true table ≡ begin sig rs
  begun = rw (lawful, table_sound sig (ss, lawful) table rs h)

  short : start limits ss false table ≡ refused 2
  short = rw lawful

  module _ (witness witness' : List ℕ) (number len : ℕ) (k : GapCall limits ss table witness number len witness') where
    from : {s : Start} → enter_start limits ss table witness ≡ s → GapFrom s witness number len witness'
    from e = subst (λ s. GapFrom s witness number len witness') e k.result_is

    -- a long witness buffer is not refused
    pub long_gap : witness_length ≤ length witness → (number ≡ 0) × ShowsGap sig rs len witness witness'
    long_gap l = from (started witness true (leb_yes witness_length (length witness) l) ∙ begun)

    either : ((number ≡ 2) × (len ≡ 0)) ⊎ ((number ≡ 0) × ShowsGap sig rs len witness witness')
    either = go (long_witness witness) refl
      where
        go : (b : Bool) → long_witness witness ≡ b → ((number ≡ 2) × (len ≡ 0)) ⊎ ((number ≡ 0) × ShowsGap sig rs len witness witness')
        go true q = inr (from (started witness true q ∙ begun))
        go false q = let (a, b, c) = from (started witness false q ∙ short) in inl (a, b)

    -- nothing is refused
    zero_shows : number ≡ 0 → ShowsGap sig rs len witness witness'
    zero_shows e = go either
      where
        go : ((number ≡ 2) × (len ≡ 0)) ⊎ ((number ≡ 0) × ShowsGap sig rs len witness witness') → ShowsGap sig rs len witness witness'
        go (inl (a, b)) = absurd (omega (arith, a, e))
        go (inr (a, s)) = s

    -- the booking shown
    one_shown : 1 ≤ len → (number ≡ 0) × (g : Gap sig rs) × (g.booking ≡ take len witness')
    one_shown l = go either
      where
        go : ((number ≡ 2) × (len ≡ 0)) ⊎ ((number ≡ 0) × ShowsGap sig rs len witness witness') → (number ≡ 0) × (g : Gap sig rs) × (g.booking ≡ take len witness')
        go (inl (a, b)) = absurd (omega (arith, l, b))
        go (inr (a, s)) =
            let (g, b, c) = s.one_there l in
            (a, g, sym (ap (take len) c ∙ take_exact len g.booking (drop len witness) (sym b)))

    lawful_shown : (l : 1 ≤ len) → LawfulBooking sig (take len witness') (one_shown l).1.value
    lawful_shown l = subst (λ z. LawfulBooking sig z (one_shown l).1.value) (one_shown l).2 (one_shown l).1.lawful

    pub told : GapTold ss sig table rs number len witness'
    told = record {
      exactly = λ e. (λ l. (one_shown l).1, λ g. positive len (λ z. ((zero_shows e).none_there z).0 g));
      shown = λ l. ((one_shown l).0, (one_shown l).1.value, lawful_shown l);
      shown_decided = λ l n a c.
          let v = (one_shown l).1.value in
          let (x, y) = demand_2.decides ss sig lawful table rs h (take len witness') v (lawful_booking sig (take len witness') v (lawful_shown l)) n a c in
          (x, at_gap (one_shown l).1 (take len witness') (one_shown l).2 a y);
      shown_run = λ l space space' behind m n a c d.
          let v = (one_shown l).1.value in
          let (x, y) = demand_2.runs ss sig lawful table rs h space space' behind m c (take len witness') v (lawful_booking sig (take len witness') v (lawful_shown l)) n a d in
          (x, at_gap (one_shown l).1 (take len witness') (one_shown l).2 a y);
      none_decided = λ e z bs v b n a c.
          let (x, y) = demand_2.decides ss sig lawful table rs h bs v b n a c in
          (x, by_a_rule ((zero_shows e).none_there z).0 bs v b a y);
      none_run = λ e z bs v b space space' behind m n a c d.
          let (x, y) = demand_2.runs ss sig lawful table rs h space space' behind m c bs v b n a d in
          (x, by_a_rule ((zero_shows e).none_there z).0 bs v b a y);
    }

pub gap_laws : GapLaws
gap_laws = record {
  told = told;
  same_rules = λ ss sig lawful table table' rs qs h h' s witness witness' out out' len len' k k'.
      let (a, b) = (told ss sig lawful table rs h witness out 0 len k).exactly refl in
      let (c, d) = (told ss sig lawful table' qs h' witness' out' 0 len' k').exactly refl in
      (λ l. d (gap_of s.from (a l)), λ l. b (gap_of s.to (c l)));
}
