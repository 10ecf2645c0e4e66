-- An answer by the one rule that takes the booking says of each rule what demand 2 asks.
use mathlib.Core.Path.{◌≡◌, refl, ap, sym, subst}
use mathlib.Core.Logic.{◌⊎◌, inl, inr}
use mathlib.Core.List.{List}
use mathlib.Core.Option.{some}
use Prim.Native.Nat.{ℕ, ◌≤◌}
use native.Mathlib.Omega.{arith}
use Rattle.signature.specs.Lists.{In, in_here, in_there}
use Rattle.signature.specs.Read.{read_booking, Signed}
use Rattle.signature.specs.Signature.{Signature}
use Rattle.signature.specs.Value.{Value}
use Rattle.pattern.specs.Match.{Binds}
use Rattle.pattern.specs.Takes.{Takes, TakesNot}
use Rattle.row.proofs.PassedFacts.{of_passed}
use Rattle.tree.specs.Answer.{Answer}
use Rattle.table.specs.Decide.{Answered, by_default, by_rule, OneRule}
use Rattle.table.specs.Demand2.{ByRelation}
use Rattle.table.specs.Limits.{limits}
use Rattle.table.specs.Rule.{Rule, Rises, rises_nil, rises_cons}
use Rattle.table.specs.Sound.{SoundTable}
use Rattle.table.proofs.Demand2Facts.{one_rule}
use Rattle.table.proofs.Reckoning.{in_above}

-- rising rules have each number once
same_number : {m : ℕ} {rs : List Rule} (r s : Rule) → Rises m rs → In r rs → In s rs → r.number ≡ s.number → r ≡ s
same_number r s (rises_nil {m = m}) x10 _ e = elim x10 [ ]
same_number r s (rises_cons a b h) in_here in_here e = refl
same_number r s (rises_cons a b h) in_here (in_there j) e = absurd (omega (arith, e, in_above s h j))
same_number r s (rises_cons a b h) (in_there i) in_here e = absurd (omega (arith, e, in_above r h i))
same_number r s (rises_cons a b h) (in_there i) (in_there j) e = same_number r s h i j e

module _ (dft : ℕ) (sig : Signature) (signed : Signed sig) (table : List ℕ) (rs : List Rule) (h : SoundTable limits sig table rs) (bs : List ℕ) (v : Value) (b : read_booking sig bs ≡ some v) where
  one : (r : Rule) → In r rs → OneRule dft sig r bs v
  one r i = one_rule dft sig r bs v (of_passed sig signed r.pattern (h.passed r i)) b

  numbered : (r : Rule) → In r rs → 1 ≤ r.number
  numbered r i = in_above r h.rises i

  -- what is not taken fails
  fails : (r : Rule) → In r rs → ((σ : Binds) → Takes sig r.pattern bs σ → ⊥) → (σ : Binds) × TakesNot sig r.pattern bs σ
  fails r i f = go (one r i).either
    where
      go : ((σ : Binds) × Takes sig r.pattern bs σ) ⊎ ((σ : Binds) × TakesNot sig r.pattern bs σ) → (σ : Binds) × TakesNot sig r.pattern bs σ
      go (inl (σ, x)) = absurd (f σ x)
      go (inr y) = y

  pub by_relation : (a : Answer) → Answered dft sig rs bs a → ByRelation dft sig rs bs a
  by_relation a (by_rule q σ ps i x u f) = record {
    numbered = numbered;
    takes = λ r j. (λ e. (σ, subst (λ z. Takes sig z.pattern bs σ) (same_number q r h.rises i j e) x), λ y. sym (ap (λ z. z.number) (u r y.0 j y.1)));
    takes_not = λ r j. (λ n. fails r j (λ τ y. n (sym (ap (λ z. z.number) (u r τ j y)))), λ y e. (one r j).not_both σ y.0 (subst (λ z. Takes sig z.pattern bs σ) (same_number q r h.rises i j e) x) y.1);
    places = λ r τ j y. (sym (ap (λ z. z.plan) (u r τ j y)), f τ (subst (λ z. Takes sig z.pattern bs τ) (u r τ j y) y));
    default = (λ e. absurd (omega (arith, e, numbered q i)), λ g. absurd ((one q i).not_both σ (g q i).0 x (g q i).1));
    default_is = λ e. absurd (omega (arith, e, numbered q i));
  }
  by_relation a (by_default g) = record {
    numbered = numbered;
    takes = λ r j. (λ e. absurd (omega (arith, e, numbered r j)), λ y. absurd ((one r j).not_both y.0 (g r j).0 y.1 (g r j).1));
    takes_not = λ r j. (λ n. g r j, λ y e. omega (arith, e, numbered r j));
    places = λ r τ j y. absurd ((one r j).not_both τ (g r j).0 y (g r j).1);
    default = (λ e. g, λ k. refl);
    default_is = λ e. refl;
  }
