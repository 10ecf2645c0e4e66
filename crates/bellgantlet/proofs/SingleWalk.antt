-- The steps of a check end in the number of the other calls' check.
use mathlib.Core.Logic.{◌⊎◌, inl, inr}
use mathlib.Core.Path.{◌≡◌, sym, subst, ◌∙◌}
use mathlib.Core.List.{List, [], ◌∷◌}
use mathlib.Core.Option.{Option, some, none}
use Prim.Native.Nat.{ℕ, ◌≤◌}
use native.Mathlib.Omega.{arith}
use lib.ListN.{length}
use Rattle.signature.specs.Part.{part_call, part_signature}
use Rattle.signature.specs.Read.{read_signature}
use Rattle.signature.specs.Signature.{Signature}
use Rattle.table.specs.Demand1.{FirstOf, Under, Broken, part_refusals}
use Rattle.bellgantlet.specs.SingleWalk.{stepped_number, check_refusals, FirstChecked, all_answered, turned_down, broken_tree, next_checked, SingleWalk}
use Rattle.stepping.proofs.Laws.{laws}
use Rattle.table.proofs.Demand1Facts.{demand_1}
use Rattle.charges.specs.Charge.{Charge}
use Rattle.charges.specs.Laws.{FirstRun, none_refused, refused_here, refused_later}
use Rattle.charges.proofs.Laws as charges_laws
use Rattle.tree.specs.Answer.{Answer}
use Rattle.tree.specs.RunCall.{RunCall}

-- no words are no booking
no_words : (ss bs : List ℕ) → length bs ≤ 0 → (part_call ss bs 0).0 ≡ 16 → ⊥
no_words ss [] l e = go (read_signature ss) e
  where
    go : (o : Option Signature) → (part_signature o [] 0).0 ≡ 16 → ⊥
    go none f = omega arith
    go (some sig) f = omega arith
no_words ss (w ∷ ws) l e = omega arith

first : (ss bs : List ℕ) (m : ℕ) → m ≡ (part_call ss bs 0).0 → FirstOf (part_refusals ss bs 0) m → FirstOf (check_refusals ss bs) m
first ss bs m e (inl p) = inl p
first ss bs m e (inr (n, inl p)) = inr (n, inl p)
first ss bs m e (inr (n, inr (k, inl (l, f)))) = absurd (no_words ss bs l (sym e ∙ f))
first ss bs m e (inr (n, inr (k, inr (l, f)))) = inr (n, inr (k, f))

refusals : (ss bs : List ℕ) → FirstOf (check_refusals ss bs) (stepped_number ss bs)
refusals ss bs = first ss bs (stepped_number ss bs) (laws.ends ss bs) (subst (FirstOf (part_refusals ss bs 0)) (sym (laws.ends ss bs)) (demand_1.part ss bs 0).0)

-- two numbers by the same first refusals, of which one has another behind them
module _ {U B : Type 0} (n : ℕ) where
  behind : (C : Type 0) (q m : ℕ) → FirstOf ((1, U) ∷ (13, B) ∷ (q, C) ∷ []) m → FirstOf ((1, U) ∷ (13, B) ∷ []) n → (m ≡ n) ⊎ ((n ≡ 0) × (m ≡ q))
  behind C q m (inl (u, e)) (inl (v, f)) = inl (e ∙ sym f)
  behind C q m (inl (u, e)) (inr (h, f)) = absurd (h u)
  behind C q m (inr (h, e)) (inl (v, f)) = absurd (h v)
  behind C q m (inr (h, inl (b, e))) (inr (k, inl (d, f))) = inl (e ∙ sym f)
  behind C q m (inr (h, inl (b, e))) (inr (k, inr (d, f))) = absurd (d b)
  behind C q m (inr (h, inr (b, e))) (inr (k, inl (d, f))) = absurd (b d)
  behind C q m (inr (h, inr (b, inl (c, e)))) (inr (k, inr (d, f))) = inr (f, e)
  behind C q m (inr (h, inr (b, inr (c, e)))) (inr (k, inr (d, f))) = inl (e ∙ sym f)

  -- or two between them
  between : {C D : Type 0} (m : ℕ) → FirstOf ((1, U) ∷ (2, C) ∷ (3, D) ∷ (13, B) ∷ []) m → FirstOf ((1, U) ∷ (13, B) ∷ []) n → (m ≡ n) ⊎ ((m ≡ 2) ⊎ (m ≡ 3))
  between m (inl (u, e)) (inl (v, f)) = inl (e ∙ sym f)
  between m (inl (u, e)) (inr (h, f)) = absurd (h u)
  between m (inr (h, e)) (inl (v, f)) = absurd (h v)
  between m (inr (h, inl (c, e))) (inr g) = inr (inl e)
  between m (inr (h, inr (c, inl (d, e)))) (inr g) = inr (inr e)
  between m (inr (h, inr (c, inr (d, inl (b, e))))) (inr (k, inl (x, f))) = inl (e ∙ sym f)
  between m (inr (h, inr (c, inr (d, inl (b, e))))) (inr (k, inr (x, f))) = absurd (x b)
  between m (inr (h, inr (c, inr (d, inr (b, e))))) (inr (k, inl (x, f))) = absurd (b x)
  between m (inr (h, inr (c, inr (d, inr (b, e))))) (inr (k, inr (x, f))) = inl (e ∙ sym f)

walked : (ss tree bs : List ℕ) (number : ℕ) (a : Answer) → RunCall ss tree bs number a → (number ≡ stepped_number ss bs) ⊎ ((stepped_number ss bs ≡ 0) × (number ≡ 15))
walked ss tree bs number a c = behind (stepped_number ss bs) (Under ss (λ sig. Broken sig tree bs)) 15 number (demand_1.run ss tree bs number a c).0 (refusals ss bs)

-- a list of bookings, by their single runs
checked : (ss tree : List ℕ) {cs : List Charge} {n : ℕ} → FirstRun ss tree cs n → FirstChecked ss cs n
checked ss tree none_refused = all_answered
checked ss tree (refused_here {c = c} {cs = cs} {n = n} {a = a} r f) = go (walked ss tree c.booking n a r)
  where
    go : (n ≡ stepped_number ss c.booking) ⊎ ((stepped_number ss c.booking ≡ 0) × (n ≡ 15)) → FirstChecked ss (c ∷ cs) n
    go (inl e) = turned_down e f
    go (inr (z, e)) = subst (FirstChecked ss (c ∷ cs)) (sym e) (broken_tree z)
checked ss tree (refused_later {c = c} {a = a} r rs) = next_checked (go (walked ss tree c.booking 0 a r)) (checked ss tree rs)
  where
    go : (0 ≡ stepped_number ss c.booking) ⊎ ((stepped_number ss c.booking ≡ 0) × (◌≡◌ {A = ℕ} 0 15)) → stepped_number ss c.booking ≡ 0
    go (inl e) = sym e
    go (inr (z, e)) = z

pub single_walk : SingleWalk
single_walk = record {
  refusals = refusals;
  part = λ ss bs place. behind (stepped_number ss bs) (length bs ≤ place) 16 (part_call ss bs place).0 (demand_1.part ss bs place).0 (refusals ss bs);
  run = walked;
  decide = λ ss table bs number a c. between (stepped_number ss bs) number (demand_1.decide ss table bs number a c).0 (refusals ss bs);
  replan = λ ss tree before sig cs s w number changed after h. checked ss tree ((charges_laws.laws).runs ss tree before sig cs s w number changed after h);
}
