-- The call's number is that of the first refusal that applies, and a refusal leaves the list as it was.
use mathlib.Core.Path.{◌≡◌, refl, ap, sym, subst, ◌∙◌}
use mathlib.Core.Logic.{◌⊎◌, inl, inr}
use mathlib.Core.List.{List, [], ◌∷◌, map}
use mathlib.Core.Option.{Option, none, some}
use mathlib.Core.Bool.{Bool, true, false}
use Prim.Native.Nat.{ℕ}
use native.Mathlib.Omega.{arith}
use lib.Dec.{eqb}
use Rattle.signature.specs.Lawful.{SignatureWords}
use Rattle.signature.specs.Read.{read_signature}
use Rattle.signature.specs.Signature.{Signature}
use Rattle.signature.proofs.SignatureBack.{signature_is, is_signature}
use Rattle.signature.proofs.Tests.{none≢some, eqb_eq, eqb_ne}
use Rattle.tree.specs.RunCall.{RunCall, run_signature}
use Rattle.table.specs.Demand1.{FirstOf, Unlawful, run_refusals}
use Rattle.table.proofs.Demand1Facts.{demand_1}
use Rattle.charges.specs.Charge.{Charge, list_words, ChargeWords, MalformedList, read_charges}
use Rattle.charges.specs.Laws.{charges_in, by_record, replan_refusals, FirstRun, none_refused, refused_here, refused_later}
use Rattle.charges.specs.Replan.{new_answer, first_refused, answered, differing, Outcome, refused as refused_with, replan_charges, replan_list, replan_signature, ReplanCall}
use Rattle.charges.proofs.Malformed.{malformed}
use Rattle.charges.proofs.Words.{words_read}

-- under a lawful signature
module _ (ss tree : List ℕ) (sig : Signature) (lawful : read_signature ss ≡ some sig) where
  -- the single run of a charge's booking
  pub single_run : (c : Charge) → RunCall ss tree c.booking (new_answer sig tree c).0 (new_answer sig tree c).1
  single_run c = record { result_is = sym (ap (λ o. run_signature o tree c.booking) lawful) }

  is_lawful : Unlawful ss → ⊥
  is_lawful u = u sig (signature_is ss sig lawful)

  -- "13 and 15 follow record by record"
  first_record : (cs : List Charge) → FirstOf (by_record ss tree cs) (first_refused sig tree cs)
  first_record [] = refl
  first_record (c ∷ cs) = go (demand_1.run ss tree c.booking (new_answer sig tree c).0 (new_answer sig tree c).1 (single_run c)).0 (first_record cs)
    where
      go : FirstOf (run_refusals ss tree c.booking) (new_answer sig tree c).0 → FirstOf (by_record ss tree cs) (first_refused sig tree cs) → FirstOf (by_record ss tree (c ∷ cs)) (first_refused sig tree (c ∷ cs))
      go (inl (u, e)) f = absurd (is_lawful u)
      go (inr (u, inl (b, e))) f = inl (b, rw e)
      go (inr (u, inr (b, inl (t, e)))) f = inr (b, inl (t, rw e))
      go (inr (u, inr (b, inr (t, e)))) f = inr (b, inr (t, rw e f))

  first_run : (cs : List Charge) → FirstRun ss tree cs (first_refused sig tree cs)
  first_run [] = none_refused
  first_run (c ∷ cs) = go (eqb (new_answer sig tree c).0 0) refl (first_run cs)
    where
      go : (b : Bool) → eqb (new_answer sig tree c).0 0 ≡ b → FirstRun ss tree cs (first_refused sig tree cs) → FirstRun ss tree (c ∷ cs) (first_refused sig tree (c ∷ cs))
      go true q f = rw q (refused_later (subst (λ n. RunCall ss tree c.booking n (new_answer sig tree c).1) (eqb_eq (new_answer sig tree c).0 0 q) (single_run c)) f)
      go false q f = rw q (refused_here (single_run c) (eqb_ne (new_answer sig tree c).0 0 q))

  charges_number : (before : List ℕ) (cs : List Charge) → (replan_charges sig tree before cs).0 ≡ first_refused sig tree cs
  charges_number before cs = go (eqb (first_refused sig tree cs) 0) refl
    where
      go : (b : Bool) → eqb (first_refused sig tree cs) 0 ≡ b → (replan_charges sig tree before cs).0 ≡ first_refused sig tree cs
      go true q = rw q (sym (eqb_eq (first_refused sig tree cs) 0 q))
      go false q = rw q

pub runs : (ss tree before : List ℕ) (sig : Signature) (cs : List Charge) → SignatureWords ss sig → ChargeWords before cs → (number changed : ℕ) (after : List ℕ) → ReplanCall ss tree before number changed after → FirstRun ss tree cs number
runs ss tree before sig cs s w number changed after h =
    let lawful : read_signature ss ≡ some sig = is_signature ss sig s in
    let e : number ≡ first_refused sig tree cs = ap (λ t. t.0) (h.result_is ∙ ap (λ o. replan_signature o tree before) lawful ∙ ap (replan_list sig tree before) (words_read before cs w)) ∙ charges_number ss tree sig lawful before cs in
    subst (FirstRun ss tree cs) (sym e) (first_run ss tree sig lawful cs)

-- a refused call, and one that is not
pub record Refused (before : List ℕ) (number changed : ℕ) (after : List ℕ) : Type 0 where
  pub not_0 : number ≡ 0 → ⊥
  pub changed_is : changed ≡ 0
  pub after_is : after ≡ before

pub record Answered (ss tree before : List ℕ) (number changed : ℕ) (after : List ℕ) : Type 0 where
  pub sig : Signature
  pub charges : List Charge
  pub lawful : read_signature ss ≡ some sig
  pub read : read_charges before ≡ some charges
  pub none_refused : first_refused sig tree charges ≡ 0
  pub number_is : number ≡ 0
  pub changed_is : changed ≡ differing charges (map (answered sig tree) charges)
  pub after_is : after ≡ list_words (map (answered sig tree) charges)

abbrev pub Ends : List ℕ → List ℕ → List ℕ → ℕ → ℕ → List ℕ → Type 0
Ends ss tree before number changed after = Refused before number changed after ⊎ Answered ss tree before number changed after

module _ (ss tree before : List ℕ) where
  call_number : FirstOf (replan_refusals ss tree before) (replan_signature (read_signature ss) tree before).0
  call_number = on_1 (read_signature ss) refl
    where
      on_20 : (sig : Signature) → read_signature ss ≡ some sig → (o : Option (List Charge)) → read_charges before ≡ o → FirstOf ((20, MalformedList before) ∷ by_record ss tree (charges_in o)) (replan_list sig tree before o).0
      on_20 sig lawful none e = inl ((malformed before).0 e, refl)
      on_20 sig lawful (some cs) e = inr (λ m. none≢some (sym ((malformed before).1 m) ∙ e), subst (FirstOf (by_record ss tree cs)) (sym (charges_number ss tree sig lawful before cs)) (first_record ss tree sig lawful cs))

      on_1 : (o : Option Signature) → read_signature ss ≡ o → FirstOf (replan_refusals ss tree before) (replan_signature o tree before).0
      on_1 none e = inl (λ sig w. none≢some (sym e ∙ is_signature ss sig w), refl)
      on_1 (some sig) e = inr (is_lawful ss tree sig e, on_20 sig e (read_charges before) refl)

  module _ (number changed : ℕ) (after : List ℕ) where
    pub outcome : ReplanCall ss tree before number changed after → Ends ss tree before number changed after
    outcome h = on_1 (read_signature ss) refl h.result_is
      where
        turned_down : (n : ℕ) → (n ≡ 0 → ⊥) → (number, changed, after) ≡ refused_with n before → Refused before number changed after
        turned_down n f e = record { not_0 = λ z. f (sym (ap (λ t. t.0) e) ∙ z); changed_is = ap (λ t. t.1) e; after_is = ap (λ t. t.2) e }

        on_13 : (sig : Signature) (cs : List Charge) → read_signature ss ≡ some sig → read_charges before ≡ some cs → (b : Bool) → eqb (first_refused sig tree cs) 0 ≡ b → (number, changed, after) ≡ replan_charges sig tree before cs → Ends ss tree before number changed after
        on_13 sig cs lawful read true q e =
            let e' : ◌≡◌ {A = Outcome} (number, changed, after) (0, differing cs (map (answered sig tree) cs), list_words (map (answered sig tree) cs)) = rw q at e in
            inr (record { sig = sig; charges = cs; lawful = lawful; read = read; none_refused = eqb_eq (first_refused sig tree cs) 0 q; number_is = ap (λ t. t.0) e'; changed_is = ap (λ t. t.1) e'; after_is = ap (λ t. t.2) e' })
        on_13 sig cs lawful read false q e = inl (turned_down (first_refused sig tree cs) (eqb_ne (first_refused sig tree cs) 0 q) (rw q at e))

        on_20 : (sig : Signature) → read_signature ss ≡ some sig → (o : Option (List Charge)) → read_charges before ≡ o → (number, changed, after) ≡ replan_list sig tree before o → Ends ss tree before number changed after
        on_20 sig lawful none read e = inl (turned_down 20 (λ z. omega arith) e)
        on_20 sig lawful (some cs) read e = on_13 sig cs lawful read (eqb (first_refused sig tree cs) 0) refl e

        on_1 : (o : Option Signature) → read_signature ss ≡ o → (number, changed, after) ≡ replan_signature o tree before → Ends ss tree before number changed after
        on_1 none lawful e = inl (turned_down 1 (λ z. omega arith) e)
        on_1 (some sig) lawful e = on_20 sig lawful (read_charges before) refl e

    pub refused : ReplanCall ss tree before number changed after → FirstOf (replan_refusals ss tree before) number × ((number ≡ 0 → ⊥) → (changed ≡ 0) × (after ≡ before))
    refused h = (subst (FirstOf (replan_refusals ss tree before)) (sym (ap (λ t. t.0) h.result_is)) call_number, as_it_was (outcome h))
      where
        as_it_was : Ends ss tree before number changed after → (number ≡ 0 → ⊥) → (changed ≡ 0) × (after ≡ before)
        as_it_was (inl r) f = (r.changed_is, r.after_is)
        as_it_was (inr a) f = absurd (f a.number_is)

  pub not_refused : (changed : ℕ) (after : List ℕ) → ReplanCall ss tree before 0 changed after → Answered ss tree before 0 changed after
  not_refused changed after h = go (outcome 0 changed after h)
    where
      go : Ends ss tree before 0 changed after → Answered ss tree before 0 changed after
      go (inl r) = absurd (r.not_0 refl)
      go (inr a) = a
