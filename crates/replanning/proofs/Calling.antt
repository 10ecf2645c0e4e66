-- The call replan, refusal by refusal.
use mathlib.Core.Path.{◌≡◌, refl, sym, ap, ap₂, ◌∙◌}
use mathlib.Core.List.{List, [], ◌∷◌, map}
use mathlib.Core.Option.{some}
use mathlib.Core.Bool.{true, false}
use Prim.Native.Nat.{ℕ}
use Rattle.std.specs.Prelude.{Result}
use Rattle.signature.specs.Decoded.{Known}
use Rattle.signature.specs.Lists.{is_some}
use Rattle.signature.specs.Read.{read_signature}
use Rattle.signature.specs.Refusal.{number_in}
use Rattle.signature.specs.declared.refusals.Refusal.{Refusal}
use Rattle.signature.specs.Signature.{Signature}
use Rattle.signature.proofs.Tests.{eqb_no}
use Rattle.booking.proofs.PartLaws.{Of, there, missing}
use Rattle.charges.specs.Charge.{Charge, list_words, read_charges}
use Rattle.charges.specs.Laws.{Each, each_none, each_also}
use Rattle.charges.specs.Replan.{answered, first_refused, differing, refused, replan_list, ReplanCall}
use Rattle.charges.proofs.Words.{read_words, words_read}
use Rattle.replanning.specs.Outcome.{changed_in, outcome}
use Rattle.replanning.specs.Parts.{Charged, Answers, SameBooking, Writable}

module _ (sig : Signature) (tree before : List ℕ) where
  pub refused_20 : false ≡ is_some (read_charges before) → refused 20 before ≡ replan_list sig tree before (read_charges before)
  refused_20 e = sym (ap (replan_list sig tree before) (missing (read_charges before) e))

  pub charged : true ≡ is_some (read_charges before) → Charged before
  charged e = let (cs, q) = there (read_charges before) e in record { charges = cs; words = read_words before cs q }

  pub same_bookings : (cs : List Charge) → Each SameBooking cs (map (answered sig tree) cs)
  same_bookings [] = each_none
  same_bookings (c ∷ cs) = each_also refl (same_bookings cs)

  module _ (k : Charged before) where
    listed : replan_list sig tree before (read_charges before) ≡ replan_list sig tree before (some k.charges)
    listed = ap (replan_list sig tree before) (words_read before k.charges k.words)

    pub refused_record : (n : ℕ) → n ≡ first_refused sig tree k.charges → (n ≡ 0 → ⊥) → refused n before ≡ replan_list sig tree before (read_charges before)
    refused_record n e l = sym (listed ∙ rw (← e, eqb_no n 0 l))

    abbrev pub writable : {answers : List ℕ} → Answers (map (answered sig tree) k.charges) answers → Writable answers before
    writable found = record { old = k.charges; new = map (answered sig tree) k.charges; words = k.words; each = same_bookings k.charges; found = found }

    pub replanned : {changed : ℕ} {after : List ℕ} → 0 ≡ first_refused sig tree k.charges → changed ≡ differing k.charges (map (answered sig tree) k.charges) → after ≡ list_words (map (answered sig tree) k.charges) → (0, changed, after) ≡ replan_list sig tree before (read_charges before)
    replanned e f g = ap₂ (λ m ws. (0, m, ws)) f g ∙ sym (listed ∙ rw (← e))

pub refused_1 : (ss tree before : List ℕ) → false ≡ is_some (read_signature ss) → ReplanCall ss tree before 1 0 before
refused_1 ss tree before e = record { result_is = rw (missing (read_signature ss) e) }

pub decoded_replan : {ss t : List ℕ} (o : Of ss t) (tree before after : List ℕ) (r : Result ℕ Refusal) → ((g : Known t) → outcome r after ≡ replan_list g.sig tree before (read_charges before)) → ReplanCall ss tree before (number_in r) (changed_in r) after
decoded_replan o tree before after r f = record { result_is = f o.known ∙ rw o.read }
