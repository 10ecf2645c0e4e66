-- What a host is handed, from what the calls ensure.
use mathlib.Core.Path.{◌≡◌, refl, sym, ap, subst, ◌∙◌}
use mathlib.Core.List.{List, []}
use mathlib.Core.Option.{Option, some, none}
use mathlib.Core.Bool.{Bool, true, false, cond}
use Prim.Native.Nat.{ℕ, suc, ◌<◌, ◌≤◌}
use native.Mathlib.Decide.{dec_le}
use native.Mathlib.Omega.{arith}
use lib.ListN.{length, take, drop}
use lib.Dec.{ltb}
use Rattle.signature.specs.Part.{part_call, part_signature, part_booking, part_words, part_at}
use Rattle.signature.specs.Read.{read_signature, read_booking}
use Rattle.signature.specs.Signature.{Signature}
use Rattle.signature.specs.Value.{Value}
use Rattle.signature.proofs.PartFacts.{part_given, part_refused_16}
use Rattle.signature.proofs.Tests.{eqb_no}
use Rattle.signature.proofs.Values.{length_code, some_size}
use Rattle.table.specs.Limits.{limits}
use Rattle.table.specs.Calls.{Enter, DecideCall}
use Rattle.entry.specs.Entry.{entry_answer}
use Rattle.entry.specs.declared.sound.Entry.{Entry}
use Rattle.std.specs.Prelude.{Result}
use Rattle.signature.specs.Refusal.{number_in}
use Rattle.signature.specs.declared.refusals.Refusal.{Refusal}
use Rattle.tree.specs.RunCall.{RunCall}
use Rattle.run.specs.Outcome.{ran_answer}
use Rattle.run.specs.declared.Answer.{Answer as Given}
use Rattle.bellgantlet.specs.Answers.{PartCall, host_answer}
use Rattle.bellgantlet.specs.declared.Answer.{Answer as HostAnswer}

-- an entry's answer, by its case
pub by_case : (ss : List ℕ) (n plan : ℕ) (ws before witness : List ℕ) (e e' : Entry) (after witness' : List ℕ) → e ≡ e' → Enter limits ss n plan ws before witness (entry_answer e) after witness' → Enter limits ss n plan ws before witness (entry_answer e') after witness'
by_case ss n plan ws before witness e e' after witness' p h = subst (λ z. Enter limits ss n plan ws before witness (entry_answer z) after witness') p h

-- an answer of a decision or a run, by its struct
module _ (r : Result Given Refusal) (a : HostAnswer) (s : (a.number ≡ number_in r) × (host_answer a ≡ ran_answer r)) where
  pub as_decided : (ss table bs : List ℕ) → DecideCall limits ss table bs (number_in r) (ran_answer r) → DecideCall limits ss table bs a.number (host_answer a)
  as_decided ss table bs h = subst (λ n. DecideCall limits ss table bs n (host_answer a)) (sym s.0) (subst (λ x. DecideCall limits ss table bs (number_in r) x) (sym s.1) h)

  pub as_run : (ss tree bs : List ℕ) → RunCall ss tree bs (number_in r) (ran_answer r) → RunCall ss tree bs a.number (host_answer a)
  as_run ss tree bs h = subst (λ n. RunCall ss tree bs n (host_answer a)) (sym s.0) (subst (λ x. RunCall ss tree bs (number_in r) x) (sym s.1) h)

-- on a refusal the part is empty
none_16 : (b : Bool) (ws : List ℕ) → ((cond {A = ℕ × List ℕ} b (0, ws) (16, [])).0 ≡ 0 → ⊥) → (cond {A = ℕ × List ℕ} b (0, ws) (16, [])).1 ≡ []
none_16 true ws f = absurd (f refl)
none_16 false ws f = refl

none_13 : (bs : List ℕ) (place : ℕ) (o : Option Value) → ((part_booking bs place o).0 ≡ 0 → ⊥) → (part_booking bs place o).1 ≡ []
none_13 bs place none f = refl
none_13 bs place (some v) f = none_16 (ltb place (length bs)) (part_words (part_at v place)) f

none_1 : (o : Option Signature) (bs : List ℕ) (place : ℕ) → ((part_signature o bs place).0 ≡ 0 → ⊥) → (part_signature o bs place).1 ≡ []
none_1 none bs place f = refl
none_1 (some sig) bs place f = none_13 bs place (read_booking sig bs) f

-- and else it stands at the place, a word of it at least
pub record There (ss bs : List ℕ) (place : ℕ) : Type 0 where
  pub words : take (length (part_call ss bs place).1) (drop place bs) ≡ (part_call ss bs place).1
  pub some_word : 1 ≤ length (part_call ss bs place).1

module _ (ss bs : List ℕ) (place : ℕ) (z : (part_call ss bs place).0 ≡ 0) where
  there_16 : (sig : Signature) (v : Value) → read_signature ss ≡ some sig → read_booking sig bs ≡ some v → Dec (place < length bs) → There ss bs place
  there_16 sig v e r (yes l) =
      let (u, b, call, words) = part_given ss sig bs v place e r l in
      let is = ap (λ y. y.1) call in
      let n = ap length is ∙ length_code u in
      record {
        words = ap (λ k. take k (drop place bs)) n ∙ sym words ∙ sym is;
        some_word = omega (arith, n, some_size u);
      }
  there_16 sig v e r (no l) = absurd (let q : 16 ≡ 0 = sym (ap (λ y. y.0) (part_refused_16 ss sig bs v place e r (omega arith))) ∙ z in omega (arith, q))

  there_13 : (sig : Signature) (o : Option Value) → read_signature ss ≡ some sig → read_booking sig bs ≡ o → There ss bs place
  there_13 sig none e r = absurd (let q : 13 ≡ 0 = sym (ap (λ o. (part_booking bs place o).0) r) ∙ sym (ap (λ o. (part_signature o bs place).0) e) ∙ z in omega (arith, q))
  there_13 sig (some v) e r = there_16 sig v e r (dec_le (suc place) (length bs))

  there_1 : (o : Option Signature) → read_signature ss ≡ o → There ss bs place
  there_1 none e = absurd (let q : 1 ≡ 0 = sym (ap (λ o. (part_signature o bs place).0) e) ∙ z in omega (arith, q))
  there_1 (some sig) e = there_13 sig (read_booking sig bs) e refl

module _ (ss bs : List ℕ) (place : ℕ) (p : List ℕ) (w : p ≡ (part_call ss bs place).1) where
  pub no_part : (n : ℕ) → n ≡ (part_call ss bs place).0 → length p ≡ 0 → PartCall ss bs place n 0 0
  no_part n e l =
      let f : n ≡ 0 → ⊥ = λ q. omega (arith, l, ap length w, (there_1 ss bs place (sym e ∙ q) (read_signature ss) refl).some_word) in
      let nothing = none_1 (read_signature ss) bs place (λ q. f (e ∙ q)) in
      record {
        number_is = e;
        start_is = sym (ap (λ b. cond b place 0) (eqb_no n 0 f));
        length_is = sym (ap length nothing);
        words_are = sym nothing;
      }

  done : (length p ≡ 0 → ⊥) → Dec ((part_call ss bs place).0 ≤ 0) → (part_call ss bs place).0 ≡ 0
  done f (yes z) = omega arith
  done f (no q) = absurd (f (ap length (w ∙ none_1 (read_signature ss) bs place (λ e. q (omega (arith, e))))))

  pub a_part : (length p ≡ 0 → ⊥) → PartCall ss bs place 0 place (length p)
  a_part f =
      let z = done f (dec_le (part_call ss bs place).0 0) in
      record {
        number_is = sym z;
        start_is = refl;
        length_is = ap length w;
        words_are = ap (λ l. take l (drop place bs)) (ap length w) ∙ (there_1 ss bs place z (read_signature ss) refl).words;
      }
