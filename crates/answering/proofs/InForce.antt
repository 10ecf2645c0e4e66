-- The calls on a table whose rules are known.
use mathlib.Core.Path.{◌≡◌, ap, ap₂, ◌∙◌, sym}
use mathlib.Core.List.{List, []}
use mathlib.Core.Option.{Option, some, none}
use mathlib.Core.Bool.{cond, ◌&&◌}
use Prim.Native.Nat.{ℕ, ◌≤◌}
use native.Mathlib.Omega.{arith}
use lib.Dec.{eqb}
use lib.ListN.{length}
use Rattle.signature.specs.Read.{read_booking, read_signature}
use Rattle.signature.specs.Signature.{Signature}
use Rattle.signature.specs.Value.{Value}
use Rattle.signature.proofs.Tests.{leb_yes, pair_first, pair_second}
use Rattle.row.proofs.Symmetric.{shares_sym}
use Rattle.tree.specs.Answer.{Answer}
use Rattle.table.specs.Calls.{Entered, Empty, Enter, DecideCall, start, begin, enter_start, enter_number, enter_table, decide_from, decide_booking}
use Rattle.table.specs.Limits.{limits, table_length, witness_length, emptied_default}
use Rattle.table.specs.Refusals.{entry_refusal}
use Rattle.table.specs.Rule.{Rule, default_of, stored, add_rule}
use Rattle.table.specs.Sound.{sound}
use Rattle.table.proofs.Reckoning.{valid_nil}
use Rattle.table.proofs.SoundFacts.{sound_valid, sound_start}
use Rattle.table.proofs.TableFacts.{Valid, sound_stored, admitted, valid_entry}
use Rattle.text.specs.Print.{print_decided, print_refused, print_answer}

-- a table just emptied
pub emptied : (sig : Signature) (lent after : List ℕ) (number : ℕ) → table_length limits ≤ length lent → Empty limits lent number after → (sound limits sig after ≡ some []) × (default_of after ≡ emptied_default)
emptied sig lent after number h e =
    let is : after ≡ stored limits emptied_default [] lent = e.table_is ∙ ap (λ b. cond b (stored limits emptied_default [] lent) lent) (leb_yes (table_length limits) (length lent) h) in
    (ap (sound limits sig) is ∙ sound_stored sig emptied_default [] lent (valid_nil sig), ap default_of is)

module _ (ss : List ℕ) (sig : Signature) (lawful : read_signature ss ≡ some sig) (table : List ℕ) (rs : List Rule) (in_force : sound limits sig table ≡ some rs) where
  valid : Valid sig rs
  valid = (sound_valid sig (ss, lawful) table rs in_force).0

  -- 1 to 3 do not apply to an entry
  begun : (witness : List ℕ) → witness_length ≤ length witness → enter_start limits ss table witness ≡ begin sig rs
  begun witness h = ap₂ (λ x y. start limits ss (x && y) table) (leb_yes (table_length limits) (length table) (sound_valid sig (ss, lawful) table rs in_force).1) (leb_yes witness_length (length witness) h) ∙ rw (lawful, in_force)

  module _ (n plan : ℕ) (ws witness : List ℕ) (long : witness_length ≤ length witness) (e : Entered) (after witness' : List ℕ) (did : Enter limits ss n plan ws table witness e after witness') where
    pub entry_number : entry_refusal limits sig n ws rs ≡ e.number
    entry_number = sym (did.number_is ∙ ap (λ s. enter_number limits s n ws) (begun witness long))

    -- the rule is in, and the default stays
    pub entry_stored : e.number ≡ 0 → (sound limits sig after ≡ some (add_rule (record { number = n; plan = plan; pattern = ws }) rs)) × (default_of after ≡ default_of table)
    entry_stored z =
        let q : entry_refusal limits sig n ws rs ≡ 0 = entry_number ∙ z in
        let r : Rule = record { number = n; plan = plan; pattern = ws } in
        let is : after ≡ stored limits (default_of table) (add_rule r rs) table = did.table_is ∙ ap (λ s. enter_table limits s n plan ws table) (begun witness long) ∙ ap (λ i. cond (eqb i 0) (stored limits (default_of table) (add_rule r rs) table) table) q in
        (ap (sound limits sig) is ∙ sound_stored sig (default_of table) (add_rule r rs) table (valid_entry sig (shares_sym sig) n plan ws rs (admitted sig (shares_sym sig) n ws rs q) valid), ap default_of is)

  -- 13, or the answer
  module _ (bs : List ℕ) (number : ℕ) (a : Answer) (did : DecideCall limits ss table bs number a) (dft : default_of table ≡ emptied_default) where
    result : (number, a) ≡ decide_booking emptied_default sig rs (read_booking sig bs)
    result = did.result_is ∙ ap (λ s. decide_from (default_of table) s bs) (sound_start ss sig lawful table rs in_force) ∙ ap (λ d. decide_booking d sig rs (read_booking sig bs)) dft

    pub not_decided : 1 ≤ number → print_decided sig rs (read_booking sig bs) ≡ print_refused number
    not_decided h = go (read_booking sig bs) result
      where
        go : (o : Option Value) → (number, a) ≡ decide_booking emptied_default sig rs o → print_decided sig rs o ≡ print_refused number
        go none q = ap print_refused (sym (pair_first q))
        go (some v) q = absurd (omega (arith, pair_first q, h))

    pub decided : number ≡ 0 → print_decided sig rs (read_booking sig bs) ≡ print_answer a
    decided z = go (read_booking sig bs) result
      where
        go : (o : Option Value) → (number, a) ≡ decide_booking emptied_default sig rs o → print_decided sig rs o ≡ print_answer a
        go none q = absurd (omega (arith, pair_first q, z))
        go (some v) q = ap print_answer (sym (pair_second q))
