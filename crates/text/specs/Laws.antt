-- The laws of the text. The function `laws` promises them.
use Rattle.std.specs.Prelude.{◌↔◌, ◌≡◌, List, true, cond, ℕ, ◌≤◌, eqb}
use Rattle.std.proofs.Math.Option.{some}
use Rattle.signature.specs.Signature.{Signature}
use Rattle.table.specs.Limits.{limits}
use Rattle.table.specs.Calls.{long_witness}
use Rattle.table.specs.ListsOfCalls.{numbers_reckoned, rules_left}
use Rattle.table.specs.Rule.{Rule}
use Rattle.text.specs.Format.{Text, read_text, number}
use Rattle.text.specs.Lawful.{TextBytes}
use Rattle.text.specs.Limits.{last_word}
use Rattle.text.specs.Print.{decimal, entries, first_refusal, enter_all, entered, stopped}

pub record Laws : Type 0 where
  -- 17: exactly the texts of the format are read, and what was read was there
  pub text : (bytes : List ℕ) (t : Text) → ((read_text bytes ≡ some t) ↔ (TextBytes bytes t))
  -- numbers are read back as they are printed, and no other bytes are read as them
  pub number_read : (n : ℕ) → n ≤ last_word → number (decimal n) ≡ some n
  pub number_was : (bytes : List ℕ) (n : ℕ) → number bytes ≡ some n → (bytes ≡ decimal n) × (n ≤ last_word)
  -- "Rules enter in order; the first refusal n": the program's entries are a list of calls, and stop at the first number reckoned that is not 0
  pub enters : (sig : Signature) (witness : List ℕ) → long_witness witness ≡ true → (qs rs : List Rule) → enter_all sig qs rs ≡ cond (eqb (first_refusal (numbers_reckoned limits sig (entries witness qs) rs)) 0) (entered (rules_left limits sig (entries witness qs) rs)) (stopped (first_refusal (numbers_reckoned limits sig (entries witness qs) rs)))
