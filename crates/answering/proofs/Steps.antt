-- One step of the text program after the other.
use mathlib.Core.Path.{◌≡◌, refl, ap, ap₂, ◌∙◌, sym, subst}
use mathlib.Core.Logic.{◌⊎◌, ⊎_elim}
use mathlib.Core.List.{List, []}
use mathlib.Core.Option.{some}
use mathlib.Core.Bool.{true, false}
use Prim.Native.Nat.{ℕ, ◌+◌, ◌-◌, ◌≤◌}
use native.Mathlib.Omega.{arith}
use lib.ListN.{length, take, drop, length-drop}
use lib.Seq.{drop-drop}
use denote.Enum.Declared.{tag_of}
use Rattle.std.specs.Prelude.{Option as Optional, Some, None}
use Rattle.signature.specs.Lists.{is_some}
use Rattle.signature.specs.Read.{read_signature}
use Rattle.booking.proofs.PartLaws.{missing, there as found}
use Rattle.tree.specs.Answer.{Answer}
use Rattle.table.specs.Calls.{Empty, Enter, DecideCall}
use Rattle.table.specs.Limits.{limits, table_length, witness_length}
use Rattle.table.specs.Refusals.{entry_refusal}
use Rattle.table.specs.Rule.{Rule, add_rule}
use Rattle.entry.specs.Entry.{entry_answer, Numbered}
use Rattle.entry.specs.declared.sound.Entry.{Entry}
use Rattle.entry.specs.declared.sound.Entry.TheVariants as entry
use Rattle.entry.specs.contracts.sound.Entry.{the_type}
use Rattle.text.specs.Format.{Text, read_text, after_key, key_sig, key_rule, key_book}
use Rattle.text.specs.Limits.{list_limit}
use Rattle.text.specs.Print.{printed, print_refused, print_answer}
use Rattle.numbers.proofs.Spans.{to_end}
use Rattle.lines.specs.Answers.{count_line_of, rule_of, LineFilled, RuleFilled}
use Rattle.lines.specs.Lines.{list_line, rule_lines}
use Rattle.lines.specs.declared.line.CountLine.{CountLine}
use Rattle.lines.specs.declared.line.RuleLines.{RuleLines}
use Rattle.printing.specs.Printed.{Printed}
use Rattle.answering.specs.Ready.{Going, Ready}
use Rattle.answering.proofs.Found.{list_found, list_values, list_first, rule_found, rule_values, pattern_first}
use Rattle.answering.proofs.InForce.{emptied, entry_number, entry_stored, not_decided, decided}
use Rattle.answering.proofs.Program.{there, sig_line, unlawful, started, Due, rule_due, refused, entered, Last, book_due}

pub as_printed : (text : List ℕ) {bytes : List ℕ} {r : ℕ} {out entry exit : List ℕ} → printed text ≡ bytes → out ≡ entry → Printed bytes r out exit → Printed (printed text) r entry exit
as_printed text {r = r} {out = out} {exit = exit} e q h = subst (λ o. Printed (printed text) r o exit) q (subst (λ b. Printed b r out exit) (sym e) h)

rule_of_parts : ℕ → ℕ → List ℕ → Rule
rule_of_parts n p ws = record { number = n; plan = p; pattern = ws }

same_rule : (q : Rule) (n p : ℕ) (ws : List ℕ) → q.number ≡ n → q.plan ≡ p → ws ≡ q.pattern → record { number = n; plan = p; pattern = ws } ≡ q
unfolding rule_of_parts
same_rule q n p ws a b c = ap (λ i. rule_of_parts i p ws) (sym a) ∙ ap (λ j. rule_of_parts q.number j ws) (sym b) ∙ ap (λ v. rule_of_parts q.number q.plan v) c

not_0 : (y : Entry) → Numbered y → (y ≡ entry.Entered → ⊥) → (entry_answer y).number ≡ 0 → ⊥
not_0 entry.Entered h f z = f refl
not_0 (entry.Refused r) h f z = omega (arith, h, z)
not_0 (entry.Shares rule words) h f z = omega (arith, z)

-- the enum taken apart: another variant than the first
pub not_entered : (y : Entry) → (tag_of the_type y ≡ 1) ⊎ (tag_of the_type y ≡ 2) → y ≡ entry.Entered → ⊥
not_entered y w e = ⊎_elim (λ z. let x : ◌≡◌ {A = ℕ} 0 1 = sym (ap (tag_of the_type) e) ∙ z in omega (arith, x)) (λ z. let x : ◌≡◌ {A = ℕ} 0 2 = sym (ap (tag_of the_type) e) ∙ z in omega (arith, x)) w

-- the lines from an index on, as a part of the text
module _ {text : List ℕ} {at : ℕ} {ss table : List ℕ} (r : Ready text at ss table) where
  abbrev t : List ℕ
  t = take (length text - at) (drop at text)

  t_is : t ≡ drop at text
  t_is = to_end text at

  -- rule= is next
  module _ (starts : true ≡ is_some (after_key key_rule t)) where
    here : Due r.going
    here = rule_due r.going (starts ∙ ap (λ z. is_some (after_key key_rule z)) t_is)

    module _ (x : Optional RuleLines) (x_is : x ≡ rule_of (rule_lines t)) where
      said : x ≡ rule_of (rule_lines (drop at text))
      said = x_is ∙ ap (λ z. rule_of (rule_lines z)) t_is

      pub rule_not_broken : x ≡ None → ⊥
      rule_not_broken = rule_found (drop at text) here.rule here.lines.used here.lines.lines x said

      module _ (lines : RuleLines) (e : x ≡ Some lines) where
        values : (here.rule.number ≡ lines.number) × (here.rule.plan ≡ lines.plan) × (length here.rule.pattern ≡ lines.count) × (here.lines.used ≡ lines.used)
        values = rule_values (drop at text) here.rule here.lines.used here.lines.lines x said lines e

        pub pattern_fits : lines.count ≤ list_limit
        pattern_fits = let z = here.lines.words.pattern_ok.at_most in omega (arith, z, values.2)

        pub lines_fit : (1 ≤ lines.used) × (at + lines.used ≤ length text)
        lines_fit =
            let a = here.lines.forward in
            let b = here.lines.within in
            let c = r.within in
            (omega (arith, a, values.3), omega (arith, b, c, values.3, length-drop at text))

        module _ (w w' : List ℕ) (filled : RuleFilled (rule_lines t) w w') where
          pattern_is : take lines.count w' ≡ here.rule.pattern
          pattern_is = pattern_first (drop at text) here.rule here.lines.used here.lines.lines w w' lines.count values.2 (subst (λ z. RuleFilled (rule_lines z) w w') t_is filled)

          rule_is : record { number = lines.number; plan = lines.plan; pattern = take lines.count w' } ≡ here.rule
          rule_is = same_rule here.rule lines.number lines.plan (take lines.count w') values.0 values.1 pattern_is

          module _ (witness : List ℕ) (long : witness_length ≤ length witness) (y : Entry) (after witness' : List ℕ) (did : Enter limits ss lines.number lines.plan (take lines.count w') table witness (entry_answer y) after witness') (numbered : Numbered y) where
            number_is : entry_refusal limits r.sig here.rule.number here.rule.pattern r.held ≡ (entry_answer y).number
            number_is = ap₂ (λ i ws. entry_refusal limits r.sig i ws r.held) values.0 (sym pattern_is) ∙ entry_number ss r.sig r.lawful table r.held r.in_force lines.number lines.plan (take lines.count w') witness long (entry_answer y) after witness' did

            pub rule_refused : (y ≡ entry.Entered → ⊥) → printed text ≡ print_refused (entry_answer y).number
            rule_refused f = refused r.going here (entry_answer y).number number_is (not_0 y numbered f)

            pub rule_entered : y ≡ entry.Entered → Ready text (at + lines.used) ss after
            rule_entered f =
                let z : (entry_answer y).number ≡ 0 = ap (λ v. (entry_answer v).number) f in
                record {
                  sig = r.sig;
                  lawful = r.lawful;
                  held = add_rule here.rule r.held;
                  in_force = (entry_stored ss r.sig r.lawful table r.held r.in_force lines.number lines.plan (take lines.count w') witness long (entry_answer y) after witness' did z).0 ∙ ap (λ q. some (add_rule q r.held)) rule_is;
                  default_is = (entry_stored ss r.sig r.lawful table r.held r.in_force lines.number lines.plan (take lines.count w') witness long (entry_answer y) after witness' did z).1 ∙ r.default_is;
                  within = lines_fit.1;
                  going = subst (λ v. Going text r.sig v (add_rule here.rule r.held)) (ap (λ i. drop i (drop at text)) values.3 ∙ drop-drop lines.used at text) (entered r.going here (entry_answer y).number number_is z);
                }

  -- book= is next
  module _ (other : false ≡ is_some (after_key key_rule (drop at text))) where
    last : Last r.going
    last = book_due r.going other

    module _ (x : Optional CountLine) (x_is : x ≡ count_line_of (list_line key_book t)) where
      told : x ≡ count_line_of (list_line key_book (drop at text))
      told = x_is ∙ ap (λ z. count_line_of (list_line key_book z)) t_is

      pub book_not_broken : x ≡ None → ⊥
      book_not_broken = list_found key_book (drop at text) r.going.book (length (drop at text)) last.line.line x told

      module _ (line : CountLine) (e : x ≡ Some line) where
        count_is : length r.going.book ≡ line.count
        count_is = (list_values key_book (drop at text) r.going.book (length (drop at text)) last.line.line x told line e).0

        pub book_fits : line.count ≤ list_limit
        book_fits = let z = last.line.words.at_most in omega (arith, z, count_is)

        module _ (w w' : List ℕ) (filled : LineFilled (list_line key_book t) w w') where
          book_is : take line.count w' ≡ r.going.book
          book_is = list_first key_book (drop at text) r.going.book (length (drop at text)) last.line.line w w' line.count count_is (subst (λ z. LineFilled (list_line key_book z) w w') t_is filled)

          module _ (number : ℕ) (a : Answer) (did : DecideCall limits ss table (take line.count w') number a) where
            shown : DecideCall limits ss table r.going.book number a
            shown = subst (λ z. DecideCall limits ss table z number a) book_is did

            pub book_refused : 1 ≤ number → printed text ≡ print_refused number
            book_refused h = last.prints ∙ not_decided ss r.sig r.lawful table r.held r.in_force r.going.book number a shown r.default_is h

            pub book_answered : number ≡ 0 → printed text ≡ print_answer a
            book_answered h = last.prints ∙ decided ss r.sig r.lawful table r.held r.in_force r.going.book number a shown r.default_is h

-- sig= is next
module _ (text : List ℕ) (keeps : true ≡ is_some (read_text text)) where
  whole : Text
  whole = (there text keeps).0

  read : read_text text ≡ some whole
  unfolding whole
  read = (there text keeps).1

  module _ (x : Optional CountLine) (x_is : x ≡ count_line_of (list_line key_sig text)) where
    pub sig_not_broken : x ≡ None → ⊥
    sig_not_broken = list_found key_sig text whole.sig_words (sig_line text whole read).used (sig_line text whole read).line x x_is

    module _ (line : CountLine) (e : x ≡ Some line) where
      sizes : (length whole.sig_words ≡ line.count) × ((sig_line text whole read).used ≡ line.used)
      sizes = list_values key_sig text whole.sig_words (sig_line text whole read).used (sig_line text whole read).line x x_is line e

      pub sig_fits : line.count ≤ list_limit
      sig_fits = let z = (sig_line text whole read).words.at_most in omega (arith, z, sizes.0)

      module _ (w w' : List ℕ) (filled : LineFilled (list_line key_sig text) w w') where
        sig_is : take line.count w' ≡ whole.sig_words
        sig_is = list_first key_sig text whole.sig_words (sig_line text whole read).used (sig_line text whole read).line w w' line.count sizes.0 filled

        pub sig_refused : false ≡ is_some (read_signature (take line.count w')) → printed text ≡ print_refused 1
        sig_refused z = unlawful text whole read (missing (read_signature whole.sig_words) (z ∙ ap (λ v. is_some (read_signature v)) sig_is))

        pub sig_ready : true ≡ is_some (read_signature (take line.count w')) → (lent after : List ℕ) (number : ℕ) → table_length limits ≤ length lent → Empty limits lent number after → Ready text line.used (take line.count w') after
        sig_ready z lent after number long did =
            let (sig, lawful) = found (read_signature (take line.count w')) z in
            record {
              sig = sig;
              lawful = lawful;
              held = [];
              in_force = (emptied sig lent after number long did).0;
              default_is = (emptied sig lent after number long did).1;
              within = let b = (sig_line text whole read).within in omega (arith, b, sizes.1);
              going = subst (λ i. Going text sig (drop i text) []) sizes.1 (started text whole read sig (ap read_signature (sym sig_is) ∙ lawful));
            }
