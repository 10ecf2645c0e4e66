-- What the text program prints, line by line.
use mathlib.Core.Path.{◌≡◌, refl, ap, ap₂, ◌∙◌, sym}
use mathlib.Core.List.{List, [], ◌∷◌}
use mathlib.Core.Option.{Option, some, none}
use mathlib.Core.Bool.{true, false, cond}
use Prim.Native.Nat.{ℕ}
use lib.Dec.{eqb}
use lib.ListN.{drop}
use Rattle.signature.specs.Lists.{is_some}
use Rattle.signature.specs.Read.{read_booking, read_signature}
use Rattle.signature.specs.Signature.{Signature}
use Rattle.signature.proofs.Tests.{true≢false, eqb_no}
use Rattle.table.specs.Limits.{limits}
use Rattle.table.specs.Refusals.{entry_refusal}
use Rattle.table.specs.Rule.{Rule, add_rule}
use Rattle.text.specs.Format.{Text, read_text, after_key, key_rule}
use Rattle.text.specs.Print.{printed, print_read, print_text, print_entered, print_decided, print_refused, enter_all, stopped}
use Rattle.format.specs.Laws.{SigFirst, RuleNext, BookLast}
use Rattle.lines.specs.Lines.{rest_text}
use Rattle.lines.proofs.LineLaws.{missing}
use Rattle.format.proofs.Laws.{laws}
use Rattle.answering.specs.Ready.{Going}

-- 17
pub broken : (text : List ℕ) → false ≡ is_some (read_text text) → printed text ≡ print_refused 17
broken text e = ap print_read (missing (read_text text) (sym e))

pub there : (text : List ℕ) → true ≡ is_some (read_text text) → (t : Text) × (read_text text ≡ some t)
there text e = go (read_text text) refl e
  where
    go : (o : Option Text) → read_text text ≡ o → true ≡ is_some o → (t : Text) × (read_text text ≡ some t)
    go none q z = true≢false z
    go (some t) q z = (t, q)

-- 1, or the first line is done
module _ (text : List ℕ) (t : Text) (read : read_text text ≡ some t) where
  pub sig_line : SigFirst text t
  sig_line = laws.sig_first text t read

  pub unlawful : read_signature t.sig_words ≡ none → printed text ≡ print_refused 1
  unlawful e = ap print_read read ∙ ap (λ o. print_text o t) e

  pub started : (sig : Signature) → read_signature t.sig_words ≡ some sig → Going text sig (drop sig_line.used text) []
  started sig e = record { due = t.rules; book = t.book_words; left = sig_line.rest; prints = ap print_read read ∙ ap (λ o. print_text o t) e }

module _ {text : List ℕ} {sig : Signature} {t : List ℕ} {held : List Rule} (g : Going text sig t held) where
  -- rule= is next
  pub record Due : Type 0 where
    pub rule : Rule
    pub more : List Rule
    pub lines : RuleNext t rule more g.book
    pub prints : printed text ≡ print_entered sig g.book (enter_all sig (rule ∷ more) held)

  pub rule_due : true ≡ is_some (after_key key_rule t) → Due
  rule_due e = go g.due g.left g.prints
    where
      go : (qs : List Rule) → rest_text t ≡ some (qs, g.book) → printed text ≡ print_entered sig g.book (enter_all sig qs held) → Due
      go [] q p = true≢false (e ∙ (laws.book_last t g.book q).key)
      go (q ∷ qs) l p = record { rule = q; more = qs; lines = laws.rule_next t q qs g.book l; prints = p }

  module _ (d : Due) (n : ℕ) (number : entry_refusal limits sig d.rule.number d.rule.pattern held ≡ n) where
    -- "the first refusal n prints refused=n only"
    pub refused : (n ≡ 0 → ⊥) → printed text ≡ print_refused n
    refused h = d.prints ∙ ap (print_entered sig g.book) (ap₂ (λ b i. cond b (enter_all sig d.more (add_rule d.rule held)) (stopped i)) (ap (λ i. eqb i 0) number ∙ eqb_no n 0 h) number)

    pub entered : n ≡ 0 → Going text sig (drop d.lines.used t) (add_rule d.rule held)
    entered h = record {
      due = d.more;
      book = g.book;
      left = d.lines.rest;
      prints = d.prints ∙ ap (print_entered sig g.book) (ap (λ i. cond (eqb i 0) (enter_all sig d.more (add_rule d.rule held)) (stopped (entry_refusal limits sig d.rule.number d.rule.pattern held))) (number ∙ h));
    }

  -- book= is next, and last
  pub record Last : Type 0 where
    pub line : BookLast t g.book
    pub prints : printed text ≡ print_decided sig held (read_booking sig g.book)

  pub book_due : false ≡ is_some (after_key key_rule t) → Last
  book_due e = go g.due g.left g.prints
    where
      go : (qs : List Rule) → rest_text t ≡ some (qs, g.book) → printed text ≡ print_entered sig g.book (enter_all sig qs held) → Last
      go [] l p = record { line = laws.book_last t g.book l; prints = p }
      go (q ∷ qs) l p = true≢false (sym (e ∙ (laws.rule_next t q qs g.book l).key))
