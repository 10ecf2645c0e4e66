-- The lines of a text that keeps the format stand one behind the other.
use mathlib.Core.Path.{◌≡◌, refl, ap, ap₂, ◌∙◌, sym, subst}
use mathlib.Core.List.{List, [], ◌∷◌}
use mathlib.Core.Option.{some}
use mathlib.Core.Bool.{Bool, true, false}
use Prim.Native.Nat.{ℕ, ◌+◌, ◌≤◌}
use native.Mathlib.Omega.{arith}
use lib.Dec.{eqb, leb}
use lib.ListN.{length, drop}
use Rattle.signature.specs.Lists.{require, is_some}
use Rattle.signature.proofs.Tests.{bind_some, some_inj, require_some, eqb_eq}
use Rattle.table.specs.Rule.{Rule}
use Rattle.text.specs.Format.{Text, read_text, after_key, number_after, list_after, key_sig, key_rule, key_plan, key_pat, key_book}
use Rattle.text.specs.Lawful.{ListOk, RuleOk}
use Rattle.text.specs.Limits.{text_limit, last_word}
use Rattle.text.proofs.TextLaw.{list_key_was, number_key_was}
use Rattle.format.specs.Laws.{SigFirst, RuleNext, BookLast, Laws}
use Rattle.lines.specs.Lines.{first_line, number_line, list_line, rule_lines, rest_text}
use Rattle.format.proofs.FormatSteps.{rule_lines_fit}
use Rattle.lines.proofs.RuleSteps.{list_line_fits}
use Rattle.format.proofs.TextLaws.{book_last, sig_first}
use Rattle.format.proofs.TextSteps.{rule_next}

number_words : (key bs : List ℕ) (v n : ℕ) → number_line key bs ≡ some (v, n) → v ≤ last_word
unfolding number_line
number_words key bs v n e =
    let (l, e₁, f₁) = bind_some (first_line bs) _ (v, n) e in
    let (m, e₂, f₂) = bind_some (number_after key l) _ (v, n) f₁ in
    let (a, h) = number_key_was key l m e₂ in
    subst (λ i. i ≤ last_word) (ap (λ r. r.0) (some_inj (m, length l + 1) (v, n) f₂)) h

list_words : (key bs ns : List ℕ) (n : ℕ) → list_line key bs ≡ some (ns, n) → ListOk ns
unfolding list_line
list_words key bs ns n e =
    let (l, e₁, f₁) = bind_some (first_line bs) _ (ns, n) e in
    let (ms, e₂, f₂) = bind_some (list_after key l) _ (ns, n) f₁ in
    let (a, h) = list_key_was key l ms e₂ in
    subst ListOk (ap (λ r. r.0) (some_inj (ms, length l + 1) (ns, n) f₂)) h

rule_words : (bs : List ℕ) (q : Rule) (i : ℕ) → rule_lines bs ≡ some (q, i) → RuleOk q
unfolding rule_lines
rule_words bs q i e =
    let (n, e₁, f₁) = bind_some (number_line key_rule bs) _ (q, i) e in
    let (p, e₂, f₂) = bind_some (number_line key_plan (drop n.1 bs)) _ (q, i) f₁ in
    let (ws, e₃, f₃) = bind_some (list_line key_pat (drop p.1 (drop n.1 bs))) _ (q, i) f₂ in
    subst RuleOk (ap (λ r. r.0) (some_inj (record { number = n.0; plan = p.0; pattern = ws.0 }, n.1 + p.1 + ws.1) (q, i) f₃)) (record {
      number_ok = number_words key_rule bs n.0 n.1 e₁;
      plan_ok = number_words key_plan (drop n.1 bs) p.0 p.1 e₂;
      pattern_ok = list_words key_pat (drop p.1 (drop n.1 bs)) ws.0 ws.1 e₃;
    })

first_is : (bytes : List ℕ) (t : Text) → read_text bytes ≡ some t → SigFirst bytes t
first_is bytes t e =
    let (u, e₁, f₁) = bind_some (require (leb (length bytes) text_limit)) _ t (sym (sig_first bytes) ∙ e) in
    let (r, e₂, f₂) = bind_some (list_line key_sig bytes) _ t f₁ in
    let (s, e₃, f₃) = bind_some (rest_text (drop r.1 bytes)) _ t f₂ in
    let w : record { sig_words = r.0; rules = s.0; book_words = s.1 } ≡ t = some_inj _ t f₃ in
    record {
      used = r.1;
      line = e₂ ∙ ap (λ x. some (x.sig_words, r.1)) w;
      within = (list_line_fits key_sig bytes r.0 r.1 e₂).1;
      words = subst (λ x. ListOk x.sig_words) w (list_words key_sig bytes r.0 r.1 e₂);
      rest = e₃ ∙ ap (λ x. some (x.rules, x.book_words)) w;
    }

module _ (bytes : List ℕ) where
  cons_book : (q : Rule) (qs : List Rule) (book : List ℕ) → rest_text bytes ≡ some (q ∷ qs, book) → is_some (after_key key_rule bytes) ≡ false → ⊥
  cons_book q qs book e k =
      let (r, e₁, f₁) = bind_some (list_line key_book bytes) _ (q ∷ qs, book) (sym (book_last bytes k) ∙ e) in
      let (u, e₂, f₂) = bind_some (require (eqb r.1 (length bytes))) _ (q ∷ qs, book) f₁ in
      let w : [] ≡ q ∷ qs = ap (λ x. x.0) (some_inj ([], r.0) (q ∷ qs, book) f₂) in
      let z : ◌≡◌ {A = ℕ} 0 1 = cc in
      omega arith

  module _ (key : is_some (after_key key_rule bytes) ≡ true) where
    next_key : (q : Rule) (qs : List Rule) (book : List ℕ) → rest_text bytes ≡ some (q ∷ qs, book) → RuleNext bytes q qs book
    next_key q qs book e =
        let (r, e₁, f₁) = bind_some (rule_lines bytes) _ (q ∷ qs, book) (sym (rule_next bytes key) ∙ e) in
        let (s, e₂, f₂) = bind_some (rest_text (drop r.1 bytes)) _ (q ∷ qs, book) f₁ in
        let w : ◌≡◌ {A = List Rule × List ℕ} (r.0 ∷ s.0, s.1) (q ∷ qs, book) = some_inj (r.0 ∷ s.0, s.1) (q ∷ qs, book) f₂ in
        let v : r.0 ∷ s.0 ≡ q ∷ qs = ap (λ x. x.0) w in
        let a : r.0 ≡ q = cc in
        let b : s.0 ≡ qs = cc in
        let c : s.1 ≡ book = ap (λ x. x.1) w in
        record {
          key = key;
          used = r.1;
          lines = e₁ ∙ ap (λ x. some (x, r.1)) a;
          forward = (rule_lines_fit bytes r.0 r.1 e₁).0;
          within = (rule_lines_fit bytes r.0 r.1 e₁).1;
          words = subst RuleOk a (rule_words bytes r.0 r.1 e₁);
          rest = e₂ ∙ ap some (ap₂ (λ x y. (x, y)) b c);
        }

    nil_rule : (book : List ℕ) → rest_text bytes ≡ some ([], book) → ⊥
    nil_rule book e =
        let (r, e₁, f₁) = bind_some (rule_lines bytes) _ ([], book) (sym (rule_next bytes key) ∙ e) in
        let (s, e₂, f₂) = bind_some (rest_text (drop r.1 bytes)) _ ([], book) f₁ in
        let w : r.0 ∷ s.0 ≡ [] = ap (λ x. x.0) (some_inj (r.0 ∷ s.0, s.1) ([], book) f₂) in
        let z : ◌≡◌ {A = ℕ} 0 1 = cc in
        omega arith

  next_is : (q : Rule) (qs : List Rule) (book : List ℕ) → rest_text bytes ≡ some (q ∷ qs, book) → RuleNext bytes q qs book
  next_is q qs book e = go (is_some (after_key key_rule bytes)) refl
    where
      go : (b : Bool) → is_some (after_key key_rule bytes) ≡ b → RuleNext bytes q qs book
      go true k = next_key k q qs book e
      go false k = absurd (cons_book q qs book e k)

  last_is : (book : List ℕ) → rest_text bytes ≡ some ([], book) → BookLast bytes book
  last_is book e = go (is_some (after_key key_rule bytes)) refl
    where
      go : (b : Bool) → is_some (after_key key_rule bytes) ≡ b → BookLast bytes book
      go true k = absurd (nil_rule k book e)
      go false k =
          let (r, e₁, f₁) = bind_some (list_line key_book bytes) _ ([], book) (sym (book_last bytes k) ∙ e) in
          let (u, e₂, f₂) = bind_some (require (eqb r.1 (length bytes))) _ ([], book) f₁ in
          let w : r.0 ≡ book = ap (λ x. x.1) (some_inj ([], r.0) ([], book) f₂) in
          let n : r.1 ≡ length bytes = eqb_eq r.1 (length bytes) (require_some (eqb r.1 (length bytes)) u e₂) in
          record { key = k; line = e₁ ∙ ap some (ap₂ (λ x y. (x, y)) w n); words = subst ListOk w (list_words key_book bytes r.0 r.1 e₁) }

pub laws : Laws
laws = record { sig_first = first_is; rule_next = next_is; book_last = last_is }
