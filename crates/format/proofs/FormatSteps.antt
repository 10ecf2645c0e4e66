-- Whether the text keeps the format, by what its function found.
use mathlib.Core.Path.{◌≡◌, refl, ap, ◌∙◌, sym}
use mathlib.Core.List.{List, [], ◌∷◌}
use mathlib.Core.Option.{Option, some, none}
use mathlib.Core.Bool.{Bool, true, false}
use Prim.Native.Nat.{ℕ, ◌+◌, ◌-◌, ◌≤◌, ◌<◌}
use native.Mathlib.Omega.{arith}
use lib.Dec.{eqb}
use lib.ListN.{length, drop, take, length-drop}
use Rattle.std.specs.Prelude.{Option as Answer, Some, None}
use Rattle.signature.specs.Lists.{◌>>=◌, require, is_some}
use Rattle.signature.proofs.Tests.{bind_some, some_inj, leb_yes, leb_no}
use Rattle.table.specs.Rule.{Rule}
use Rattle.text.specs.Format.{after_key, read_text, key_sig, key_rule, key_plan, key_pat, key_book}
use Rattle.text.specs.Limits.{text_limit}
use Rattle.lines.specs.Answers.{count_line_of, rule_of}
use Rattle.lines.specs.Lines.{number_line, list_line, rule_lines, rest_text}
use Rattle.lines.specs.declared.line.CountLine.{CountLine}
use Rattle.lines.specs.declared.line.RuleLines.{RuleLines}
use Rattle.format.proofs.Reading.{Rest}
use Rattle.lines.proofs.RuleSteps.{count_line_none, count_line_some, number_line_fits, list_line_fits}
use Rattle.numbers.proofs.Spans.{to_end}
use Rattle.format.proofs.TextSteps.{rule_next}
use Rattle.format.proofs.TextLaws.{book_last, sig_first}

pub rule_none : (o : Option (Rule × ℕ)) → rule_of o ≡ None → o ≡ none
rule_none none e = refl
rule_none (some r) e = absurd cc

pub rule_some : (o : Option (Rule × ℕ)) (x : RuleLines) → rule_of o ≡ Some x → (q : Rule) × (o ≡ some (q, x.used)) × (q.number ≡ x.number) × (q.plan ≡ x.plan) × (length q.pattern ≡ x.count)
rule_some none x e = absurd cc
rule_some (some r) x e = let z : ◌≡◌ {A = RuleLines} (record { number = r.0.number; plan = r.0.plan; count = length r.0.pattern; used = r.1 }) x = cc in (r.0, ap (λ y. some (r.0, y.used)) z, ap (λ y. y.number) z, ap (λ y. y.plan) z, ap (λ y. y.count) z)

pub rule_lines_fit : (bs : List ℕ) (q : Rule) (i : ℕ) → rule_lines bs ≡ some (q, i) → (1 ≤ i) × (i ≤ length bs)
unfolding rule_lines
rule_lines_fit bs q i e =
    let (n, e₁, f₁) = bind_some (number_line key_rule bs) _ (q, i) e in
    let (p, e₂, f₂) = bind_some (number_line key_plan (drop n.1 bs)) _ (q, i) f₁ in
    let (ws, e₃, f₃) = bind_some (list_line key_pat (drop p.1 (drop n.1 bs))) _ (q, i) f₂ in
    let z : n.1 + p.1 + ws.1 ≡ i = ap (λ r. r.1) (some_inj (record { number = n.0; plan = p.0; pattern = ws.0 }, n.1 + p.1 + ws.1) (q, i) f₃) in
    let (a, b) = number_line_fits key_rule bs n.0 n.1 e₁ in
    let (c, d) = number_line_fits key_plan (drop n.1 bs) p.0 p.1 e₂ in
    let (g, h) = list_line_fits key_pat (drop p.1 (drop n.1 bs)) ws.0 ws.1 e₃ in
    (omega arith, omega (arith, length-drop n.1 bs, length-drop p.1 (drop n.1 bs)))

same_some : {A B : Type 0} (o : Option A) (g : A → B) → is_some (o >>= λ a. some (g a)) ≡ is_some o
same_some none g = refl
same_some (some a) g = refl

-- a rule is due
module _ (t : List ℕ) (starts : true ≡ is_some (after_key key_rule t)) (x : Answer RuleLines) (r : x ≡ rule_of (rule_lines t)) where
  pub rule_broken : x ≡ None → is_some (rest_text t) ≡ false
  rule_broken e = ap is_some (rule_next t (sym starts)) ∙ rw (rule_none (rule_lines t) (sym r ∙ e))

  module _ (rule : RuleLines) (e : x ≡ Some rule) where
    pub rule_fits : (1 ≤ rule.used) × (rule.used ≤ length t)
    rule_fits = let (q, f, g, h, k) = rule_some (rule_lines t) rule (sym r ∙ e) in rule_lines_fit t q rule.used f

    pub rule_over : is_some (rest_text t) ≡ is_some (rest_text (take (length t - rule.used) (drop rule.used t)))
    rule_over =
        let (q, f, g, h, k) = rule_some (rule_lines t) rule (sym r ∙ e) in
        ap is_some (rule_next t (sym starts)) ∙ rw f (same_some (rest_text (drop rule.used t)) (λ s. (q ∷ s.0, s.1))) ∙ ap (λ z. is_some (rest_text z)) (sym (to_end t rule.used))

abbrev only : List ℕ → Option Rest
only ns = some ([], ns)

-- the booking is due
module _ (t : List ℕ) (other : false ≡ is_some (after_key key_rule t)) (x : Answer CountLine) (r : x ≡ count_line_of (list_line key_book t)) where
  pub book_broken : x ≡ None → is_some (rest_text t) ≡ false
  book_broken e = ap is_some (book_last t (sym other)) ∙ rw (count_line_none (list_line key_book t) (sym r ∙ e))

  pub book_there : (book : CountLine) → x ≡ Some book → eqb book.used (length t) ≡ is_some (rest_text t)
  book_there book e =
      let (ns, f, g) = count_line_some (list_line key_book t) book (sym r ∙ e) in
      sym (ap is_some (book_last t (sym other)) ∙ rw f (go ns (eqb book.used (length t))))
    where
      go : (ns : List ℕ) (b : Bool) → is_some (require b >>= λ u. only ns) ≡ b
      go ns true = refl
      go ns false = refl

-- the whole text
module _ (bs : List ℕ) (short : length bs ≤ text_limit) (x : Answer CountLine) (r : x ≡ count_line_of (list_line key_sig bs)) where
  pub sig_broken : x ≡ None → false ≡ is_some (read_text bs)
  sig_broken e = sym (ap is_some (sig_first bs) ∙ rw (leb_yes (length bs) text_limit short, count_line_none (list_line key_sig bs) (sym r ∙ e)))

  module _ (sig : CountLine) (e : x ≡ Some sig) where
    pub sig_fits : (1 ≤ sig.used) × (sig.used ≤ length bs)
    sig_fits = let (ns, f, g) = count_line_some (list_line key_sig bs) sig (sym r ∙ e) in list_line_fits key_sig bs ns sig.used f

    pub sig_there : (b : Bool) → b ≡ is_some (rest_text (take (length bs - sig.used) (drop sig.used bs))) → b ≡ is_some (read_text bs)
    sig_there b q =
        let (ns, f, g) = count_line_some (list_line key_sig bs) sig (sym r ∙ e) in
        q ∙ ap (λ z. is_some (rest_text z)) (to_end bs sig.used) ∙ sym (ap is_some (sig_first bs) ∙ rw (leb_yes (length bs) text_limit short, f) (same_some (rest_text (drop sig.used bs)) (λ s. record { sig_words = ns; rules = s.0; book_words = s.1 })))
