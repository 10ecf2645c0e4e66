-- The lines of a rule, by what their function found.
use mathlib.Core.Path.{◌≡◌, refl, ap, ◌∙◌, sym}
use mathlib.Core.List.{List}
use mathlib.Core.Option.{Option, some, none}
use Prim.Native.Nat.{ℕ, ◌+◌, ◌-◌, ◌≤◌}
use native.Mathlib.Omega.{arith}
use lib.ListN.{length, drop, take, length-drop}
use Rattle.std.specs.Prelude.{Option as Answer, Some, None}
use Rattle.signature.proofs.Tests.{bind_some, some_inj, none≢some}
use Rattle.text.specs.Format.{key_rule, key_plan, key_pat, number_after, list_after}
use Rattle.lines.specs.Answers.{word_line_of, count_line_of, rule_of, LineFilled, RuleFilled}
use Rattle.lines.specs.Lines.{first_line, number_line, list_line, rule_lines}
use Rattle.lines.specs.declared.line.CountLine.{CountLine}
use Rattle.lines.specs.declared.line.WordLine.{WordLine}
use Rattle.lines.proofs.LineLaws.{line_was}
use Rattle.numbers.proofs.Spans.{to_end}

-- what an answer says of the line
pub word_line_none : (o : Option (ℕ × ℕ)) → word_line_of o ≡ None → o ≡ none
word_line_none none e = refl
word_line_none (some r) e = absurd cc

pub word_line_some : (o : Option (ℕ × ℕ)) (x : WordLine) → word_line_of o ≡ Some x → o ≡ some (x.word, x.used)
word_line_some none x e = absurd cc
word_line_some (some r) x e = let z : ◌≡◌ {A = WordLine} (record { word = r.0; used = r.1 }) x = cc in ap (λ y. some (y.word, y.used)) z

pub count_line_none : (o : Option (List ℕ × ℕ)) → count_line_of o ≡ None → o ≡ none
count_line_none none e = refl
count_line_none (some r) e = absurd cc

pub count_line_some : (o : Option (List ℕ × ℕ)) (x : CountLine) → count_line_of o ≡ Some x → (ns : List ℕ) × (o ≡ some (ns, x.used)) × (length ns ≡ x.count)
count_line_some none x e = absurd cc
count_line_some (some r) x e = let z : ◌≡◌ {A = CountLine} (record { count = length r.0; used = r.1 }) x = cc in (r.0, ap (λ y. some (r.0, y.used)) z, ap (λ y. y.count) z)

-- a line has its newline, and stands within the bytes
pub number_line_fits : (key bs : List ℕ) (v n : ℕ) → number_line key bs ≡ some (v, n) → (1 ≤ n) × (n ≤ length bs)
unfolding number_line
number_line_fits key bs v n e =
    let (l, e₁, f₁) = bind_some (first_line bs) _ (v, n) e in
    let (m, e₂, f₂) = bind_some (number_after key l) _ (v, n) f₁ in
    let q : length l + 1 ≡ n = ap (λ r. r.1) (some_inj (m, length l + 1) (v, n) f₂) in
    let (a, b, c) = line_was bs l e₁ in
    (omega arith, omega arith)

pub list_line_fits : (key bs ns : List ℕ) (n : ℕ) → list_line key bs ≡ some (ns, n) → (1 ≤ n) × (n ≤ length bs)
unfolding list_line
list_line_fits key bs ns n e =
    let (l, e₁, f₁) = bind_some (first_line bs) _ (ns, n) e in
    let (ms, e₂, f₂) = bind_some (list_after key l) _ (ns, n) f₁ in
    let q : length l + 1 ≡ n = ap (λ r. r.1) (some_inj (ms, length l + 1) (ns, n) f₂) in
    let (a, b, c) = line_was bs l e₁ in
    (omega arith, omega arith)

abbrev NoRule : List ℕ → List ℕ → List ℕ → Type 0
NoRule t entry exit = (None ≡ rule_of (rule_lines t)) × RuleFilled (rule_lines t) entry exit

no_rule : (t entry exit : List ℕ) → rule_lines t ≡ none → NoRule t entry exit
no_rule t entry exit e = (sym (ap rule_of e), λ r f. none≢some (sym e ∙ f))

-- the part behind a line
abbrev after : List ℕ → ℕ → List ℕ
after t n = take (length t - n) (drop n t)

module _ (t : List ℕ) (w : Answer WordLine) (r : w ≡ word_line_of (number_line key_rule t)) where
  pub rule_bad : (entry exit : List ℕ) → w ≡ None → NoRule t entry exit
  unfolding rule_lines
  rule_bad entry exit s = no_rule t entry exit (rw (word_line_none (number_line key_rule t) (sym r ∙ s)))

  module _ (rule : WordLine) (s : w ≡ Some rule) where
    rule_is : number_line key_rule t ≡ some (rule.word, rule.used)
    rule_is = word_line_some (number_line key_rule t) rule (sym r ∙ s)

    pub rule_fits : (1 ≤ rule.used) × (rule.used ≤ length t)
    rule_fits = number_line_fits key_rule t rule.word rule.used rule_is

    module _ (x : Answer WordLine) (u : x ≡ word_line_of (number_line key_plan (after t rule.used))) where
      pub plan_bad : (entry exit : List ℕ) → x ≡ None → NoRule t entry exit
      unfolding rule_lines
      plan_bad entry exit v = no_rule t entry exit (rw (rule_is, ap (number_line key_plan) (sym (to_end t rule.used)) ∙ word_line_none (number_line key_plan (after t rule.used)) (sym u ∙ v)))

      module _ (plan : WordLine) (v : x ≡ Some plan) where
        plan_is : number_line key_plan (drop rule.used t) ≡ some (plan.word, plan.used)
        plan_is = ap (number_line key_plan) (sym (to_end t rule.used)) ∙ word_line_some (number_line key_plan (after t rule.used)) plan (sym u ∙ v)

        pub plan_fits : (1 ≤ plan.used) × (plan.used ≤ length (after t rule.used))
        plan_fits = number_line_fits key_plan (after t rule.used) plan.word plan.used (ap (number_line key_plan) (to_end t rule.used) ∙ plan_is)

        third : after (after t rule.used) plan.used ≡ drop plan.used (drop rule.used t)
        third = to_end (after t rule.used) plan.used ∙ ap (drop plan.used) (to_end t rule.used)

        module _ (entry exit : List ℕ) (y : Answer CountLine) (z : y ≡ count_line_of (list_line key_pat (after (after t rule.used) plan.used))) (filled : LineFilled (list_line key_pat (after (after t rule.used) plan.used)) entry exit) where
          pub pat_bad : y ≡ None → NoRule t entry exit
          unfolding rule_lines
          pat_bad k = no_rule t entry exit (rw (rule_is, plan_is, ap (list_line key_pat) (sym third) ∙ count_line_none (list_line key_pat (after (after t rule.used) plan.used)) (sym z ∙ k)))

          module _ (pat : CountLine) (k : y ≡ Some pat) where
            pat_is : (ws : List ℕ) × (list_line key_pat (after (after t rule.used) plan.used) ≡ some (ws, pat.used)) × (length ws ≡ pat.count)
            pat_is = count_line_some (list_line key_pat (after (after t rule.used) plan.used)) pat (sym z ∙ k)

            pub pat_fits : (1 ≤ pat.used) × (pat.used ≤ length (after (after t rule.used) plan.used))
            pat_fits = list_line_fits key_pat (after (after t rule.used) plan.used) pat_is.0 pat.used pat_is.1

            pub all_fit : rule.used + plan.used + pat.used ≤ length t
            all_fit = omega (arith, rule_fits, plan_fits, pat_fits, ap length (to_end t rule.used), length-drop rule.used t, ap length (to_end (after t rule.used) plan.used), length-drop plan.used (after t rule.used))

            lines_are : rule_lines t ≡ some (record { number = rule.word; plan = plan.word; pattern = pat_is.0 }, rule.used + plan.used + pat.used)
            unfolding rule_lines
            lines_are = rw (rule_is, plan_is, ap (list_line key_pat) (sym third) ∙ pat_is.1)

            pub rule_there : (Some (record { number = rule.word; plan = plan.word; count = pat.count; used = rule.used + plan.used + pat.used }) ≡ rule_of (rule_lines t)) × RuleFilled (rule_lines t) entry exit
            rule_there = (
              sym (ap rule_of lines_are ∙ ap (λ i. Some (record { number = rule.word; plan = plan.word; count = i; used = rule.used + plan.used + pat.used })) pat_is.2),
              λ q h. let g = some_inj (record { number = rule.word; plan = plan.word; pattern = pat_is.0 }, rule.used + plan.used + pat.used) q (sym lines_are ∙ h) in filled (q.0.pattern, pat.used) (pat_is.1 ∙ ap (λ i. some (i.0.pattern, pat.used)) g),
            )
