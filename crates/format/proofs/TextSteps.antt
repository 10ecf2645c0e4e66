-- The lines of a rule, then the rest of the text.
use mathlib.Core.Path.{◌≡◌, refl, ap, ◌∙◌, sym}
use mathlib.Core.List.{List, [], ◌∷◌}
use mathlib.Core.Option.{Option, some, none}
use mathlib.Core.Bool.{true}
use Prim.Native.Nat.{ℕ, ◌+◌}
use lib.ListN.{length, drop}
use lib.Seq.{drop-drop}
use Rattle.signature.specs.Lists.{◌>>=◌, is_some, none_left, also}
use Rattle.table.specs.Rule.{Rule}
use Rattle.text.specs.Format.{after_key, number_after, list_after, rest_lines, key_rule, key_plan, key_pat}
use Rattle.lines.specs.Lines.{first_line, number_line, list_line, rule_lines, rest_text}
use Rattle.lines.proofs.LineLaws.{line_was, no_number_line, no_list_line}
use Rattle.format.proofs.Reading.{lines, no_lines, key_line, not_book, Rest, with_rule, no_rest, lines_step}

pub bind_none : {A B : Type 0} (o : Option A) → ◌≡◌ {A = Option B} (o >>= λ a. none) none
bind_none none = refl
bind_none (some a) = refl

pub no_rest_text : (bs : List ℕ) → first_line bs ≡ none → rest_text bs ≡ none
unfolding rest_text
no_rest_text bs e = no_lines bs e (λ ls. rest_lines ls) refl

-- the lines of a rule, one after the other
abbrev Rules : Type 0
Rules = Option (Rule × ℕ)

abbrev from_plan : List ℕ → Option ℕ → ℕ → Rules
from_plan bs o a = o >>= λ n. number_line key_plan (drop a bs) >>= λ p. list_line key_pat (drop p.1 (drop a bs)) >>= λ ws. some (record { number = n; plan = p.0; pattern = ws.0 }, a + p.1 + ws.1)

abbrev from_pat : List ℕ → Option ℕ → Option ℕ → ℕ → ℕ → Rules
from_pat bs o q a b = o >>= λ n. q >>= λ p. list_line key_pat bs >>= λ ws. some (record { number = n; plan = p; pattern = ws.0 }, a + b + ws.1)

pub bind_with : {A B C : Type 0} (o : Option A) (g : A → B) (f : B → Option C) → ((o >>= λ a. some (g a)) >>= f) ≡ (o >>= λ a. f (g a))
bind_with none g f = refl
bind_with (some a) g f = refl

number_here : (key bs l : List ℕ) → first_line bs ≡ some l → number_line key bs ≡ (number_after key l >>= λ n. some (n, length l + 1))
unfolding number_line
number_here key bs l e = rw e

pub list_here : (key bs l : List ℕ) → first_line bs ≡ some l → list_line key bs ≡ (list_after key l >>= λ ns. some (ns, length l + 1))
unfolding list_line
list_here key bs l e = rw e

rule_first : (bs l : List ℕ) → first_line bs ≡ some l → rule_lines bs ≡ from_plan bs (number_after key_rule l) (length l + 1)
unfolding rule_lines
rule_first bs l e = rw (number_here key_rule bs l e) (bind_with (number_after key_rule l) (λ n. (n, length l + 1)) _)

plan_next : (bs l m : List ℕ) → first_line (drop (length l + 1) bs) ≡ some m → (o : Option ℕ) → from_plan bs o (length l + 1) ≡ from_pat (drop (length m + 1) (drop (length l + 1) bs)) o (number_after key_plan m) (length l + 1) (length m + 1)
plan_next bs l m e none = refl
plan_next bs l m e (some n) = rw (number_here key_plan (drop (length l + 1) bs) m e) (bind_with (number_after key_plan m) (λ p. (p, length m + 1)) _)

pat_next : (bs k : List ℕ) (a b : ℕ) → first_line bs ≡ some k → (o q : Option ℕ) → from_pat bs o q a b ≡ (o >>= λ n. q >>= λ p. list_after key_pat k >>= λ ws. some (record { number = n; plan = p; pattern = ws }, a + b + (length k + 1)))
pat_next bs k a b e none q = refl
pat_next bs k a b e (some n) none = refl
pat_next bs k a b e (some n) (some p) = rw (list_here key_pat bs k e) (bind_with (list_after key_pat k) (λ ws. (ws, length k + 1)) _)

-- what is left behind the three lines
abbrev behind : List ℕ → Rules → Option Rest
behind bs o = o >>= λ r. rest_text (drop r.1 bs) >>= λ s. some (r.0 ∷ s.0, s.1)

with_behind : (bs : List ℕ) (i : ℕ) (o q : Option ℕ) (w : Option (List ℕ)) → behind bs (o >>= λ n. q >>= λ p. w >>= λ ws. some (record { number = n; plan = p; pattern = ws }, i)) ≡ with_rule o q w (rest_text (drop i bs))
with_behind bs i none q w = refl
with_behind bs i (some n) none w = refl
with_behind bs i (some n) (some p) none = refl
with_behind bs i (some n) (some p) (some ws) = refl

no_plan : (bs : List ℕ) (a : ℕ) → first_line (drop a bs) ≡ none → (o : Option ℕ) → from_plan bs o a ≡ none
no_plan bs a e none = refl
no_plan bs a e (some n) = rw (no_number_line key_plan (drop a bs) e)

no_pat : (bs : List ℕ) (a b : ℕ) → first_line bs ≡ none → (o q : Option ℕ) → from_pat bs o q a b ≡ none
no_pat bs a b e none q = refl
no_pat bs a b e (some n) none = refl
no_pat bs a b e (some n) (some p) = rw (no_list_line key_pat bs e)

rests_join : (o q : Option ℕ) (w : Option (List ℕ)) (ls : Option (List (List ℕ))) → (ls >>= λ xs. with_rule o q w (rest_lines xs)) ≡ with_rule o q w (ls >>= λ xs. rest_lines xs)
rests_join o q w none = sym (no_rest o q w)
rests_join o q w (some xs) = refl

-- a rule, then the rest
module _ (bs : List ℕ) (starts : is_some (after_key key_rule bs) ≡ true) where
  abbrev Next : Type 0
  Next = rest_text bs ≡ behind bs (rule_lines bs)

  no_next : rest_text bs ≡ none → rule_lines bs ≡ none → Next
  no_next p q = p ∙ sym (ap (behind bs) q)

  module _ (l : List ℕ) (e : first_line bs ≡ some l) where
    abbrev r₁ : List ℕ
    r₁ = drop (length l + 1) bs

    keyed : is_some (after_key key_rule l) ≡ true
    keyed = ap (λ x. is_some (after_key key_rule x)) (line_was bs l e).2 ∙ key_line key_rule bs (also 114 refl (also 117 refl (also 108 refl (also 101 refl (also 61 refl none_left))))) ∙ starts

    book_no : rest_lines (l ∷ []) ≡ none
    book_no = rw (not_book l keyed)

    module _ (m : List ℕ) (f : first_line r₁ ≡ some m) where
      abbrev r₂ : List ℕ
      r₂ = drop (length m + 1) r₁

      lines_2 : rest_text bs ≡ (lines r₂ >>= λ ls. rest_lines (l ∷ (m ∷ ls)))
      unfolding rest_text
      lines_2 = lines_step bs l e (λ ls. rest_lines ls) ∙ lines_step r₁ m f (λ ls. rest_lines (l ∷ ls))

      rule_2 : rule_lines bs ≡ from_pat r₂ (number_after key_rule l) (number_after key_plan m) (length l + 1) (length m + 1)
      rule_2 = rule_first bs l e ∙ plan_next bs l m f (number_after key_rule l)

      module _ (k : List ℕ) (g : first_line r₂ ≡ some k) where
        abbrev r₃ : List ℕ
        r₃ = drop (length k + 1) r₂

        lines_3 : rest_text bs ≡ (lines r₃ >>= λ ls. with_rule (number_after key_rule l) (number_after key_plan m) (list_after key_pat k) (rest_lines ls))
        lines_3 = lines_2 ∙ lines_step r₂ k g (λ ls. rest_lines (l ∷ (m ∷ ls)))

        far : r₃ ≡ drop (length l + 1 + (length m + 1) + (length k + 1)) bs
        far = ap (drop (length k + 1)) (drop-drop (length m + 1) (length l + 1) bs) ∙ drop-drop (length k + 1) (length l + 1 + (length m + 1)) bs

        third : Next
        unfolding rest_text
        third =
            lines_3 ∙ rests_join (number_after key_rule l) (number_after key_plan m) (list_after key_pat k) (lines r₃)
            ∙ ap (λ x. with_rule (number_after key_rule l) (number_after key_plan m) (list_after key_pat k) (rest_text x)) far
            ∙ sym (ap (behind bs) (rule_2 ∙ pat_next r₂ k (length l + 1) (length m + 1) g (number_after key_rule l) (number_after key_plan m)) ∙ with_behind bs (length l + 1 + (length m + 1) + (length k + 1)) (number_after key_rule l) (number_after key_plan m) (list_after key_pat k))

      second : (o : Option (List ℕ)) → first_line r₂ ≡ o → Next
      second none g = no_next (lines_2 ∙ no_lines r₂ g (λ ls. rest_lines (l ∷ (m ∷ ls))) refl) (rule_2 ∙ no_pat r₂ (length l + 1) (length m + 1) g (number_after key_rule l) (number_after key_plan m))
      second (some k) g = third k g

    first : (o : Option (List ℕ)) → first_line r₁ ≡ o → Next
    unfolding rest_text
    first none f = no_next (lines_step bs l e (λ ls. rest_lines ls) ∙ no_lines r₁ f (λ ls. rest_lines (l ∷ ls)) book_no) (rule_first bs l e ∙ no_plan bs (length l + 1) f (number_after key_rule l))
    first (some m) f = second m f (first_line (drop (length m + 1) r₁)) refl

  no_rule : first_line bs ≡ none → rule_lines bs ≡ none
  unfolding rule_lines
  no_rule e = rw (no_number_line key_rule bs e)

  pub rule_next : rest_text bs ≡ (rule_lines bs >>= λ r. rest_text (drop r.1 bs) >>= λ s. some (r.0 ∷ s.0, s.1))
  rule_next = go (first_line bs) refl
    where
      go : (o : Option (List ℕ)) → first_line bs ≡ o → Next
      go none e = no_next (no_rest_text bs e) (no_rule e)
      go (some l) e = first l e (first_line (drop (length l + 1) bs)) refl
