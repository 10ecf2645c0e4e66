-- Patterns that stand one after another, the words of their own taken off one by one.
use mathlib.Core.Path.{◌≡◌, refl, sym, ap, ◌∙◌}
use mathlib.Core.List.{List, ◌∷◌, ◌++◌, append_assoc}
use Prim.Native.Nat.{ℕ, ◌+◌}
use native.Mathlib.Nat.{add-zero}
use native.Mathlib.Omega.{arith}
use lib.ListN.{length, drop, get_or, length-append}
use lib.Seq.{drop-drop, get_or-drop}
use Rattle.signature.specs.Signature.{Signature}
use Rattle.pattern.specs.Pattern.{Pattern, Patterns, pnil, pcons, pattern_code, patterns_code}
use Rattle.pattern.specs.Read.{form}
use Rattle.pattern.specs.WellFormed.{WellFormed, AllWellFormed, well_nil, well_cons}
use Rattle.pattern.specs.Word.{own_words}
use Rattle.pattern.proofs.Opened.{shape, inner, own_rest, code_word, code_split, behind_own, own_length, word_form}

abbrev pub then : Patterns → Patterns → Patterns
then pnil qs = qs
then (pcons p ps) qs = pcons p (then ps qs)

then_code : (ps qs : Patterns) → patterns_code (then ps qs) ≡ patterns_code ps ++ patterns_code qs
then_code pnil qs = refl
then_code (pcons p ps) qs = rw (then_code ps qs, append_assoc (pattern_code p) (patterns_code ps) (patterns_code qs))

pub then_well : {sig : Signature} {ks js : List ℕ} {ps qs : Patterns} → AllWellFormed sig ks ps → AllWellFormed sig js qs → AllWellFormed sig (ks ++ js) (then ps qs)
then_well well_nil q = q
then_well (well_cons h p) q = well_cons h (then_well p q)

module _ (p : Pattern) (ps : Patterns) where
  split : pattern_code p ++ patterns_code ps ≡ code_word p ∷ (own_rest p ++ patterns_code (then (inner p) ps))
  split = ap (λ z. z ++ patterns_code ps) (code_split p) ∙ ap (λ z. code_word p ∷ z) (append_assoc (own_rest p) (patterns_code (inner p)) (patterns_code ps) ∙ ap (λ z. own_rest p ++ z) (sym (then_code (inner p) ps)))

  pub front_length : own_words (shape p) + length (patterns_code (then (inner p) ps)) ≡ length (pattern_code p ++ patterns_code ps)
  front_length = omega (arith, own_length p, ap length split, length-append (own_rest p) (patterns_code (then (inner p) ps)))

  module _ (ws rest : List ℕ) (at : ℕ) (d : drop at ws ≡ (pattern_code p ++ patterns_code ps) ++ rest) where
    pub front_words : drop at ws ≡ code_word p ∷ (own_rest p ++ (patterns_code (then (inner p) ps) ++ rest))
    front_words = d ∙ ap (λ z. z ++ rest) split ∙ ap (λ z. code_word p ∷ z) (append_assoc (own_rest p) (patterns_code (then (inner p) ps)) rest)

    pub front_form : {sig : Signature} {k : ℕ} → WellFormed sig k p → form (get_or ws at 0) ≡ shape p
    front_form {sig} s = ap form (ap (λ j. get_or ws j 0) (sym (add-zero at)) ∙ sym (get_or-drop at ws 0 0) ∙ ap (λ x. get_or x 0 0) front_words) ∙ word_form sig s

    pub behind_front : drop (at + own_words (shape p)) ws ≡ patterns_code (then (inner p) ps) ++ rest
    behind_front = sym (drop-drop (own_words (shape p)) at ws) ∙ ap (drop (own_words (shape p))) front_words ∙ behind_own p (code_word p) (patterns_code (then (inner p) ps) ++ rest)
