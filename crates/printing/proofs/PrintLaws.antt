-- The lines that are printed, and how long they are.
use mathlib.Core.Path.{◌≡◌, refl, ap, ◌∙◌, sym, subst}
use mathlib.Core.List.{List, [], ◌∷◌, ◌++◌, append_assoc}
use mathlib.Core.Bool.{Bool, true, false, cond}
use Prim.Native.Nat.{ℕ, suc, ◌+◌, ◌*◌, ◌≤◌}
use native.Mathlib.Nat.{zero-add}
use native.Mathlib.Omega.{arith}
use lib.Dec.{eqb}
use lib.ListN.{length, drop, length-append}
use Rattle.pattern.specs.Limits.{unbound_place, variable_count}
use Rattle.text.specs.Format.{key_rule, key_plan}
use Rattle.text.specs.Print.{spaced, pairs_text, decimal, print_refused, key_bind, key_refused}
use Rattle.printing.specs.Pairs.{pairs_bytes}
use Rattle.printing.specs.Printed.{print_limit, number_line, answer_bytes, Printed}
use Rattle.printing.specs.Put.{Put, in_decimal}
use Rattle.printing.proofs.Decimal.{five_digits}
use Rattle.printing.proofs.PutLaws.{both}

-- a line of a number
line_is : (key : List ℕ) (n : ℕ) → number_line key n ≡ (key ++ in_decimal n) ++ (10 ∷ [])
unfolding number_line in_decimal
line_is key n = sym (append_assoc key (decimal n) (10 ∷ []))

pub line_length : (key : List ℕ) (n : ℕ) → length (number_line key n) ≡ length key + length (in_decimal n) + 1
line_length key n = ap length (line_is key n) ∙ simp length-append

pub line_put : (key : List ℕ) (n at : ℕ) (o : List ℕ) → at + length (number_line key n) ≤ length o
    → {m k r : ℕ} {o₁ o₂ o₃ : List ℕ} → Put key at m o o₁ → Put (in_decimal n) m k o₁ o₂ → Put (10 ∷ []) k r o₂ o₃ → Put (number_line key n) at r o o₃
line_put key n at o room p q s =
    let a = line_length key n in
    let b = length-append key (in_decimal n) in
    let c = length-append (key ++ in_decimal n) (10 ∷ []) in
    rw (line_is key n) (both (both p q (omega arith)) s (omega arith))

pub line_most : (key : List ℕ) (n : ℕ) → length (number_line key n) ≤ length key + 6
line_most key n = omega (arith, line_length key n, five_digits n)

-- the pairs
abbrev after_space : List (List ℕ) → ℕ
after_space [] = 0
after_space (f ∷ fs) = suc (length (spaced (f ∷ fs)))

after_more : (f : List ℕ) (fs : List (List ℕ)) → after_space (f ∷ fs) ≡ suc (length f + after_space fs)
after_more f [] = ap suc (omega arith)
after_more f (g ∷ gs) = ap suc (length-append f (32 ∷ spaced (g ∷ gs)))

spaced_most : (fs : List (List ℕ)) → length (spaced fs) ≤ after_space fs
spaced_most [] = omega arith
spaced_most (f ∷ fs) = omega arith

pair_most : (x p : ℕ) → length (decimal x ++ (58 ∷ decimal p)) ≤ 11
unfolding in_decimal
pair_most x p = omega (arith, length-append (decimal x) (58 ∷ decimal p), five_digits x, five_digits p)

pairs_after : (x : ℕ) (ps : List ℕ) → after_space (pairs_text x ps) ≤ 12 * length ps
pairs_after x [] = omega arith
pairs_after x (p ∷ ps) = go (eqb p unbound_place) (pairs_after (suc x) ps)
  where
    go : (b : Bool) → after_space (pairs_text (suc x) ps) ≤ 12 * length ps → after_space (cond b (pairs_text (suc x) ps) ((decimal x ++ (58 ∷ decimal p)) ∷ pairs_text (suc x) ps)) ≤ 12 * length (p ∷ ps)
    go true h = omega arith
    go false h = omega (arith, after_more (decimal x ++ (58 ∷ decimal p)) (pairs_text (suc x) ps), pair_most x p)

pub pairs_most : (places : List ℕ) → length (pairs_bytes places) ≤ 12 * length places
unfolding pairs_bytes
pairs_most places = omega (arith, spaced_most (pairs_text 0 places), pairs_after 0 places)

-- what stands first is printed
pub printed : {s o x : List ℕ} {r : ℕ} → Put s 0 r o x → Printed s r o x
printed {s} {o} {x} {r} p = record { counted = omega (arith, p.behind); written = p.put ∙ rw (zero-add (length s)) }

-- the bytes that are printed are a part of the lent space
pub printed_fits : {bytes : List ℕ} {r : ℕ} {entry exit : List ℕ} → Printed bytes r entry exit → r ≤ length exit
printed_fits {bytes} {r} {entry} {exit} h = omega (arith, h.counted, ap length h.written, length-append bytes (drop (length bytes) entry))

pub refused_is : (n : ℕ) {o x : List ℕ} {r : ℕ} → Put (number_line key_refused n) 0 r o x → Printed (print_refused n) r o x
unfolding number_line
refused_is n p = printed p

regroup : (a b c d e : List ℕ) → a ++ (b ++ (c ++ (d ++ e))) ≡ (((a ++ b) ++ c) ++ d) ++ e
regroup a b c d e = sym (simp append_assoc)

nested : (rule plan : ℕ) (places : List ℕ) → answer_bytes rule plan places ≡ number_line key_rule rule ++ (number_line key_plan plan ++ (key_bind ++ (pairs_bytes places ++ (10 ∷ []))))
unfolding number_line pairs_bytes
nested rule plan places = refl

-- the answer: two lines of numbers, and the pairs
module _ (rule plan : ℕ) (places : List ℕ) where
  answer_is : answer_bytes rule plan places ≡ (((number_line key_rule rule ++ number_line key_plan plan) ++ key_bind) ++ pairs_bytes places) ++ (10 ∷ [])
  answer_is = nested rule plan places ∙ regroup (number_line key_rule rule) (number_line key_plan plan) key_bind (pairs_bytes places) (10 ∷ [])

  pub answer_length : length (answer_bytes rule plan places) ≡ length (number_line key_rule rule) + length (number_line key_plan plan) + 5 + length (pairs_bytes places) + 1
  answer_length = ap length answer_is ∙ simp length-append

  module _ (few : length places ≤ variable_count) where
    pub answer_most : length (number_line key_rule rule) + length (number_line key_plan plan) + 5 + length (pairs_bytes places) + 1 ≤ print_limit
    answer_most = omega (arith, line_most key_rule rule, line_most key_plan plan, pairs_most places)

    pub answer_put : (o : List ℕ) → print_limit ≤ length o → {a b d e r : ℕ} {o₁ o₂ o₃ o₄ o₅ : List ℕ}
        → Put (number_line key_rule rule) 0 a o o₁ → Put (number_line key_plan plan) a b o₁ o₂ → Put key_bind b d o₂ o₃ → Put (pairs_bytes places) d e o₃ o₄ → Put (10 ∷ []) e r o₄ o₅ → Printed (answer_bytes rule plan places) r o o₅
    answer_put o room {r = r} {o₅ = o₅} p q s t u =
        let m = answer_most in
        let l₂ = length-append (number_line key_rule rule) (number_line key_plan plan) in
        let l₃ = length-append (number_line key_rule rule ++ number_line key_plan plan) key_bind in
        let l₄ = length-append ((number_line key_rule rule ++ number_line key_plan plan) ++ key_bind) (pairs_bytes places) in
        let l₅ = length-append (((number_line key_rule rule ++ number_line key_plan plan) ++ key_bind) ++ pairs_bytes places) (10 ∷ []) in
        subst (λ z. Printed z r o o₅) (sym answer_is) (printed (both (both (both (both p q (omega arith)) s (omega arith)) t (omega arith)) u (omega arith)))
