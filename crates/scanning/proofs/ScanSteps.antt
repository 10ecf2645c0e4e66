-- The log in a text, by what the function over it found.
use mathlib.Core.Path.{◌≡◌, refl, ap, ◌∙◌, sym, subst}
use mathlib.Core.List.{List, [], ◌∷◌, ◌++◌}
use mathlib.Core.Option.{Option, some, none}
use mathlib.Core.Bool.{cond}
use Prim.Native.Nat.{ℕ, ◌+◌, ◌*◌, ◌-◌, ◌≤◌, ◌<◌}
use native.Mathlib.Omega.{arith}
use lib.Dec.{eqb, leb}
use lib.ListN.{length, drop, take, length-append, length-drop}
use borrow.Author.Tests.{eq-eqb}
use Rattle.std.specs.Prelude.{Option as Answer, Some, None}
use Rattle.signature.specs.Lists.{◌>>=◌, require, is_some}
use Rattle.signature.proofs.Tests.{bind_some, some_inj, none≢some, eqb_no, leb_yes, leb_no}
use Rattle.text.specs.Format.{fields, number, numbers, list_within, after_key}
use Rattle.text.specs.Limits.{text_limit}
use Rattle.text.specs.Print.{spaced}
use Rattle.text.proofs.TextLaw.{spaced_fields}
use Rattle.numbers.specs.Lists.{count_of, Filled}
use Rattle.numbers.proofs.Lists.{no_list}
use Rattle.numbers.proofs.Spans.{to_end}
use Rattle.lines.specs.Lines.{first_line, end_of, line_end}
use Rattle.lines.proofs.LineLaws as line_laws
use Rattle.lines.proofs.LineSteps.{Line, the_line, line_long}
use Rattle.format.proofs.Reading.{lines, no_lines, last_line}
use Rattle.format.proofs.TextSteps.{bind_none}
use Rattle.day_log.specs.Format.{key_log, log_list, log_lines, read_log}
use Rattle.scanning.specs.Room.{log_room}

-- a digit each and a space between: how many numbers there is room for
some_digit : (f : List ℕ) (n : ℕ) → number f ≡ some n → 1 ≤ length f
some_digit [] n e = none≢some e
some_digit (b ∷ bs) n e = omega arith

spaced_room : (fs : List (List ℕ)) (ns : List ℕ) → numbers fs ≡ some ns → 2 * length ns ≤ length (spaced fs) + 1
spaced_room [] ns e = omega (arith, ap length (some_inj [] ns e))
spaced_room (f ∷ []) ns e =
    let (n, e₁, f₁) = bind_some (number f) _ ns e in
    omega (arith, some_digit f n e₁, ap length (some_inj (n ∷ []) ns f₁))
spaced_room (f ∷ (g ∷ gs)) ns e =
    let (n, e₁, f₁) = bind_some (number f) _ ns e in
    let (ms, e₂, f₂) = bind_some (numbers (g ∷ gs)) _ ns f₁ in
    omega (arith, some_digit f n e₁, ap length (some_inj (n ∷ ms) ns f₂), spaced_room (g ∷ gs) ms e₂, length-append f (32 ∷ spaced (g ∷ gs)))

room : (bs ns : List ℕ) → numbers (fields 32 bs) ≡ some ns → 2 * length ns ≤ length bs + 1
room bs ns e = omega (arith, spaced_room (fields 32 bs) ns e, ap length (spaced_fields bs))

-- with room for all, no limit is met
no_limit : (limit : ℕ) (bs : List ℕ) → length bs + 1 ≤ 2 * limit → list_within limit bs ≡ numbers (fields 32 bs)
no_limit limit bs h = go (numbers (fields 32 bs)) (room bs)
  where
    go : (o : Option (List ℕ)) → ((ns : List ℕ) → o ≡ some ns → 2 * length ns ≤ length bs + 1) → (o >>= λ ns. require (leb (length ns) limit) >>= λ u. some ns) ≡ o
    go none r = refl
    go (some ns) r = rw (leb_yes (length ns) limit (omega (arith, r ns refl)))

log_none : (bs : List ℕ) → length bs ≡ 0 → log_list bs ≡ some []
log_none [] e = refl
log_none (b ∷ bs) e = absurd (omega arith)

log_some : (bs : List ℕ) → (length bs ≡ 0 → ⊥) → log_list bs ≡ numbers (fields 32 bs)
log_some [] n = absurd (n refl)
log_some (b ∷ bs) n = refl

-- the whole text
abbrev NotRead : List ℕ → List ℕ → List ℕ → Type 0
NotRead t entry exit = (None ≡ count_of (read_log t)) × Filled (read_log t) entry exit

pub too_long : (t entry exit : List ℕ) → text_limit < length t → NotRead t entry exit
unfolding read_log
too_long t entry exit l = no_list (read_log t) entry exit (rw (leb_no (length t) text_limit l))

module _ (t : List ℕ) (short : length t ≤ text_limit) where
  by_lines : read_log t ≡ (lines t >>= λ ls. log_lines ls)
  unfolding read_log
  by_lines = rw (leb_yes (length t) text_limit short)

  one_line : (l : List ℕ) → first_line t ≡ some l → read_log t ≡ (require (eqb (length l + 1) (length t)) >>= λ u. after_key key_log l >>= λ rest. log_list rest)
  one_line l f = by_lines ∙ last_line t l f (λ ls. log_lines ls) (λ m ls. refl)

  module _ (e : ℕ) (end : e ≡ line_end key_log t) where
    no_log : (e + 1 ≡ length t → ⊥) → (o : Option (List ℕ)) → first_line t ≡ o → e ≡ end_of key_log (length t) o → read_log t ≡ none
    no_log n none f q = by_lines ∙ no_lines t f (λ ls. log_lines ls) refl
    no_log n (some l) f q = one_line l f ∙ go (after_key key_log l) q
      where
        go : (o : Option (List ℕ)) → e ≡ cond (is_some o) (length l) (length t) → (require (eqb (length l + 1) (length t)) >>= λ u. o >>= λ rest. log_list rest) ≡ none
        go none z = bind_none (require (eqb (length l + 1) (length t)))
        go (some r) z = rw (eqb_no (length l + 1) (length t) (λ w. n (omega arith)))

    pub not_alone : (entry exit : List ℕ) → (e + 1 ≡ length t → ⊥) → NotRead t entry exit
    unfolding line_end
    not_alone entry exit n = no_list (read_log t) entry exit (no_log n (first_line t) refl end)

    module _ (last : e + 1 ≡ length t) where
      pub line_of : Line key_log t e
      line_of = the_line key_log t e end (λ q. omega arith)

      abbrev rest : List ℕ
      rest = take (length (take e t) - length key_log) (drop (length key_log) (take e t))

      log_is : read_log t ≡ log_list rest
      log_is =
          one_line (take e t) line_of.line
          ∙ rw (eq-eqb (length (take e t) + 1) (length t) (omega (arith, line_long line_of)), line_laws.rest key_log t (take e t) e line_of.line line_of.begins)

      fits : length rest + 1 ≤ 2 * log_room
      fits = omega (arith, line_long line_of, ap length (to_end (take e t) (length key_log)), length-drop (length key_log) (take e t))

      pub empty_log : (out : List ℕ) → length rest ≡ 0 → (Some 0 ≡ count_of (read_log t)) × Filled (read_log t) out out
      empty_log out z =
          let q : read_log t ≡ some [] = log_is ∙ log_none rest z in
          (sym (ap count_of q), λ ns f. let w : [] ≡ ns = some_inj [] ns (sym q ∙ f) in subst (λ x. out ≡ x ++ drop (length x) out) w refl)

      pub the_log : (length rest ≡ 0 → ⊥) → (r : Answer ℕ) (entry exit : List ℕ) → (r ≡ count_of (list_within log_room rest)) × Filled (list_within log_room rest) entry exit → (r ≡ count_of (read_log t)) × Filled (read_log t) entry exit
      the_log n r entry exit h = subst (λ o. (r ≡ count_of o) × Filled o entry exit) (no_limit log_room rest fits ∙ sym (log_is ∙ log_some rest n)) h
