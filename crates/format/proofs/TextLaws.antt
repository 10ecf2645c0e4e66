-- The signature first, the booking last.
use mathlib.Core.Path.{◌≡◌, refl, ap, ◌∙◌, sym}
use mathlib.Core.List.{List, [], ◌∷◌}
use mathlib.Core.Option.{Option, some, none}
use mathlib.Core.Bool.{Bool, true, false}
use Prim.Native.Nat.{ℕ, ◌+◌}
use lib.Dec.{eqb, leb}
use lib.ListN.{length, drop}
use Rattle.signature.specs.Lists.{◌>>=◌, require, is_some, none_left, also}
use Rattle.signature.proofs.Tests.{when_same}
use Rattle.text.specs.Format.{after_key, list_after, rest_lines, text_lines, read_text, Text, key_sig, key_rule, key_book}
use Rattle.text.specs.Limits.{text_limit}
use Rattle.lines.specs.Lines.{first_line, list_line, rest_text}
use Rattle.lines.proofs.LineLaws.{line_was, missing, no_list_line}
use Rattle.format.proofs.Reading.{lines, no_lines, key_line, Rest, lines_step, last_line}
use Rattle.format.proofs.TextSteps.{bind_none, bind_with, no_rest_text, list_here}

swap : {A B : Type 0} (b : Bool) (o : Option A) (f : A → Option B) → (require b >>= λ u. o >>= f) ≡ (o >>= λ a. require b >>= λ u. f a)
swap true o f = refl
swap false o f = sym (bind_none o)

-- the booking, with nothing behind it
module _ (bs : List ℕ) (other : is_some (after_key key_rule bs) ≡ false) where
  abbrev ending : Option (List ℕ × ℕ) → Option Rest
  ending o = o >>= λ r. require (eqb r.1 (length bs)) >>= λ u. some ([], r.0)

  module _ (l : List ℕ) (e : first_line bs ≡ some l) where
    not_rule : after_key key_rule l ≡ none
    not_rule = missing (after_key key_rule l) (ap (λ x. is_some (after_key key_rule x)) (line_was bs l e).2 ∙ key_line key_rule bs (also 114 refl (also 117 refl (also 108 refl (also 101 refl (also 61 refl none_left))))) ∙ other)

    ending_is : ending (list_line key_book bs) ≡ (list_after key_book l >>= λ ns. require (eqb (length l + 1) (length bs)) >>= λ u. some ([], ns))
    ending_is = ap ending (list_here key_book bs l e) ∙ bind_with (list_after key_book l) (λ ns. (ns, length l + 1)) _

    alone : (m : List ℕ) (ls : List (List ℕ)) → rest_lines (l ∷ (m ∷ ls)) ≡ none
    alone m [] = refl
    alone m (k ∷ ls) = rw not_rule

    here : rest_text bs ≡ ending (list_line key_book bs)
    unfolding rest_text
    here = last_line bs l e (λ ls. rest_lines ls) alone ∙ swap (eqb (length l + 1) (length bs)) (list_after key_book l) (λ ns. some ([], ns)) ∙ sym ending_is

  pub book_last : rest_text bs ≡ (list_line key_book bs >>= λ r. require (eqb r.1 (length bs)) >>= λ u. some ([], r.0))
  book_last = go (first_line bs) refl
    where
      go : (o : Option (List ℕ)) → first_line bs ≡ o → rest_text bs ≡ ending (list_line key_book bs)
      go none e = no_rest_text bs e ∙ sym (ap ending (no_list_line key_book bs e))
      go (some l) e = here l e

-- the signature, then the rest
module _ (bs : List ℕ) where
  abbrev whole : List ℕ → Rest → Option Text
  whole ss s = some (record { sig_words = ss; rules = s.0; book_words = s.1 })

  abbrev signed : Option (List ℕ × ℕ) → Option Text
  signed o = o >>= λ r. rest_text (drop r.1 bs) >>= λ s. whole r.0 s

  split : (o : Option (List ℕ)) (ls : Option (List (List ℕ))) → (ls >>= λ xs. o >>= λ ss. rest_lines xs >>= λ s. whole ss s) ≡ (o >>= λ ss. (ls >>= λ xs. rest_lines xs) >>= λ s. whole ss s)
  split none none = refl
  split none (some xs) = refl
  split (some ss) none = refl
  split (some ss) (some xs) = refl

  start : (o : Option (List ℕ)) → first_line bs ≡ o → (lines bs >>= λ ls. text_lines ls) ≡ signed (list_line key_sig bs)
  unfolding rest_text
  start none e = no_lines bs e (λ ls. text_lines ls) refl ∙ sym (ap signed (no_list_line key_sig bs e))
  start (some l) e =
      lines_step bs l e (λ ls. text_lines ls)
      ∙ split (list_after key_sig l) (lines (drop (length l + 1) bs))
      ∙ sym (ap signed (list_here key_sig bs l e) ∙ bind_with (list_after key_sig l) (λ ns. (ns, length l + 1)) _)

  pub sig_first : read_text bs ≡ (require (leb (length bs) text_limit) >>= λ u. list_line key_sig bs >>= λ r. rest_text (drop r.1 bs) >>= λ s. some (record { sig_words = r.0; rules = s.0; book_words = s.1 }))
  sig_first = when_same (leb (length bs) text_limit) (lines bs >>= λ ls. text_lines ls) (signed (list_line key_sig bs)) (λ u. start (first_line bs) refl)
