-- Logs are read exactly where the text has the format.
use mathlib.Core.Path.{◌≡◌, refl, ap, ◌∙◌, sym, subst}
use mathlib.Core.List.{List, [], ◌∷◌, ◌++◌, map}
use mathlib.Core.Option.{some}
use Prim.Native.Nat.{ℕ, ◌≤◌}
use native.Mathlib.Omega.{arith}
use lib.Dec.{leb}
use lib.ListN.{length}
use Rattle.signature.specs.Lists.{All, none_left, also, ◌>>=◌, require}
use Rattle.signature.proofs.Tests.{bind_some, some_inj, none≢some, leb_yes, le_of, require_some}
use Rattle.text.specs.Format.{fields, ended, numbers, after_key}
use Rattle.text.specs.Lawful.{list_bytes, unlines}
use Rattle.text.specs.Limits.{last_word, text_limit}
use Rattle.text.specs.Print.{decimal, spaced}
use Rattle.text.proofs.TextLaw.{fields_spaced, spaced_fields, ended_unlines, unlines_ended, free_map, free_key_list, numbers_decimal, decimal_numbers, key_read, key_was}
use Rattle.day_log.specs.Format.{key_log, log_list, log_lines, read_log, LogBytes}

list_read : (log : List ℕ) → All (λ n. n ≤ last_word) log → log_list (list_bytes log) ≡ some log
list_read [] ws = refl
list_read (n ∷ ns) ws = go (list_bytes (n ∷ ns)) (ap numbers (fields_spaced (decimal n) (map decimal ns) (free_map 32 (n ∷ ns) (omega arith))) ∙ numbers_decimal ws)
  where
    go : (bs : List ℕ) → numbers (fields 32 bs) ≡ some (n ∷ ns) → log_list bs ≡ some (n ∷ ns)
    go [] e = none≢some e
    go (b ∷ bs) e = e

list_was : (bs log : List ℕ) → log_list bs ≡ some log → (bs ≡ list_bytes log) × All (λ n. n ≤ last_word) log
list_was [] log e = subst (λ z. ([] ≡ list_bytes z) × All (λ n. n ≤ last_word) z) (some_inj [] log e) (refl, none_left)
list_was (b ∷ bs) log e = let (a, ws) = decimal_numbers (fields 32 (b ∷ bs)) log e in (sym (spaced_fields (b ∷ bs)) ∙ ap spaced a, ws)

pub log_read : (bytes log : List ℕ) → LogBytes bytes log → read_log bytes ≡ some log
unfolding read_log
log_read bytes log h =
    ap (λ b. require b >>= λ u. ended (fields 10 bytes) >>= λ ls. log_lines ls) (leb_yes (length bytes) text_limit h.at_most)
    ∙ ap (λ o. o >>= λ ls. log_lines ls) (ap (λ x. ended (fields 10 x)) h.is_text ∙ ended_unlines ((key_log ++ list_bytes log) ∷ []) (also (key_log ++ list_bytes log) (free_key_list key_log log (also 108 refl (also 111 refl (also 103 refl (also 61 refl none_left))))) none_left))
    ∙ ap (λ o. o >>= λ rest. log_list rest) (key_read key_log (list_bytes log))
    ∙ list_read log h.words

pub log_was : (bytes log : List ℕ) → read_log bytes ≡ some log → LogBytes bytes log
unfolding read_log
log_was bytes log e =
    let (u, e₁, f₁) = bind_some (require (leb (length bytes) text_limit)) _ log e in
    let (ls, e₂, f₂) = bind_some (ended (fields 10 bytes)) _ log f₁ in
    one_line ls f₂ (unlines_ended bytes ls e₂) (le_of (length bytes) text_limit (require_some (leb (length bytes) text_limit) u e₁))
  where
    one_line : (ls : List (List ℕ)) → log_lines ls ≡ some log → bytes ≡ unlines ls → length bytes ≤ text_limit → LogBytes bytes log
    one_line [] f w l = none≢some f
    one_line (m ∷ []) f w l =
        let (rest, e₁, e₂) = bind_some (after_key key_log m) _ log f in
        let (a, ws) = list_was rest log e₂ in
        record { is_text = w ∙ ap (λ x. unlines (x ∷ [])) (key_was key_log m rest e₁ ∙ ap (λ x. key_log ++ x) a); at_most = l; words = ws }
    one_line (m ∷ (k ∷ ls)) f w l = none≢some f
