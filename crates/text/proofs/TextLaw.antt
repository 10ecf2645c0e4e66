-- Texts are read exactly when they have the line format.
use mathlib.Core.Path.{◌≡◌, refl, ◌∙◌, ap, ap₂, sym, subst}
use mathlib.Core.List.{List, ◌++◌, ◌∷◌, [], map}
use mathlib.Core.Option.{some}
use mathlib.Core.Bool.{false, Bool, cond, true}
use Prim.Native.Nat.{ℕ, ◌<◌, zero, suc, ◌/◌, ◌+◌, ◌%◌, ◌≤◌}
use native.Mathlib.Omega.{arith}
use lib.Dec.{eqb, ltb, leb}
use lib.ListN.{length}
use Rattle.signature.specs.Lists.{All, none_left, also, ◌>>=◌, require}
use Rattle.signature.proofs.Tests.{eqb_no, eqb_self, eqb_eq, bind_some, some_inj, none≢some, leb_yes, le_of, require_some}
use Rattle.table.specs.Rule.{Rule}
use Rattle.text.specs.Format.{fields, push, ended, numbers, number, list, after_key, list_after, number_after, rest_lines, key_book, key_plan, key_pat, key_rule, Text, key_sig, read_text, text_lines}
use Rattle.text.specs.Lawful.{unlines, ListOk, list_bytes, RuleOk, rules_lines, lines_of, TextBytes}
use Rattle.text.specs.Limits.{last_word, list_limit, text_limit}
use Rattle.text.specs.Print.{digits, decimal, spaced}
use Rattle.text.proofs.TextFacts.{number_decimal, decimal_number}

-- bytes among which c does not stand
abbrev pub Free : ℕ → List ℕ → Type 0
Free c bs = All (λ b. eqb b c ≡ false) bs

free_append : (c : ℕ) {xs ys : List ℕ} → Free c xs → Free c ys → Free c (xs ++ ys)
free_append c none_left q = q
free_append c (also x p ps) q = also x p (free_append c ps q)

free_digits : (c f n : ℕ) (bs : List ℕ) → c < 48 → Free c bs → Free c (digits f n bs)
free_digits c zero n bs l h = h
free_digits c (suc f) n bs l h = go (ltb n 10) (free_digits c f (n / 10) ((48 + n % 10) ∷ bs) l (also (48 + n % 10) (eqb_no (48 + n % 10) c (λ e. omega arith)) h))
  where
    go : (b : Bool) → Free c (digits f (n / 10) ((48 + n % 10) ∷ bs)) → Free c (cond b ((48 + n) ∷ bs) (digits f (n / 10) ((48 + n % 10) ∷ bs)))
    go true k = also (48 + n) (eqb_no (48 + n) c (λ e. omega arith)) h
    go false k = k

free_decimal : (c n : ℕ) → c < 48 → Free c (decimal n)
free_decimal c n l = free_digits c 5 n [] l none_left

-- parts between separators
fields_plain : (c : ℕ) {f : List ℕ} → Free c f → fields c f ≡ f ∷ []
fields_plain c none_left = refl
fields_plain c (also b e h) = rw (e, fields_plain c h)

fields_sep : (c : ℕ) {f : List ℕ} (rest : List ℕ) → Free c f → fields c (f ++ (c ∷ rest)) ≡ f ∷ fields c rest
fields_sep c rest none_left = rw (eqb_self c)
fields_sep c rest (also b e h) = rw (e, fields_sep c rest h)

some_field : (c : ℕ) (bs : List ℕ) → (f : List ℕ) × (fs : List (List ℕ)) × (fields c bs ≡ f ∷ fs)
some_field c [] = ([], [], refl)
some_field c (b ∷ bs) = go (eqb b c) refl (some_field c bs)
  where
    go : (t : Bool) → eqb b c ≡ t → (f : List ℕ) × (fs : List (List ℕ)) × (fields c bs ≡ f ∷ fs) → (f : List ℕ) × (fs : List (List ℕ)) × (fields c (b ∷ bs) ≡ f ∷ fs)
    go true q (f, fs, e) = ([], fields c bs, rw q)
    go false q (f, fs, e) = (b ∷ f, fs, rw (q, e))

-- spaces
pub fields_spaced : (f : List ℕ) (fs : List (List ℕ)) → All (Free 32) (f ∷ fs) → fields 32 (spaced (f ∷ fs)) ≡ f ∷ fs
fields_spaced f [] (also x h hs) = fields_plain 32 h
fields_spaced f (g ∷ gs) (also x h hs) = fields_sep 32 (spaced (g ∷ gs)) h ∙ ap (λ z. f ∷ z) (fields_spaced g gs hs)

spaced_push : (b : ℕ) (f : List ℕ) (fs : List (List ℕ)) → spaced (push b (f ∷ fs)) ≡ b ∷ spaced (f ∷ fs)
spaced_push b f [] = refl
spaced_push b f (g ∷ gs) = refl

pub spaced_fields : (bs : List ℕ) → spaced (fields 32 bs) ≡ bs
spaced_fields [] = refl
spaced_fields (b ∷ bs) = go (eqb b 32) refl (some_field 32 bs) (spaced_fields bs)
  where
    go : (t : Bool) → eqb b 32 ≡ t → (f : List ℕ) × (fs : List (List ℕ)) × (fields 32 bs ≡ f ∷ fs) → spaced (fields 32 bs) ≡ bs → spaced (fields 32 (b ∷ bs)) ≡ b ∷ bs
    go true q (f, fs, e) h = rw (q, e) (ap₂ (λ x xs. x ∷ xs) (sym (eqb_eq b 32 q)) (ap spaced (sym e) ∙ h))
    go false q (f, fs, e) h = rw (q, e) (spaced_push b f fs ∙ ap (λ x. b ∷ x) (ap spaced (sym e) ∙ h))

-- newlines
pub ended_unlines : (ls : List (List ℕ)) → All (Free 10) ls → ended (fields 10 (unlines ls)) ≡ some ls
ended_unlines [] none_left = refl
ended_unlines (l ∷ ls) (also x h hs) = ap ended (fields_sep 10 (unlines ls) h) ∙ go (some_field 10 (unlines ls)) (ended_unlines ls hs)
  where
    go : (f : List ℕ) × (fs : List (List ℕ)) × (fields 10 (unlines ls) ≡ f ∷ fs) → ended (fields 10 (unlines ls)) ≡ some ls → ended (l ∷ fields 10 (unlines ls)) ≡ some (l ∷ ls)
    go (f, fs, e) k = rw e (ap (λ o. o >>= λ ms. some (l ∷ ms)) (ap ended (sym e) ∙ k))

ended_some : (f g : List ℕ) (gs ls : List (List ℕ)) → ended (f ∷ (g ∷ gs)) ≡ some ls → (ms : List (List ℕ)) × (ended (g ∷ gs) ≡ some ms) × (f ∷ ms ≡ ls)
ended_some f g gs ls e = let (ms, e₁, e₂) = bind_some (ended (g ∷ gs)) _ ls e in (ms, e₁, some_inj (f ∷ ms) ls e₂)

pub unlines_ended : (bs : List ℕ) (ls : List (List ℕ)) → ended (fields 10 bs) ≡ some ls → bs ≡ unlines ls
unlines_ended [] ls e = ap unlines (some_inj [] ls e)
unlines_ended (b ∷ bs) ls e = go (eqb b 10) refl (some_field 10 bs) (unlines_ended bs)
  where
    pushed : (f : List ℕ) (fs : List (List ℕ)) → ended (push b (f ∷ fs)) ≡ some ls → ((ms : List (List ℕ)) → ended (f ∷ fs) ≡ some ms → bs ≡ unlines ms) → b ∷ bs ≡ unlines ls
    pushed f [] z h = none≢some z
    pushed f (g ∷ gs) z h =
        let (ms, e₁, e₂) = ended_some (b ∷ f) g gs ls z in
        let y : bs ≡ unlines (f ∷ ms) = h (f ∷ ms) (rw e₁) in
        ap (λ x. b ∷ x) y ∙ ap unlines e₂

    go : (t : Bool) → eqb b 10 ≡ t → (f : List ℕ) × (fs : List (List ℕ)) × (fields 10 bs ≡ f ∷ fs) → ((ms : List (List ℕ)) → ended (fields 10 bs) ≡ some ms → bs ≡ unlines ms) → b ∷ bs ≡ unlines ls
    go true q (f, fs, w) h =
        let z : ended ([] ∷ (f ∷ fs)) ≡ some ls = rw (q, w) at e in
        let (ms, e₁, e₂) = ended_some [] f fs ls z in
        ap₂ (λ x xs. x ∷ xs) (eqb_eq b 10 q) (h ms (ap ended w ∙ e₁)) ∙ ap unlines e₂
    go false q (f, fs, w) h =
        let z : ended (push b (f ∷ fs)) ≡ some ls = rw (q, w) at e in
        pushed f fs z (λ ms k. h ms (ap ended w ∙ k))

-- lists of numbers
pub free_map : (c : ℕ) (ns : List ℕ) → c < 48 → All (Free c) (map decimal ns)
free_map c [] l = none_left
free_map c (n ∷ ns) l = also (decimal n) (free_decimal c n l) (free_map c ns l)

free_spaced : (c : ℕ) (fs : List (List ℕ)) → eqb 32 c ≡ false → All (Free c) fs → Free c (spaced fs)
free_spaced c [] e none_left = none_left
free_spaced c (f ∷ []) e (also x h hs) = h
free_spaced c (f ∷ (g ∷ gs)) e (also x h hs) = free_append c h (also 32 e (free_spaced c (g ∷ gs) e hs))

pub numbers_decimal : {ns : List ℕ} → All (λ n. n ≤ last_word) ns → numbers (map decimal ns) ≡ some ns
numbers_decimal none_left = refl
numbers_decimal (also n l h) = rw (number_decimal n l, numbers_decimal h)

pub decimal_numbers : (fs : List (List ℕ)) (ns : List ℕ) → numbers fs ≡ some ns → (fs ≡ map decimal ns) × All (λ n. n ≤ last_word) ns
decimal_numbers [] ns e = subst (λ z. ([] ≡ map decimal z) × All (λ n. n ≤ last_word) z) (some_inj [] ns e) (refl, none_left)
decimal_numbers (f ∷ fs) ns e =
    let (n, e₁, f₁) = bind_some (number f) _ ns e in
    let (ms, e₂, f₂) = bind_some (numbers fs) _ ns f₁ in
    let (a, l) = decimal_number f n e₁ in
    let (b, h) = decimal_numbers fs ms e₂ in
    subst (λ z. (f ∷ fs ≡ map decimal z) × All (λ k. k ≤ last_word) z) (some_inj (n ∷ ms) ns f₂) (ap₂ (λ x xs. x ∷ xs) a b, also n l h)

list_read : (ns : List ℕ) → ListOk ns → list (list_bytes ns) ≡ some ns
list_read [] h = absurd (omega (arith, h.some_number))
list_read (n ∷ ns) h =
    let a : fields 32 (spaced (decimal n ∷ map decimal ns)) ≡ decimal n ∷ map decimal ns = fields_spaced (decimal n) (map decimal ns) (free_map 32 (n ∷ ns) (omega arith)) in
    ap (λ fs. numbers fs >>= λ ms. require (leb (length ms) list_limit) >>= λ u. some ms) a ∙ ap (λ o. o >>= λ ms. require (leb (length ms) list_limit) >>= λ u. some ms) (numbers_decimal h.words) ∙ ap (λ b. require b >>= λ u. some (n ∷ ns)) (leb_yes (length (n ∷ ns)) list_limit h.at_most)

list_was : (bs ns : List ℕ) → list bs ≡ some ns → (bs ≡ list_bytes ns) × ListOk ns
list_was bs ns e =
    let (ms, e₁, f₁) = bind_some (numbers (fields 32 bs)) _ ns e in
    let (u, e₂, f₂) = bind_some (require (leb (length ms) list_limit)) _ ns f₁ in
    let (a, h) = decimal_numbers (fields 32 bs) ms e₁ in
    let (f, fs, w) = some_field 32 bs in
    let n : 1 ≤ length ms = counted ms f fs (sym w ∙ a) in
    subst (λ z. (bs ≡ list_bytes z) × ListOk z) (some_inj ms ns f₂) (sym (spaced_fields bs) ∙ ap spaced a, record { some_number = n; at_most = le_of (length ms) list_limit (require_some (leb (length ms) list_limit) u e₂); words = h })
  where
    counted : (ms f : List ℕ) (fs : List (List ℕ)) → f ∷ fs ≡ map decimal ms → 1 ≤ length ms
    counted [] f fs w = absurd (let z : ◌≡◌ {A = ℕ} 0 1 = cc in omega arith)
    counted (m ∷ ms) f fs w = omega arith

-- keys
pub key_read : (ks bs : List ℕ) → after_key ks (ks ++ bs) ≡ some bs
key_read [] bs = refl
key_read (k ∷ ks) bs = rw (eqb_self k) (key_read ks bs)

pub key_was : (ks bs rest : List ℕ) → after_key ks bs ≡ some rest → bs ≡ ks ++ rest
key_was [] bs rest e = some_inj bs rest e
key_was (k ∷ ks) [] rest e = none≢some e
key_was (k ∷ ks) (b ∷ bs) rest e =
    let (u, e₁, e₂) = bind_some (require (eqb k b)) _ rest e in
    ap₂ (λ x xs. x ∷ xs) (sym (eqb_eq k b (require_some (eqb k b) u e₁))) (key_was ks bs rest e₂)

list_key : (ks ns : List ℕ) → ListOk ns → list_after ks (ks ++ list_bytes ns) ≡ some ns
list_key ks ns h = ap (λ o. o >>= λ r. list r) (key_read ks (list_bytes ns)) ∙ list_read ns h

pub list_key_was : (ks bs ns : List ℕ) → list_after ks bs ≡ some ns → (bs ≡ ks ++ list_bytes ns) × ListOk ns
list_key_was ks bs ns e =
    let (r, e₁, e₂) = bind_some (after_key ks bs) _ ns e in
    let (a, h) = list_was r ns e₂ in
    (key_was ks bs r e₁ ∙ ap (λ x. ks ++ x) a, h)

number_key : (ks : List ℕ) (n : ℕ) → n ≤ last_word → number_after ks (ks ++ decimal n) ≡ some n
number_key ks n l = ap (λ o. o >>= λ r. number r) (key_read ks (decimal n)) ∙ number_decimal n l

pub number_key_was : (ks bs : List ℕ) (n : ℕ) → number_after ks bs ≡ some n → (bs ≡ ks ++ decimal n) × (n ≤ last_word)
number_key_was ks bs n e =
    let (r, e₁, e₂) = bind_some (after_key ks bs) _ n e in
    let (a, h) = decimal_number r n e₂ in
    (key_was ks bs r e₁ ∙ ap (λ x. ks ++ x) a, h)

-- the lines of a text
rest_read : (rs : List Rule) (bs : List ℕ) → All RuleOk rs → ListOk bs → rest_lines (rules_lines rs ((key_book ++ list_bytes bs) ∷ [])) ≡ some (rs, bs)
rest_read [] bs none_left h = ap (λ o. o >>= λ x. some ([], x)) (list_key key_book bs h)
rest_read (r ∷ rs) bs (also x k ks) h =
    ap (λ o. o >>= λ n. number_after key_plan (key_plan ++ decimal r.plan) >>= λ p. list_after key_pat (key_pat ++ list_bytes r.pattern) >>= λ ws. rest_lines (rules_lines rs ((key_book ++ list_bytes bs) ∷ [])) >>= λ s. some (record { number = n; plan = p; pattern = ws } ∷ s.0, s.1)) (number_key key_rule r.number k.number_ok)
    ∙ ap (λ o. o >>= λ p. list_after key_pat (key_pat ++ list_bytes r.pattern) >>= λ ws. rest_lines (rules_lines rs ((key_book ++ list_bytes bs) ∷ [])) >>= λ s. some (record { number = r.number; plan = p; pattern = ws } ∷ s.0, s.1)) (number_key key_plan r.plan k.plan_ok)
    ∙ ap (λ o. o >>= λ ws. rest_lines (rules_lines rs ((key_book ++ list_bytes bs) ∷ [])) >>= λ s. some (record { number = r.number; plan = r.plan; pattern = ws } ∷ s.0, s.1)) (list_key key_pat r.pattern k.pattern_ok)
    ∙ ap (λ o. o >>= λ s. some (record { number = r.number; plan = r.plan; pattern = r.pattern } ∷ s.0, s.1)) (rest_read rs bs ks h)

abbrev Rest : List (List ℕ) → List Rule × List ℕ → Type 0
Rest ls r = (ls ≡ rules_lines r.0 ((key_book ++ list_bytes r.1) ∷ [])) × All RuleOk r.0 × ListOk r.1

rest_was : (ls : List (List ℕ)) (r : List Rule × List ℕ) → rest_lines ls ≡ some r → Rest ls r
rest_was [] r e = none≢some e
rest_was (l ∷ []) r e =
    let (bs, e₁, e₂) = bind_some (list_after key_book l) _ r e in
    let (a, h) = list_key_was key_book l bs e₁ in
    subst (Rest (l ∷ [])) (some_inj ([], bs) r e₂) (ap (λ x. x ∷ []) a, none_left, h)
rest_was (l ∷ (m ∷ [])) r e = none≢some e
rest_was (l ∷ (m ∷ (k ∷ ls))) r e =
    let (n, e₁, f₁) = bind_some (number_after key_rule l) _ r e in
    let (p, e₂, f₂) = bind_some (number_after key_plan m) _ r f₁ in
    let (ws, e₃, f₃) = bind_some (list_after key_pat k) _ r f₂ in
    let (s, e₄, f₄) = bind_some (rest_lines ls) _ r f₃ in
    let (a, ha) = number_key_was key_rule l n e₁ in
    let (b, hb) = number_key_was key_plan m p e₂ in
    let (c, hc) = list_key_was key_pat k ws e₃ in
    let (d, hr, hl) = rest_was ls s e₄ in
    subst (Rest (l ∷ (m ∷ (k ∷ ls)))) (some_inj (record { number = n; plan = p; pattern = ws } ∷ s.0, s.1) r f₄) (ap₂ (λ x xs. x ∷ xs) a (ap₂ (λ x xs. x ∷ xs) b (ap₂ (λ x xs. x ∷ xs) c d)), also (record { number = n; plan = p; pattern = ws }) (record { number_ok = ha; plan_ok = hb; pattern_ok = hc }) hr, hl)

-- no newline within a line
pub free_key_list : (ks ns : List ℕ) → Free 10 ks → Free 10 (ks ++ list_bytes ns)
free_key_list ks ns h = free_append 10 h (free_spaced 10 (map decimal ns) refl (free_map 10 ns (omega arith)))

free_rules : (rs : List Rule) {ls : List (List ℕ)} → All (Free 10) ls → All (Free 10) (rules_lines rs ls)
free_rules [] h = h
free_rules (r ∷ rs) h =
    also (key_rule ++ decimal r.number) (free_append 10 key_free (free_decimal 10 r.number (omega arith)))
    (also (key_plan ++ decimal r.plan) (free_append 10 plan_free (free_decimal 10 r.plan (omega arith)))
    (also (key_pat ++ list_bytes r.pattern) (free_key_list key_pat r.pattern pat_free) (free_rules rs h)))
  where
    key_free : Free 10 key_rule
    key_free = also 114 refl (also 117 refl (also 108 refl (also 101 refl (also 61 refl none_left))))

    plan_free : Free 10 key_plan
    plan_free = also 112 refl (also 108 refl (also 97 refl (also 110 refl (also 61 refl none_left))))

    pat_free : Free 10 key_pat
    pat_free = also 112 refl (also 97 refl (also 116 refl (also 61 refl none_left)))

free_lines : (t : Text) → All (Free 10) (lines_of t)
free_lines t = also (key_sig ++ list_bytes t.sig_words) (free_key_list key_sig t.sig_words (also 115 refl (also 105 refl (also 103 refl (also 61 refl none_left))))) (free_rules t.rules (also (key_book ++ list_bytes t.book_words) (free_key_list key_book t.book_words (also 98 refl (also 111 refl (also 111 refl (also 107 refl (also 61 refl none_left)))))) none_left))

-- the law
pub text_read : (bytes : List ℕ) (t : Text) → TextBytes bytes t → read_text bytes ≡ some t
text_read bytes t h =
    ap (λ b. require b >>= λ u. ended (fields 10 bytes) >>= λ ls. text_lines ls) (leb_yes (length bytes) text_limit h.at_most)
    ∙ ap (λ o. o >>= λ ls. text_lines ls) (ap (λ x. ended (fields 10 x)) h.is_text ∙ ended_unlines (lines_of t) (free_lines t))
    ∙ ap (λ o. o >>= λ ss. rest_lines (rules_lines t.rules ((key_book ++ list_bytes t.book_words) ∷ [])) >>= λ r. some (record { sig_words = ss; rules = r.0; book_words = r.1 })) (list_key key_sig t.sig_words h.sig_ok)
    ∙ ap (λ o. o >>= λ r. some (record { sig_words = t.sig_words; rules = r.0; book_words = r.1 })) (rest_read t.rules t.book_words h.rules_ok h.book_ok)

pub text_was : (bytes : List ℕ) (t : Text) → read_text bytes ≡ some t → TextBytes bytes t
text_was bytes t e =
    let (u, e₁, f₁) = bind_some (require (leb (length bytes) text_limit)) _ t e in
    let (ls, e₂, f₂) = bind_some (ended (fields 10 bytes)) _ t f₁ in
    lines_was ls f₂ (unlines_ended bytes ls e₂) (le_of (length bytes) text_limit (require_some (leb (length bytes) text_limit) u e₁))
  where
    lines_was : (ls : List (List ℕ)) → text_lines ls ≡ some t → bytes ≡ unlines ls → length bytes ≤ text_limit → TextBytes bytes t
    lines_was [] f w l = none≢some f
    lines_was (m ∷ ls) f w l =
        let (ss, e₁, f₁) = bind_some (list_after key_sig m) _ t f in
        let (r, e₂, f₂) = bind_some (rest_lines ls) _ t f₁ in
        let (a, ha) = list_key_was key_sig m ss e₁ in
        let (b, hr, hb) = rest_was ls r e₂ in
        subst (TextBytes bytes) (some_inj (record { sig_words = ss; rules = r.0; book_words = r.1 }) t f₂) (record { is_text = w ∙ ap₂ (λ x xs. unlines (x ∷ xs)) a b; at_most = l; sig_ok = ha; rules_ok = hr; book_ok = hb })
