-- A line, by what its function found.
use mathlib.Core.Path.{◌≡◌, refl, ap, ◌∙◌, sym, subst}
use mathlib.Core.List.{List}
use mathlib.Core.Option.{Option, some, none}
use mathlib.Core.Bool.{Bool, true, false, cond}
use Prim.Native.Nat.{ℕ, ◌+◌, ◌-◌, ◌≤◌, ◌<◌}
use native.Mathlib.Decide.{dec_le}
use native.Mathlib.Omega.{arith}
use lib.ListN.{length, drop, take}
use lib.Seq.{length-take-le}
use Rattle.std.specs.Prelude.{Option as Answer, Some, None}
use Rattle.signature.specs.Lists.{◌>>=◌, is_some}
use Rattle.signature.proofs.Tests.{some_inj, none≢some}
use Rattle.text.specs.Format.{after_key, number, list}
use Rattle.lines.specs.Answers.{word_line_of, count_line_of, LineFilled}
use Rattle.numbers.specs.Bytes.{bytes_before, word_of}
use Rattle.numbers.specs.Lists.{count_of, Filled}
use Rattle.lines.specs.Lines.{first_line, end_of, line_end, number_line, list_line}
use Rattle.numbers.proofs.Digits.{word_none, word_some}
use Rattle.numbers.proofs.Lists.{count_none, count_some}
use Rattle.lines.proofs.LineLaws.{line_was, no_newline, newline, other_number, other_list, the_number, the_list, no_number_line, no_list_line}
use Rattle.numbers.proofs.Spans.{before_most, behind_key}

-- a line that is broken
abbrev NoList : List ℕ → List ℕ → List ℕ → List ℕ → Type 0
NoList key t entry exit = (None ≡ count_line_of (list_line key t)) × LineFilled (list_line key t) entry exit

no_list : (key t entry exit : List ℕ) → list_line key t ≡ none → NoList key t entry exit
no_list key t entry exit e = (sym (ap count_line_of e), λ r f. none≢some (sym e ∙ f))

-- where a line ends
module _ (key t : List ℕ) (e : ℕ) (before : e ≡ bytes_before 10 t) where
  pub within : e ≤ length t
  within = omega (arith, before_most 10 t)

  pub cut : e ≡ length t → e ≡ line_end key t
  unfolding line_end
  cut q = rw (no_newline t e before q) q

  module _ (there : e ≡ length t → ⊥) (b : Bool) (q : b ≡ is_some (after_key key (take e t))) where
    pub keyed : b ≡ true → e ≡ line_end key t
    unfolding line_end
    keyed p = rw (newline t e before there, sym q ∙ p) (sym (length-take-le e t within))

    pub other : b ≡ false → length t ≡ line_end key t
    unfolding line_end
    other p = rw (newline t e before there, sym q ∙ p)

-- what an end says of the line
pub record Line (key t : List ℕ) (e : ℕ) : Type 0 where
  pub line : first_line t ≡ some (take e t)
  pub begins : is_some (after_key key (take e t)) ≡ true
  pub short : e < length t

module _ (key t : List ℕ) where
  no_line : (o : Option (List ℕ)) → first_line t ≡ o → end_of key (length t) o ≡ length t → (number_line key t ≡ none) × (list_line key t ≡ none)
  no_line none f q = (no_number_line key t f, no_list_line key t f)
  no_line (some l) f q = go (is_some (after_key key l)) refl q
    where
      go : (b : Bool) → is_some (after_key key l) ≡ b → cond (is_some (after_key key l)) (length l) (length t) ≡ length t → (number_line key t ≡ none) × (list_line key t ≡ none)
      go true p z = let w : length l ≡ length t = rw p at z in absurd (omega (arith, (line_was t l f).1))
      go false p z = (other_number key t l 0 f p, other_list key t l 0 f p)

  a_line : (o : Option (List ℕ)) → first_line t ≡ o → (e : ℕ) → e ≡ end_of key (length t) o → (e ≡ length t → ⊥) → Line key t e
  a_line none f e q n = absurd (n q)
  a_line (some l) f e q n = go (is_some (after_key key l)) refl q
    where
      go : (b : Bool) → is_some (after_key key l) ≡ b → e ≡ cond (is_some (after_key key l)) (length l) (length t) → Line key t e
      go true p z =
          let w : e ≡ length l = rw p at z in
          let (h, s, g) = line_was t l f in
          let v : l ≡ take e t = g ∙ ap (λ i. take i t) (h ∙ sym w) in
          record { line = f ∙ ap some v; begins = subst (λ x. is_some (after_key key x) ≡ true) v p; short = omega arith }
      go false p z = absurd (n (rw p at z))

module _ (key t : List ℕ) (e : ℕ) (end : e ≡ line_end key t) where
  none_there : e ≡ length t → (number_line key t ≡ none) × (list_line key t ≡ none)
  unfolding line_end
  none_there q = no_line key t (first_line t) refl (sym end ∙ q)

  pub word_cut : e ≡ length t → None ≡ word_line_of (number_line key t)
  word_cut q = sym (ap word_line_of (none_there q).0)

  pub list_cut : (entry exit : List ℕ) → e ≡ length t → NoList key t entry exit
  list_cut entry exit q = no_list key t entry exit (none_there q).1

  pub the_line : (e ≡ length t → ⊥) → Line key t e
  unfolding line_end
  the_line n = a_line key t (first_line t) refl e end n

  pub end_within : e ≤ length t
  end_within = go (dec_le e (length t))
    where
      go : Dec (e ≤ length t) → e ≤ length t
      go (yes h) = h
      go (no h) = let l : Line key t e = the_line (λ q. h (omega arith)) in omega (arith, l.short)

module _ {key t : List ℕ} {e : ℕ} (h : Line key t e) where
  pub line_long : length (take e t) ≡ e
  line_long = length-take-le e t (omega (arith, h.short))

  pub key_fits : length key ≤ length (take e t)
  key_fits = (behind_key key (take e t) h.begins).0

  abbrev rest : List ℕ
  rest = take (length (take e t) - length key) (drop (length key) (take e t))

  number_is : number_line key t ≡ (number rest >>= λ n. some (n, e + 1))
  number_is = the_number key t (take e t) e h.line h.begins ∙ ap (λ i. number rest >>= λ n. some (n, i + 1)) line_long

  list_is : list_line key t ≡ (list rest >>= λ ns. some (ns, e + 1))
  list_is = the_list key t (take e t) e h.line h.begins ∙ ap (λ i. list rest >>= λ ns. some (ns, i + 1)) line_long

  module _ (w : Answer ℕ) (r : w ≡ word_of (number rest)) where
    pub word_bad : w ≡ None → None ≡ word_line_of (number_line key t)
    word_bad s = sym (ap word_line_of (number_is ∙ ap (λ o. o >>= λ n. some (n, e + 1)) (word_none (number rest) (sym r ∙ s))))

    pub word_is : (v : ℕ) → w ≡ Some v → Some (record { word = v; used = e + 1 }) ≡ word_line_of (number_line key t)
    word_is v s = sym (ap word_line_of (number_is ∙ ap (λ o. o >>= λ n. some (n, e + 1)) (word_some (number rest) v (sym r ∙ s))))

  module _ (entry exit : List ℕ) (w : Answer ℕ) (r : w ≡ count_of (list rest)) (filled : Filled (list rest) entry exit) where
    pub list_bad : w ≡ None → NoList key t entry exit
    list_bad s = no_list key t entry exit (list_is ∙ ap (λ o. o >>= λ ns. some (ns, e + 1)) (count_none (list rest) (sym r ∙ s)))

    pub list_there : (n : ℕ) → w ≡ Some n → (Some (record { count = n; used = e + 1 }) ≡ count_line_of (list_line key t)) × LineFilled (list_line key t) entry exit
    list_there n s =
        let (ns, f, g) = count_some (list rest) n (sym r ∙ s) in
        let h : list_line key t ≡ some (ns, e + 1) = list_is ∙ ap (λ o. o >>= λ ms. some (ms, e + 1)) f in
        (sym (ap count_line_of h ∙ ap (λ m. Some (record { count = m; used = e + 1 })) g), λ x k. let z : (ns, e + 1) ≡ x = some_inj (ns, e + 1) x (sym h ∙ k) in filled x.0 (f ∙ ap (λ y. some y.0) z))
