-- A list of numbers, one at a time.
use mathlib.Core.Path.{◌≡◌, refl, ap, ap₂, ◌∙◌, sym}
use mathlib.Core.List.{List, [], ◌∷◌, ◌++◌, append_assoc, append-nil}
use mathlib.Core.Option.{Option, some, none}
use Prim.Native.Nat.{ℕ, suc, ◌+◌, ◌-◌, ◌≤◌}
use native.Mathlib.Decide.{dec_le}
use native.Mathlib.Numerals.{add-one}
use native.Mathlib.Omega.{arith}
use lib.Dec.{leb}
use lib.ListN.{length, drop, take, set, length-append, length-set, take-append-drop}
use lib.Seq.{take_all, take-suc-set, drop-set-lt, drop-drop, length-take-le}
use Rattle.std.specs.Prelude.{Some, None}
use Rattle.signature.specs.Lists.{◌>>=◌, require}
use Rattle.signature.proofs.Tests.{leb_yes, leb_no, some_inj, none≢some}
use Rattle.text.specs.Format.{fields, number, numbers, list_within}
use Rattle.numbers.specs.Bytes.{bytes_before}
use Rattle.numbers.specs.Lists.{count_of, Filled}
use Rattle.numbers.proofs.Spans.{fields_more, fields_last, before_most, to_end}

-- what an answer says of the list
pub count_none : (o : Option (List ℕ)) → count_of o ≡ None → o ≡ none
count_none none e = refl
count_none (some ns) e = absurd cc

pub count_some : (o : Option (List ℕ)) (n : ℕ) → count_of o ≡ Some n → (ns : List ℕ) × (o ≡ some ns) × (length ns ≡ n)
count_some none n e = absurd cc
count_some (some ns) n e = (ns, refl, cc)

-- the list with these numbers before it
abbrev list_with : ℕ → List ℕ → Option (List ℕ) → Option (List ℕ)
list_with limit ns o = o >>= λ ms. require (leb (length (ns ++ ms)) limit) >>= λ u. some (ns ++ ms)

abbrev list_from : ℕ → List ℕ → List ℕ → Option (List ℕ)
list_from limit ns bs = list_with limit ns (numbers (fields 32 bs))

-- one number more
full : (limit : ℕ) (ns : List ℕ) → length ns ≡ limit → (f : List ℕ) (fs : List (List ℕ)) → list_with limit ns (numbers (f ∷ fs)) ≡ none
full limit ns e f fs = go (number f) (numbers fs)
  where
    go : (o : Option ℕ) (p : Option (List ℕ)) → list_with limit ns (o >>= λ n. p >>= λ ms. some (n ∷ ms)) ≡ none
    go none p = refl
    go (some n) none = refl
    go (some n) (some ms) = rw (leb_no (length (ns ++ (n ∷ ms))) limit (omega (arith, length-append ns (n ∷ ms))))

bad : (limit : ℕ) (ns f : List ℕ) (fs : List (List ℕ)) → number f ≡ none → list_with limit ns (numbers (f ∷ fs)) ≡ none
bad limit ns f fs e = rw e

more : (limit : ℕ) (ns f : List ℕ) (fs : List (List ℕ)) (v : ℕ) → number f ≡ some v → list_with limit ns (numbers (f ∷ fs)) ≡ list_with limit (ns ++ (v ∷ [])) (numbers fs)
more limit ns f fs v e = ap (λ o. list_with limit ns (o >>= λ n. numbers fs >>= λ ms. some (n ∷ ms))) e ∙ go (numbers fs)
  where
    go : (p : Option (List ℕ)) → list_with limit ns (p >>= λ ms. some (v ∷ ms)) ≡ list_with limit (ns ++ (v ∷ [])) p
    go none = refl
    go (some ms) = rw (append_assoc ns (v ∷ []) ms)

-- the bytes t are still to be read, n numbers stand in out
pub record Reading (limit : ℕ) (s t out₀ out : List ℕ) (n : ℕ) : Type 0 where
  pub kept : drop n out ≡ drop n out₀
  pub goes : list_within limit s ≡ list_from limit (take n out) t

-- a list that is broken
pub no_list : (o : Option (List ℕ)) (entry exit : List ℕ) → o ≡ none → (None ≡ count_of o) × Filled o entry exit
no_list o entry exit e = (sym (ap count_of e), λ ns f. none≢some (sym e ∙ f))

pub reading_start : (limit : ℕ) (s out : List ℕ) → Reading limit s s out out 0
reading_start limit s out = record { kept = refl; goes = refl }

module _ {limit : ℕ} {s t out₀ out : List ℕ} {n : ℕ} (r : Reading limit s t out₀ out n) (room : limit ≤ length out) where
  at_limit : n ≡ limit → (f : List ℕ) (fs : List (List ℕ)) → fields 32 t ≡ f ∷ fs → list_within limit s ≡ none
  at_limit e f fs q = r.goes ∙ ap (λ x. list_with limit (take n out) (numbers x)) q ∙ full limit (take n out) (length-take-le n out (omega arith) ∙ e) f fs

  pub too_many : n ≡ limit → list_within limit s ≡ none
  too_many e = go (dec_le (length t) (bytes_before 32 t))
    where
      go : Dec (length t ≤ bytes_before 32 t) → list_within limit s ≡ none
      go (yes h) = at_limit e t [] (fields_last 32 t h)
      go (no h) = at_limit e (take (bytes_before 32 t) t) _ (fields_more 32 t (omega arith))

  module _ (few : n ≤ limit) (e : ℕ) (before : e ≡ bytes_before 32 t) where
    -- the part up to the next space
    whole : e ≡ length t → take e t ≡ t
    whole q = take_all e t (omega arith)

    pub no_number : number (take e t) ≡ none → list_within limit s ≡ none
    no_number q = go (dec_le (length t) (bytes_before 32 t))
      where
        go : Dec (length t ≤ bytes_before 32 t) → list_within limit s ≡ none
        go (yes h) = r.goes ∙ ap (λ x. list_with limit (take n out) (numbers x)) (fields_last 32 t h) ∙ bad limit (take n out) t [] (ap number (sym (take_all e t (omega arith))) ∙ q)
        go (no h) = r.goes ∙ ap (λ x. list_with limit (take n out) (numbers x)) (fields_more 32 t (omega arith)) ∙ bad limit (take n out) (take (bytes_before 32 t) t) (fields 32 (drop (suc (bytes_before 32 t)) t)) (ap (λ i. number (take i t)) (sym before) ∙ q)

    module _ (below : (n ≡ limit) → ⊥) (v : ℕ) (q : number (take e t) ≡ some v) where
      one_more : take (n + 1) (set out n v) ≡ take n out ++ (v ∷ [])
      one_more = rw add-one (take-suc-set out n v (omega arith))

      still : drop (n + 1) (set out n v) ≡ drop (n + 1) out₀
      still = drop-set-lt (n + 1) out n v (omega arith) ∙ sym (drop-drop 1 n out) ∙ ap (drop 1) r.kept ∙ drop-drop 1 n out₀

      behind : drop (suc (bytes_before 32 t)) t ≡ take (length t - (e + 1)) (drop (e + 1) t)
      behind = rw (← before, ← add-one e) (sym (to_end t (e + 1)))

      pub number_read : (e ≡ length t → ⊥) → Reading limit s (take (length t - (e + 1)) (drop (e + 1) t)) out₀ (set out n v) (n + 1)
      number_read l = record {
        kept = still;
        goes = r.goes
            ∙ ap (λ x. list_with limit (take n out) (numbers x)) (fields_more 32 t (omega (arith, before_most 32 t)))
            ∙ more limit (take n out) (take (bytes_before 32 t) t) (fields 32 (drop (suc (bytes_before 32 t)) t)) v (ap (λ i. number (take i t)) (sym before) ∙ q)
            ∙ ap₂ (λ ns bs. list_from limit ns bs) (sym one_more) behind;
      }

      list_is : e ≡ length t → list_within limit s ≡ some (take (n + 1) (set out n v))
      list_is l =
          r.goes
          ∙ ap (λ x. list_with limit (take n out) (numbers x)) (fields_last 32 t (omega arith))
          ∙ more limit (take n out) t [] v (ap number (sym (whole l)) ∙ q)
          ∙ ap (λ ns. list_with limit ns (some [])) (sym one_more)
          ∙ rw (append-nil, leb_yes (length (take (n + 1) (set out n v))) limit (omega (arith, length-take-le (n + 1) (set out n v) (simp length-set (omega arith)))))

      pub list_read : e ≡ length t → (Some (n + 1) ≡ count_of (list_within limit s)) × Filled (list_within limit s) out₀ (set out n v)
      list_read l =
          let long : length (take (n + 1) (set out n v)) ≡ n + 1 = length-take-le (n + 1) (set out n v) (simp length-set (omega arith)) in
          (ap Some (sym long) ∙ ap count_of (sym (list_is l)), λ ns f. let w : take (n + 1) (set out n v) ≡ ns = some_inj (take (n + 1) (set out n v)) ns (sym (list_is l) ∙ f) in rw (← w, long, ← still) (sym (take-append-drop (n + 1) (set out n v))))
