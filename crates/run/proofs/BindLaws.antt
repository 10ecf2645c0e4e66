-- A hit leaf by its words, and its pairs taken off one by one.
use mathlib.Core.Path.{◌≡◌, refl, sym, ap, ◌∙◌}
use mathlib.Core.List.{List, [], ◌∷◌}
use mathlib.Core.Option.{none, some}
use mathlib.Core.Bool.{◌&&◌}
use Prim.Native.Nat.{ℕ, zero, suc, ◌+◌, ◌-◌, ◌≤◌, ◌<◌}
use native.Mathlib.Numerals.{add-one}
use native.Mathlib.Omega.{arith}
use lib.Dec.{leb}
use borrow.Author.Rules.{part_to_end}
use lib.ListN.{length, get_elem?, get_or, drop, take, set}
use Rattle.signature.specs.Lists.{◌>>=◌, require}
use Rattle.signature.proofs.ListFacts.{at_getD, at_out}
use Rattle.signature.proofs.Tests.{leb_yes, leb_no}
use Rattle.pattern.specs.Limits.{last_variable}
use Rattle.pattern.specs.Places.{unbound}
use Rattle.tree.specs.Limits.{last_number}
use Rattle.tree.specs.Run.{bound}
use Rattle.tree.specs.RunCall.{refusal, run_at}
use Rattle.run.specs.Hit.{hit_at, hit_binds}

-- too few words for a pair
pub bound_short : (n m : ℕ) (ws visits places : List ℕ) → 0 < n → length ws < 2 → bound n m ws visits places ≡ none
bound_short zero m ws visits places h l = absurd (omega arith)
bound_short (suc n) m [] visits places h l = refl
bound_short (suc n) m (x ∷ []) visits places h l = refl
bound_short (suc n) m (x ∷ (t ∷ ws)) visits places h l = absurd (omega arith)

pub bound_end : (n m : ℕ) (ws visits places : List ℕ) → n ≤ 0 → bound n m ws visits places ≡ some places
bound_end zero m ws visits places h = refl
bound_end (suc n) m ws visits places h = absurd (omega arith)

module _ (n m : ℕ) (ws visits places : List ℕ) (h : 0 < n) (l : 2 ≤ length ws) where
  first_pair : bound n m ws visits places ≡ (require (leb m (get_or ws 0 0) && leb (get_or ws 0 0) last_variable) >>= λ u. get_elem? visits (get_or ws 1 0) >>= λ i. bound (n - 1) (get_or ws 0 0 + 1) (drop 2 ws) visits (set places (get_or ws 0 0) i))
  first_pair = go n ws h l
    where
      go : (n : ℕ) (ws : List ℕ) → 0 < n → 2 ≤ length ws → bound n m ws visits places ≡ (require (leb m (get_or ws 0 0) && leb (get_or ws 0 0) last_variable) >>= λ u. get_elem? visits (get_or ws 1 0) >>= λ i. bound (n - 1) (get_or ws 0 0 + 1) (drop 2 ws) visits (set places (get_or ws 0 0) i))
      go zero ws h l = absurd (omega arith)
      go (suc n) [] h l = absurd (omega arith)
      go (suc n) (x ∷ []) h l = absurd (omega arith)
      go (suc n) (x ∷ (t ∷ ws)) h l = let e : suc n - 1 ≡ n = omega arith in rw (e, add-one x)

  pub not_rising : get_or ws 0 0 < m → bound n m ws visits places ≡ none
  not_rising a = first_pair ∙ rw (leb_no m (get_or ws 0 0) a)

  module _ (a : m ≤ get_or ws 0 0) where
    pub no_variable : last_variable < get_or ws 0 0 → bound n m ws visits places ≡ none
    no_variable b = first_pair ∙ rw (leb_yes m (get_or ws 0 0) a, leb_no (get_or ws 0 0) last_variable b)

    module _ (b : get_or ws 0 0 ≤ last_variable) where
      pub no_visit : length visits ≤ get_or ws 1 0 → bound n m ws visits places ≡ none
      no_visit v = first_pair ∙ rw (leb_yes m (get_or ws 0 0) a, leb_yes (get_or ws 0 0) last_variable b, at_out visits (get_or ws 1 0) v)

      pub next_pair : (k : ℕ) → n - 1 ≡ k → get_or ws 1 0 < length visits → bound n m ws visits places ≡ bound k (get_or ws 0 0 + 1) (take (length ws - 2) (drop 2 ws)) visits (set places (get_or ws 0 0) (get_or visits (get_or ws 1 0) 0))
      next_pair k e v = first_pair ∙ rw (leb_yes m (get_or ws 0 0) a, leb_yes (get_or ws 0 0) last_variable b, at_getD visits (get_or ws 1 0) v, part_to_end ws 2, e)

-- what the pairs give, as the answer of a run
pub unbound_pairs : (r p n : ℕ) (ws visits : List ℕ) → bound n 0 ws visits unbound ≡ none → refusal 15 ≡ run_at (hit_binds r p n ws visits)
unbound_pairs r p n ws visits e = rw e

pub bound_pairs : (r p n : ℕ) (ws visits places : List ℕ) → bound n 0 ws visits unbound ≡ some places → (0, record { rule = r; plan = p; places = places }) ≡ run_at (hit_binds r p n ws visits)
bound_pairs r p n ws visits places e = rw e

-- a hit leaf
pub hit_short : (t visits : List ℕ) → length t < 4 → refusal 15 ≡ run_at (hit_at t visits)
hit_short [] visits h = refl
hit_short (a ∷ []) visits h = refl
hit_short (a ∷ (b ∷ [])) visits h = refl
hit_short (a ∷ (b ∷ (c ∷ []))) visits h = refl
hit_short (a ∷ (b ∷ (c ∷ (d ∷ t)))) visits h = absurd (omega arith)

module _ (t visits : List ℕ) (h : 4 ≤ length t) where
  hit_words : hit_at t visits ≡ (require (leb 1 (get_or t 1 0) && leb (get_or t 1 0) last_number) >>= λ u. hit_binds (get_or t 1 0) (get_or t 2 0) (get_or t 3 0) (drop 4 t) visits)
  hit_words = go t h
    where
      go : (t : List ℕ) → 4 ≤ length t → hit_at t visits ≡ (require (leb 1 (get_or t 1 0) && leb (get_or t 1 0) last_number) >>= λ u. hit_binds (get_or t 1 0) (get_or t 2 0) (get_or t 3 0) (drop 4 t) visits)
      go [] h = absurd (omega arith)
      go (a ∷ []) h = absurd (omega arith)
      go (a ∷ (b ∷ [])) h = absurd (omega arith)
      go (a ∷ (b ∷ (c ∷ []))) h = absurd (omega arith)
      go (a ∷ (b ∷ (c ∷ (d ∷ t)))) h = refl

  pub rule_0 : get_or t 1 0 ≡ 0 → refusal 15 ≡ run_at (hit_at t visits)
  rule_0 e = let q : hit_at t visits ≡ none = hit_words ∙ rw (leb_no 1 (get_or t 1 0) (omega arith)) in rw q

  module _ (a : get_or t 1 0 ≡ 0 → ⊥) where
    pub rule_over : last_number < get_or t 1 0 → refusal 15 ≡ run_at (hit_at t visits)
    rule_over b = let q : hit_at t visits ≡ none = hit_words ∙ rw (leb_yes 1 (get_or t 1 0) (omega arith), leb_no (get_or t 1 0) last_number b) in rw q

    pub rule_in : get_or t 1 0 ≤ last_number → run_at (hit_binds (get_or t 1 0) (get_or t 2 0) (get_or t 3 0) (take (length t - 4) (drop 4 t)) visits) ≡ run_at (hit_at t visits)
    rule_in b =
        let q : hit_at t visits ≡ hit_binds (get_or t 1 0) (get_or t 2 0) (get_or t 3 0) (drop 4 t) visits = hit_words ∙ rw (leb_yes 1 (get_or t 1 0) (omega arith), leb_yes (get_or t 1 0) last_number b) in
        rw (part_to_end t 4) (ap run_at (sym q))
