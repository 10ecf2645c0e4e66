-- 01, Patterns: which patterns are not malformed, said without reading.
use Rattle.std.specs.Prelude.{◌≡◌, List, [], ◌∷◌, true, ℕ, ◌<◌, ◌≤◌, length}
use Rattle.std.proofs.Math.Option.{some}
use Rattle.signature.specs.Signature.{arguments_at, is_number_kind, Signature}
use Rattle.pattern.specs.Limits.{pattern_limit, variable_count}
use Rattle.pattern.specs.Pattern.{Pattern, Patterns, head, and, or, neg, wild, absurd_pat, var, range, pnil, pcons, pattern_code}

module _ (sig : Signature) where
  -- a pattern of kind k: "a constructor of another kind than its place" and "a constructor outside the signature" are malformed
  mutual
    pub data WellFormed : ℕ → Pattern → Type 0 where
      well_head : {k c : ℕ} {ks : List ℕ} {ps : Patterns} → c < 256 → arguments_at sig k c ≡ some ks → AllWellFormed ks ps → WellFormed k (head c ps)
      well_and : {k : ℕ} {p q : Pattern} → WellFormed k p → WellFormed k q → WellFormed k (and p q)
      well_or : {k : ℕ} {p q : Pattern} → WellFormed k p → WellFormed k q → WellFormed k (or p q)
      well_not : {k : ℕ} {p : Pattern} → WellFormed k p → WellFormed k (neg p)
      well_wild : {k : ℕ} → WellFormed k wild
      well_absurd : {k : ℕ} → WellFormed k absurd_pat
      well_var : {k x : ℕ} → x < variable_count → WellFormed k (var x)
      -- 02, job 1: "280 at another kind is 7"
      well_range : {k low high : ℕ} → is_number_kind sig k ≡ true → WellFormed k (range low high)

    pub data AllWellFormed : List ℕ → Patterns → Type 0 where
      well_nil : AllWellFormed [] pnil
      well_cons : {k : ℕ} {ks : List ℕ} {p : Pattern} {ps : Patterns} → WellFormed k p → AllWellFormed ks ps → AllWellFormed (k ∷ ks) (pcons p ps)

module _ (sig : Signature) where
  -- "1 to 64 words in preorder, one pattern of kind 0, nothing left over": these words are this pattern
  pub record PatternWords (ws : List ℕ) (p : Pattern) : Type 0 where
    pub well_formed : WellFormed sig 0 p
    pub is_code : pattern_code p ≡ ws
    pub at_most : length ws ≤ pattern_limit
