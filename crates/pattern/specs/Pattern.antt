-- 01, Patterns: patterns as trees, and their words.
use Rattle.std.specs.Prelude.{List, ◌∷◌, ◌++◌, [], ℕ, ◌+◌, suc, max}
use Rattle.pattern.specs.Limits.{range_word}

-- a head with a pattern for each argument; and; or; wildcard; absurd; not; variable; a range of levels, low and high
mutual
  pub data Pattern : Type 0 where
    head : ℕ → Patterns → Pattern
    and : Pattern → Pattern → Pattern
    or : Pattern → Pattern → Pattern
    wild : Pattern
    absurd_pat : Pattern
    neg : Pattern → Pattern
    var : ℕ → Pattern
    range : ℕ → ℕ → Pattern

  pub data Patterns : Type 0 where
    pnil : Patterns
    pcons : Pattern → Patterns → Patterns

-- "0 to 255: that constructor and a pattern for each argument. 256: and, two patterns. 257: or, two. 258: wildcard. 259: absurd. 260: not, one. 261 to 276: variable 0 to 15."; 02, job 1: "280, low, high"
abbrev mutual
  pub pattern_code : Pattern → List ℕ
  pattern_code (head c ps) = c ∷ patterns_code ps
  pattern_code (and p q) = 256 ∷ (pattern_code p ++ pattern_code q)
  pattern_code (or p q) = 257 ∷ (pattern_code p ++ pattern_code q)
  pattern_code wild = 258 ∷ []
  pattern_code absurd_pat = 259 ∷ []
  pattern_code (neg p) = 260 ∷ pattern_code p
  pattern_code (var x) = (261 + x) ∷ []
  pattern_code (range low high) = range_word ∷ (low ∷ (high ∷ []))

  pub patterns_code : Patterns → List ℕ
  patterns_code pnil = []
  patterns_code (pcons p ps) = pattern_code p ++ patterns_code ps

-- how deep it is nested, at most its number of words
abbrev mutual
  pub pattern_depth : Pattern → ℕ
  pattern_depth (head c ps) = suc (patterns_depth ps)
  pattern_depth (and p q) = suc (max (pattern_depth p) (pattern_depth q))
  pattern_depth (or p q) = suc (max (pattern_depth p) (pattern_depth q))
  pattern_depth wild = 1
  pattern_depth absurd_pat = 1
  pattern_depth (neg p) = suc (pattern_depth p)
  pattern_depth (var x) = 1
  pattern_depth (range low high) = 1

  pub patterns_depth : Patterns → ℕ
  patterns_depth pnil = 0
  patterns_depth (pcons p ps) = max (pattern_depth p) (patterns_depth ps)
