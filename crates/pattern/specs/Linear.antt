-- 01, Patterns: the variables under an even and an odd number of nots, and linearity (8).
use Rattle.std.specs.Prelude.{List, ◌∷◌, [], ◌++◌, Bool, not, ◌&&◌, true, ℕ}
use Rattle.signature.specs.Lists.{all, memb, is_empty}
use Rattle.pattern.specs.Pattern.{Pattern, var, wild, absurd_pat, neg, and, or, head, range, Patterns, pnil, pcons}

-- "E(p) and O(p) are the variables under an even and an odd number of nots within p."
abbrev mutual
  pub E : Pattern → List ℕ
  E (var x) = x ∷ []
  E wild = []
  E absurd_pat = []
  E (neg p) = O p
  E (and p q) = E p ++ E q
  E (or p q) = E p ++ E q
  E (head c ps) = E_all ps
  E (range low high) = []

  pub O : Pattern → List ℕ
  O (var x) = []
  O wild = []
  O absurd_pat = []
  O (neg p) = E p
  O (and p q) = O p ++ O q
  O (or p q) = O p ++ O q
  O (head c ps) = O_all ps
  O (range low high) = []

  pub E_all : Patterns → List ℕ
  E_all pnil = []
  E_all (pcons p ps) = E p ++ E_all ps

  pub O_all : Patterns → List ℕ
  O_all pnil = []
  O_all (pcons p ps) = O p ++ O_all ps

-- no variable in both
abbrev pub disjoint : List ℕ → List ℕ → Bool
disjoint xs ys = all (λ x. not (memb x ys)) xs

-- the same variables
abbrev pub same_set : List ℕ → List ℕ → Bool
same_set xs ys = all (λ x. memb x ys) xs && all (λ y. memb y xs) ys

-- "Linear-plus: not p needs p linear-minus; constructor and "and" need linear-plus parts with E pairwise disjoint; "or" needs linear-plus parts with equal E."
-- "Linear-minus: not p needs p linear-plus; constructor needs linear-minus parts with O empty; "and" needs linear-minus parts with equal O; "or" needs them with O disjoint."
-- "Variable, wildcard and absurd are both. A rule is linear-plus."; 02, job 1: a range "is linear both ways"
abbrev mutual
  pub linear_plus : Pattern → Bool
  linear_plus (var x) = true
  linear_plus wild = true
  linear_plus absurd_pat = true
  linear_plus (neg p) = linear_minus p
  linear_plus (and p q) = linear_plus p && linear_plus q && disjoint (E p) (E q)
  linear_plus (or p q) = linear_plus p && linear_plus q && same_set (E p) (E q)
  linear_plus (head c ps) = all_plus ps
  linear_plus (range low high) = true

  pub linear_minus : Pattern → Bool
  linear_minus (var x) = true
  linear_minus wild = true
  linear_minus absurd_pat = true
  linear_minus (neg p) = linear_plus p
  linear_minus (and p q) = linear_minus p && linear_minus q && same_set (O p) (O q)
  linear_minus (or p q) = linear_minus p && linear_minus q && disjoint (O p) (O q)
  linear_minus (head c ps) = all_minus ps
  linear_minus (range low high) = true

  -- the arguments of a constructor: E pairwise disjoint
  pub all_plus : Patterns → Bool
  all_plus pnil = true
  all_plus (pcons p ps) = linear_plus p && all_plus ps && disjoint (E p) (E_all ps)

  -- the arguments of a constructor: each O empty
  pub all_minus : Patterns → Bool
  all_minus pnil = true
  all_minus (pcons p ps) = linear_minus p && all_minus ps && is_empty (O p)
