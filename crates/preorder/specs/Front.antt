-- The words of a node that tests its column, before its links: by the first head of the kind and the set of the numbers of the heads that have a child.
use Rattle.std.specs.Prelude.{List, [], ◌∷◌, map, cond, ℕ, ◌+◌, eqb, length}
use Rattle.signature.specs.Limits.{level_base}
use Rattle.sets.specs.Set.{members}

-- the heads that have a child
abbrev pub heads_in : ℕ → ℕ → List ℕ
heads_in f s = map (λ i. f + i) (members s)

-- "2, the kind's first constructor, their count k"; 02, job 1: "A tree node 4, k, k upper ends"
abbrev pub front_of : ℕ → ℕ → List ℕ
front_of f s = cond (eqb f level_base) (4 ∷ (length (members s) ∷ members s)) (2 ∷ (f ∷ (length (members s) ∷ [])))

-- how many they are, where m heads have a child
abbrev pub front_length : ℕ → ℕ → ℕ
front_length f m = cond (eqb f level_base) (2 + m) 3
