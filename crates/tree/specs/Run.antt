-- 01, Tree: a run over the words of a tree. "Running reads the booking alongside".
use Rattle.std.specs.Prelude.{◌≡◌, List, [], ◌∷◌, ◌++◌, Bool, false, ◌&&◌, cond, ℕ, zero, suc, ◌+◌, ◌-◌, ◌≤◌, ◌<◌, leb, eqb, ltb, set, drop, length}
use Rattle.std.proofs.Math.Option.{Option, some, none}
use Rattle.std.proofs.Math.ListN.{get_elem?}
use Rattle.signature.specs.Limits.{last_level}
use Rattle.signature.specs.Lists.{◌>>=◌, require, first, split}
use Rattle.signature.specs.Read.{read_booking}
use Rattle.signature.specs.Signature.{Signature, heads, is_level, level_of}
use Rattle.signature.specs.Value.{Values, vnil, vcons, con, size}
use Rattle.pattern.specs.Limits.{last_variable}
use Rattle.pattern.specs.Places.{unbound}
use Rattle.tree.specs.Answer.{Answer, no_rule}
use Rattle.tree.specs.Limits.{last_number}

-- parts of a booking before other parts
abbrev pub vjoin : Values → Values → Values
vjoin vnil us = us
vjoin (vcons v vs) us = vcons v (vjoin vs us)

-- the n pairs (variable, visit) at the start of the words; broken: "a variable above 15 or not rising, or a visit not made". visits are the places visited
abbrev pub bound : ℕ → ℕ → List ℕ → List ℕ → List ℕ → Option (List ℕ)
bound zero m ws visits places = some places
bound (suc n) m [] visits places = none
bound (suc n) m (x ∷ []) visits places = none
bound (suc n) m (x ∷ (t ∷ ws)) visits places = do
  _ ← require (leb m x && leb x last_variable)
  i ← get_elem? visits t
  bound n (suc x) ws visits (set places x i)

-- how a walk goes on, and what it gives: at the node at an index, with these parts of the booking left, the first of them at a place,
-- and the places visited. none: "A tree is broken"
abbrev pub Walk : Type 0 → Type 0
Walk A = ℕ → Values → ℕ → List ℕ → Option A

-- a run gives the answer
abbrev pub Run : Type 0
Run = Walk Answer

-- a node 0. 02, job 3: "The default leaf becomes 0, plan"; broken: its plan "lies outside the slice". Booking left is no fault
abbrev pub at_default : List ℕ → Run
at_default tree i vs j visits = do
  p ← get_elem? tree (i + 1)
  some (no_rule p)

-- a node 1; broken: "a hit leaf with booking left or a rule outside 1 to 999"
abbrev pub at_hit : List ℕ → Run
at_hit tree i (vcons v us) j visits = none
at_hit tree i vnil j visits = do
  r ← get_elem? tree (i + 1)
  p ← get_elem? tree (i + 2)
  n ← get_elem? tree (i + 3)
  _ ← require (leb 1 r && leb r last_number)
  places ← bound n 0 (drop (i + 4) tree) visits unbound
  some (record { rule = r; plan = p; places = places })

-- a node 2: one link for each head of the kind of the first part left; broken: "no booking part left to take", "a wrong kind or count", "a link not above its own index".
-- "of a node 2 only its first three words and the link that is followed" are examined
abbrev pub at_test : {A : Type 0} → Signature → List ℕ → Walk A → Walk A
at_test sig tree next i vnil j visits = none
at_test sig tree next i (vcons (con c us) rest) j visits = do
  d ← get_elem? sig c
  f ← get_elem? tree (i + 1)
  n ← get_elem? tree (i + 2)
  _ ← require (eqb f (first (heads sig d.kind)) && eqb n (length (heads sig d.kind)))
  link ← get_elem? tree (i + 3 + (c - f))
  _ ← require (ltb i link)
  next link (vjoin us rest) (suc j) (visits ++ (j ∷ []))

-- 02, job 1: "upper ends rising to 100": each at least m and above the one before it, the last one the last
abbrev pub rise_to : ℕ → ℕ → List ℕ → Bool
rise_to last m [] = false
rise_to last m (e ∷ []) = leb m e && eqb e last
rise_to last m (e ∷ (f ∷ es)) = leb m e && rise_to last (suc e) (f ∷ es)

-- where the first end stands that is not below a level
abbrev pub place_of : ℕ → List ℕ → ℕ
place_of v [] = 0
place_of v (e ∷ es) = cond (leb v e) 0 (suc (place_of v es))

-- 02, job 1: a node 4 at a level; broken: "a node 4 at another kind, or one whose ends do not rise to 100", and as a node 2;
-- "of a node 4 only its first two words, its ends and the link that is followed are examined and must lie in the slice"
abbrev pub at_split : {A : Type 0} → List ℕ → Walk A → Walk A
at_split tree next i vnil j visits = none
at_split tree next i (vcons (con c us) rest) j visits = do
  _ ← require (is_level c)
  n ← get_elem? tree (i + 1)
  r ← split n (drop (i + 2) tree)
  _ ← require (rise_to last_level 0 r.0)
  link ← get_elem? tree (i + 2 + n + place_of (level_of c) r.0)
  _ ← require (ltb i link)
  next link (vjoin us rest) (suc j) (visits ++ (j ∷ []))

-- a node 3: "3 skips one whole part"; broken: "no booking part left to take"
abbrev pub at_skip : {A : Type 0} → Walk A → Walk A
at_skip next i vnil j visits = none
at_skip next i (vcons v rest) j visits = next (suc i) rest (j + size v) (visits ++ (j ∷ []))

-- "a walked node lies outside the slice, has another first word": broken. n bounds the nodes that are walked
abbrev pub run : ℕ → Signature → List ℕ → Run
run zero sig tree i vs j visits = none
run (suc n) sig tree i vs j visits = do
  w ← get_elem? tree i
  let next : Run = λ i' vs' j' visits'. run n sig tree i' vs' j' visits'
  cond (eqb w 0) (at_default tree i vs j visits) (cond (eqb w 1) (at_hit tree i vs j visits) (cond (eqb w 2) (at_test sig tree next i vs j visits) (cond (eqb w 3) (at_skip next i vs j visits) (cond (eqb w 4) (at_split tree next i vs j visits) none))))

-- a run of a booking's words from index 0
abbrev pub run_words : Signature → List ℕ → List ℕ → Option Answer
run_words sig ws bs = do
  v ← read_booking sig bs
  run (length ws) sig ws 0 (vcons v vnil) 0 []

-- the same walk, and the indices of the nodes that it takes, in order, the leaf's last
abbrev pub nodes : ℕ → Signature → List ℕ → Walk (List ℕ)
nodes zero sig tree i vs j visits = none
nodes (suc n) sig tree i vs j visits = do
  w ← get_elem? tree i
  let next : Walk (List ℕ) = λ i' vs' j' visits'. nodes n sig tree i' vs' j' visits'
  let leaf : Option Answer → Option (List ℕ) = λ o. o >>= λ a. some []
  is ← cond (eqb w 0) (leaf (at_default tree i vs j visits)) (cond (eqb w 1) (leaf (at_hit tree i vs j visits)) (cond (eqb w 2) (at_test sig tree next i vs j visits) (cond (eqb w 3) (at_skip next i vs j visits) (cond (eqb w 4) (at_split tree next i vs j visits) none))))
  some (i ∷ is)

abbrev pub nodes_words : Signature → List ℕ → List ℕ → Option (List ℕ)
nodes_words sig ws bs = do
  v ← read_booking sig bs
  nodes (length ws) sig ws 0 (vcons v vnil) 0 []

-- indices from i on, each above the one before it, and all below n
pub data RisingTo (n : ℕ) : ℕ → List ℕ → Type 0 where
  rising_last : {i : ℕ} → i < n → RisingTo n i (i ∷ [])
  rising_on : {i m : ℕ} {is : List ℕ} → i < m → RisingTo n m is → RisingTo n i (i ∷ is)

-- indices of nodes from i on, each but the first the one that the node before it leads to: below a skip, or a link above the node's own index
pub data Linked (tree : List ℕ) : ℕ → List ℕ → Type 0 where
  linked_leaf : {i w : ℕ} → get_elem? tree i ≡ some w → w ≤ 1 → Linked tree i (i ∷ [])
  linked_skip : {i : ℕ} {is : List ℕ} → get_elem? tree i ≡ some 3 → Linked tree (suc i) is → Linked tree i (i ∷ is)
  linked_test : {i link : ℕ} {is : List ℕ} (c : ℕ) → get_elem? tree i ≡ some 2 → get_elem? tree (i + 3 + c) ≡ some link → i < link → Linked tree link is → Linked tree i (i ∷ is)
  linked_split : {i n link : ℕ} {is : List ℕ} (c : ℕ) → get_elem? tree i ≡ some 4 → get_elem? tree (i + 1) ≡ some n → get_elem? tree (i + 2 + n + c) ≡ some link → i < link → Linked tree link is → Linked tree i (i ∷ is)
