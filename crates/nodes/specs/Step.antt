-- 01, Tree: what one node asks for, by the words of the tree from the node on.
use Rattle.std.specs.Prelude.{List, ◌&&◌, cond, ℕ, ◌+◌, ◌-◌, leb, eqb, ltb, length, drop, Option as Answer, Some, None}
use Rattle.std.proofs.Math.Option.{Option, some, none}
use Rattle.std.proofs.Math.ListN.{get_elem?}
use Rattle.signature.specs.Limits.{last_level}
use Rattle.signature.specs.Lists.{◌>>=◌, require, first, split}
use Rattle.signature.specs.Signature.{Signature, heads, is_level, level_of}
use Rattle.signature.specs.Value.{Values, vnil, vcons, con, size}
use Rattle.tree.specs.Run.{rise_to, place_of}
use Rattle.nodes.specs.declared.node.Step.{Step}
use Rattle.nodes.specs.declared.node.Step.TheVariants.{Default, Hit, On, Broken}

-- how far the link at index j leads on from the node at index i
abbrev pub link_at : List ℕ → ℕ → ℕ → Option ℕ
link_at t i j = do
  link ← get_elem? t j
  _ ← require (ltb i link)
  _ ← require (leb (link - i) (length t))
  some (link - i)

-- a node 2 at index i: how far the link for the constructor c leads on
abbrev pub link_to : Signature → List ℕ → ℕ → ℕ → Option ℕ
link_to sig t i c = do
  d ← get_elem? sig c
  f ← get_elem? t 1
  n ← get_elem? t 2
  _ ← require (eqb f (first (heads sig d.kind)) && eqb n (length (heads sig d.kind)))
  link_at t i (3 + (c - f))

-- a node 4 at index i: how far the link for the level c leads on
abbrev pub split_to : List ℕ → ℕ → ℕ → Option ℕ
split_to t i c = do
  _ ← require (is_level c)
  n ← get_elem? t 1
  r ← split n (drop 2 t)
  _ ← require (rise_to last_level 0 r.0)
  link_at t i (2 + n + place_of (level_of c) r.0)

-- how far a link leads on, or that there is none to follow
abbrev pub leads : Option ℕ → Answer ℕ
leads none = None
leads (some d) = Some d

abbrev pub link_step : Option ℕ → Step
link_step none = Broken
link_step (some d) = On d 1

-- the same by what the code found
abbrev pub step_on : Answer ℕ → Step
step_on None = Broken
step_on (Some d) = On d 1

-- the default leaf answers with its plan, where that lies in the slice
abbrev pub default_step : Option ℕ → Step
default_step none = Broken
default_step (some p) = Default p

abbrev pub hit_step : Values → Step
hit_step vnil = Hit
hit_step (vcons v rest) = Broken

abbrev pub test_step : Signature → List ℕ → ℕ → Values → Step
test_step sig t i vnil = Broken
test_step sig t i (vcons (con c us) rest) = link_step (link_to sig t i c)

abbrev pub split_step : List ℕ → ℕ → Values → Step
split_step t i vnil = Broken
split_step t i (vcons (con c us) rest) = link_step (split_to t i c)

abbrev pub skip_step : Values → Step
skip_step vnil = Broken
skip_step (vcons v rest) = On 1 (size v)

abbrev pub word_step : Signature → List ℕ → ℕ → Values → Option ℕ → Step
word_step sig t i vs none = Broken
word_step sig t i vs (some w) = cond (eqb w 0) (default_step (get_elem? t 1)) (cond (eqb w 1) (hit_step vs) (cond (eqb w 2) (test_step sig t i vs) (cond (eqb w 3) (skip_step vs) (cond (eqb w 4) (split_step t i vs) Broken))))

-- the node at index i, with these parts of the booking left; t is the tree from the node on
abbrev pub step_at : Signature → List ℕ → ℕ → Values → Step
step_at sig t i vs = word_step sig t i vs (get_elem? t 0)
