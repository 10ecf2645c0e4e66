-- What a node asks for, by its first word and the first part left.
use mathlib.Core.Path.{◌≡◌, refl, ap}
use mathlib.Core.List.{List, ◌∷◌, ◌++◌}
use mathlib.Core.Option.{Option, none, some}
use mathlib.Core.Bool.{Bool, true, false, cond}
use Prim.Native.Nat.{ℕ, ◌≤◌, ◌<◌}
use native.Mathlib.Omega.{arith}
use lib.Dec.{eqb}
use lib.ListN.{length, get_or, get_elem?}
use Rattle.std.specs.Prelude.{Option as Answer}
use Rattle.signature.specs.Decoded.{Starts}
use Rattle.signature.specs.Lawful.{OfKind, of_kind, OfKinds, of_kinds_nil, of_kinds_cons}
use Rattle.signature.specs.Signature.{arguments_at}
use Rattle.signature.specs.Value.{Values, vnil, vcons, con, size, codes}
use Rattle.signature.proofs.ListFacts.{at_getD, at_out}
use Rattle.signature.proofs.Tests.{eqb_no}
use Rattle.nodes.specs.Parts.{Parts, HeadByTable}
use Rattle.nodes.specs.Step.{default_step, link_to, split_to, leads, link_step, step_on, step_at}
use Rattle.nodes.specs.declared.node.Step.TheVariants.{Default, Hit, On, Broken}
use Rattle.nodes.proofs.LinkLaws.{stands}

-- a default leaf
pub default_cut : (t : List ℕ) → length t < 2 → Broken ≡ default_step (get_elem? t 1)
default_cut t h = rw (at_out t 1 (omega arith))

pub default_whole : (t : List ℕ) → 2 ≤ length t → Default (get_or t 1 0) ≡ default_step (get_elem? t 1)
default_whole t h = rw (at_getD t 1 (omega arith))

-- a link that is followed
step_same : (d : Answer ℕ) (o : Option ℕ) → d ≡ leads o → step_on d ≡ link_step o
step_same d none q = rw q
step_same d (some x) q = rw q

-- the first part left
pub record Front {table b : List ℕ} (p : Parts table b) : Type 0 where
  pub kind : ℕ
  pub head : ℕ
  pub args : List ℕ
  pub under : Values
  pub rest : Values
  pub has : arguments_at p.known.sig kind head ≡ some args
  pub kinded : OfKind p.known.sig kind (con head under)
  pub values_are : p.values ≡ vcons (con head under) rest
  pub words : b ≡ head ∷ (codes under ++ codes rest)

module _ {table b : List ℕ} (p : Parts table b) where
  pub front : 0 < length b → Front p
  front l = go p.kinded refl p.words
    where
      go : {ks : List ℕ} {vs : Values} → OfKinds p.known.sig ks vs → p.values ≡ vs → b ≡ codes vs → Front p
      go of_kinds_nil q w = absurd (omega (arith, ap length w))
      go (of_kinds_cons {k = k} {vs = rest} (of_kind {c = c} {ks = js} {vs = us} e h) g) q w = record { kind = k; head = c; args = js; under = us; rest = rest; has = e; kinded = of_kind e h; values_are = q; words = w }

  pub none_left : length b ≤ 0 → p.values ≡ vnil
  none_left l = go p.values refl p.words
    where
      go : (vs : Values) → p.values ≡ vs → b ≡ codes vs → p.values ≡ vnil
      go vnil q w = q
      go (vcons (con c us) rest) q w = absurd (omega (arith, ap length w))

  abbrev pub starts : 0 < length b → Starts table b
  starts l = let f = front l in record { known = p.known; kind = f.kind; value = con f.head f.under; kinded = f.kinded; rest = codes f.rest; words = f.words }

  head_is : (l : 0 < length b) → get_or b 0 0 ≡ (front l).head
  head_is l = ap (λ w. get_or w 0 0) (front l).words

  pub head_known : 0 < length b → HeadByTable table (get_or b 0 0)
  head_known l = rw (head_is l) (stands p.known (front l).kind (front l).head (front l).args (front l).has)

  module _ (t : List ℕ) (i : ℕ) where
    pub node_out : length t ≡ 0 → Broken ≡ step_at p.known.sig t i p.values
    node_out e = rw (at_out t 0 (omega arith))

    module _ (h : length t ≡ 0 → ⊥) where
      word : get_elem? t 0 ≡ some (get_or t 0 0)
      word = at_getD t 0 (omega arith)

      pub node_default : get_or t 0 0 ≡ 0 → default_step (get_elem? t 1) ≡ step_at p.known.sig t i p.values
      node_default e = rw (word, e)

      pub node_left : get_or t 0 0 ≡ 1 → 0 < length b → Broken ≡ step_at p.known.sig t i p.values
      node_left e l = rw (word, e, (front l).values_are)

      pub node_hit : get_or t 0 0 ≡ 1 → length b ≤ 0 → Hit ≡ step_at p.known.sig t i p.values
      node_hit e l = rw (word, e, none_left l)

      pub node_test : get_or t 0 0 ≡ 2 → 0 < length b → (d : Answer ℕ) → d ≡ leads (link_to p.known.sig t i (get_or b 0 0)) → step_on d ≡ step_at p.known.sig t i p.values
      node_test e l d q = rw (word, e, (front l).values_are) (step_same d (link_to p.known.sig t i (front l).head) (rw (head_is l) at q))

      pub node_split : get_or t 0 0 ≡ 4 → 0 < length b → (d : Answer ℕ) → d ≡ leads (split_to t i (get_or b 0 0)) → step_on d ≡ step_at p.known.sig t i p.values
      node_split e l d q = rw (word, e, (front l).values_are) (step_same d (split_to t i (front l).head) (rw (head_is l) at q))

      pub node_skip : get_or t 0 0 ≡ 3 → (l : 0 < length b) → (m : ℕ) → m ≡ size (con (front l).head (front l).under) → On 1 m ≡ step_at p.known.sig t i p.values
      node_skip e l m q = rw (word, e, (front l).values_are) (ap (On 1) q)

      module _ (n₀ : get_or t 0 0 ≡ 0 → ⊥) (n₁ : get_or t 0 0 ≡ 1 → ⊥) where
        pub node_no_part : length b ≡ 0 → Broken ≡ step_at p.known.sig t i p.values
        node_no_part l = rw (word, eqb_no (get_or t 0 0) 0 n₀, eqb_no (get_or t 0 0) 1 n₁, none_left (omega arith)) (go (eqb (get_or t 0 0) 2) (eqb (get_or t 0 0) 3) (eqb (get_or t 0 0) 4))
          where
            go : (x y z : Bool) → Broken ≡ cond x Broken (cond y Broken (cond z Broken Broken))
            go true y z = refl
            go false true z = refl
            go false false true = refl
            go false false false = refl

        pub node_other : (get_or t 0 0 ≡ 2 → ⊥) → (get_or t 0 0 ≡ 3 → ⊥) → (get_or t 0 0 ≡ 4 → ⊥) → Broken ≡ step_at p.known.sig t i p.values
        node_other n₂ n₃ n₄ = rw (word, eqb_no (get_or t 0 0) 0 n₀, eqb_no (get_or t 0 0) 1 n₁, eqb_no (get_or t 0 0) 2 n₂, eqb_no (get_or t 0 0) 3 n₃, eqb_no (get_or t 0 0) 4 n₄)
