-- The arguments of a constructor, one after the other.
use mathlib.Core.Path.{◌≡◌, refl, ap, ◌∙◌, sym, subst}
use mathlib.Core.List.{List, [], ◌∷◌}
use mathlib.Core.Bool.{Bool, true, false}
use Prim.Native.Nat.{ℕ, suc, ◌+◌, ◌*◌, ◌≤◌, ◌<◌}
use native.Mathlib.Nat.{suc-mul}
use native.Mathlib.Omega.{arith}
use lib.ListN.{length, drop, get_or, length-append, length-drop}
use Rattle.signature.specs.Decoded.{arity_of}
use Rattle.signature.specs.Lists.{All, also}
use Rattle.signature.specs.Signature.{Signature, arguments}
use Rattle.signature.proofs.Booleans.{and_left, and_right}
use Rattle.signature.proofs.KnownFacts.{arity_is}
use Rattle.signature.proofs.Tests.{times_less}
use Rattle.pattern.specs.Pattern.{Pattern, Patterns, pnil, pcons, patterns_code}
use Rattle.pattern.specs.Ranged.{ranged, all_ranged}
use Rattle.pattern.specs.Weight.{light_plus, light_minus, light_all_plus, light_all_minus}
use Rattle.pattern.specs.WellFormed.{WellFormed, AllWellFormed, well_nil, well_cons}
use Rattle.builder.specs.Arguments.{GivenArgs, MadeArgs, lights_of}
use Rattle.rowlist.specs.Next.{Short}
use Rattle.builder.specs.Build.{light_of}
use Rattle.rowlist.specs.Grow.{words_list}
use Rattle.rowlist.specs.Product.{Product}
use Rattle.builder.proofs.Behind.{behind_nil}

-- lists that are begun are short
list_le : (n : ℕ) (vs : List (List ℕ)) → Short n vs → length (words_list vs) ≤ length vs * (1 + n)
list_le n [] s = omega arith
list_le n (v ∷ vs) s = rw (suc-mul (length vs) (1 + n)) (simp length-append (omega (arith, list_le n vs s.1, s.0)))

-- the list of rows that are begun, with its end
pub begun_small : {used : ℕ} {o : List ℕ} (a : ℕ) (vs : List (List ℕ)) → Product (words_list vs) used o → Short (3 * a) vs → length vs ≤ 64 → used + 1 ≤ 65 + 192 * a
begun_small a vs p s n = omega (arith, p.size, list_le (3 * a) vs s, times_less (length vs) 64 (1 + 3 * a) (1 + 3 * a) n (omega arith))

-- which argument is next
pub record NextArg (sig : Signature) (b : Bool) (n : ℕ) (ks : List ℕ) (ps : Patterns) (k : ℕ) (js : List ℕ) : Type 0 where
  pub p : Pattern
  pub qs : Patterns
  pub kinds_are : ks ≡ k ∷ js
  pub parts_are : ps ≡ pcons p qs
  pub well : WellFormed sig k p
  pub wells : AllWellFormed sig js qs
  pub light : light_of b p ≡ true
  pub lights : lights_of b qs ≡ true
  pub ranges : (ranged p ≡ true) × (all_ranged qs ≡ true)
  pub there : k < n
  pub theres : All (λ j. j < n) js

pub next_arg : (sig : Signature) (b : Bool) (n k : ℕ) (js ks : List ℕ) (ps : Patterns) → ks ≡ k ∷ js → AllWellFormed sig ks ps → lights_of b ps ≡ true → all_ranged ps ≡ true → All (λ j. j < n) ks → NextArg sig b n ks ps k js
next_arg sig b n k js ks ps e h l r a = go ps (subst (λ (z : List ℕ). AllWellFormed sig z ps) e h) l r (subst (λ (z : List ℕ). All (λ j. j < n) z) e a)
  where
    split : (b : Bool) (p : Pattern) (qs : Patterns) → lights_of b (pcons p qs) ≡ true → (light_of b p ≡ true) × (lights_of b qs ≡ true)
    split true p qs z = (and_left (light_plus p) (light_all_plus qs) z, and_right (light_plus p) (light_all_plus qs) z)
    split false p qs z = (and_left (light_minus p) (light_all_minus qs) z, and_right (light_minus p) (light_all_minus qs) z)

    go : (ps : Patterns) → AllWellFormed sig (k ∷ js) ps → lights_of b ps ≡ true → all_ranged ps ≡ true → All (λ j. j < n) (k ∷ js) → NextArg sig b n ks ps k js
    go (pcons p qs) (well_cons w ws) z r (also i t ts) =
        let y = split b p qs z in
        record { p = p; qs = qs; kinds_are = e; parts_are = refl; well = w; wells = ws; light = y.0; lights = y.1; ranges = (and_left (ranged p) (all_ranged qs) r, and_right (ranged p) (all_ranged qs) r); there = t; theres = ts }
    go pnil x4 z r _ = elim x4 [ ]

pub drop_next : (j : ℕ) (l : List ℕ) → j < length l → drop j l ≡ get_or l j 0 ∷ drop (j + 1) l
drop_next j [] h = absurd (omega arith)
drop_next Prim.Native.Nat.zero (x ∷ l) h = refl
drop_next (suc j) (x ∷ l) h = let z : suc j + 1 ≡ suc (j + 1) = omega arith in rw z (drop_next j l (omega arith))

no_drop : (j : ℕ) (l : List ℕ) → length l ≤ j → drop j l ≡ []
no_drop j l h = none_long (drop j l) (omega (arith, length-drop j l))
  where
    none_long : (l : List ℕ) → length l ≤ 0 → l ≡ []
    none_long [] h = refl
    none_long (x ∷ l) h = absurd (omega arith)

module _ {t : List ℕ} {c j : ℕ} {w : List ℕ} {b : Bool} {used : ℕ} {o : List ℕ} {m : ℕ} (g : GivenArgs t c j w b used o m) where
  pub args_count : arity_of t c ≡ length (arguments g.known.sig c)
  args_count = arity_is g.known c g.head

  -- none is left
  pub args_end : arity_of t c ≤ j → MadeArgs g.known.sig b g.ks g.ps g.begun (g.a + length (patterns_code g.ps)) used 0 o
  args_end h = go g.ks g.ps (sym g.kinds ∙ no_drop j (arguments g.known.sig c) (omega (arith, h, args_count))) g.well
    where
      go : (ks : List ℕ) (ps : Patterns) → ks ≡ [] → AllWellFormed g.known.sig ks ps → MadeArgs g.known.sig b ks ps g.begun (g.a + length (patterns_code ps)) used 0 o
      go [] pnil e well_nil = record { read_is = refl; list = rw (behind_nil b g.known.sig g.begun) g.list; small = omega (arith, g.small) }
      go (k ∷ ks) ps e h = absurd (omega (arith, ap length e))
      go [] (pcons _ _) e h = elim h [ ]
