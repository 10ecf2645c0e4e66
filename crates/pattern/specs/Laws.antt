-- The laws of patterns. The function `laws` promises them.
use Rattle.std.specs.Prelude.{◌≡◌, ◌⊎◌, ◌↔◌, List, ◌++◌, true, false, ℕ, ◌≤◌}
use Rattle.std.proofs.Math.Option.{some}
use Rattle.signature.specs.Lawful.{OfKind}
use Rattle.signature.specs.Lists.{memb}
use Rattle.signature.specs.Signature.{Signature}
use Rattle.signature.specs.Value.{Value}
use Rattle.pattern.specs.Ambiguous.{Ambiguous}
use Rattle.pattern.specs.Decide.{decide, is_fit}
use Rattle.pattern.specs.Limits.{part_weight_limit}
use Rattle.pattern.specs.Linear.{E, O, linear_plus, linear_minus}
use Rattle.pattern.specs.Match.{Binds, Fits, Fails}
use Rattle.pattern.specs.Pattern.{Pattern, pattern_code, pattern_depth}
use Rattle.pattern.specs.Places.{Same, PlacesOf, bind_all, unbound, times, tick}
use Rattle.pattern.specs.Read.{read_one, read_pattern}
use Rattle.pattern.specs.Ranged.{ranged}
use Rattle.pattern.specs.Side.{Side, plus, Stands, TooHeavy, WrongRange, weight_at}
use Rattle.pattern.specs.Weight.{light_plus}
use Rattle.pattern.specs.WellFormed.{WellFormed, PatternWords}

pub record Laws : Type 0 where
  -- 7: exactly the words of patterns are read, and what was read was there
  pub pattern : (sig : Signature) (ws : List ℕ) (p : Pattern) → ((read_pattern sig ws ≡ some p) ↔ (PatternWords sig ws p))
  pub pattern_read : (sig : Signature) (d k : ℕ) (p : Pattern) (rest : List ℕ) → WellFormed sig k p → pattern_depth p ≤ d → read_one sig d k (pattern_code p ++ rest) ≡ some (p, rest)
  pub pattern_was : (sig : Signature) (d k : ℕ) (ws : List ℕ) (p : Pattern) (rest : List ℕ) → read_one sig d k ws ≡ some (p, rest) → WellFormed sig k p × (pattern_depth p ≤ d) × (pattern_code p ++ rest ≡ ws)
  -- the paper, theorem 3: never both
  pub not_both : (p : Pattern) (v : Value) (i : ℕ) (σ τ : Binds) → Fits p v i σ → Fails p v i τ → ⊥
  -- theorem 4: always one
  pub one_of : (sig : Signature) (k : ℕ) (p : Pattern) (v : Value) (i : ℕ) → WellFormed sig k p → OfKind sig k v → ((σ : Binds) × Fits p v i σ) ⊎ ((σ : Binds) × Fails p v i σ)
  -- and the decision says which
  pub decide_fits : (sig : Signature) (k : ℕ) (p : Pattern) (v : Value) (i : ℕ) → WellFormed sig k p → OfKind sig k v → ((is_fit (decide p v i) ≡ true) ↔ ((σ : Binds) × Fits p v i σ))
  pub decide_fails : (sig : Signature) (k : ℕ) (p : Pattern) (v : Value) (i : ℕ) → WellFormed sig k p → OfKind sig k v → ((is_fit (decide p v i) ≡ false) ↔ ((σ : Binds) × Fails p v i σ))
  -- theorems 10 and 11: a fit of a linear-plus pattern binds each variable of E exactly once, and no other; a failure of a linear-minus one those of O
  pub covering : (p : Pattern) (v : Value) (i : ℕ) (σ : Binds) → linear_plus p ≡ true → Fits p v i σ → (x : ℕ) → times x σ ≡ tick (memb x (E p))
  pub covering_minus : (p : Pattern) (v : Value) (i : ℕ) (σ : Binds) → linear_minus p ≡ true → Fails p v i σ → (x : ℕ) → times x σ ≡ tick (memb x (O p))
  -- theorem 15: a linear-plus pattern without ambiguous part binds in one way
  pub one_way : (sig : Signature) (k : ℕ) (p : Pattern) (v : Value) (i : ℕ) (σ τ : Binds) → linear_plus p ≡ true → (Ambiguous sig k p → ⊥) → OfKind sig k v → Fits p v i σ → Fits p v i τ → Same σ τ
  -- so that the 16 places are a function
  pub places : (p : Pattern) (v : Value) (i : ℕ) (σ : Binds) → linear_plus p ≡ true → Fits p v i σ → PlacesOf σ (bind_all σ unbound)
  pub places_only : (σ : Binds) (ps qs : List ℕ) → PlacesOf σ ps → PlacesOf σ qs → ps ≡ qs
  pub one_list : (sig : Signature) (k : ℕ) (p : Pattern) (v : Value) (i : ℕ) (σ τ : Binds) → linear_plus p ≡ true → (Ambiguous sig k p → ⊥) → OfKind sig k v → Fits p v i σ → Fits p v i τ → bind_all σ unbound ≡ bind_all τ unbound
  -- 9: "Each part, at the side on which it stands, weighs at most 64", and some part does not
  pub light : (sig : Signature) (k : ℕ) (p : Pattern) → WellFormed sig k p → ((light_plus p ≡ true) ↔ ((r : Side) (j : ℕ) (q : Pattern) → Stands sig plus k p r j q → weight_at r q ≤ part_weight_limit))
  pub heavy : (sig : Signature) (k : ℕ) (p : Pattern) → WellFormed sig k p → ((light_plus p ≡ false) ↔ TooHeavy sig k p)
  -- 18: some range is wrong
  pub wrong_range : (sig : Signature) (k : ℕ) (p : Pattern) → WellFormed sig k p → ((ranged p ≡ false) ↔ WrongRange sig k p)
