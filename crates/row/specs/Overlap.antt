-- 01, Rows: overlap (12) as existence, and its decision, and that of ambiguity (10), by rows. Laws says that each decides exactly the existence.
use Rattle.std.specs.Prelude.{List, [], ◌∷◌, Bool, not, false, ◌&&◌, ◌||◌, ℕ}
use Rattle.std.proofs.Math.Option.{Option, none, some}
use Rattle.signature.specs.Lawful.{LawfulBooking}
use Rattle.signature.specs.Lists.{is_empty, somes}
use Rattle.signature.specs.Signature.{Signature, arguments}
use Rattle.signature.specs.Value.{Value}
use Rattle.pattern.specs.Linear.{E, O}
use Rattle.pattern.specs.Match.{Binds, Fits}
use Rattle.pattern.specs.Pattern.{Pattern, var, wild, absurd_pat, neg, and, or, head, range, Patterns, pnil, pcons}
use Rattle.pattern.specs.Read.{read_pattern}
use Rattle.pattern.specs.Takes.{Takes}
use Rattle.row.specs.Row.{each, combine, rows_plus, rows_minus}

-- decides: some value of kind k fits both. "Calling two exclusions overlapping when together they exclude the whole kind" is a slip: their product is dropped
abbrev pub overlap : Signature → ℕ → Pattern → Pattern → Bool
overlap sig k p q = not (is_empty (somes (each combine (rows_plus sig k p) (rows_plus sig k q))))

-- decides: some value of kind k fails both
abbrev pub overlap_minus : Signature → ℕ → Pattern → Pattern → Bool
overlap_minus sig k p q = not (is_empty (somes (each combine (rows_minus sig k p) (rows_minus sig k q))))

-- decides Ambiguous, and the same of a part on the minus side
abbrev mutual
  pub ambiguous_plus : Signature → ℕ → Pattern → Bool
  ambiguous_plus sig k (var x) = false
  ambiguous_plus sig k wild = false
  ambiguous_plus sig k absurd_pat = false
  ambiguous_plus sig k (neg p) = ambiguous_minus sig k p
  ambiguous_plus sig k (and p q) = ambiguous_plus sig k p || ambiguous_plus sig k q
  ambiguous_plus sig k (or p q) = (not (is_empty (E (or p q))) && overlap sig k p q) || ambiguous_plus sig k p || ambiguous_plus sig k q
  ambiguous_plus sig k (head c ps) = any_plus sig (arguments sig c) ps
  ambiguous_plus sig k (range low high) = false

  pub ambiguous_minus : Signature → ℕ → Pattern → Bool
  ambiguous_minus sig k (var x) = false
  ambiguous_minus sig k wild = false
  ambiguous_minus sig k absurd_pat = false
  ambiguous_minus sig k (neg p) = ambiguous_plus sig k p
  ambiguous_minus sig k (and p q) = (not (is_empty (O (and p q))) && overlap_minus sig k p q) || ambiguous_minus sig k p || ambiguous_minus sig k q
  ambiguous_minus sig k (or p q) = ambiguous_minus sig k p || ambiguous_minus sig k q
  ambiguous_minus sig k (head c ps) = any_minus sig (arguments sig c) ps
  ambiguous_minus sig k (range low high) = false

  pub any_plus : Signature → List ℕ → Patterns → Bool
  any_plus sig ks pnil = false
  any_plus sig [] (pcons p ps) = false
  any_plus sig (k ∷ ks) (pcons p ps) = ambiguous_plus sig k p || any_plus sig ks ps

  pub any_minus : Signature → List ℕ → Patterns → Bool
  any_minus sig ks pnil = false
  any_minus sig [] (pcons p ps) = false
  any_minus sig (k ∷ ks) (pcons p ps) = ambiguous_minus sig k p || any_minus sig ks ps

-- decides: some lawful booking is taken by both
abbrev pub shared_by : Signature → Option Pattern → Option Pattern → Bool
shared_by sig none q = false
shared_by sig (some p) none = false
shared_by sig (some p) (some q) = overlap sig 0 p q

-- decides SharesBooking
abbrev pub shares : Signature → List ℕ → List ℕ → Bool
shares sig us ws = shared_by sig (read_pattern sig us) (read_pattern sig ws)

-- 12: "It shares a booking with a held rule": some lawful booking is taken by both patterns
pub record SharesBooking (sig : Signature) (us ws : List ℕ) : Type 0 where
  pub words : List ℕ
  pub binds_us : Binds
  pub binds_ws : Binds
  pub taken_us : Takes sig us words binds_us
  pub taken_ws : Takes sig ws words binds_ws

-- a lawful booking whose value fits both
pub record Shared (sig : Signature) (p q : Pattern) : Type 0 where
  pub words : List ℕ
  pub value : Value
  pub lawful : LawfulBooking sig words value
  pub binds_p : Binds
  pub binds_q : Binds
  pub fits_p : Fits p value 0 binds_p
  pub fits_q : Fits q value 0 binds_q
