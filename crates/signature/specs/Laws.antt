-- The laws of signatures, values and bookings. The function `laws` promises them.
use Rattle.std.specs.Prelude.{◌↔◌, ◌≡◌, List, [], ◌++◌, true, ℕ, ◌-◌, ◌≤◌, ◌<◌, length, take, drop}
use Rattle.std.proofs.Math.Option.{some}
use Rattle.std.proofs.Math.ListN.{get_elem?}
use Rattle.signature.specs.Lawful.{OfKind, SignatureWords, LawfulBooking}
use Rattle.signature.specs.Lists.{first, memb}
use Rattle.signature.specs.Part.{Begins, part_call}
use Rattle.signature.specs.Read.{read_signature, read_value, read_booking, Signed}
use Rattle.signature.specs.Signature.{Signature, heads, arguments_at, arguments}
use Rattle.signature.specs.Value.{Value, code, size, depth}

pub record Laws : Type 0 where
  -- 01, Signature: exactly the lawful signatures are read, and what was read was there
  pub signature : (ws : List ℕ) (sig : Signature) → ((read_signature ws ≡ some sig) ↔ (SignatureWords ws sig))
  -- a value's words are read back, whatever stands behind them; and what was read was there
  pub value_read : (sig : Signature) (d k : ℕ) (v : Value) (rest : List ℕ) → OfKind sig k v → depth v ≤ d → read_value sig d k (code v ++ rest) ≡ some (v, rest)
  pub value_was : (sig : Signature) (d k : ℕ) (ws : List ℕ) (v : Value) (rest : List ℕ) → read_value sig d k ws ≡ some (v, rest) → OfKind sig k v × (depth v ≤ d) × (code v ++ rest ≡ ws)
  -- 01, Bookings: exactly the lawful bookings are read
  pub booking : (sig : Signature) (ws : List ℕ) (v : Value) → ((read_booking sig ws ≡ some v) ↔ (LawfulBooking sig ws v))
  -- the heads of a kind are those that have argument kinds there
  pub head : (sig : Signature) (k c : ℕ) (ks : List ℕ) → arguments_at sig k c ≡ some ks → (memb c (heads sig k) ≡ true) × (arguments sig c ≡ ks)
  pub head_of : (sig : Signature) (k c : ℕ) → memb c (heads sig k) ≡ true → (ks : List ℕ) × (arguments_at sig k c ≡ some ks)
  -- and they follow on each other: the head c stands at c less the first
  pub consecutive : (sig : Signature) → Signed sig → (k c : ℕ) (ks : List ℕ) → arguments_at sig k c ≡ some ks → get_elem? (heads sig k) (c - first (heads sig k)) ≡ some c
  -- 16: on a lawful booking and a place below its length, the part that begins there, in the booking's own words; it is the only one
  pub part : (ss : List ℕ) (sig : Signature) (bs : List ℕ) (v : Value) (place : ℕ) → read_signature ss ≡ some sig → read_booking sig bs ≡ some v → place < length bs → (u : Value) × Begins v place u × (part_call ss bs place ≡ (0, code u)) × (code u ≡ take (size u) (drop place bs))
  pub part_16 : (ss : List ℕ) (sig : Signature) (bs : List ℕ) (v : Value) (place : ℕ) → read_signature ss ≡ some sig → read_booking sig bs ≡ some v → length bs ≤ place → part_call ss bs place ≡ (16, [])
  pub part_only : (v u w : Value) (place : ℕ) → Begins v place u → Begins v place w → u ≡ w
