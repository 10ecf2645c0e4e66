-- What a row takes and binds, how many places it has, and which rows take some value.
use Rattle.std.specs.Prelude.{◌≡◌, List, [], ◌∷◌, Bool, ◌&&◌, true, false, ◌||◌, ℕ, suc, ◌+◌, ◌<◌, eqb}
use Rattle.std.proofs.Math.Option.{some}
use Rattle.signature.specs.Limits.{constructor_limit}
use Rattle.signature.specs.Lists.{All, memb, any}
use Rattle.signature.specs.Signature.{Signature, arguments_at, heads}
use Rattle.signature.specs.Value.{Value, con, Values, vnil, vcons, size}
use Rattle.row.specs.Row.{Row, named, free, Rows, rnil, rcons}

-- how many places it has
abbrev mutual
  pub place_count : Row → ℕ
  place_count (named xs c rs) = suc (places_count rs)
  place_count (free xs cs) = 1

  pub places_count : Rows → ℕ
  places_count rnil = 0
  places_count (rcons r rs) = place_count r + places_count rs

-- a row fits a value
abbrev mutual
  pub row_fits : Row → Value → Bool
  row_fits (named xs c rs) (con d vs) = eqb c d && rows_fit rs vs
  row_fits (free xs cs) (con d vs) = memb d cs

  pub rows_fit : Rows → Values → Bool
  rows_fit rnil vnil = true
  rows_fit rnil (vcons v vs) = false
  rows_fit (rcons r rs) vnil = false
  rows_fit (rcons r rs) (vcons v vs) = row_fits r v && rows_fit rs vs

-- some row of a list fits
abbrev pub fits_some : List Row → Value → Bool
fits_some rs v = any (λ r. row_fits r v) rs

-- a row binds x at place j, on a value at place i
abbrev mutual
  pub row_binds : Row → Value → ℕ → ℕ → ℕ → Bool
  row_binds (named xs c rs) (con d vs) i x j = (memb x xs && eqb j i) || rows_bind rs vs (suc i) x j
  row_binds (free xs cs) v i x j = memb x xs && eqb j i

  pub rows_bind : Rows → Values → ℕ → ℕ → ℕ → Bool
  rows_bind rnil vs i x j = false
  rows_bind (rcons r rs) vnil i x j = false
  rows_bind (rcons r rs) (vcons v vs) i x j = row_binds r v i x j || rows_bind rs vs (i + size v) x j

module _ (sig : Signature) where
  -- a row of kind k: its constructors are of the kinds of their places, and each place has one that is allowed
  mutual
    pub data Good : ℕ → Row → Type 0 where
      good_named : {k c : ℕ} {xs js : List ℕ} {rs : Rows} → c < constructor_limit → arguments_at sig k c ≡ some js → Goods js rs → Good k (named xs c rs)
      good_free : {k c : ℕ} {xs cs : List ℕ} → All (λ d. memb d (heads sig k) ≡ true) (c ∷ cs) → Good k (free xs (c ∷ cs))

    pub data Goods : List ℕ → Rows → Type 0 where
      goods_nil : Goods [] rnil
      goods_cons : {k : ℕ} {ks : List ℕ} {r : Row} {rs : Rows} → Good k r → Goods ks rs → Goods (k ∷ ks) (rcons r rs)
