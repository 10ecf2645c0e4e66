-- A row seen by some of its cells, and left at one of them. Its cells are numbered in preorder; a value that the row does not take leaves it at some cell.
use Rattle.std.specs.Prelude.{◌≡◌, List, [], ◌∷◌, Bool, true, false, cond, not, ◌&&◌, ◌||◌, ℕ, suc, ◌+◌, ◌≤◌, ◌<◌, max, eqb}
use Rattle.signature.specs.Lists.{memb, keep}
use Rattle.signature.specs.Signature.{Signature, heads, arguments}
use Rattle.signature.specs.Value.{Value, con, Values, vnil, vcons}
use Rattle.row.specs.Row.{Row, named, free, Rows, rnil, rcons}
use Rattle.row.specs.RowFits.{place_count, places_count}
use Rattle.sets.specs.Set.{bit}

-- the cells that are not in a set of open ones are kept
abbrev pub kept_of : ℕ → ℕ → Bool
kept_of opened i = eqb (bit opened i) 0

-- and one more
abbrev pub with_cell : (ℕ → Bool) → ℕ → ℕ → Bool
with_cell kept c i = eqb i c || kept i

-- how many cells stand above each other at most
abbrev mutual
  pub height : Row → ℕ
  height (named xs c rs) = suc (heights rs)
  height (free xs cs) = 1

  pub heights : Rows → ℕ
  heights rnil = 0
  heights (rcons r rs) = max (height r) (heights rs)

module _ (kept : ℕ → Bool) where
  -- a value agrees with a row, whose first cell has the number i, at the kept cells; below a cell that is not kept anything may stand
  abbrev mutual
    pub agrees : ℕ → Row → Value → Bool
    agrees i (named xs c rs) (con d vs) = not (kept i) || (eqb c d && all_agree (suc i) rs vs)
    agrees i (free xs cs) (con d vs) = not (kept i) || memb d cs

    pub all_agree : ℕ → Rows → Values → Bool
    all_agree i rnil vnil = true
    all_agree i rnil (vcons v vs) = false
    all_agree i (rcons r rs) vnil = false
    all_agree i (rcons r rs) (vcons v vs) = agrees i r v && all_agree (i + place_count r) rs vs

  -- cell c is the first on its way from the top that is not kept
  abbrev mutual
    pub edge : ℕ → ℕ → Row → Bool
    edge c i (named xs d rs) = cond (kept i) (edges c (suc i) rs) (eqb i c)
    edge c i (free xs cs) = cond (kept i) false (eqb i c)

    pub edges : ℕ → ℕ → Rows → Bool
    edges c i rnil = false
    edges c i (rcons r rs) = edge c i r || edges c (i + place_count r) rs

  -- below a cell that is not kept none is
  abbrev mutual
    pub Closed : ℕ → Row → Type 0
    Closed i (named xs c rs) = (kept i ≡ false → (j : ℕ) → i < j → j ≤ i + places_count rs → kept j ≡ false) × Closeds (suc i) rs
    Closed i (free xs cs) = Unit {0}

    pub Closeds : ℕ → Rows → Type 0
    Closeds i rnil = Unit {0}
    Closeds i (rcons r rs) = Closed i r × Closeds (i + place_count r) rs

-- the heads of kind k that are none of these
abbrev pub others : Signature → ℕ → List ℕ → List ℕ
others sig k cs = keep (λ d. not (memb d cs)) (heads sig k)

module _ (sig : Signature) (kept : ℕ → Bool) (left : ℕ) where
  -- what may stand at a cell that is not kept: where the row is left, what the row does not allow there; else anything
  abbrev pub outside : ℕ → ℕ → List ℕ → List ℕ
  outside k i cs = cond (eqb i left) (others sig k cs) (heads sig k)

  -- the row of kind k, left at a cell: the kept cells as they are, the others open
  abbrev mutual
    pub view : ℕ → ℕ → Row → Row
    view k i (named xs c rs) = cond (kept i) (named xs c (views (arguments sig c) (suc i) rs)) (free [] (outside k i (c ∷ [])))
    view k i (free xs cs) = cond (kept i) (free xs cs) (free [] (outside k i cs))

    pub views : List ℕ → ℕ → Rows → Rows
    views ks i rnil = rnil
    views [] i (rcons r rs) = rnil
    views (k ∷ ks) i (rcons r rs) = rcons (view k i r) (views ks (i + place_count r) rs)
