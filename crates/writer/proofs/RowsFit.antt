-- The rows of a pattern that passed its checks are fit to be written.
use mathlib.Core.Path.{◌≡◌, refl, sym, ap, subst, ◌∙◌}
use mathlib.Core.List.{List, [], ◌∷◌, ◌++◌}
use mathlib.Core.Option.{some}
use mathlib.Core.Bool.{Bool, true, false, not, cond}
use Prim.Native.Nat.{ℕ, ◌+◌, ◌*◌, ◌≤◌, ◌<◌}
use native.Mathlib.Omega.{arith}
use lib.Dec.{eqb}
use lib.ListN.{length}
use Rattle.signature.specs.Decoded.{Known}
use Rattle.signature.specs.Lists.{All, none_left, also, memb, keep, is_empty, somes, require, ◌>>=◌}
use Rattle.signature.specs.Signature.{Signature, heads, arguments}
use Rattle.signature.proofs.Booleans.{and_left}
use Rattle.signature.proofs.Heads.{args_same, has_kind}
use Rattle.signature.proofs.ListFacts.{all_append, all_map, all_somes, all_both, all_imp, Kept, kept, dropped, kept_bind, kept_if}
use Rattle.signature.proofs.Members.{memb_keep}
use Rattle.signature.proofs.Tests.{eqb_eq, eqb_self}
use Rattle.pattern.specs.Limits.{pattern_limit, variable_count}
use Rattle.pattern.specs.Linear.{linear_plus, E}
use Rattle.pattern.specs.Pattern.{Pattern, Patterns, head, and, or, neg, wild, absurd_pat, var, range, pnil, pcons, pattern_code}
use Rattle.pattern.specs.Range.{within}
use Rattle.pattern.specs.Places.{tick}
use Rattle.pattern.specs.WellFormed.{WellFormed, well_head, well_and, well_or, well_not, well_var, AllWellFormed, well_nil, well_cons}
use Rattle.pattern.proofs.Once.{tick_one}
use Rattle.row.specs.Row.{Row, Rows, named, free, rnil, rcons, combine, combines, each, open_row, open_rows, allowing, rows_plus, rows_minus, args_plus, args_minus}
use Rattle.row.proofs.Places.{all_each, plus_places}
use Rattle.row.proofs.RowCount.{counts, occurs, occurs_all, plus_once}
use Rattle.cell.specs.Coded.{kinds_of, row_code, Typed, Typeds}
use Rattle.cell.specs.RowList.{Every}
use Rattle.builder.proofs.Rooms.{code_places}
use Rattle.rowlist.proofs.Typing.{typed_rows}
use Rattle.path.specs.Standing.{RowStands, RowsStand, Among}
use Rattle.path.specs.Variables.{Once}

abbrev Small : List ℕ → Type 0
Small vs = All (λ x. x < variable_count) vs

among_self : (cs : List ℕ) → Among cs cs
among_self cs c e = e

among_keep : (f : ℕ → Bool) (cs ds : List ℕ) → Among cs ds → Among (keep f cs) ds
among_keep f cs ds h c e = h c (and_left (memb c cs) (f c) (sym (memb_keep f c cs) ∙ e))

module _ (sig : Signature) where
  -- constructors of the kinds of their places, variables below 16
  abbrev mutual
    Kinded : Row → ℕ → Type 0
    Kinded (named vs c rs) k = (memb c (heads sig k) ≡ true) × Small vs × Kindeds rs (arguments sig c)
    Kinded (free vs cs) k = Among cs (heads sig k) × Small vs

    Kindeds : Rows → List ℕ → Type 0
    Kindeds rnil [] = Unit {0}
    Kindeds rnil (k ∷ ks) = ⊥
    Kindeds (rcons r rs) [] = ⊥
    Kindeds (rcons r rs) (k ∷ ks) = Kinded r k × Kindeds rs ks

  mutual
    combined : (r s : Row) (k : ℕ) → Kinded r k → Kinded s k → Kept (λ r. Kinded r k) (combine r s)
    combined (named xs c rs) (named ys d ss) k g h = go (eqb c d) refl (λ i. combineds rs ss (arguments sig c) g.2 i)
      where
        go : (b : Bool) → eqb c d ≡ b → (Kindeds ss (arguments sig c) → Kept (λ ts. Kindeds ts (arguments sig c)) (combines rs ss)) → Kept (λ r. Kinded r k) (require b >>= λ u. combines rs ss >>= λ ts. some (named (xs ++ ys) c ts))
        go true e f = kept_bind _ (λ ts w. kept (named (xs ++ ys) c ts) (g.0, all_append g.1 h.1, w)) (f (subst (λ (n : ℕ). Kindeds ss (arguments sig n)) (sym (eqb_eq c d e)) h.2))
        go false e f = dropped
    combined (named xs c rs) (free ys ds) k g h = kept_if (memb c ds) (named (xs ++ ys) c rs) (λ e. (g.0, all_append g.1 h.1, g.2))
    combined (free xs cs) (named ys d ss) k g h = kept_if (memb d cs) (named (xs ++ ys) d ss) (λ e. (h.0, all_append g.1 h.1, h.2))
    combined (free xs cs) (free ys ds) k g h = kept_if (not (is_empty (keep (λ c. memb c ds) cs))) (free (xs ++ ys) (keep (λ c. memb c ds) cs)) (λ e. (among_keep (λ c. memb c ds) cs (heads sig k) g.0, all_append g.1 h.1))

    combineds : (rs ss : Rows) (ks : List ℕ) → Kindeds rs ks → Kindeds ss ks → Kept (λ ts. Kindeds ts ks) (combines rs ss)
    combineds rnil rnil [] g h = kept rnil tt
    combineds rnil rnil (k ∷ ks) g h = absurd g
    combineds rnil (rcons s ss) [] g h = absurd h
    combineds rnil (rcons s ss) (k ∷ ks) g h = absurd g
    combineds (rcons r rs) rnil [] g h = absurd g
    combineds (rcons r rs) rnil (k ∷ ks) g h = absurd h
    combineds (rcons r rs) (rcons s ss) [] g h = absurd g
    combineds (rcons r rs) (rcons s ss) (k ∷ ks) g h = kept_bind _ (λ t u. kept_bind _ (λ ts w. kept (rcons t ts) (u, w)) (combineds rs ss ks g.1 h.1)) (combined r s k g.0 h.0)

  opens : (ks : List ℕ) → Kindeds (open_rows sig ks) ks
  opens [] = tt
  opens (k ∷ ks) = ((among_self (heads sig k), none_left), opens ks)

  products : (k : ℕ) {rs ss : List Row} → All (λ r. Kinded r k) rs → All (λ r. Kinded r k) ss → All (λ r. Kinded r k) (somes (each combine rs ss))
  products k ps qs = all_somes (all_each combine (λ r s g h. combined r s k g h) ps qs)

  -- some of the heads of a kind
  some_heads : (k : ℕ) (f : ℕ → Bool) → All (λ r. Kinded r k) (allowing (keep f (heads sig k)))
  some_heads k f = go (is_empty (keep f (heads sig k)))
    where
      go : (b : Bool) → All (λ r. Kinded r k) (cond b [] (free [] (keep f (heads sig k)) ∷ []))
      go true = none_left
      go false = also (free [] (keep f (heads sig k))) (among_keep f (heads sig k) (heads sig k) (among_self (heads sig k)), none_left) none_left

  mutual
    plus_kinded : {k : ℕ} (p : Pattern) → WellFormed sig k p → All (λ r. Kinded r k) (rows_plus sig k p)
    plus_kinded {k} (var x) (well_var l) = also (free (x ∷ []) (heads sig k)) (among_self (heads sig k), also x l none_left) none_left
    plus_kinded {k} wild w = also (open_row sig k) (among_self (heads sig k), none_left) none_left
    plus_kinded absurd_pat w = none_left
    plus_kinded (neg p) (well_not w) = minus_kinded p w
    plus_kinded {k} (and p q) (well_and v w) = products k (plus_kinded p v) (plus_kinded q w)
    plus_kinded (or p q) (well_or v w) = all_append (plus_kinded p v) (plus_kinded q w)
    plus_kinded {k} (head c ps) (well_head {ks = ks} l e w) = all_map (named [] c) (λ rs h. (has_kind sig k c ks e, none_left, h)) (args_plus_kinded ps (subst (λ (js : List ℕ). AllWellFormed sig js ps) (sym (args_same sig k c ks e)) w))
    plus_kinded {k} (range low high) w = some_heads k (λ d. within low high d)

    minus_kinded : {k : ℕ} (p : Pattern) → WellFormed sig k p → All (λ r. Kinded r k) (rows_minus sig k p)
    minus_kinded (var x) w = none_left
    minus_kinded wild w = none_left
    minus_kinded {k} absurd_pat w = also (open_row sig k) (among_self (heads sig k), none_left) none_left
    minus_kinded (neg p) (well_not w) = plus_kinded p w
    minus_kinded (and p q) (well_and v w) = all_append (minus_kinded p v) (minus_kinded q w)
    minus_kinded {k} (or p q) (well_or v w) = products k (minus_kinded p v) (minus_kinded q w)
    minus_kinded {k} (head c ps) (well_head {ks = ks} l e w) = all_append (some_heads k (λ d. not (eqb c d))) (all_map (named [] c) (λ rs h. (has_kind sig k c ks e, none_left, h)) (args_minus_kinded ps (subst (λ (js : List ℕ). AllWellFormed sig js ps) (sym (args_same sig k c ks e)) w)))
    minus_kinded {k} (range low high) w = some_heads k (λ d. not (within low high d))

    args_plus_kinded : {ks : List ℕ} (ps : Patterns) → AllWellFormed sig ks ps → All (λ rs. Kindeds rs ks) (args_plus sig ks ps)
    args_plus_kinded pnil well_nil = also rnil tt none_left
    args_plus_kinded (pcons p ps) (well_cons v w) = all_each rcons (λ r rs g h. (g, h)) (plus_kinded p v) (args_plus_kinded ps w)

    args_minus_kinded : {ks : List ℕ} (ps : Patterns) → AllWellFormed sig ks ps → All (λ rs. Kindeds rs ks) (args_minus sig ks ps)
    args_minus_kinded pnil well_nil = none_left
    args_minus_kinded {ks = []} (pcons p ps) x = elim x [ ]
    args_minus_kinded {ks = k ∷ ks} (pcons p ps) (well_cons v w) = all_append (all_map (λ r. rcons r (open_rows sig ks)) (λ r g. (g, opens ks)) (minus_kinded p v)) (all_map (rcons (open_row sig k)) (λ rs h. ((among_self (heads sig k), none_left), h)) (args_minus_kinded ps w))

-- variables that occur at most once
none_more : (x : ℕ) (ys : List ℕ) → counts x ys ≤ 0 → memb x ys ≡ false
none_more x [] l = refl
none_more x (y ∷ ys) l = go (eqb x y) refl (none_more x ys (omega arith))
  where
    go : (b : Bool) → eqb x y ≡ b → memb x ys ≡ false → memb x (y ∷ ys) ≡ false
    go true e h = absurd (omega (arith, ap tick e))
    go false e h = rw e h

once : (vs : List ℕ) → Small vs → ((x : ℕ) → counts x vs ≤ 1) → Once vs
once [] s h = tt
once (x ∷ vs) (also y l s) h = (l, none_more x vs (omega (arith, h x, ap tick (eqb_self x))), once vs s (λ z. omega (arith, h z)))

module _ (sig : Signature) (t : List ℕ) where
  mutual
    good_row : (r : Row) (k : ℕ) → Typed (kinds_of sig) t r k → Kinded sig r k → ((x : ℕ) → occurs x r ≤ 1) → RowStands sig t r k
    good_row (named vs c rs) k y g h = (y.0, g.0, once vs g.1 (λ x. omega (arith, h x)), good_rows rs (arguments sig c) y.1 g.2 (λ x. omega (arith, h x)))
    good_row (free vs cs) k y g h = (y.0, y.2, g.0, once vs g.1 h)

    good_rows : (rs : Rows) (ks : List ℕ) → Typeds (kinds_of sig) t rs ks → Kindeds sig rs ks → ((x : ℕ) → occurs_all x rs ≤ 1) → RowsStand sig t rs ks
    good_rows rnil [] y g h = tt
    good_rows rnil (k ∷ ks) y g h = absurd g
    good_rows (rcons r rs) [] y g h = absurd g
    good_rows (rcons r rs) (k ∷ ks) y g h = (good_row r k y.0 g.0 (λ x. omega (arith, h x)), good_rows rs ks y.1 g.1 (λ x. omega (arith, h x)))

every_all : {A : Type 0} {P : A → Type 0} (xs : List A) → Every P xs → All P xs
every_all [] e = none_left
every_all (x ∷ xs) e = also x e.0 (every_all xs e.1)

-- what the writer asks of a rule's rows
pub rows_fit : {t : List ℕ} (g : Known t) (p : Pattern) → WellFormed g.sig 0 p → 0 < g.decoded.n → linear_plus p ≡ true → length (pattern_code p) ≤ pattern_limit → All (λ r. RowStands g.sig t r 0 × (length (row_code (kinds_of g.sig) r 0) ≤ 3 * pattern_limit)) (rows_plus g.sig 0 p)
rows_fit {t} g p w n l m =
    all_imp (λ r (y, (k, (o, c))). (good_row g.sig t r 0 y k (λ x. omega (arith, o x, tick_one (memb x (E p)))), omega (arith, code_places (kinds_of g.sig) r 0, c)))
    (all_both (every_all _ (typed_rows g p true 0 n w)) (all_both (plus_kinded g.sig p w) (all_both (plus_once g.sig p 0 l) (plus_places g.sig p w))))
