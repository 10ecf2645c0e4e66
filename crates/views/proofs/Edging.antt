-- The first cells that are not kept are found one after the other.
use mathlib.Core.Path.{◌≡◌, refl, ap, sym, ◌∙◌}
use mathlib.Core.List.{List}
use mathlib.Core.Bool.{Bool, true, false, cond, ◌||◌}
use Prim.Native.Nat.{ℕ, suc, ◌+◌, ◌-◌, ◌/◌, ◌≤◌, ◌<◌}
use native.Mathlib.Omega.{arith}
use lib.Dec.{eqb}
use lib.ListN.{length}
use Rattle.signature.proofs.Booleans.{or_assoc, or_false, or_turn}
use Rattle.signature.proofs.Tests.{eqb_sym}
use Rattle.row.specs.Row.{Row, named, free, Rows, rnil, rcons}
use Rattle.row.specs.RowFits.{Goods, goods_nil, goods_cons, place_count, places_count}
use Rattle.sets.specs.Set.{bit}
use Rattle.sets.proofs.SetLaws.{bit_zero}
use Rattle.cell.specs.declared.cell.Cell.{Cell}
use Rattle.cell.specs.Coded.{row_code}
use Rattle.cell.specs.Cursor.{cell_at, opens_of}
use Rattle.witness.proofs.Behind.{◌behind◌}
use Rattle.meeting.specs.Part.{GivenPart}
use Rattle.views.specs.View.{kept_of, edge, edges}
use Rattle.views.specs.Write.{GivenRow, Frontier}
use Rattle.views.proofs.Opened.{open_bit, kept_bit}
use Rattle.views.proofs.Standing.{below, ended}
use Rattle.views.proofs.Walking.{Walks, ahead, few_left, start as started}

module _ (kept : ℕ → Bool) (c : ℕ) where
  edges_behind : (i : ℕ) (rs ss : Rows) → edges kept c i (rs behind ss) ≡ (edges kept c i rs || edges kept c (i + places_count rs) ss)
  edges_behind i rnil ss = let z : i ≡ i + 0 = omega arith in ap (λ (n : ℕ). edges kept c n ss) z
  edges_behind i (rcons r rs) ss =
      let z : i + place_count r + places_count rs ≡ i + (place_count r + places_count rs) = omega arith in
      ap (λ (b : Bool). edge kept c i r || b) (edges_behind (i + place_count r) rs ss)
      ∙ ap (λ (n : ℕ). edge kept c i r || (edges kept c (i + place_count r) rs || edges kept c n ss)) z
      ∙ sym (or_assoc (edge kept c i r) (edges kept c (i + place_count r) rs) (edges kept c (i + (place_count r + places_count rs)) ss))

  kept_front : (i : ℕ) (r : Row) (todo : Rows) → kept i ≡ true → edges kept c i (rcons r todo) ≡ edges kept c (suc i) (below r behind todo)
  kept_front i (named xs d rs) todo e =
      let z : i + suc (places_count rs) ≡ suc i + places_count rs = omega arith in
      rw (e, z) (sym (edges_behind (suc i) rs todo))
  kept_front i (free xs cs) todo e = let z : i + 1 ≡ suc i = omega arith in rw (e, z)

  open_front : (i : ℕ) (r : Row) → kept i ≡ false → edge kept c i r ≡ eqb i c
  open_front i (named xs d rs) e = rw e
  open_front i (free xs cs) e = rw e

-- in the loop: some of the cells are found, the others are those of the rows still to come
pub record Mid {t row : List ℕ} (g : GivenRow t row) (opened at left m i : ℕ) (ks : List ℕ) (todo : Rows) (found : ℕ → Bool) : Type 0 where
  pub walks : Walks g at left i ks todo
  pub bits : (c : ℕ) → bit m c ≡ cond (found c) 1 0
  pub all_are : (c : ℕ) → (found c || edges (kept_of opened) c i todo) ≡ edge (kept_of opened) c 0 g.part.r

abbrev pub Now : {t row : List ℕ} → GivenRow t row → ℕ → ℕ → ℕ → ℕ → Type 0
Now g opened at left m = (i : ℕ) × (ks : List ℕ) × (todo : Rows) × (found : ℕ → Bool) × Mid g opened at left m i ks todo found

-- what a turn needs and does
pub record Turn {t row : List ℕ} (g : GivenRow t row) (opened at left m : ℕ) : Type 0 where
  pub see : at + 3 ≤ length row
  pub small : at / 3 < 64
  pub given : GivenPart t row at
  pub some : (n : ℕ) → ((q : GivenPart t row at) → n ≡ at + length (row_code q.K q.r q.kind)) → at + 3 ≤ n
  pub open_turn : (m' n : ℕ) → eqb (bit opened (at / 3)) 1 ≡ true → ((j : ℕ) → bit m' j ≡ cond (eqb j (at / 3)) 1 (bit m j)) → ((q : GivenPart t row at) → n ≡ at + length (row_code q.K q.r q.kind)) → Now g opened n (left - 1) m'
  pub kept_turn : (x : Cell) (w : ℕ) → eqb (bit opened (at / 3)) 1 ≡ false → x ≡ cell_at row at → w ≡ opens_of t x.tag → Now g opened (at + 3) (left - 1 + w) m

cond_or : (a b : Bool) (n : ℕ) → n ≡ cond b 1 0 → cond a 1 n ≡ cond (a || b) 1 0
cond_or true b n e = refl
cond_or false b n e = e

module _ {t row : List ℕ} (g : GivenRow t row) (opened : ℕ) where
  pub start : Now g opened 0 1 0
  start = (0, _, _, (λ c. false), record { walks = started g; bits = λ c. bit_zero c; all_are = λ c. or_false (edge (kept_of opened) c 0 g.part.r) })

  module _ (at left m : ℕ) where
    turn_at : (i : ℕ) {ks : List ℕ} {todo : Rows} (found : ℕ → Bool) → Goods g.part.known.sig ks todo → Mid g opened at left m i ks todo found → 0 < left → Turn g opened at left m
    turn_at i found goods_nil M h = absurd (omega (arith, M.walks.stands.left_is))
    turn_at i found (goods_cons {r = r} {rs = todo} a b) M h =
        let A = ahead g at left i a b M.walks in
        let x = A.index in
        let kept = kept_of opened in
        record {
          see = A.front.see;
          small = omega (arith, A.small, x);
          given = A.given;
          some = A.some;
          open_turn = λ m' n e bs en. (
            i + place_count r,
            _,
            todo,
            (λ c. eqb c i || found c),
            record {
              walks = A.past n en;
              bits = λ c. bs c ∙ ap (λ (j : ℕ). cond (eqb c j) 1 (bit m c)) x ∙ cond_or (eqb c i) (found c) (bit m c) (M.bits c);
              all_are = λ c.
                  sym (or_turn (found c) (eqb c i) (edges kept c (i + place_count r) todo))
                  ∙ ap (λ (z : Bool). found c || (z || edges kept c (i + place_count r) todo)) (eqb_sym c i ∙ sym (open_front kept c i r (open_bit opened i (rw x at e))))
                  ∙ M.all_are c;
            },
          );
          kept_turn = λ y w e ey ew. (
            suc i,
            _,
            _,
            found,
            record { walks = A.into y w ey ew; bits = M.bits; all_are = λ c. ap (λ (z : Bool). found c || z) (sym (kept_front kept c i r todo (kept_bit opened i (rw x at e)))) ∙ M.all_are c },
          );
        }

    pub turn : Now g opened at left m → 0 < left → Turn g opened at left m
    turn (i, ks, todo, found, M) h = turn_at i found M.walks.stands.good M h

    pub few : Now g opened at left m → at + left ≤ length row
    few (i, ks, todo, found, M) = few_left g at left i M.walks

    pub end : Now g opened at left m → left ≡ 0 → Frontier g opened m
    end (i, ks, todo, found, M) e c =
        let q = ended g.part.known.sig row g.part.rest at left M.walks.stands.good M.walks.stands e in
        M.bits c ∙ ap (λ (b : Bool). cond b 1 0) (sym (or_false (found c)) ∙ ap (λ (rs : Rows). found c || edges (kept_of opened) c i rs) (sym q.1) ∙ M.all_are c)
