-- A view is written cell by cell.
use mathlib.Core.Path.{◌≡◌, refl, ap, sym, ◌∙◌}
use mathlib.Core.List.{List, [], ◌∷◌, ◌++◌, append_assoc, append-nil}
use mathlib.Core.Bool.{Bool, true, false}
use Prim.Native.Nat.{ℕ, suc, ◌+◌, ◌-◌, ◌/◌, ◌^◌, ◌≤◌, ◌<◌}
use native.Mathlib.Omega.{arith}
use lib.Dec.{eqb}
use lib.ListN.{length, drop, get_or, length-append, length-drop}
use Rattle.signature.specs.Lists.{first}
use Rattle.signature.specs.Signature.{heads}
use Rattle.signature.specs.Value.{Value, con, Values, vnil, vcons}
use Rattle.signature.proofs.Booleans.{and_right, not_of, not_true}
use Rattle.signature.proofs.Tests.{true≢false}
use Rattle.row.specs.Row.{Row, free, Rows, rnil, rcons}
use Rattle.row.specs.RowFits.{Good, Goods, goods_nil, goods_cons, row_fits, rows_fit, place_count}
use Rattle.sets.specs.Heads.{number_of}
use Rattle.sets.specs.Set.{bit, set_of}
use Rattle.sets.proofs.HeadSets.{number_words}
use Rattle.cell.specs.Cell.{cell_code, first_word}
use Rattle.cell.specs.declared.cell.Cell.{Cell}
use Rattle.std.specs.Prelude.{None, Some}
use Rattle.cell.specs.Coded.{kinds_of, row_code}
use Rattle.cell.specs.Cursor.{cell_at, cell_of, opens_of, put_cell}
use Rattle.cell.proofs.CursorFacts.{cell_words}
use Rattle.cell.proofs.Turns.{put_more}
use Rattle.rowlist.proofs.Kinded.{within_kind, few_heads}
use Rattle.witness.proofs.Behind.{◌behind◌}
use Rattle.meeting.specs.Part.{GivenPart}
use Rattle.views.specs.View.{kept_of, outside, view, views}
use Rattle.cell.proofs.RowListFacts.{not_both}
use Rattle.views.specs.Write.{GivenView, GivenCell, Outside, Viewed, view_of}
use Rattle.cell.specs.Cursor.{cell_kind}
use Rattle.views.proofs.Opened.{open_bit, kept_bit}
use Rattle.views.proofs.Outer.{open_view, none_outside, some_outside, outside_cell}
use Rattle.views.proofs.Standing.{below, below_kinds, tag_of, vars_of, allowed_of, top_code, kind_few}
use Rattle.views.proofs.Viewing.{view_words, kept_words, kept_goods, kept_fits}
use Rattle.views.proofs.Walking.{Walks, ahead, few_left, start as started}

-- the first word of a cell that was read
pub read_fits : (row : List ℕ) → ((i : ℕ) → get_or row i 0 < 2 ^ 64) → (at : ℕ) (c : Cell) → c ≡ cell_at row at → first_word c.tag c.vars < 2 ^ 64
read_fits row h at c e = rw e (omega (arith, h at))

-- in the loop: done is written, and the views of the rows still to come follow
pub record Mid {t row o₀ : List ℕ} (g : GivenView t row o₀) (opened left at n todo : ℕ) (o : List ℕ) (i : ℕ) (ks : List ℕ) (rs : Rows) : Type 0 where
  pub walks : Walks g.given at todo i ks rs
  pub done : List ℕ
  pub size : length done ≡ n
  pub list : o ≡ done ++ drop n o₀
  pub short : n ≤ at
  pub target : row_code (kinds_of g.given.part.known.sig) (view_of g.given opened left) g.given.part.kind ≡ done ++ view_words g.given.part.known.sig (kept_of opened) left ks i rs
  pub good : Goods g.given.part.known.sig ks (views g.given.part.known.sig (kept_of opened) left ks i rs) → Good g.given.part.known.sig g.given.part.kind (view_of g.given opened left)
  pub fits : (v : Value) → row_fits (view_of g.given opened left) v ≡ true → (us : Values) × (rows_fit (views g.given.part.known.sig (kept_of opened) left ks i rs) us ≡ true)

abbrev pub Now : {t row o₀ : List ℕ} → GivenView t row o₀ → ℕ → ℕ → ℕ → ℕ → ℕ → List ℕ → Type 0
Now g opened left at n todo o = (i : ℕ) × (ks : List ℕ) × (rs : Rows) × Mid g opened left at n todo o i ks rs

-- what a turn needs and does: an open cell is written or nothing leaves the row there, a kept one is written
pub record Turn {t row o₀ : List ℕ} (g : GivenView t row o₀) (opened left at n todo : ℕ) (o : List ℕ) : Type 0 where
  pub see : at + 3 ≤ length row
  pub small : at / 3 < 64
  pub room : n + 3 ≤ length o₀
  pub given : GivenPart t row at
  pub cell : (c : Cell) → c ≡ cell_at row at → GivenCell t c.tag
  pub some : (m : ℕ) → ((q : GivenPart t row at) → m ≡ at + length (row_code q.K q.r q.kind)) → at + 3 ≤ m
  pub tag_fits : (c r : Cell) (b : Bool) → c ≡ cell_at row at → Outside t c b r → first_word r.tag r.vars < 2 ^ 64
  pub none_there : (c r : Cell) (b : Bool) → eqb (bit opened (at / 3)) 1 ≡ true → c ≡ cell_at row at → b ≡ eqb (at / 3) left → Outside t c b r → number_of r.allowed ≡ 0 → (v : Value) → row_fits (view_of g.given opened left) v ≡ false
  pub open_turn : (c r : Cell) (b : Bool) (m : ℕ) → eqb (bit opened (at / 3)) 1 ≡ true → c ≡ cell_at row at → b ≡ eqb (at / 3) left → Outside t c b r → ¬ (number_of r.allowed ≡ 0)
      → ((q : GivenPart t row at) → m ≡ at + length (row_code q.K q.r q.kind)) → Now g opened left m (n + 3) (todo - 1) (put_cell o n r)
  pub kept_turn : (c : Cell) (w : ℕ) → eqb (bit opened (at / 3)) 1 ≡ false → c ≡ cell_at row at → w ≡ opens_of t c.tag → Now g opened left (at + 3) (n + 3) (todo - 1 + w) (put_cell o n c)

-- the words that are kept
same_size : (n m : ℕ) → Some n ≡ Some m → n ≡ m
same_size n m e = cc

-- what is left of values that the views take
later : (r : Row) (rs : Rows) (us : Values) → rows_fit (rcons r rs) us ≡ true → (ws : Values) × (rows_fit rs ws ≡ true)
later r rs vnil h = true≢false (sym h)
later r rs (vcons u us) h = (us, and_right (row_fits r u) (rows_fit rs us) h)

nothing : (xs : List ℕ) (rs : Rows) (us : Values) → rows_fit (rcons (free xs []) rs) us ≡ true → ⊥
nothing xs rs vnil h = true≢false (sym h)
nothing xs rs (vcons (con d vs) us) h = true≢false (sym h)

pub out_at : {t row o₀ : List ℕ} (g : GivenView t row o₀) (opened left : ℕ) (o : List ℕ) → ((v : Value) → row_fits (view_of g.given opened left) v ≡ false) → Viewed g opened left None o
out_at g opened left o h = record { kept = λ n e. absurd (not_both e refl); dropped = λ e v. h v }

module _ {t row o₀ : List ℕ} (g : GivenView t row o₀) (opened left : ℕ) where
  pub start : Now g opened left 0 0 1 o₀
  start = (
    0,
    _,
    _,
    record {
      walks = started g.given;
      done = [];
      size = refl;
      list = refl;
      short = omega arith;
      target = sym (append-nil (row_code (kinds_of g.given.part.known.sig) (view_of g.given opened left) g.given.part.kind));
      good = λ h. only h;
      fits = λ v e. (vcons v vnil, rw e);
    },
  )
    where
      only : {k : ℕ} {r : Row} → Goods g.given.part.known.sig (k ∷ []) (rcons r rnil) → Good g.given.part.known.sig k r
      only (goods_cons h hs) = h

  module _ (at n todo : ℕ) (o : List ℕ) where
    pub whole : Now g opened left at n todo o → (length o ≡ length o₀) × (at + todo ≤ length row)
    whole (i, ks, rs, M) = (ap length M.list ∙ simp (length-append, length-drop) (omega (arith, M.size, M.short, M.walks.number, M.walks.total, g.given.few, g.room)), few_left g.given at todo i M.walks)

    end_at : (i : ℕ) {ks : List ℕ} {rs : Rows} → Goods g.given.part.known.sig ks rs → Mid g opened left at n todo o i ks rs → todo ≡ 0 → Viewed g opened left (Some n) o
    end_at i goods_nil M e =
        let K = kinds_of g.given.part.known.sig in
        let code : row_code K (view_of g.given opened left) g.given.part.kind ≡ M.done = M.target ∙ append-nil M.done in
        record {
          kept = λ m q. let z = same_size n m q in (
            M.list ∙ ap (λ (l : List ℕ). l ++ drop n o₀) (sym code) ∙ ap (λ (x : ℕ). row_code K (view_of g.given opened left) g.given.part.kind ++ drop x o₀) z,
            sym z ∙ sym M.size ∙ ap length (sym code),
            M.good goods_nil,
          );
          dropped = λ q. absurd (not_both {res = Some n} refl q);
        }
    end_at i (goods_cons a b) M e = absurd (omega (arith, M.walks.stands.left_is))

    pub end : Now g opened left at n todo o → todo ≡ 0 → Viewed g opened left (Some n) o
    end (i, ks, rs, M) e = end_at i M.walks.stands.good M e

    turn_at : (i : ℕ) {ks : List ℕ} {rs : Rows} → Goods g.given.part.known.sig ks rs → Mid g opened left at n todo o i ks rs → 0 < todo → Turn g opened left at n todo o
    turn_at i goods_nil M h = absurd (omega (arith, M.walks.stands.left_is))
    turn_at i (goods_cons {k = k} {ks = ks} {r = r} {rs = rs} a b) M h =
        let sig = g.given.part.known.sig in
        let kept = kept_of opened in
        let known = g.given.part.known in
        let f = first (heads sig k) in
        let A = ahead g.given at todo i a b M.walks in
        let P = A.front.parts in
        let x = A.index in
        let room : n + 3 ≤ length o₀ = omega (arith, M.short, M.walks.number, A.small, g.room) in
        let seen : (c : Cell) → c ≡ cell_at row at → c ≡ cell_of (tag_of k r) (set_of 0 (vars_of r)) (set_of f (allowed_of r)) = λ c ec. ec ∙ A.front.cell in
        let kind : (c : Cell) → c ≡ cell_at row at → cell_kind t c.tag ≡ k = λ c ec. ap (λ (y : Cell). cell_kind t y.tag) (seen c ec) ∙ P.kind in
        let set_is : (c : Cell) → c ≡ cell_at row at → number_of c.allowed ≡ set_of f (allowed_of r) = λ c ec. ap (λ (y : Cell). number_of y.allowed) (seen c ec) ∙ number_words (set_of f (allowed_of r)) in
        let out : List ℕ = outside sig kept left k i (allowed_of r) in
        let made : (c y : Cell) (d : Bool) → c ≡ cell_at row at → d ≡ eqb (at / 3) left → Outside t c d y → (number_of y.allowed ≡ set_of f out) × (cell_words y ≡ row_code (kinds_of sig) (free [] out) k) = λ c y d ec ed O.
        outside_cell known k P.there (allowed_of r) P.within kept left i d c y (ed ∙ ap (λ (j : ℕ). eqb j left) x) (kind c ec) (set_is c ec) O in
        record {
          see = A.front.see;
          small = omega (arith, A.small, x);
          room = room;
          given = A.given;
          cell = λ c ec. record {
            long = known.decoded.long;
            kinded = omega (arith, kind c ec, kind_few known P.there);
            few = rw (kind c ec) (omega (arith, known.decoded.head_count k P.there, few_heads known k P.there));
          };
          some = A.some;
          tag_fits = λ c y d ec O. omega (arith, O.tag_is, O.vars_are, kind c ec, kind_few known P.there);
          none_there = λ c y d e ec ed O z v. not_true (row_fits (view_of g.given opened left) v) (not_of (row_fits (view_of g.given opened left) v) (λ q.
              let (us, w) = M.fits v q in
              let gone : out ≡ [] = none_outside sig kept left k i (allowed_of r) (within_kind known k P.there) (sym (made c y d ec ed O).0 ∙ z) in
              nothing [] (views sig kept left ks (i + place_count r) rs) us (rw (open_view sig kept left k i r (open_bit opened i (rw x at e)), gone) at w)));
          open_turn = λ c y d m e ec ed O ne em.
              let ov = open_view sig kept left k i r (open_bit opened i (rw x at e)) in
              let tail : List ℕ = view_words sig kept left ks (i + place_count r) rs in (
                i + place_count r,
                ks,
                rs,
                record {
                  walks = A.past m em;
                  done = M.done ++ cell_words y;
                  size = simp length-append (omega (arith, M.size));
                  list = put_more o o₀ M.done n y M.list M.size room;
                  short = omega (arith, M.short, A.some m em);
                  target =
                      M.target
                      ∙ ap (λ (q : Row). M.done ++ (row_code (kinds_of sig) q k ++ tail)) ov
                      ∙ ap (λ (l : List ℕ). M.done ++ (l ++ tail)) (sym (made c y d ec ed O).1)
                      ∙ sym (append_assoc M.done (cell_words y) tail);
                  good = λ hs. M.good (rw ov (goods_cons (some_outside sig kept left k i (allowed_of r) (λ z. ne ((made c y d ec ed O).0 ∙ z))) hs));
                  fits = λ v q. let (us, w) = M.fits v q in later (view sig kept left k i r) (views sig kept left ks (i + place_count r) rs) us w;
                },
              );
          kept_turn = λ c w e ec ew.
              let ke = kept_bit opened i (rw x at e) in
              let tail : List ℕ = view_words sig kept left (below_kinds sig r ++ ks) (suc i) (below r behind rs) in
              let top : cell_words c ≡ top_code sig k r = ap cell_words (seen c ec) ∙ ap (cell_code (tag_of k r) (set_of 0 (vars_of r))) (number_words (set_of f (allowed_of r))) in (
                suc i,
                below_kinds sig r ++ ks,
                below r behind rs,
                record {
                  walks = A.into c w ec ew;
                  done = M.done ++ cell_words c;
                  size = simp length-append (omega (arith, M.size));
                  list = put_more o o₀ M.done n c M.list M.size room;
                  short = omega (arith, M.short);
                  target =
                      M.target
                      ∙ ap (λ (l : List ℕ). M.done ++ l) (kept_words sig kept left k i ks rs ke r P.goods)
                      ∙ ap (λ (l : List ℕ). M.done ++ (l ++ tail)) (sym top)
                      ∙ sym (append_assoc M.done (cell_words c) tail);
                  good = λ hs. M.good (kept_goods sig kept left k i ks rs ke a P.goods hs);
                  fits = λ v q. let (us, z) = M.fits v q in kept_fits sig kept left k i ks rs ke r us P.goods z;
                },
              );
        }

    pub turn : Now g opened left at n todo o → 0 < todo → Turn g opened left at n todo o
    turn (i, ks, rs, M) h = turn_at i M.walks.stands.good M h
