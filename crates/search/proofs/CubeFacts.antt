-- The row of a branch, with one step more.
use mathlib.Core.Path.{◌≡◌, refl, ap, ap₂, ◌∙◌, sym, subst}
use mathlib.Core.List.{List, [], ◌++◌}
use mathlib.Core.Bool.{Bool, true, false, ◌&&◌}
use mathlib.Core.Option.{Option, none, some}
use Prim.Native.Nat.{ℕ, zero, suc, ◌+◌, ◌*◌, ◌≤◌, ◌<◌}
use native.Mathlib.Omega.{arith}
use lib.Dec.{eqb}
use lib.ListN.{length, get_or, take, drop, take-append-drop}
use Rattle.signature.specs.Lawful.{OfKind}
use Rattle.signature.specs.Limits.{booking_limit}
use Rattle.signature.specs.Signature.{Signature}
use Rattle.signature.specs.Value.{Value, size}
use Rattle.signature.proofs.Booleans.{and_left, and_right}
use Rattle.signature.proofs.Tests.{true≢false, none≢some, some_inj, eqb_eq, eqb_ne}
use Rattle.row.specs.Row.{Row, combine, open_row}
use Rattle.row.specs.RowFits.{Good, row_fits}
use Rattle.row.proofs.Kept.{kept_fits}
use Rattle.row.proofs.OverlapFacts.{combine_good}
use Rattle.row.proofs.RowMeet.{combine_fits}
use Rattle.row.proofs.RowTheorem.{open_fits}
use Rattle.signature.proofs.ListFacts.{Kept, kept, dropped}
use Rattle.cell.specs.Coded.{kinds_of, row_code, row_code_of}
use Rattle.cell.specs.Lockstep.{GivenRows, Result}
use Rattle.cell.specs.RowList.{from}
use Rattle.std.specs.Prelude.{Option as CodeOption, None, Some}
use Rattle.cell.proofs.RowListFacts.{not_both, kept_is, kept_le}
use lib.Seq.{take_at}
use Rattle.builder.proofs.Rooms.{code_places}
use Rattle.path.specs.State.{start_of}
use Rattle.witness.proofs.Pairs.{typed_good}
use Rattle.views.specs.View.{kept_of, view}
use Rattle.views.specs.Write.{GivenView}
use Rattle.views.proofs.Laws.{laws}
use Rattle.values.proofs.Laws.{laws as value_laws}
use Rattle.search.specs.Branch.{row_at, leaves, on_path, Cube, CubeOf, GivenBranch, GivenStep, Opened}
use Rattle.search.proofs.ChoiceFacts.{row_proper, row_placed, row_words}

unpacked : {P : Row → Type 0} {m : Option Row} → Kept P m → (x : Row) → m ≡ some x → P x
unpacked dropped x e = none≢some e
unpacked {P} (kept y h) x e = subst P (some_inj y x e) h

-- what combine left
kept_length : (x : List ℕ) (res : CodeOption ℕ) (w : ℕ) (o o' : List ℕ) → Result (some x) res o o' → res ≡ Some w → w ≡ length x
kept_length x res w o o' h e = let (y, a, b, c) = kept_is (some x) res w o o' h e in b ∙ ap length (sym (some_inj x y a))

kept_front : (x : List ℕ) (res : CodeOption ℕ) (w : ℕ) (o o' : List ℕ) → Result (some x) res o o' → res ≡ Some w → take w o' ≡ x
kept_front x res w o o' h e =
    let (y, a, b, c) = kept_is (some x) res w o o' h e in
    ap (take w) c ∙ take_at y (drop w o) w (sym b) ∙ sym (some_inj x y a)

-- the row of all values
pub open_cube : (sig : Signature) (rs : List Row) (path q : List ℕ) (n : ℕ) → Opened sig n q → Cube sig rs path 0 q n
open_cube sig rs path q n O = record {
  row = open_row sig 0;
  rest = O.rest;
  good = O.good;
  low = omega arith;
  code_is = O.code_is;
  words_are = O.words_are;
  few = omega (arith, O.words_are);
  just = λ v k. open_fits sig k [];
}

module _ {t a rows : List ℕ} {n : ℕ} {path : List ℕ} {depth i words : ℕ} {q o : List ℕ} (g : GivenStep t a rows n path depth i words q o) where
  abbrev sig : Signature
  sig = g.branch.table.known.sig

  abbrev rs : List Row
  rs = g.branch.table.rs

  abbrev pub r : ℕ
  r = get_or path (3 * i) 0

  abbrev pub opened : ℕ
  opened = get_or path (3 * i + 1) 0

  abbrev pub cell : ℕ
  cell = get_or path (3 * i + 2) 0

  pub row_there : r < n
  row_there = g.branch.path_is.there i g.before

  pub words_there : 3 * i + 2 < length path
  words_there = omega (arith, g.before, g.branch.path_is.most, g.branch.path_is.long)

  abbrev pub seen : Row
  seen = view sig (kept_of opened) cell 0 0 (row_at rs r)

  abbrev pub to_view : (start : ℕ) (d : List ℕ) → start ≡ start_of rows r → 192 ≤ length d → GivenView t (from a start) d
  to_view start d e l = record {
    given = record {
      part = record {
        known = g.branch.table.known;
        kind = 0;
        r = row_at rs r;
        rest = (row_placed g.branch.table r row_there).rest;
        good = (row_proper g.branch.table r row_there).good;
        code_is = row_words g.branch.table r row_there start e;
      };
      few = (row_proper g.branch.table r row_there).few;
    };
    room = l;
  }

  -- no value is left
  none_left : (q' : List ℕ) → ((v : Value) → OfKind sig 0 v → size v ≤ booking_limit → row_fits g.cube.row v ≡ true → row_fits seen v ≡ true → ⊥) → CubeOf sig rs path (suc i) None q'
  none_left q' f = record {
    none_short = λ e v k l h. f v k l (g.cube.just v k ∙ and_left (on_path sig rs path i v) (row_fits seen v) h) (and_right (on_path sig rs path i v) (row_fits seen v) h);
    cube = λ w e. absurd (not_both e refl);
  }

  pub view_dropped : (q' : List ℕ) → ((v : Value) → row_fits seen v ≡ false) → CubeOf sig rs path (suc i) None q'
  view_dropped q' f = none_left q' (λ v k l h e. true≢false (sym e ∙ f v))

  module _ (d' rest : List ℕ) (code_is : d' ≡ row_code (kinds_of sig) seen 0 ++ rest) (good : Good sig 0 seen) where
    pub seen_few : length (row_code (kinds_of sig) seen 0) ≤ 192
    seen_few = omega (arith, code_places (kinds_of sig) seen 0, laws.few sig (kept_of opened) cell 0 (row_at rs r), (row_proper g.branch.table r row_there).few)

    abbrev pub to_combine : GivenRows t q d' o
    to_combine = record {
      K = kinds_of sig;
      kind = 0;
      r = g.cube.row;
      s = seen;
      rest_a = g.cube.rest;
      rest_b = rest;
      code_a = g.cube.code_is;
      code_b = code_is;
      typed_r = typed_good g.branch.table.known g.cube.good;
      typed_s = typed_good g.branch.table.known good;
      room = omega (arith, seen_few, g.cube.words_are, g.cube.few, g.branch.rooms.for_both);
    }

    module _ (res : CodeOption ℕ) (o' : List ℕ) (R : Result (row_code_of (kinds_of sig) 0 (combine g.cube.row seen)) res o o') where
      both_fit : (v : Value) → kept_fits (combine g.cube.row seen) v ≡ (row_fits g.cube.row v && row_fits seen v)
      both_fit v = combine_fits g.cube.row seen v

      pub combine_dropped : (q' : List ℕ) → res ≡ None → CubeOf sig rs path (suc i) None q'
      combine_dropped q' e = go (combine g.cube.row seen) refl R
        where
          go : (m : Option Row) → combine g.cube.row seen ≡ m → Result (row_code_of (kinds_of sig) 0 m) res o o' → CubeOf sig rs path (suc i) None q'
          go none c h = none_left q' (λ v k l x y. true≢false (sym (ap₂ ◌&&◌ x y) ∙ sym (both_fit v) ∙ ap (λ (z : Option Row). kept_fits z v) c))
          go (some u) c h = absurd (not_both h.0 e)

      module _ (w : ℕ) (e : res ≡ Some w) where
        pub both_le : w ≤ length o'
        both_le = kept_le (row_code_of (kinds_of sig) 0 (combine g.cube.row seen)) res w o o' R e

        pub combine_large : (q' : List ℕ) → 12288 < w → CubeOf sig rs path (suc i) None q'
        combine_large q' l = go (combine g.cube.row seen) refl R
          where
            go : (m : Option Row) → combine g.cube.row seen ≡ m → Result (row_code_of (kinds_of sig) 0 m) res o o' → CubeOf sig rs path (suc i) None q'
            go none c h = absurd (not_both e h)
            go (some u) c h =
                none_left q' (λ v k s x y. absurd (omega (arith, l, s, kept_length (row_code (kinds_of sig) u 0) res w o o' h e, code_places (kinds_of sig) u 0, value_laws.cells_words u v (ap (λ (z : Option Row). kept_fits z v) (sym c) ∙ both_fit v ∙ ap₂ ◌&&◌ x y))))

        pub combine_kept : (q' : List ℕ) → w ≤ 12288 → take (0 + w) q' ≡ take w o' → CubeOf sig rs path (suc i) (Some w) q'
        combine_kept q' l f = go (combine g.cube.row seen) refl R
          where
            first : w ≡ 0 + w
            first = omega arith

            go : (m : Option Row) → combine g.cube.row seen ≡ m → Result (row_code_of (kinds_of sig) 0 m) res o o' → CubeOf sig rs path (suc i) (Some w) q'
            go none c h = absurd (not_both e h)
            go (some u) c h = record {
              none_short = λ z. absurd (not_both {res = Some w} refl z);
              cube = λ x z. let same : w ≡ x = cc in rw (← same) record {
                row = u;
                rest = drop w q';
                good = unpacked (combine_good sig g.cube.row seen g.cube.good good) u c;
                low = omega (arith, laws.low_combined g.cube.row seen u c, g.cube.low, laws.low sig (kept_of opened) cell 0 (row_at rs r), laws.low_places (row_at rs r), (row_proper g.branch.table r row_there).few);
                code_is = sym (take-append-drop w q') ∙ ap (λ (x : List ℕ). x ++ drop w q') (ap (λ (x : ℕ). take x q') first ∙ f ∙ kept_front (row_code (kinds_of sig) u 0) res w o o' h e);
                words_are = kept_length (row_code (kinds_of sig) u 0) res w o o' h e;
                few = l;
                just = λ v k. ap (λ (z : Option Row). kept_fits z v) (sym c) ∙ both_fit v ∙ ap (λ (z : Bool). z && row_fits seen v) (g.cube.just v k);
              };
            }

-- fewer steps leave more
prefix : (sig : Signature) (rs : List Row) (path : List ℕ) (m d : ℕ) (v : Value) → m ≤ d → on_path sig rs path d v ≡ true → on_path sig rs path m v ≡ true
prefix sig rs path m zero v l h = let z : m ≡ 0 = omega (arith, l) in rw z refl
prefix sig rs path m (suc d) v l h = go (eqb m (suc d)) refl (λ k. prefix sig rs path m d v k (and_left (on_path sig rs path d v) (leaves sig rs (get_or path (3 * d) 0) (get_or path (3 * d + 1) 0) (get_or path (3 * d + 2) 0) v) h))
  where
    go : (b : Bool) → eqb m (suc d) ≡ b → (m ≤ d → on_path sig rs path m v ≡ true) → on_path sig rs path m v ≡ true
    go true e f = rw (eqb_eq m (suc d) e) h
    go false e f = f (omega (arith, l, eqb_ne m (suc d) e))

module _ {t a rows : List ℕ} {n : ℕ} {path : List ℕ} {depth ql ol : ℕ} (g : GivenBranch t a rows n path depth ql ol) where
  abbrev pub to_step : (q o : List ℕ) (i words : ℕ) → ql ≡ length q → ol ≡ length o → i < depth → Cube g.table.known.sig g.table.rs path i q words → GivenStep t a rows n path depth i words q o
  to_step q o i words eq eo l c = record {
    branch = record { table = g.table; path_is = g.path_is; rooms = record { for_cube = rw (← eq) g.rooms.for_cube; for_both = rw (← eo) g.rooms.for_both } };
    before = l;
    cube = c;
  }

  pub first_cube : (q : List ℕ) (w : ℕ) → Opened g.table.known.sig w q → Cube g.table.known.sig g.table.rs path 0 q w
  first_cube q w O = open_cube g.table.known.sig g.table.rs path q w O

  pub next_cube : (i w : ℕ) (q' : List ℕ) → CubeOf g.table.known.sig g.table.rs path (suc i) (Some w) q' → Cube g.table.known.sig g.table.rs path (i + 1) q' w
  next_cube i w q' C = let z : i + 1 ≡ suc i = omega arith in rw z (C.cube w refl)

  pub no_cube : (i : ℕ) (q' q'' : List ℕ) → i < depth → CubeOf g.table.known.sig g.table.rs path (suc i) None q' → CubeOf g.table.known.sig g.table.rs path depth None q''
  no_cube i q' q'' l C = record {
    none_short = λ z v k s h. C.none_short refl v k s (prefix g.table.known.sig g.table.rs path (suc i) depth v l h);
    cube = λ w e. absurd (not_both e refl);
  }

  pub last_cube : (i w : ℕ) (q : List ℕ) → i ≤ depth → depth ≤ i → Cube g.table.known.sig g.table.rs path i q w → CubeOf g.table.known.sig g.table.rs path depth (Some w) q
  last_cube i w q l m C = let z : depth ≡ i = omega (arith, l, m) in record { none_short = λ e. absurd (not_both {res = Some w} refl e); cube = λ x e. let same : w ≡ x = cc in rw (z, ← same) C }
