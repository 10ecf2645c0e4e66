-- The branches in which a row is left, one after the other.
use mathlib.Core.Logic.{◌⊎◌, inl, inr}
use mathlib.Core.Path.{◌≡◌, refl, ap₂, ◌∙◌, sym}
use mathlib.Core.List.{List}
use mathlib.Core.Bool.{Bool, true, false, cond, ◌&&◌}
use Prim.Native.Nat.{ℕ, suc, ◌*◌, ◌<◌}
use native.Mathlib.Omega.{arith}
use lib.Dec.{eqb}
use lib.ListN.{length, get_or}
use Rattle.std.specs.Prelude.{Option as CodeOption, None, Some}
use Rattle.signature.specs.Signature.{Signature}
use Rattle.signature.specs.Value.{Value}
use Rattle.signature.proofs.Booleans.{and_left, and_right}
use Rattle.signature.proofs.Tests.{true≢false, eqb_eq, eqb_ne}
use Rattle.row.specs.Row.{Row}
use Rattle.row.specs.RowFits.{Good, row_fits}
use Rattle.sets.specs.Set.{bit}
use Rattle.rowset.specs.Limits.{row_limit}
use Rattle.path.specs.Rows.{Before}
use Rattle.views.specs.View.{kept_of, with_cell, agrees, edge, Closed, view}
use Rattle.views.proofs.Laws.{laws}
use Rattle.views.proofs.Opened.{one_more, none_found}
use Rattle.search.specs.Search.{Missed}
use Rattle.search.specs.Branch.{path_length, row_at, leaves, on_path}
use Rattle.search.specs.Look.{GivenNode, GivenLeave, NodeFound}
use Rattle.cell.proofs.RowListFacts.{not_both}
use Rattle.search.proofs.Paths.{stepped, before_step, before_both, long_step, row_there, path_same, path_step}
use Rattle.search.proofs.RowFacts.{taken_some, at_row}

module _ {t a rows : List ℕ} {n : ℕ} {s path₀ : List ℕ} {depth r cells q o w : ℕ} (g : GivenLeave t a rows n s path₀ depth r cells q o w) where
  abbrev sig : Signature
  sig = g.branch.table.known.sig

  abbrev rs : List Row
  rs = g.branch.table.rs

  abbrev row : Row
  row = row_at rs r

  -- what holds between two branches
  pub record Leaving (path : List ℕ) (opened : ℕ) : Type 0 where
    pub kept : Before (3 * depth) path₀ path
    pub long : length path ≡ path_length
    pub closed : Closed (kept_of opened) 0 row
    pub agree : (u : Value) → Missed sig rs u → on_path sig rs path₀ depth u ≡ true → agrees (kept_of opened) 0 row u ≡ true

  pub leave_start : Leaving path₀ cells
  leave_start = record { kept = λ i l. refl; long = g.branch.path_is.long; closed = g.agree.0; agree = λ u h p. g.agree.1 u h.kinded p }

  good : Good sig 0 row
  good = (at_row rs r g.branch.table.proper (omega (arith, g.there, g.branch.table.many))).good

  pub depth_small : depth < row_limit
  depth_small = omega (arith, g.fewer, g.branch.table.few)

  module _ (path : List ℕ) (opened c : ℕ) (I : Leaving path opened) where
    -- a value of the branch
    pub in_branch : (u : Value) → on_path sig rs (stepped path depth r opened c) (suc depth) u ≡ true → (on_path sig rs path₀ depth u ≡ true) × (leaves sig rs r opened c u ≡ true)
    in_branch u h =
        let e : (on_path sig rs path depth u && leaves sig rs r opened c u) ≡ true = sym (path_step sig rs path depth r opened c I.long depth_small u) ∙ h in
        (sym (path_same sig rs depth path₀ path I.kept u) ∙ and_left (on_path sig rs path depth u) (leaves sig rs r opened c u) e, and_right (on_path sig rs path depth u) (leaves sig rs r opened c u) e)

    to_branch : (u : Value) → on_path sig rs path₀ depth u ≡ true → leaves sig rs r opened c u ≡ true → on_path sig rs (stepped path depth r opened c) (suc depth) u ≡ true
    to_branch u h l = path_step sig rs path depth r opened c I.long depth_small u ∙ ap₂ ◌&&◌ (path_same sig rs depth path₀ path I.kept u ∙ h) l

    pub there_step : (i : ℕ) → i < suc depth → get_or (stepped path depth r opened c) (3 * i) 0 < n
    there_step i l = go (eqb i depth) refl
      where
        go : (b : Bool) → eqb i depth ≡ b → get_or (stepped path depth r opened c) (3 * i) 0 < n
        go true e = rw (eqb_eq i depth e, row_there path depth r opened c I.long depth_small) g.there
        go false e =
            let m : i < depth = omega (arith, l, eqb_ne i depth e) in
            let z : get_or (stepped path depth r opened c) (3 * i) 0 ≡ get_or path₀ (3 * i) 0 = before_step path depth r opened c (3 * i) (omega (arith, m)) ∙ I.kept (3 * i) (omega (arith, m)) in
            rw z (g.branch.path_is.there i m)

    module _ (e : edge (kept_of opened) c 0 row ≡ true) where
      abbrev pub child : GivenNode t a rows n s (stepped path depth r opened c) (suc depth) q o w
      child = record {
        branch = record {
          table = g.branch.table;
          path_is = record { long = long_step path depth r opened c ∙ I.long; most = depth_small; there = there_step };
          rooms = g.branch.rooms;
        };
        complete = λ p u l k h f. let b = in_branch u h in g.complete p u l k b.0 (laws.apart sig (kept_of opened) c 0 row u e b.1) f;
        fewer = g.fewer;
        room = g.room;
      }

      module _ (res : CodeOption ℕ) (path' v : List ℕ) (F : NodeFound sig rs (stepped path depth r opened c) (suc depth) res path' v) where
        before_child : Before (3 * depth) path₀ path'
        before_child = before_both (3 * depth) (3 * suc depth) path₀ (stepped path depth r opened c) path' (omega arith) (before_both (3 * depth) (3 * depth) path₀ path (stepped path depth r opened c) (omega arith) I.kept (before_step path depth r opened c)) F.kept

        pub branch_found : (m : ℕ) → res ≡ Some m → NodeFound sig rs path₀ depth (Some m) path' v
        branch_found m l = record { none_there = λ z. absurd (not_both {res = Some m} refl z); one_there = λ k e. F.one_there k (l ∙ e); kept = before_child }

        pub leave_next : (opened' : ℕ) → ((j : ℕ) → bit opened' j ≡ cond (eqb j c) 0 (bit opened j)) → res ≡ None → length path' ≡ path_length → Leaving path' opened'
        leave_next opened' h z len = record {
          kept = before_child;
          long = len;
          closed = laws.closed_same (with_cell (kept_of opened) c) (kept_of opened') row (λ i. sym (one_more opened opened' c h i)) (laws.closed_more (kept_of opened) c row I.closed e);
          agree = λ u k p. go u k p (laws.cover sig (kept_of opened) c 0 row u good I.closed k.kinded (I.agree u k p));
        }
          where
            go : (u : Value) → Missed sig rs u → on_path sig rs path₀ depth u ≡ true → (row_fits (view sig (kept_of opened) c 0 0 row) u ≡ true) ⊎ (agrees (with_cell (kept_of opened) c) 0 row u ≡ true) → agrees (kept_of opened') 0 row u ≡ true
            go u k p (inl f) = absurd (F.none_there z u k (to_branch u p f))
            go u k p (inr f) = sym (laws.same_kept (with_cell (kept_of opened) c) (kept_of opened') row u (λ i. sym (one_more opened opened' c h i))) ∙ f

  -- no cell is left: every value of the branch is taken by the row
  pub leave_end : (path : List ℕ) (opened edges : ℕ) (v : List ℕ) → Leaving path opened → ((c : ℕ) → bit edges c ≡ cond (edge (kept_of opened) c 0 row) 1 0) → edges ≡ 0 → NodeFound sig rs path₀ depth None path v
  leave_end path opened edges v I f z = record {
    none_there = λ e u k p. true≢false (sym (taken_some rs r u (omega (arith, g.there, g.branch.table.many)) (laws.whole (kept_of opened) row u (none_found row opened edges z f) (I.agree u k p))) ∙ k.taken_by_none);
    one_there = λ m l. absurd (not_both l refl);
    kept = I.kept;
  }
