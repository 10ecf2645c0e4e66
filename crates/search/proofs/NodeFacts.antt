-- What a node of the search has found, by what was seen there and by its branches.
use borrow.Author.Tests.{lt-ltb}
use mathlib.Core.Path.{◌≡◌, refl, ◌∙◌, sym}
use mathlib.Core.List.{List}
use mathlib.Core.Bool.{Bool, true, false, cond}
use Prim.Native.Nat.{ℕ, ◌≤◌, ◌<◌}
use native.Mathlib.Omega.{arith}
use lib.Dec.{eqb, ltb}
use lib.ListN.{length}
use Rattle.std.specs.Prelude.{Option as CodeOption, None, Some}
use Rattle.signature.specs.Signature.{Signature}
use Rattle.signature.specs.Value.{Value}
use Rattle.signature.proofs.Tests.{true≢false, eqb_eq, eqb_self}
use Rattle.row.specs.Row.{Row}
use Rattle.rowset.specs.Limits.{row_limit}
use Rattle.rowset.specs.Member.{member}
use Rattle.search.specs.Search.{GivenTable, Missed, Searched}
use Rattle.search.specs.Branch.{path_length, on_path}
use Rattle.search.specs.Look.{Within, GivenNode, GivenLeave, TakenBy, FreeValue, NodeFound}
use Rattle.search.proofs.Counts.{count_less, count_most}
use Rattle.cell.proofs.RowListFacts.{not_both}

module _ {t a rows : List ℕ} {n : ℕ} {s path : List ℕ} {depth q o w : ℕ} (g : GivenNode t a rows n s path depth q o w) where
  -- a value that no row takes was seen
  pub free_found : (m : ℕ) (v : List ℕ) → FreeValue g.branch.table.known.sig g.branch.table.rs m v → NodeFound g.branch.table.known.sig g.branch.table.rs path depth (Some m) path v
  free_found m v f = record {
    none_there = λ e u h p. absurd (not_both {res = Some m} refl e);
    one_there = λ k e. let same : m ≡ k = cc in rw (← same) f;
    kept = λ i l. refl;
  }

  pub nothing_found : (v : List ℕ) → ((u : Value) → Missed g.branch.table.known.sig g.branch.table.rs u → on_path g.branch.table.known.sig g.branch.table.rs path depth u ≡ true → ⊥) → NodeFound g.branch.table.known.sig g.branch.table.rs path depth None path v
  nothing_found v f = record { none_there = λ e. f; one_there = λ m e. absurd (not_both e refl); kept = λ i l. refl }

  -- the row that takes a value is left
  module _ (r opened : ℕ) (live live' : List ℕ) (T : TakenBy g.branch.table.known.sig g.branch.table.rs n s path depth r opened live) (out : (p : ℕ) → p < row_limit → member live' p ≡ cond (eqb p r) false (member live p)) where
    pub out_small : (p : ℕ) → p < n → member live' p ≡ cond (eqb p r) false (member live p)
    out_small p l = out p (omega (arith, l, g.branch.table.few))

    pub still : (p : ℕ) → p < n → member live p ≡ true → (p ≡ r → ⊥) → member live' p ≡ true
    still p l e f = go (eqb p r) refl
      where
        go : (b : Bool) → eqb p r ≡ b → member live' p ≡ true
        go true z = absurd (f (eqb_eq p r z))
        go false z = out_small p l ∙ rw z e

    pub fewer_in : Within n live' s
    fewer_in p l e = go (eqb p r) refl
      where
        go : (b : Bool) → eqb p r ≡ b → member s p ≡ true
        go true z = true≢false (sym e ∙ out_small p l ∙ (rw z refl))
        go false z = T.within p l (sym (out_small p l ∙ (rw z refl)) ∙ e)

    abbrev pub to_leave : GivenLeave t a rows n live' path depth r opened q o w
    to_leave = record {
      branch = g.branch;
      there = T.there;
      complete = λ p u l k h f e. still p l (T.complete p u l k h e) (λ z. true≢false (sym e ∙ (rw z f)));
      agree = T.agree;
      fewer = omega (arith, g.fewer, count_less n r s live' fewer_in T.there (T.within r T.there T.alive) (out_small r T.there ∙ (rw (eqb_self r) refl)));
      room = g.room;
    }

-- the same node, where its path, depth and rooms are given otherwise
abbrev pub resized : {t a rows : List ℕ} {n : ℕ} {s path : List ℕ} {depth q o w : ℕ} → GivenNode t a rows n s path depth q o w → (path' : List ℕ) (depth' q' o' w' : ℕ) → path ≡ path' → depth ≡ depth' → q ≡ q' → o ≡ o' → w ≡ w' → GivenNode t a rows n s path' depth' q' o' w'
resized g path' depth' q' o' w' ep ed eq eo ew = record {
  branch = record {
    table = g.branch.table;
    path_is = rw (← ep, ← ed) g.branch.path_is;
    rooms = rw (← eq, ← eo) g.branch.rooms;
  };
  complete = rw (← ep, ← ed) g.complete;
  fewer = rw (← ed) g.fewer;
  room = rw (← ew) g.room;
}

abbrev pub resized_leave : {t a rows : List ℕ} {n : ℕ} {s path : List ℕ} {depth r cells q o w : ℕ} → GivenLeave t a rows n s path depth r cells q o w → (q' o' w' : ℕ) → q ≡ q' → o ≡ o' → w ≡ w' → GivenLeave t a rows n s path depth r cells q' o' w'
resized_leave g q' o' w' eq eo ew = record {
  branch = record { table = g.branch.table; path_is = g.branch.path_is; rooms = rw (← eq, ← eo) g.branch.rooms };
  there = g.there;
  complete = g.complete;
  agree = g.agree;
  fewer = g.fewer;
  room = rw (← ew) g.room;
}

pub found_back : {path path' : List ℕ} {depth depth' : ℕ} {sig : Signature} {rs : List Row} {m : CodeOption ℕ} {p v : List ℕ} → path ≡ path' → depth ≡ depth' → NodeFound sig rs path' depth' m p v → NodeFound sig rs path depth m p v
found_back ep ed F = rw (ep, ed) F

-- at the root every row may take a value
abbrev pub to_root : {t a rows : List ℕ} {n : ℕ} → GivenTable t a rows n → (s path : List ℕ) (q o w : ℕ) → ((r : ℕ) → r < row_limit → member s r ≡ ltb r n) → length path ≡ path_length → 12288 ≤ q → 12480 ≤ o → 4121 ≤ w → GivenNode t a rows n s path 0 q o w
to_root {n = n} g s path q o w h len lq lo lw = record {
  branch = record {
    table = g;
    path_is = record { long = len; most = omega arith; there = λ i l. absurd (omega (arith, l)) };
    rooms = record { for_cube = lq; for_both = lo };
  };
  complete = λ r v l k p f. h r (omega (arith, l, g.few)) ∙ lt-ltb r n l;
  fewer = omega (arith, count_most s n);
  room = lw;
}

pub root_found : {sig : Signature} {rs : List Row} {path : List ℕ} {m : CodeOption ℕ} {p v : List ℕ} → NodeFound sig rs path 0 m p v → Searched sig rs m v
root_found F = record {
  none_there = λ e u h. F.none_there e u h refl;
  one_there = λ n e. let f = F.one_there n e in (f.value, f.missed, f.size_is, f.words_are);
}
