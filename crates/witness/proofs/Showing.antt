-- Two patterns' lists of rows, row by row, and the booking that is shown.
use mathlib.Core.Path.{◌≡◌, refl, ap, sym, ◌∙◌, subst}
use mathlib.Core.List.{List}
use mathlib.Core.Bool.{Bool, true, false, not}
use Prim.Native.Nat.{ℕ, ◌+◌, ◌≤◌, ◌<◌}
use native.Mathlib.Omega.{arith}
use lib.ListN.{length, get_or}
use Rattle.std.specs.Prelude.{Option as CodeOption, None, Some}
use Rattle.signature.specs.Decoded.{Known}
use Rattle.signature.specs.Limits.{booking_limit}
use Rattle.signature.specs.Lists.{All, is_empty}
use Rattle.signature.specs.Value.{Value, code, size}
use Rattle.signature.proofs.LawfulFacts.{sig_facts, args_small, few, small_0}
use Rattle.signature.proofs.ListFacts.{all_both, all_imp, all_in, in_any}
use Rattle.signature.proofs.Tests.{true≢false}
use Rattle.signature.proofs.Values.{length_code, some_size}
use Rattle.pattern.specs.Limits.{pattern_limit}
use Rattle.pattern.specs.Pattern.{Pattern, pattern_code}
use Rattle.pattern.specs.WellFormed.{PatternWords}
use Rattle.pattern.proofs.Decided.{decide_fits}
use Rattle.row.specs.Overlap.{overlap, Shared}
use Rattle.row.specs.Row.{Row, rows_plus}
use Rattle.row.specs.RowFits.{Good, place_count, row_fits, fits_some}
use Rattle.row.proofs.Exists.{booking_overlap}
use Rattle.row.proofs.OverlapFacts.{plus_good}
use Rattle.row.proofs.Places.{plus_places}
use Rattle.row.proofs.RowTheorem.{plus_fits}
use Rattle.cell.specs.RowList.{from}
use Rattle.rowlist.specs.Product.{with_each}
use Rattle.overlap.specs.Laws.{TwoPatterns}
use Rattle.overlap.proofs.Laws.{as_lists}
use Rattle.overlap.proofs.Search.{Now, Head, head, found, past, end, list_task, any_each}
use Rattle.witness.specs.Lists.{GivenRowList, Shown}
use Rattle.witness.specs.Pair.{Proper, Both, Found}
use Rattle.cell.proofs.RowListFacts.{not_both}
use Rattle.witness.proofs.Searching.{found_some, found_none}

-- the rows of a pattern have at most 64 places
pub proper_rows : {t : List ℕ} (g : Known t) (ws : List ℕ) (p : Pattern) → PatternWords g.sig ws p → All (Proper g.sig 0) (rows_plus g.sig 0 p)
proper_rows g ws p w =
    let f = sig_facts g.sig g.signed in
    let l : length (pattern_code p) ≤ pattern_limit = rw w.is_code w.at_most in
    all_imp (λ r (q : Good g.sig 0 r × (place_count r ≤ length (pattern_code p))). record { good = q.0; few = omega (arith, q.1) })
    (all_both (plus_good g.sig (args_small g.sig f) (few g.sig f) p (small_0 g.sig f) w.well_formed) (plus_places g.sig p w.well_formed))

module _ {t x y : List ℕ} (g : TwoPatterns t x y) (o : List ℕ) (room : booking_limit ≤ length o) where
  abbrev Shared_value : Value → Type 0
  Shared_value = Both g.known.sig 0 (fits_some (rows_plus g.known.sig 0 g.p)) (fits_some (rows_plus g.known.sig 0 g.q))

  abbrev Found_both : CodeOption ℕ → List ℕ → Type 0
  Found_both res o' = Found Shared_value (overlap g.known.sig 0 g.p g.q) res o o'

  module _ (at : ℕ) where
    unfoldable row_of : (r : Row) → Head (list_task (as_lists g)) at r → GivenRowList t (from x (at + 1)) y o
    unfolding list_task as_lists
    row_of r h = record {
      known = g.known;
      kind = 0;
      r = r;
      ss = rows_plus g.known.sig 0 g.q;
      rest_x = h.rest;
      rest_y = g.rest_y;
      proper_r = all_in (proper_rows g.known g.us g.p g.words_p) h.member;
      proper_s = proper_rows g.known g.ws g.q g.words_q;
      code_x = h.code_is;
      code_y = g.code_y;
      room = room;
    }

    -- in a turn the slice is as it was
    module _ (m : Now (list_task (as_lists g)) at) (out : List ℕ) (e : out ≡ o) where
      pub row_given : 0 < get_or x at 0 → GivenRowList t (from x (at + 1)) y out
      row_given h = let q = head (list_task (as_lists g)) at m h in rw e (row_of q.0 q.1)

      pub end_of : get_or x at 0 ≤ 0 → Found_both None out
      unfolding list_task as_lists
      end_of z = subst (λ (b : Bool). Found Shared_value b None o out) (sym (end (list_task (as_lists g)) at m z) ∙ any_each (rows_plus g.known.sig 0 g.p) (rows_plus g.known.sig 0 g.q)) (refl, e)

      module _ (h : 0 < get_or x at 0) (res : CodeOption ℕ) (o' : List ℕ) (F : (q : GivenRowList t (from x (at + 1)) y out) → Found (Both q.known.sig q.kind (row_fits q.r) (fits_some q.ss)) (not (is_empty (with_each q.r q.ss))) res out o') where
        abbrev With : Row → Value → Type 0
        With r = Both g.known.sig 0 (row_fits r) (fits_some (rows_plus g.known.sig 0 g.q))

        abbrev meets : Row → Bool
        meets r = not (is_empty (with_each r (rows_plus g.known.sig 0 g.q)))

        answer_of : (r : Row) → Head (list_task (as_lists g)) at r → Found (With r) (meets r) res o o'
        unfolding row_of
        answer_of r d = let G : (q : GivenRowList t (from x (at + 1)) y o) → Found (Both q.known.sig q.kind (row_fits q.r) (fits_some q.ss)) (not (is_empty (with_each q.r q.ss))) res o o' = rw e at F in G (row_of r d)

        pub found_row : (k : ℕ) → res ≡ Some k → Found_both (Some k) o'
        unfolding list_task as_lists
        found_row k z =
            let (r, d) = head (list_task (as_lists g)) at m h in
            let (v, B, c, l) = subst (λ (b : Bool). Found (With r) b res o o') (found_some (With r) (meets r) res o o' (answer_of r d) k z) (answer_of r d) in
            let all = found (list_task (as_lists g)) at m h (λ s i. sym (found_some (With s) (meets s) res o o' (answer_of s i) k z)) in
            subst (λ (b : Bool). Found Shared_value b (Some k) o o') (sym all ∙ any_each (rows_plus g.known.sig 0 g.p) (rows_plus g.known.sig 0 g.q))
            (v, record { kinded = B.kinded; few = B.few; deep = B.deep; passes_f = in_any (λ q. row_fits q v) (rows_plus g.known.sig 0 g.p) r d.member B.passes_f; passes_g = B.passes_g }, sym z ∙ c, l)

        pub past_row : res ≡ None → Now (list_task (as_lists g)) (at + 1 + get_or x at 0) × (at + 1 + get_or x at 0 ≤ length x) × (o' ≡ o)
        unfolding list_task as_lists
        past_row z =
            let p = past (list_task (as_lists g)) at m h (λ s i. sym (found_none (With s) (meets s) res o o' (answer_of s i) z).0) in
            let (r, d) = head (list_task (as_lists g)) at m h in
            (p.0, p.1, (found_none (With r) (meets r) res o o' (answer_of r d) z).1)

  shared_of : (v : Value) → Shared_value v → (s : Shared g.known.sig g.p g.q) × (s.words ≡ code v)
  shared_of v B =
      let sig = g.known.sig in
      let n = length_code v in
      let (σ, a) = decide_fits sig g.p 0 g.words_p.well_formed B.kinded (sym (plus_fits sig g.p g.words_p.well_formed v B.kinded 0) ∙ B.passes_f) in
      let (τ, b) = decide_fits sig g.q 0 g.words_q.well_formed B.kinded (sym (plus_fits sig g.q g.words_q.well_formed v B.kinded 0) ∙ B.passes_g) in
      (record { words = code v; value = v; lawful = record { kind_0 = B.kinded; is_code = refl; some_words = omega (arith, n, some_size v); at_most = omega (arith, n, B.few); deep = B.deep }; binds_p = σ; binds_q = τ; fits_p = a; fits_q = b }, refl)

  pub shown : (res : CodeOption ℕ) (o' : List ℕ) → Found_both res o' → Shown (Shared g.known.sig g.p g.q) (λ s. s.words) res o o'
  shown res o' F = go (overlap g.known.sig 0 g.p g.q) refl F
    where
      go : (b : Bool) → overlap g.known.sig 0 g.p g.q ≡ b → Found Shared_value b res o o' → Shown (Shared g.known.sig g.p g.q) (λ s. s.words) res o o'
      go false e f = record {
        none_shared = λ z. (λ s. true≢false (sym (booking_overlap g.known.sig (sig_facts g.known.sig g.known.signed) g.us g.ws g.p g.q g.words_p g.words_q s) ∙ e), f.1);
        one_shared = λ n h. absurd (not_both h f.0);
      }
      go true e (v, B, c, l) = record {
        none_shared = λ z. absurd (not_both c z);
        one_shared = λ n h. let (s, q) = shared_of v B in let m : n ≡ size v = cc in (s, m ∙ sym (length_code v) ∙ ap length (sym q), rw (q, m) l);
      }
