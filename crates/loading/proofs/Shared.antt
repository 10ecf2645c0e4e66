-- The rows of patterns, as lists behind each other: two patterns share a booking where their lists meet.
use mathlib.Core.Path.{◌≡◌, refl, sym, ap, ap₂, ◌∙◌}
use mathlib.Core.List.{List, [], ◌∷◌, ◌++◌, map}
use mathlib.Core.Option.{Option, none, some}
use mathlib.Core.Bool.{Bool, true, false, not, ◌&&◌}
use Prim.Native.Nat.{ℕ, ◌+◌, ◌≤◌}
use native.Mathlib.Omega.{arith}
use lib.ListN.{length, length-append, length-map}
use Rattle.signature.specs.Decoded.{Known}
use Rattle.signature.specs.Lists.{All, none_left, also, all, is_empty, somes}
use Rattle.signature.specs.Signature.{Signature}
use Rattle.pattern.specs.Limits.{pattern_limit}
use Rattle.pattern.specs.Pattern.{Pattern, pattern_code}
use Rattle.pattern.specs.Read.{read_pattern}
use Rattle.pattern.specs.Weight.{weight, weight_by}
use Rattle.pattern.proofs.PatternBack.{pattern_words}
use Rattle.row.specs.Overlap.{shares, shared_by}
use Rattle.row.specs.Row.{Row, combine, each}
use Rattle.row.specs.RowFits.{place_count}
use Rattle.row.proofs.RowCount.{plus_count}
use Rattle.cell.specs.Coded.{kinds_of}
use Rattle.cell.specs.RowList.{Every, each_with, list_code}
use Rattle.rowlist.specs.Product.{AllTyped}
use Rattle.rowlist.proofs.Typing.{typed_rows}
use Rattle.rowlist.proofs.Kinded.{kind_zero}
use Rattle.builder.proofs.Rooms.{rows_places}
use Rattle.table.specs.Limits.{limits}
use Rattle.table.specs.Rule.{Rule, total_weight}
use Rattle.table.specs.Sound.{no_shared}
use Rattle.meeting.specs.Lists.{rows_in, lists_meet, none_by, GivenLists}
use Rattle.meeting.specs.Rows.{Proper}
use Rattle.loading.specs.Lists.{rows_by, rows_for, list_for, lists_for}
use Rattle.loading.specs.Load.{patterns, Ready}

-- two patterns share a booking where their rows meet
pub shares_rows : (sig : Signature) (us ws : List ℕ) → not (is_empty (somes (each combine (rows_for sig us) (rows_for sig ws)))) ≡ shares sig us ws
shares_rows sig us ws = go (read_pattern sig us) (read_pattern sig ws)
  where
    none_with : (rs : List Row) → not (is_empty (somes (each combine rs []))) ≡ false
    none_with [] = refl
    none_with (r ∷ rs) = none_with rs

    go : (o q : Option Pattern) → not (is_empty (somes (each combine (rows_by sig o) (rows_by sig q)))) ≡ shared_by sig o q
    go none q = refl
    go (some p) none = none_with (rows_by sig (some p))
    go (some p) (some q) = refl

pub typed_for : {t : List ℕ} (g : Known t) (ws : List ℕ) → AllTyped (kinds_of g.sig) t 0 (rows_for g.sig ws)
typed_for {t} g ws = go (read_pattern g.sig ws) refl
  where
    go : (o : Option Pattern) → read_pattern g.sig ws ≡ o → AllTyped (kinds_of g.sig) t 0 (rows_by g.sig o)
    go none e = tt
    go (some p) e = typed_rows g p true 0 (kind_zero g) (pattern_words g.sig ws p e).well_formed

-- and of at most 64 places
both_proper : {t : List ℕ} (g : Known t) {rs : List Row} → AllTyped (kinds_of g.sig) t 0 rs → All (λ r. place_count r ≤ pattern_limit) rs → Every (Proper (kinds_of g.sig) t 0) rs
both_proper g h none_left = tt
both_proper g h (also r l m) = (record { typed = h.0; few = l }, both_proper g h.1 m)

few_places : (n : ℕ) {rs : List Row} → n ≤ pattern_limit → All (λ r. place_count r ≤ n) rs → All (λ r. place_count r ≤ pattern_limit) rs
few_places n l none_left = none_left
few_places n l (also r h m) = also r (omega (arith, h, l)) (few_places n l m)

pub proper_for : {t : List ℕ} (g : Known t) (ws : List ℕ) → Every (Proper (kinds_of g.sig) t 0) (rows_for g.sig ws)
proper_for g ws = both_proper g (typed_for g ws) (go (read_pattern g.sig ws) refl)
  where
    go : (o : Option Pattern) → read_pattern g.sig ws ≡ o → All (λ r. place_count r ≤ pattern_limit) (rows_by g.sig o)
    go none e = none_left
    go (some p) e =
        let w = pattern_words g.sig ws p e in
        few_places (length (pattern_code p)) (omega (arith, ap length w.is_code, w.at_most)) (rows_places g.sig 0 p true w.well_formed)

-- no more rows than a pattern weighs
pub few_for : (sig : Signature) (ws : List ℕ) → length (rows_for sig ws) ≤ weight sig ws
few_for sig ws = go (read_pattern sig ws)
  where
    go : (o : Option Pattern) → length (rows_by sig o) ≤ weight_by o
    go none = omega arith
    go (some p) = plus_count sig p 0

-- the lists of patterns are those of their rows
pub lists_are : (sig : Signature) (wss : List (List ℕ)) → lists_for sig wss ≡ each_with (list_code (kinds_of sig) 0) (map (rows_for sig) wss)
lists_are sig [] = refl
lists_are sig (ws ∷ wss) = ap (λ (l : List ℕ). length (list_for sig ws) ∷ (list_for sig ws ++ l)) (lists_are sig wss)

pub proper_all : {t : List ℕ} (g : Known t) (wss : List (List ℕ)) → Every (Every (Proper (kinds_of g.sig) t 0)) (map (rows_for g.sig) wss)
proper_all g [] = tt
proper_all g (ws ∷ wss) = (proper_for g ws, proper_all g wss)

-- of rules
pub few_in : (sig : Signature) (rs : List Rule) → length (rows_in (map (rows_for sig) (patterns rs))) ≤ total_weight sig rs
few_in sig [] = omega arith
few_in sig (r ∷ rs) = omega (arith, length-append (rows_for sig r.pattern) (rows_in (map (rows_for sig) (patterns rs))), few_for sig r.pattern, few_in sig rs)

pub none_shared : (sig : Signature) (rs : List Rule) → none_by lists_meet (map (rows_for sig) (patterns rs)) ≡ no_shared sig rs
none_shared sig [] = refl
none_shared sig (r ∷ rs) = ap₂ (λ (a b : Bool). a && b) (others rs) (none_shared sig rs)
  where
    others : (qs : List Rule) → all (λ ss. not (lists_meet (rows_for sig r.pattern) ss)) (map (rows_for sig) (patterns qs)) ≡ all (λ q. not (shares sig r.pattern q.pattern)) qs
    others [] = refl
    others (q ∷ qs) = ap₂ (λ (a b : Bool). not a && b) (shares_rows sig r.pattern q.pattern) (others qs)

abbrev pub rules_lists : {t : List ℕ} (g : Known t) (rs : List Rule) {used total : ℕ} {rows : List ℕ} → Ready g.sig rs used total rows → total_weight g.sig rs ≤ limits.weight → (n : ℕ) → n ≡ length rs → GivenLists t rows n
rules_lists g rs r l n e = record {
  K = kinds_of g.sig;
  kind = 0;
  rss = map (rows_for g.sig) (patterns rs);
  rest = r.rest;
  code_is = r.code_is ∙ ap (λ (z : List ℕ). z ++ r.rest) (lists_are g.sig (patterns rs));
  many = e ∙ sym (length-map (patterns rs) (rows_for g.sig) ∙ length-map rs (λ r. r.pattern));
  proper = proper_all g (patterns rs);
  few = omega (arith, few_in g.sig rs, l);
}
