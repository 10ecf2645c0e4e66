-- The rows of rule after rule.
use mathlib.Core.Path.{◌≡◌, refl, sym, ap, ap₂, subst, ◌∙◌}
use mathlib.Core.Logic.{◌⊎◌, inl, inr}
use mathlib.Core.List.{List, [], ◌∷◌, ◌++◌, map, append_assoc}
use mathlib.Core.Option.{some}
use Prim.Native.Nat.{ℕ, ◌+◌, ◌*◌, ◌<◌, ◌≤◌}
use native.Mathlib.Omega.{arith}
use lib.ListN.{length, drop, get_or, set, length-append, length-drop, get_elem?}
use lib.Seq.{drop_at, drop-drop, get_or-set_same, get_or-set_other}
use Rattle.signature.specs.Lists.{All, none_left, also}
use Rattle.signature.proofs.KnownFacts.{at_below}
use Rattle.signature.proofs.ListFacts.{all_at, at_left}
use Rattle.signature.proofs.Tests.{none≢some}
use Rattle.row.specs.Row.{Row}
use Rattle.cell.specs.Coded.{kinds_of}
use Rattle.cell.specs.RowList.{entries}
use Rattle.cell.proofs.Walk.{word_at}
use Rattle.path.specs.State.{row_stride}
use Rattle.signature.specs.Limits.{word_limit}
use Rattle.path.specs.Rows.{RuleRow, Fit, RowsKept, RowKept}
use Rattle.rowset.specs.Limits.{row_limit}
use Rattle.table.specs.Limits.{limits, table_length, rules_at}
use Rattle.table.specs.Rule.{Rule, default_of}
use Rattle.store.specs.Laid.{Holds}
use Rattle.store.specs.Place.{Walked, NextRule}
use Rattle.store.proofs.LaidFacts.{is_stored, sound_holds}
use Rattle.store.proofs.Walk.{walk_start, walk_step, walk_end}
use Rattle.loading.specs.Lists.{rows_for, lists_for, list_for}
use Rattle.loading.specs.Load.{patterns}
use Rattle.indexing.specs.Indexing.{row_of, rows_all, GivenList, ListIndexed, GivenRules, RulesIndexed, TableIndexed}
use Rattle.indexing.proofs.ListLaws.{placed_same}
use Rattle.indexing.proofs.RuleRows.{at_made, at_either, all_append, all_last, count_last, count_less}

-- rows of one rule are fit whosever they are
each_fit : {A : Type 0} (f : A → RuleRow) (P : RuleRow → Type 0) (ws : List A) (more : List RuleRow) → All P (map f ws ++ more) → All (λ w. P (f w)) ws × All P more
each_fit f P [] more h = (none_left, h)
each_fit f P (w ∷ ws) more (also y h hs) = let (a, b) = each_fit f P ws more hs in (also w h a, b)

same_fit : {A : Type 0} {P Q : A → Type 0} → ((a : A) → P a → Q a) → {xs : List A} → All P xs → All Q xs
same_fit h none_left = none_left
same_fit h (also a p ps) = also a (h a p) (same_fit h ps)

module _ {t table lists : List ℕ} {room : ℕ} (g : GivenRules t table lists room) where
  holds : Holds limits table g.force.rs
  holds = sound_holds g.force.known.sig table g.force.rs g.force.is_sound

  pub long : table_length limits ≤ length table
  long = holds.long

  pub count_is : get_or table 0 0 ≡ length g.force.rs
  count_is = ap (λ z. get_or z 0 0) (is_stored (holds))

  -- i rules are passed, their rows are in the table of rows
  pub record Mid (here from r i : ℕ) (tab : List ℕ) : Type 0 where
    pub before : List Rule
    pub after : List Rule
    pub walked : Walked g.force.rs before after i here
    pub code_is : drop from lists ≡ lists_for g.force.known.sig (patterns after) ++ g.force.ready.rest
    pub within : from ≤ length lists
    pub near : from + length (lists_for g.force.known.sig (patterns after)) < word_limit
    pub many : r ≡ length (rows_all g.force.known.sig before)
    pub fit : All (Fit g.force.known.sig t) (rows_all g.force.known.sig after)
    pub placed : RowsKept g.force.known.sig t lists tab (rows_all g.force.known.sig before)

  pub start : (tab : List ℕ) → Mid rules_at 0 0 0 tab
  start tab = record { before = []; after = g.force.rs; walked = walk_start g.force.rs; code_is = g.force.ready.code_is; within = omega arith; near = omega (arith, g.near); many = refl; fit = g.fit; placed = λ r e i. none≢some i }

  module _ {here from r i : ℕ} {tab : List ℕ} (l : Mid here from r i tab) where
    pub done : get_or table 0 0 ≤ i → RulesIndexed g.force.known.sig t lists g.force.rs r tab
    done e =
        let q : g.force.rs ≡ l.before = (walk_end l.walked (omega (arith, e, count_is))).1 in
        subst (λ (z : List Rule). RulesIndexed g.force.known.sig t lists z r tab) (sym q) (record { many = l.many; placed = l.placed })

    module _ (e : i < get_or table 0 0) where
      abbrev step : NextRule table g.force.rs l.before l.after i here
      step = walk_step g.force.rs l.before l.after i here (holds) l.walked (omega (arith, e, count_is))

      pub end_le : here + 3 + get_or table (here + 2) 0 ≤ (table_length limits)
      end_le = omega (arith, step.reads.length_is, step.reads.within)

      pub few : i < limits.rules
      few = omega (arith, e, count_is, holds.few)

      abbrev ws : List Row
      ws = rows_for g.force.known.sig step.rule.pattern

      abbrev L : List ℕ
      L = list_for g.force.known.sig step.rule.pattern

      abbrev later_code : List ℕ
      later_code = lists_for g.force.known.sig (patterns step.later) ++ g.force.ready.rest

      list_there : drop from lists ≡ length L ∷ (L ++ later_code)
      list_there =
          l.code_is ∙ ap (λ (z : List Rule). lists_for g.force.known.sig (patterns z) ++ g.force.ready.rest) step.here
          ∙ ap (λ (z : List ℕ). length L ∷ z) (append_assoc L (lists_for g.force.known.sig (patterns step.later)) g.force.ready.rest)

      list_word : (get_or lists from 0 ≡ length L) × (from < length lists) × (drop (from + 1) lists ≡ L ++ later_code)
      list_word = word_at lists from (length L) _ list_there

      near_later : from + 1 + length L + length (lists_for g.force.known.sig (patterns step.later)) < word_limit
      near_later = omega (arith, l.near, ap (λ (z : List Rule). length (lists_for g.force.known.sig (patterns z))) step.here, length-append L (lists_for g.force.known.sig (patterns step.later)))

      pub list_le : (from + 1 + get_or lists from 0 ≤ length lists) × (from < length lists) × (from + 1 + get_or lists from 0 < word_limit)
      list_le = (omega (arith, list_word, length-drop (from + 1) lists, ap length list_word.2, length-append L later_code), list_word.1, omega (arith, list_word.0, near_later))

      all_are : (l.before ++ (step.rule ∷ [])) ++ step.later ≡ g.force.rs
      all_are = append_assoc l.before (step.rule ∷ []) step.later ∙ ap (λ (z : List Rule). l.before ++ z) (sym step.here) ∙ sym l.walked.are

      abbrev named : Row → RuleRow
      named = row_of step.rule.number step.rule.plan

      fit_here : All (Fit g.force.known.sig t) (map named ws ++ rows_all g.force.known.sig step.later)
      fit_here = subst (λ (z : List Rule). All (Fit g.force.known.sig t) (rows_all g.force.known.sig z)) step.here l.fit

      rows_fit : All (λ (w : Row). Fit g.force.known.sig t (named w)) ws
      rows_fit = (each_fit named (Fit g.force.known.sig t) ws (rows_all g.force.known.sig step.later) fit_here).0

      rows_le : r + length ws ≤ length (rows_all g.force.known.sig g.force.rs)
      rows_le = omega (arith, l.many, count_last g.force.known.sig l.before step.rule, count_less g.force.known.sig (l.before ++ (step.rule ∷ [])) step.later, ap (λ (z : List Rule). length (rows_all g.force.known.sig z)) all_are)

      pub given : (room' : ℕ) → room' ≡ room → GivenList t lists (from + 1) r room'
      given room' x = record {
        known = g.force.known;
        ws = ws;
        rest = later_code;
        code_is = list_word.2 ∙ append_assoc (entries (kinds_of g.force.known.sig) 0 ws) (0 ∷ []) later_code;
        within = omega (arith, list_word.1);
        near = omega (arith, near_later, length-append (entries (kinds_of g.force.known.sig) 0 ws) (0 ∷ []));
        fit = same_fit (λ w f. record { good = f.good; short = f.short }) rows_fit;
        room_is = omega (arith, rows_le, g.few, g.room_is, x);
      }

      module _ (room' : ℕ) (x : room' ≡ room) (q : ℕ) (tab' : List ℕ) (gave : (k : GivenList t lists (from + 1) r room') → ListIndexed k.known.sig t lists k.ws (get_or table here 0) (get_or table (here + 1) 0) r q tab tab') where
        said : ListIndexed g.force.known.sig t lists ws (get_or table here 0) (get_or table (here + 1) 0) r q tab tab'
        unfolding given
        said = gave (given room' x)

        mine : (j : ℕ) (d : RuleRow) → get_elem? (map named ws) j ≡ some d → RowKept g.force.known.sig t lists tab' (r + j) d
        mine j d h =
            let (w, a, b) = at_made named ws j d h in
            subst (λ (z : RuleRow). RowKept g.force.known.sig t lists tab' (r + j) z) (ap₂ (λ (x y : ℕ). row_of x y w) step.reads.number_is step.reads.plan_is ∙ b) (said.placed j w a)

        in_all : (k : ℕ) (d : RuleRow) → get_elem? (rows_all g.force.known.sig l.before) k ≡ some d → get_elem? (rows_all g.force.known.sig g.force.rs) k ≡ some d
        in_all k d h = subst (λ (z : List RuleRow). get_elem? z k ≡ some d) (sym (all_append g.force.known.sig l.before l.after) ∙ ap (rows_all g.force.known.sig) (sym l.walked.are)) (at_left (rows_all g.force.known.sig l.before) (rows_all g.force.known.sig l.after) k d h)

        pub again : Mid (here + 3 + get_or table (here + 2) 0) (from + 1 + get_or lists from 0) q (i + 1) tab'
        again = record {
          before = l.before ++ (step.rule ∷ []);
          after = step.later;
          walked = step.next;
          code_is = sym (drop-drop (get_or lists from 0) (from + 1) lists) ∙ ap (drop (get_or lists from 0)) list_word.2 ∙ drop_at L later_code (get_or lists from 0) (sym list_word.0);
          within = list_le.0;
          near = omega (arith, near_later, list_word.0);
          many = omega (arith, said.many, l.many, count_last g.force.known.sig l.before step.rule);
          fit = (each_fit named (Fit g.force.known.sig t) ws (rows_all g.force.known.sig step.later) fit_here).1;
          placed = λ k d h. go k d (at_either (rows_all g.force.known.sig l.before) (map named ws) k d (subst (λ (z : List RuleRow). get_elem? z k ≡ some d) (all_last g.force.known.sig l.before step.rule) h));
        }
          where
            go : (k : ℕ) (d : RuleRow) → (get_elem? (rows_all g.force.known.sig l.before) k ≡ some d) ⊎ ((j : ℕ) × (k ≡ length (rows_all g.force.known.sig l.before) + j) × (get_elem? (map named ws) j ≡ some d)) → RowKept g.force.known.sig t lists tab' k d
            go k d (inl h) = placed_same g.force.known.sig t lists tab tab' r k d (all_at g.fit k d (in_all k d h)).short (omega (arith, l.many, at_below (rows_all g.force.known.sig l.before) k d h)) said.kept (l.placed k d h)
            go k d (inr (j, h, m)) = let z : k ≡ r + j = omega (arith, h, l.many) in rw z (mine j d m)

-- the default's plan behind the rows
pub with_default : {t table lists : List ℕ} {room : ℕ} (g : GivenRules t table lists room) (n : ℕ) (tab : List ℕ) → length tab ≡ room → RulesIndexed g.force.known.sig t lists g.force.rs n tab → TableIndexed g.force.known.sig t table lists g.force.rs n (set tab (row_stride * row_limit) (default_of table))
with_default {t} {table} {lists} g n tab e x =
    let sig = g.force.known.sig in
    let at = row_stride * row_limit in
    record {
      rows = record { many = x.many; placed = λ k d h. placed_same sig t lists tab (set tab at (default_of table)) row_limit k d (all_at g.fit k d h).short (omega (arith, at_below (rows_all sig g.force.rs) k d h, g.few)) (λ i l. get_or-set_other tab at i (default_of table) 0 (λ z. omega arith)) (x.placed k d h) };
      default_is = get_or-set_same tab at (default_of table) 0 (omega (arith, e, g.room_is));
    }
