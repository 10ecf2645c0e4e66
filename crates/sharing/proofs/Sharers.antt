-- One rule after the other, up to the one that has the lowest row that is met.
use mathlib.Core.Path.{◌≡◌, refl, sym, ap, subst, ◌∙◌}
use mathlib.Core.List.{List, [], ◌∷◌, ◌++◌, append_assoc, map}
use mathlib.Core.Option.{some}
use mathlib.Core.Bool.{Bool, true, false}
use Prim.Native.Nat.{ℕ, ◌+◌, ◌-◌, ◌<◌, ◌≤◌}
use Rattle.std.specs.Prelude.{Option as CodeOption, None, Some, IsSome}
use native.Mathlib.Omega.{arith}
use lib.ListN.{length, drop, get_or, length-append, length-drop}
use lib.Seq.{drop_at, drop-drop}
use Rattle.signature.proofs.Tests.{true≢false}
use Rattle.signature.specs.Lists.{any, In, in_here, in_there}
use Rattle.signature.proofs.ListFacts.{in_any, no_in}
use Rattle.pattern.specs.Pattern.{Pattern}
use Rattle.pattern.specs.Read.{read_pattern}
use Rattle.pattern.proofs.PatternBack.{pattern_words}
use Rattle.row.specs.Admitted.{Passed}
use Rattle.row.specs.Overlap.{shares, Shared, SharesBooking}
use Rattle.row.specs.Row.{Row, rows_plus}
use Rattle.row.proofs.Exists.{shares_exists, exists_shares}
use Rattle.cell.specs.Coded.{kinds_of}
use Rattle.cell.specs.RowList.{list_code, from}
use Rattle.cell.proofs.Walk.{from_is, word_at}
use Rattle.rowlist.specs.Grow.{ListFirst}
use Rattle.rowset.specs.Limits.{row_limit}
use Rattle.meeting.proofs.Listing.{list_first, words_many}
use Rattle.overlap.specs.Laws.{TwoPatterns}
use Rattle.witness.specs.Lists.{Shown}
use Rattle.witness.proofs.Laws.{laws}
use Rattle.table.specs.Calls.{Entered, Shows}
use Rattle.table.specs.Limits.{limits, table_length, rules_at}
use Rattle.table.specs.Rule.{Rule, Rises, rises_cons}
use Rattle.table.proofs.Reckoning.{in_above}
use Rattle.table.proofs.SoundFacts.{sound_table}
use Rattle.store.specs.Laid.{Holds}
use Rattle.store.specs.Place.{Walked, NextRule}
use Rattle.store.proofs.FindFacts.{count_is}
use Rattle.store.proofs.LaidFacts.{sound_holds}
use Rattle.store.proofs.Walk.{walk_start, walk_step, walk_end}
use Rattle.loading.specs.Lists.{rows_by, rows_for, list_for, lists_for}
use Rattle.loading.specs.Load.{patterns}
use Rattle.sharing.specs.Lowest.{GivenLowest, Lowest, met_by}
use Rattle.sharing.specs.Sharer.{GivenSharer, SharerOf}
use Rattle.sharing.proofs.Lows.{none_met, one_met}
use Rattle.loading.proofs.Shared.{proper_for, proper_all, few_for, few_in, lists_are}
use Rattle.sharing.proofs.RuleRows.{rules_rows, rules_append, shares_met}

-- a rule below one of rising rules stands before it
below_before : {m : ℕ} (before : List Rule) (r : Rule) (after : List Rule) → Rises m (before ++ (r ∷ after)) → (s : Rule) → In s (before ++ (r ∷ after)) → s.number < r.number → In s before
below_before [] r after (rises_cons a b h) s in_here l = absurd (omega (arith, l))
below_before [] r after (rises_cons a b h) s (in_there i) l = absurd (omega (arith, l, in_above s h i))
below_before (q ∷ before) r after (rises_cons a b h) s in_here l = in_here
below_before (q ∷ before) r after (rises_cons a b h) s (in_there i) l = in_there (below_before before r after h s i l)

in_last : (before : List Rule) (r : Rule) (s : Rule) → In s (before ++ (r ∷ [])) → (P : Rule → Type 0) → P r → ((q : Rule) → In q before → P q) → P s
in_last [] r s in_here P a f = a
in_last [] r s (in_there i) P a f = elim i [ ]
in_last (q ∷ before) r s in_here P a f = f s in_here
in_last (q ∷ before) r s (in_there i) P a f = in_last before r s i P a (λ u j. f u (in_there j))

in_middle : (before : List Rule) (r : Rule) (after : List Rule) → In r (before ++ (r ∷ after))
in_middle [] r after = in_here
in_middle (s ∷ before) r after = in_there (in_middle before r after)

none_any : (f : Rule → Bool) (rs : List Rule) → ((s : Rule) → In s rs → f s ≡ true → ⊥) → any f rs ≡ false
none_any f [] h = refl
none_any f (s ∷ rs) h = rw (no (f s) (h s in_here), none_any f rs (λ q i. h q (in_there i)))
  where
    no : (b : Bool) → (b ≡ true → ⊥) → b ≡ false
    no true e = absurd (e refl)
    no false e = refl

module _ {t table rows : List ℕ} {at n : ℕ} (g : GivenSharer t table rows at n) where
  pub holds : Holds limits table g.force.rs
  holds = sound_holds g.force.known.sig table g.force.rs g.force.is_sound

  pub sound_long : table_length limits ≤ length table
  sound_long = holds.long

  passed : (r : Rule) → In r g.force.rs → Passed g.force.known.sig r.pattern
  passed = (sound_table g.force.known.sig g.force.known.signed table g.force.rs g.force.is_sound).passed

  -- the lists of the rules' rows, and that of the pattern
  abbrev pub lowest_given : GivenLowest t rows (get_or table 0 0) at
  lowest_given = record {
    lists = record {
      K = kinds_of g.force.known.sig;
      kind = 0;
      rss = map (rows_for g.force.known.sig) (patterns g.force.rs);
      rest = g.force.ready.rest;
      code_is = g.force.ready.code_is ∙ ap (λ z. z ++ g.force.ready.rest) (lists_are g.force.known.sig (patterns g.force.rs));
      many = count_is holds ∙ sym (words_many (rows_for g.force.known.sig) (patterns g.force.rs) ∙ words_many (λ (r : Rule). r.pattern) g.force.rs);
      proper = proper_all g.force.known (patterns g.force.rs);
      few = omega (arith, few_in g.force.known.sig g.force.rs, g.light);
    };
    ss = rows_for g.force.known.sig g.ws;
    rest = g.rest';
    code_is = sym (from_is rows at) ∙ g.last;
    proper = proper_for g.force.known g.ws;
    room = omega (arith, few_in g.force.known.sig g.force.rs, few_for g.force.known.sig g.ws, g.light);
  }

  -- i rules are passed, with so many rows, none of which is met; the next stands at this index, and the list of its rows behind the word at j
  pub record Mid (low place j past i : ℕ) : Type 0 where
    pub before : List Rule
    pub after : List Rule
    pub walked : Walked g.force.rs before after i place
    pub code_is : drop j rows ≡ lists_for g.force.known.sig (patterns after) ++ g.force.ready.rest
    pub none : (s : Rule) → In s before → SharesBooking g.force.known.sig g.ws s.pattern → ⊥
    pub lowest : Lowest (met_by (rows_for g.force.known.sig g.ws)) (rules_rows g.force.known.sig g.force.rs) low
    pub past_is : past ≡ length (rules_rows g.force.known.sig before)
    pub le : past ≤ low

  pub start : (low : ℕ) → Lowest (met_by (rows_for g.force.known.sig g.ws)) (rules_rows g.force.known.sig g.force.rs) low → Mid low rules_at 0 0 0
  start low h = record { before = []; after = g.force.rs; walked = walk_start g.force.rs; code_is = g.force.ready.code_is; none = λ s i. no_in i; lowest = h; past_is = refl; le = omega arith }

  module _ {low place j past i : ℕ} (l : Mid low place j past i) where
    pub finished : get_or table 0 0 ≤ i → any (λ s. shares g.force.known.sig g.ws s.pattern) g.force.rs ≡ false
    finished e =
        let q = walk_end l.walked (omega (arith, e, count_is holds)) in
        none_any (λ s. shares g.force.known.sig g.ws s.pattern) g.force.rs (λ s k x. l.none s (subst (In s) q.1 k) (shares_exists g.force.known.sig g.force.known.signed g.ws s.pattern x))

    module _ (below : i < get_or table 0 0) where
      abbrev step : NextRule table g.force.rs l.before l.after i place
      step = walk_step g.force.rs l.before l.after i place holds l.walked (omega (arith, below, count_is holds))

      rules_are : g.force.rs ≡ l.before ++ (step.rule ∷ step.later)
      rules_are = l.walked.are ∙ ap (λ z. l.before ++ z) step.here

      held : In step.rule g.force.rs
      held = subst (In step.rule) (sym rules_are) (in_middle l.before step.rule step.later)

      pub end_le : place + 3 + get_or table (place + 2) 0 ≤ (table_length limits)
      end_le = omega (arith, step.reads.length_is, step.reads.within)

      rest : List ℕ
      rest = lists_for g.force.known.sig (patterns step.later) ++ g.force.ready.rest

      words : drop j rows ≡ length (list_for g.force.known.sig step.rule.pattern) ∷ (list_for g.force.known.sig step.rule.pattern ++ rest)
      unfolding rest
      words = l.code_is ∙ ap (λ z. lists_for g.force.known.sig (patterns z) ++ g.force.ready.rest) step.here ∙ ap (λ z. length (list_for g.force.known.sig step.rule.pattern) ∷ z) (append_assoc (list_for g.force.known.sig step.rule.pattern) (lists_for g.force.known.sig (patterns step.later)) g.force.ready.rest)

      first : (get_or rows j 0 ≡ length (list_for g.force.known.sig step.rule.pattern)) × (j < length rows) × (drop (j + 1) rows ≡ list_for g.force.known.sig step.rule.pattern ++ rest)
      first = word_at rows j (length (list_for g.force.known.sig step.rule.pattern)) (list_for g.force.known.sig step.rule.pattern ++ rest) words

      pub there : j + 1 ≤ length rows
      there = omega (arith, first.1)

      pub past_le : j + 1 + get_or rows j 0 ≤ length rows
      past_le = omega (arith, first.0, there, length-drop (j + 1) rows, ap length first.2, length-append (list_for g.force.known.sig step.rule.pattern) rest)

      -- its rows among all
      its : List Row
      its = rows_for g.force.known.sig step.rule.pattern

      rows_are : rules_rows g.force.known.sig g.force.rs ≡ rules_rows g.force.known.sig l.before ++ (its ++ rules_rows g.force.known.sig step.later)
      unfolding its
      rows_are = ap (rules_rows g.force.known.sig) rules_are ∙ rules_append g.force.known.sig l.before (step.rule ∷ step.later)

      lowest_here : Lowest (met_by (rows_for g.force.known.sig g.ws)) (rules_rows g.force.known.sig l.before ++ (its ++ rules_rows g.force.known.sig step.later)) low
      lowest_here = subst (λ (z : List Row). Lowest (met_by (rows_for g.force.known.sig g.ws)) z low) rows_are l.lowest

      pub its_first : ListFirst (from rows (j + 1))
      its_first = list_first (kinds_of g.force.known.sig) 0 rows (j + 1) (rows_for g.force.known.sig step.rule.pattern) rest first.2

      list_is : (ws : List ℕ) (p : Pattern) → read_pattern g.force.known.sig ws ≡ some p → list_for g.force.known.sig ws ≡ list_code (kinds_of g.force.known.sig) 0 (rows_plus g.force.known.sig 0 p)
      list_is ws p e = ap (λ z. list_code (kinds_of g.force.known.sig) 0 (rows_by g.force.known.sig z)) e

      pub two : TwoPatterns t (from rows at) (from rows (j + 1))
      two =
          let q = passed step.rule held in
          record {
            known = g.force.known;
            us = g.ws;
            ws = step.rule.pattern;
            p = g.p;
            q = q.pat;
            words_p = pattern_words g.force.known.sig g.ws g.p g.read;
            words_q = pattern_words g.force.known.sig step.rule.pattern q.pat q.read;
            rest_x = g.rest';
            rest_y = rest;
            code_x = g.last ∙ ap (λ z. z ++ g.rest') (list_is g.ws g.p g.read);
            code_y = from_is rows (j + 1) ∙ first.2 ∙ ap (λ z. z ++ rest) (list_is step.rule.pattern q.pat q.read);
          }

      -- so many rows are its rows
      module _ (q : ℕ) (told : (f : ListFirst (from rows (j + 1))) → q ≡ length f.rows) where
        counted : q ≡ length its
        unfolding its its_first
        counted = told its_first ∙ words_many _ (rows_for g.force.known.sig step.rule.pattern)

        pub sum_small : past + q ≤ row_limit
        sum_small = omega (arith, counted, l.past_is, ap length rows_are, length-append (rules_rows g.force.known.sig l.before) (its ++ rules_rows g.force.known.sig step.later), length-append its (rules_rows g.force.known.sig step.later), few_in g.force.known.sig g.force.rs, g.light)

        is_met : low < past + q → shares g.force.known.sig g.ws step.rule.pattern ≡ true
        unfolding its
        is_met h = shares_met g.force.known.sig g.ws step.rule.pattern ∙ one_met (met_by (rows_for g.force.known.sig g.ws)) (rules_rows g.force.known.sig l.before) its (rules_rows g.force.known.sig step.later) low lowest_here (omega (arith, l.le, l.past_is)) (omega (arith, h, l.past_is, counted))

        not_met : past + q ≤ low → shares g.force.known.sig g.ws step.rule.pattern ≡ false
        unfolding its
        not_met h = shares_met g.force.known.sig g.ws step.rule.pattern ∙ none_met (met_by (rows_for g.force.known.sig g.ws)) (rules_rows g.force.known.sig l.before) its (rules_rows g.force.known.sig step.later) low lowest_here (omega (arith, h, l.past_is, counted))

        pub next : past + q ≤ low → Mid low (place + 3 + get_or table (place + 2) 0) (j + 1 + get_or rows j 0) (past + q) (i + 1)
        unfolding rest its
        next h = record {
          before = l.before ++ (step.rule ∷ []);
          after = step.later;
          walked = step.next;
          code_is = sym (drop-drop (get_or rows j 0) (j + 1) rows) ∙ ap (drop (get_or rows j 0)) first.2 ∙ drop_at (list_for g.force.known.sig step.rule.pattern) rest (get_or rows j 0) (sym first.0);
          none = λ s k. in_last l.before step.rule s k (λ r. SharesBooking g.force.known.sig g.ws r.pattern → ⊥) (λ b. true≢false (sym (exists_shares g.force.known.sig g.force.known.signed g.ws step.rule.pattern b) ∙ not_met h)) l.none;
          lowest = l.lowest;
          past_is = omega (arith, l.past_is, counted, ap length (rules_append g.force.known.sig l.before (step.rule ∷ [])), length-append (rules_rows g.force.known.sig l.before) (rules_rows g.force.known.sig (step.rule ∷ [])), length-append its []);
          le = h;
        }

      -- the slice is as it was
      module _ (k : CodeOption ℕ) (o now o' : List ℕ) (now_is : now ≡ o) (gave : (q : TwoPatterns t (from rows at) (from rows (j + 1))) → Shown (Shared q.known.sig q.p q.q) (λ s. s.words) k now o') where
        shown : Shown (SharesBooking g.force.known.sig g.ws step.rule.pattern) (λ s. s.words) k o o'
        unfolding two
        shown = laws.words_shown g.force.known.sig g.force.known.signed g.ws step.rule.pattern two.p two.q two.words_p two.words_q k o o' (subst (λ z. Shown (Shared g.force.known.sig two.p two.q) (λ s. s.words) k z o') now_is (gave two))

        some_words : shares g.force.known.sig g.ws step.rule.pattern ≡ true → IsSome k
        some_words e = go k (λ z. (shown.none_shared z).0 (shares_exists g.force.known.sig g.force.known.signed g.ws step.rule.pattern e))
          where
            go : (r : CodeOption ℕ) → (r ≡ None → ⊥) → IsSome r
            go None f = absurd (f refl)
            go (Some n) f = refl

        pub shown_there : (q : ℕ) → ((f : ListFirst (from rows (j + 1))) → q ≡ length f.rows) → low < past + q → IsSome k
        shown_there q told h = some_words (is_met q told h)

        pub hit : (n : ℕ) → k ≡ Some n → SharerOf g.force.known.sig g.force.rs g.ws o (Some (record { rule = get_or table place 0; length = n })) o'
        hit n is =
            let (s, e, w) = shown.one_shared n is in
            let x : Entered = record { number = 12; sharer = get_or table place 0; shown = n } in
            let there : Shows g.force.known.sig g.force.rs g.ws o x o' = record {
              rule = step.rule;
              held = held;
              named = step.reads.number_is;
              lowest = λ r i b. l.none r (below_before l.before step.rule step.later (subst (Rises 0) rules_are holds.rises) r (subst (In r) rules_are i) b);
              booking = s.words;
              binds = s.binds_us;
              binds' = s.binds_ws;
              taken = s.taken_us;
              taken' = s.taken_ws;
              length_is = e;
              witness_is = w ∙ ap (λ z. s.words ++ drop z o) e;
            } in
            (in_any (λ q. shares g.force.known.sig g.ws q.pattern) g.force.rs step.rule held (exists_shares g.force.known.sig g.force.known.signed g.ws step.rule.pattern s), there)

    pub at_end : (o : List ℕ) (o' : List ℕ) → o' ≡ o → get_or table 0 0 ≤ i → SharerOf g.force.known.sig g.force.rs g.ws o None o'
    at_end o o' e h = (finished h, e)
