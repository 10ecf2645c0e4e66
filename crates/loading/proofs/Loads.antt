-- The rules of a table, one after the other.
use mathlib.Core.Path.{◌≡◌, refl, sym, ap, subst, ◌∙◌}
use mathlib.Core.List.{List, [], ◌∷◌, ◌++◌, map-append}
use mathlib.Core.Option.{Option, none, some}
use mathlib.Core.Bool.{Bool, true, false}
use Prim.Native.Nat.{ℕ, ◌+◌, ◌-◌, ◌<◌, ◌≤◌}
use native.Mathlib.Omega.{arith}
use lib.ListN.{length, get_or, take, drop, length-append, length-map}
use Rattle.signature.specs.Lists.{is_some, require, ◌>>=◌}
use Rattle.signature.specs.Signature.{Signature}
use Rattle.signature.proofs.Tests.{true≢false, bind_some, require_some, some_inj}
use Rattle.table.specs.Limits.{limits, table_length, rules_at}
use Rattle.table.specs.Rule.{Rule}
use Rattle.table.specs.Sound.{sound}
use Rattle.meeting.specs.Lists.{lists_meet, none_by, GivenLists}
use Rattle.store.specs.Laid.{laid, Holds}
use Rattle.store.specs.Place.{Walked, NextRule}
use Rattle.store.proofs.LaidFacts.{laid_holds, holds_laid, sound_laid, is_stored}
use Rattle.store.proofs.Walk.{walk_start, walk_step, walk_end}
use Rattle.loading.specs.Add.{TooSmall, GivenAdd, goes_with, Stepped}
use Rattle.loading.specs.Lists.{lists_for}
use Rattle.loading.specs.Load.{GivenLoad, Ready, LoadedAs, patterns}
use Rattle.loading.proofs.Tested.{tests}
use Rattle.std.specs.Prelude.{Result, Ok, Err}
use Rattle.loading.specs.declared.add.LoadError.{LoadError}
use Rattle.loading.specs.declared.add.LoadError.TheVariants.{Unsound, NoRoom}
use Rattle.loading.proofs.Shared.{none_shared, rules_lists}
use Rattle.loading.proofs.Tested.{passed, same_weight, weight_last, passed_light, passed_more, tests_none}

not_laid : (sig : Signature) (o : Option (List Rule)) → is_some o ≡ false → (o >>= λ rs. require (tests sig rs) >>= λ u. some rs) ≡ none
not_laid sig none e = refl
not_laid sig (some rs) e = true≢false e

was_laid : (o : Option (List Rule)) → is_some o ≡ true → (rs : List Rule) × (o ≡ some rs)
was_laid none e = true≢false (sym e)
was_laid (some rs) e = (rs, refl)

module _ {t table : List ℕ} (g : GivenLoad t table) where
  pub unlaid : (b : Bool) → b ≡ is_some (laid limits table) → b ≡ false → sound limits g.known.sig table ≡ none
  unlaid b e h = sound_laid g.known.sig table ∙ not_laid g.known.sig (laid limits table) (sym e ∙ h)

  pub the_rules : (b : Bool) → b ≡ is_some (laid limits table) → b ≡ true → (rs : List Rule) × Holds limits table rs
  the_rules b e h = let q = was_laid (laid limits table) (sym e ∙ h) in (q.0, laid_holds table q.0 q.1)

module _ {t table : List ℕ} (g : GivenLoad t table) (rs : List Rule) (h : Holds limits table rs) where
  pub count_is : get_or table 0 0 ≡ length rs
  count_is = ap (λ z. get_or z 0 0) (is_stored h)

  tested : sound limits g.known.sig table ≡ (require (tests g.known.sig rs) >>= λ u. some rs)
  tested = sound_laid g.known.sig table ∙ ap (λ o. o >>= λ qs. require (tests g.known.sig qs) >>= λ u. some qs) (holds_laid h)

  -- i rules are passed
  pub record Mid (at used total i : ℕ) (rows : List ℕ) : Type 0 where
    pub before : List Rule
    pub after : List Rule
    pub walked : Walked rs before after i at
    pub ready : Ready g.known.sig before used total rows
    pub good : passed g.known.sig before ≡ true

  pub start : (rows : List ℕ) → Mid rules_at 0 0 0 rows
  start rows = record { before = []; after = rs; walked = walk_start rs; ready = record { rest = rows; code_is = refl; used_is = refl; total_is = refl; small = omega arith }; good = refl }

  module _ {at used total i : ℕ} {rows : List ℕ} (l : Mid at used total i rows) where
    -- all are past, and their lists stand there
    module _ (e : get_or table 0 0 ≤ i) where
      pub all_past : rs ≡ l.before
      all_past = (walk_end l.walked (omega (arith, e, count_is))).1

      pub ready_all : Ready g.known.sig rs used total rows
      ready_all = subst (λ qs. Ready g.known.sig qs used total rows) (sym all_past) l.ready

      pub passed_all : passed g.known.sig rs ≡ true
      passed_all = ap (passed g.known.sig) all_past ∙ l.good

      abbrev pub lists : GivenLists t rows (get_or table 0 0)
      lists = rules_lists g.known rs ready_all (passed_light g.known.sig rs passed_all) (get_or table 0 0) count_is

      tests_are : (b : Bool) → b ≡ none_by lists_meet lists.rss → tests g.known.sig rs ≡ b
      tests_are b k = rw passed_all (sym (k ∙ none_shared g.known.sig rs))

      pub done : (b : Bool) → b ≡ none_by lists_meet lists.rss → b ≡ true → (qs : List Rule) × (sound limits g.known.sig table ≡ some qs) × Ready g.known.sig qs used total rows
      done b k x = let z : tests g.known.sig rs ≡ true = tests_are b k ∙ x in (rs, tested ∙ (rw z), ready_all)

      pub shared : (b : Bool) → b ≡ none_by lists_meet lists.rss → b ≡ false → sound limits g.known.sig table ≡ none
      shared b k x = let z : tests g.known.sig rs ≡ false = tests_are b k ∙ x in tested ∙ (rw z)

    module _ (e : i < get_or table 0 0) where
      abbrev step : NextRule table rs l.before l.after i at
      step = walk_step rs l.before l.after i at h l.walked (omega (arith, e, count_is))

      pub end_le : at + 3 + get_or table (at + 2) 0 ≤ (table_length limits)
      end_le = omega (arith, step.reads.length_is, step.reads.within)

      pub few : i < limits.rules
      few = omega (arith, e, count_is, h.few)

      words_are : take (at + 3 + get_or table (at + 2) 0 - (at + 3)) (drop (at + 3) table) ≡ step.rule.pattern
      words_are =
          let z : at + 3 + get_or table (at + 2) 0 - (at + 3) ≡ length step.rule.pattern = omega (arith, step.reads.length_is) in
          ap (λ z. take z (drop (at + 3) table)) z ∙ step.reads.pattern_is

      light : total ≤ limits.weight
      light = omega (arith, l.ready.total_is, passed_light g.known.sig l.before l.good)

      many : length (patterns l.before) ≡ i
      many = length-map l.before (λ r. r.pattern) ∙ l.walked.passed

      pub given : GivenAdd t used total rows
      given = record {
        known = g.known;
        wss = patterns l.before;
        rest = l.ready.rest;
        code_is = l.ready.code_is;
        used_is = l.ready.used_is;
        few = omega (arith, few, many);
        total_is = l.ready.total_is ∙ sym (same_weight g.known.sig l.before);
        light = light;
        small = omega (arith, l.ready.small, l.walked.passed, many);
      }

      module _ (k m : ℕ) (s : Result (ℕ × ℕ) LoadError) (rows' : List ℕ) (gave : (q : GivenAdd t used total rows) → Stepped q.known.sig q.wss (take (at + 3 + get_or table (at + 2) 0 - (at + 3)) (drop (at + 3) table)) k m s rows') where
        said : Stepped g.known.sig (patterns l.before) step.rule.pattern k m s rows'
        unfolding given
        said = subst (λ z. Stepped g.known.sig (patterns l.before) z k m s rows') words_are (gave given)

        rules_are : rs ≡ l.before ++ (step.rule ∷ step.later)
        rules_are = l.walked.are ∙ ap (λ z. l.before ++ z) step.here

        no_room : s ≡ Err NoRoom → TooSmall k m
        no_room x = subst (λ z. Stepped g.known.sig (patterns l.before) step.rule.pattern k m z rows') x said

        unsound : s ≡ Err Unsound → sound limits g.known.sig table ≡ none
        unsound x =
            let y : goes_with g.known.sig (patterns l.before) step.rule.pattern ≡ false = subst (λ z. Stepped g.known.sig (patterns l.before) step.rule.pattern k m z rows') x said in
            let z : tests g.known.sig rs ≡ false = ap (tests g.known.sig) rules_are ∙ tests_none g.known.sig l.before step.rule step.later y in
            tested ∙ (rw z)

        pub failed : (e : LoadError) → s ≡ Err e → (k' m' : ℕ) → k ≡ k' → m ≡ m' → LoadedAs (TooSmall k' m') g.known.sig table (Err e) rows'
        failed NoRoom x k' m' a b = λ p q. no_room x (omega (arith, p, a)) (omega (arith, q, b))
        failed Unsound x k' m' a b = unsound x

        pub again : (u w : ℕ) → s ≡ Ok (u, w) → Mid (at + 3 + get_or table (at + 2) 0) u w (i + 1) rows'
        again u w x =
            let y : Stepped g.known.sig (patterns l.before) step.rule.pattern k m (Ok (u, w)) rows' = subst (λ z. Stepped g.known.sig (patterns l.before) step.rule.pattern k m z rows') x said in
            let p : patterns (l.before ++ (step.rule ∷ [])) ≡ patterns l.before ++ (step.rule.pattern ∷ []) = map-append (λ r. r.pattern) l.before (step.rule ∷ []) in
            record {
              before = l.before ++ (step.rule ∷ []);
              after = step.later;
              walked = step.next;
              ready = record {
                rest = y.3.0;
                code_is = y.3.1 ∙ ap (λ z. lists_for g.known.sig z ++ y.3.0) (sym p);
                used_is = y.2 ∙ ap (λ z. length (lists_for g.known.sig z)) (sym p);
                total_is = y.1 ∙ weight_last g.known.sig l.before step.rule;
                small = omega (arith, y.4, length-append l.before (step.rule ∷ []), length-append (patterns l.before) (step.rule.pattern ∷ []), many, l.walked.passed);
              };
              good = passed_more g.known.sig l.before step.rule l.good y.0;
            }

-- the rules of a sound table are held, and pass the tests
pub sound_holds : (sig : Signature) (table : List ℕ) (rs : List Rule) → sound limits sig table ≡ some rs → Holds limits table rs × (tests sig rs ≡ true)
sound_holds sig table rs e =
    let (qs, l, f) = bind_some (laid limits table) (λ qs. require (tests sig qs) >>= λ u. some qs) rs (sym (sound_laid sig table) ∙ e) in
    let (u, q, i) = bind_some (require (tests sig qs)) (λ u. some qs) rs f in
    let same : qs ≡ rs = some_inj qs rs i in
    (subst (Holds limits table) same (laid_holds table qs l), subst (λ z. tests sig z ≡ true) same (require_some (tests sig qs) u q))
