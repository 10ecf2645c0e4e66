-- The rules of a sound table against a booking, one after the other.
use mathlib.Core.Path.{◌≡◌, refl, sym, ap, ap₂, ◌∙◌}
use mathlib.Core.List.{List, [], ◌∷◌, ◌++◌}
use mathlib.Core.Option.{none, some}
use mathlib.Core.Bool.{Bool, true, false}
use Prim.Native.Nat.{ℕ, ◌+◌, ◌-◌, ◌<◌, ◌≤◌}
use native.Mathlib.Omega.{arith}
use lib.ListN.{length, get_or, take, drop}
use Rattle.signature.specs.Lists.{◌>>=◌}
use Rattle.signature.specs.Signature.{Signature}
use Rattle.signature.specs.Value.{Value}
use Rattle.signature.proofs.Tests.{true≢false}
use Rattle.pattern.specs.Decide.{Out, decide, is_fit, fit, fail}
use Rattle.pattern.specs.Match.{Binds}
use Rattle.pattern.specs.Pattern.{Pattern}
use Rattle.pattern.specs.Places.{bind_all, unbound}
use Rattle.pattern.specs.Read.{read_pattern}
use Rattle.matching.specs.Asked.{Asked}
use Rattle.row.specs.Admitted.{Passed}
use Rattle.row.proofs.PassedFacts.{passed_of}
use Rattle.tree.specs.Answer.{Answer, no_rule}
use Rattle.table.specs.Decide.{direct, answer_by, or_none}
use Rattle.table.specs.Limits.{limits, table_length, rules_at}
use Rattle.table.specs.Rule.{Rule, default_of}
use Rattle.store.specs.Laid.{Holds}
use Rattle.store.specs.Place.{Walked, NextRule}
use Rattle.store.proofs.LaidFacts.{is_stored}
use Rattle.store.proofs.Walk.{walk_start, walk_step, walk_end}
use Rattle.loading.proofs.Loads.{sound_holds}
use Rattle.loading.proofs.Tested.{passed_at}
use Rattle.loading.proofs.Tested.{tests}
use Rattle.deciding.specs.Decide.{Judging, ByRule, answered_by, places_by}

-- the answer by a rule, where its pattern is read
taken : (dft : ℕ) (sig : Signature) (r : Rule) (rs : List Rule) (v : Value) (p : Pattern) (σ : Binds) → read_pattern sig r.pattern ≡ some p → decide p v 0 ≡ fit σ → direct dft sig (r ∷ rs) v ≡ record { rule = r.number; plan = r.plan; places = bind_all σ unbound }
taken dft sig r rs v p σ e f = ap (λ o. or_none (o >>= λ q. answer_by r (decide q v 0)) (direct dft sig rs v)) e ∙ ap (λ o. or_none (answer_by r o) (direct dft sig rs v)) f

not_taken : (dft : ℕ) (sig : Signature) (r : Rule) (rs : List Rule) (v : Value) (p : Pattern) → read_pattern sig r.pattern ≡ some p → is_fit (decide p v 0) ≡ false → direct dft sig (r ∷ rs) v ≡ direct dft sig rs v
not_taken dft sig r rs v p e f = ap (λ o. or_none (o >>= λ q. answer_by r (decide q v 0)) (direct dft sig rs v)) e ∙ go (decide p v 0) f
  where
    go : (o : Out) → is_fit o ≡ false → or_none (answer_by r o) (direct dft sig rs v) ≡ direct dft sig rs v
    go (fit σ) h = true≢false h
    go (fail σ) h = refl

the_binds : (o : Out) → is_fit o ≡ true → (σ : Binds) × (o ≡ fit σ)
the_binds (fit σ) h = (σ, refl)
the_binds (fail σ) h = true≢false (sym h)

-- the answer by a rule, from the places
pub by_fit : {t table : List ℕ} {at : ℕ} {ws bs : List ℕ} (g : ByRule t table at ws bs) (places : List ℕ) → ((q : Asked t ws bs) (σ : Binds) → decide q.pattern q.value 0 ≡ fit σ → places ≡ bind_all σ unbound) → ◌≡◌ {A = Answer} (record { rule = get_or table at 0; plan = get_or table (at + 1) 0; places = places }) (answered_by g)
by_fit {table = table} {at = at} g places f =
    let q = the_binds (decide g.asked.pattern g.asked.value 0) (g.fits g.asked) in
    ap {A = List ℕ} {B = Answer} (λ z. record { rule = get_or table at 0; plan = get_or table (at + 1) 0; places = z }) (f g.asked q.0 q.1 ∙ sym (ap places_by q.1))

module _ {t table bs : List ℕ} (g : Judging t table bs) where
  holds : Holds limits table g.force.rs
  holds = (sound_holds g.force.known.sig table g.force.rs g.force.is_sound).0

  good : tests g.force.known.sig g.force.rs ≡ true
  good = (sound_holds g.force.known.sig table g.force.rs g.force.is_sound).1

  pub long : table_length limits ≤ length table
  long = holds.long

  count_is : get_or table 0 0 ≡ length g.force.rs
  count_is = ap (λ z. get_or z 0 0) (is_stored holds)

  -- i rules are passed, and none took the booking
  pub record Mid (at i : ℕ) : Type 0 where
    pub before : List Rule
    pub after : List Rule
    pub walked : Walked g.force.rs before after i at
    pub same : direct (default_of table) g.force.known.sig g.force.rs g.value ≡ direct (default_of table) g.force.known.sig after g.value

  pub start : Mid rules_at 0
  start = record { before = []; after = g.force.rs; walked = walk_start g.force.rs; same = refl }

  module _ {at i : ℕ} (l : Mid at i) where
    pub finished : get_or table 0 0 ≤ i → direct (default_of table) g.force.known.sig g.force.rs g.value ≡ no_rule (default_of table)
    finished e = l.same ∙ ap (λ z. direct (default_of table) g.force.known.sig z g.value) (walk_end l.walked (omega (arith, e, count_is))).0

    module _ (e : i < get_or table 0 0) where
      abbrev step : NextRule table g.force.rs l.before l.after i at
      step = walk_step g.force.rs l.before l.after i at holds l.walked (omega (arith, e, count_is))

      pub end_le : at + 3 + get_or table (at + 2) 0 ≤ (table_length limits)
      end_le = omega (arith, step.reads.length_is, step.reads.within)

      abbrev words : List ℕ
      words = take (at + 3 + get_or table (at + 2) 0 - (at + 3)) (drop (at + 3) table)

      words_are : words ≡ step.rule.pattern
      words_are =
          let z : at + 3 + get_or table (at + 2) 0 - (at + 3) ≡ length step.rule.pattern = omega (arith, step.reads.length_is) in
          ap (λ z. take z (drop (at + 3) table)) z ∙ step.reads.pattern_is

      rules_are : g.force.rs ≡ l.before ++ (step.rule ∷ step.later)
      rules_are = l.walked.are ∙ ap (λ z. l.before ++ z) step.here

      abbrev passed : Passed g.force.known.sig step.rule.pattern
      passed = passed_of g.force.known.sig step.rule.pattern (passed_at g.force.known.sig l.before step.rule step.later (ap (tests g.force.known.sig) (sym rules_are) ∙ good))

      pub asked : Asked t words bs
      asked = record { known = g.force.known; pattern = passed.pat; read = ap (read_pattern g.force.known.sig) words_are ∙ passed.read; value = g.value; booked = g.booked }

      module _ (b : Bool) (gave : (q : Asked t words bs) → b ≡ is_fit (decide q.pattern q.value 0)) where
        said : is_fit (decide passed.pat g.value 0) ≡ b
        unfolding asked
        said = sym (gave asked)

        pub by_rule : b ≡ true → ByRule t table at words bs
        by_rule h = record { asked = asked; fits = λ q. sym (gave q) ∙ h; within = omega (arith, end_le, long) }

        pub hit : (h : b ≡ true) → (r : Answer) → ((q : ByRule t table at words bs) → r ≡ answered_by q) → r ≡ direct (default_of table) g.force.known.sig g.force.rs g.value
        unfolding by_rule asked
        hit h r f =
            let q = the_binds (decide passed.pat g.value 0) (said ∙ h) in
            f (by_rule h)
            ∙ ap {A = Out} {B = Answer} (λ o. record { rule = get_or table at 0; plan = get_or table (at + 1) 0; places = places_by o }) q.1
            ∙ ap₂ {C = Answer} (λ (x y : ℕ). record { rule = x; plan = y; places = bind_all q.0 unbound }) step.reads.number_is step.reads.plan_is
            ∙ sym (l.same ∙ ap (λ z. direct (default_of table) g.force.known.sig z g.value) step.here ∙ taken (default_of table) g.force.known.sig step.rule step.later g.value passed.pat q.0 passed.read q.1)

        pub again : b ≡ false → Mid (at + 3 + get_or table (at + 2) 0) (i + 1)
        again h = record {
          before = l.before ++ (step.rule ∷ []);
          after = step.later;
          walked = step.next;
          same = l.same ∙ ap (λ z. direct (default_of table) g.force.known.sig z g.value) step.here ∙ not_taken (default_of table) g.force.known.sig step.rule step.later g.value passed.pat passed.read (said ∙ h);
        }
