-- 4, 5 and 7 to 11, one test after the other.
use mathlib.Core.Path.{◌≡◌, refl, sym, ap, subst, ◌∙◌}
use mathlib.Core.List.{List, ◌++◌}
use mathlib.Core.Option.{Option, none, some}
use mathlib.Core.Bool.{Bool, true, false, cond, not, ◌&&◌, ◌||◌}
use Prim.Native.Nat.{ℕ, ◌+◌, ◌-◌, ◌<◌, ◌≤◌}
use native.Mathlib.Omega.{arith}
use lib.Dec.{eqb, leb, ltb}
use lib.ListN.{length, take, drop, get_or}
use lib.Seq.{take_at}
use Rattle.signature.specs.Lists.{any}
use Rattle.signature.specs.Signature.{Signature}
use Rattle.signature.proofs.Booleans.{and_false, or_true}
use Rattle.signature.proofs.Tests.{eqb_eq, eqb_ne, eqb_no, leb_yes, leb_no, ltb_yes, ltb_no}
use Rattle.pattern.specs.Limits.{part_weight_limit}
use Rattle.pattern.specs.Linear.{linear_plus}
use Rattle.pattern.specs.Pattern.{Pattern}
use Rattle.pattern.specs.Read.{read_pattern}
use Rattle.pattern.specs.Side.{plus}
use Rattle.pattern.specs.Ranged.{ranged}
use Rattle.pattern.specs.Weight.{weight, weight_by, light_plus}
use Rattle.pattern.proofs.StandsLaw.{light_weight}
use Rattle.row.specs.Admitted.{refusal_by, refusal_of_pattern}
use Rattle.row.specs.Overlap.{shares, ambiguous_plus}
use Rattle.row.proofs.PassedFacts.{passed_of}
use Rattle.cell.proofs.Walk.{back}
use Rattle.tree.specs.Limits.{last_number}
use Rattle.table.specs.Limits.{limits}
use Rattle.table.specs.Refusals.{entry_refusal}
use Rattle.table.specs.Rule.{Rule, held, total_weight}
use Rattle.table.proofs.SoundFacts.{sound_valid}
use Rattle.admission.specs.Admission.{GivenWords, admission_of}
use Rattle.std.specs.Prelude.{Result, Ok, Err}
use Rattle.store.specs.Laid.{Holds}
use Rattle.store.specs.Place.{FreeAt, FoundAt}
use Rattle.store.proofs.FindFacts.{count_is}
use Rattle.store.proofs.LaidFacts.{sound_holds}
use Rattle.loading.specs.Lists.{lists_for}
use Rattle.loading.specs.Load.{Ready, patterns}
use Rattle.entry.specs.Check.{number_refusal, FreeFor, GivenCheck, CheckedAs}

-- 4 and 5
module _ (n : ℕ) (rs : List Rule) where
  pub too_low : n < 1 → FreeFor n rs (Err 4)
  too_low h = (omega arith, λ e. omega arith, λ later. ap (λ b. cond (not (b && leb n last_number)) 4 (cond (held n rs) 5 later)) (leb_no 1 n h))

  pub too_high : last_number < n → FreeFor n rs (Err 4)
  too_high h = (omega arith, λ e. omega arith, λ later. ap (λ b. cond (not (leb 1 n && b)) 4 (cond (held n rs) 5 later)) (leb_no n last_number h) ∙ ap (λ b. cond (not b) 4 (cond (held n rs) 5 later)) (and_false (leb 1 n)))

  module _ (low : 1 ≤ n) (high : n ≤ last_number) where
    numbered : (later : ℕ) → number_refusal n rs later ≡ cond (held n rs) 5 later
    numbered later = let a = leb_yes 1 n low in let b = leb_yes n last_number high in rw (a, b)

    pub was_held : (r : Result ℕ ℕ) → FoundAt n rs r → (at : ℕ) → r ≡ Ok at → FreeFor n rs (Err 5)
    was_held r f at e = let h = subst (FoundAt n rs) e f in (omega arith, λ e. omega arith, λ later. numbered later ∙ ap (λ b. cond b 5 later) h.is_held)

    pub free_there : (r : Result ℕ ℕ) → FoundAt n rs r → (at : ℕ) → r ≡ Err at → FreeFor n rs (Ok at)
    free_there r f at e = (low, high, subst (FoundAt n rs) e f)

    not_held : (at : ℕ) → FreeAt n rs at → (later : ℕ) → number_refusal n rs later ≡ later
    not_held at h later = numbered later ∙ ap (λ b. cond b 5 later) h.not_held

-- 7, 18 and 8 to 10: none of them is 12
refusal_other : (sig : Signature) (o : Option Pattern) → refusal_by sig o ≡ 12 → ⊥
refusal_other sig none = λ e. omega arith
refusal_other sig (some p) = go (ranged p) (linear_plus p) (light_plus p) (ambiguous_plus sig 0 p)
  where
    go : (r a b c : Bool) → ◌≡◌ {A = ℕ} (cond (not r) 18 (cond (not a) 8 (cond (not b) 9 (cond c 10 0)))) 12 → ⊥
    go false a b c e = omega arith
    go true false b c e = omega arith
    go true true false c e = omega arith
    go true true true true e = omega arith
    go true true true false e = omega arith

-- what the admission tells of the words
abbrev Tells : Signature → List ℕ → Result ℕ ℕ → Type 0
Tells sig ws (Ok w) = (refusal_of_pattern sig ws ≡ 0) × (w ≡ weight sig ws)
Tells sig ws (Err q) = (1 ≤ q) × (q ≡ 12 → ⊥) × (q ≡ refusal_of_pattern sig ws)

tells : (sig : Signature) (ws : List ℕ) → Tells sig ws (admission_of sig ws)
tells sig ws = go (eqb (refusal_of_pattern sig ws) 0) refl
  where
    some_number : (q : ℕ) → (q ≡ 0 → ⊥) → 1 ≤ q
    some_number q f = omega (arith, f)

    go : (b : Bool) → eqb (refusal_of_pattern sig ws) 0 ≡ b → Tells sig ws (cond b (Ok (weight sig ws)) (Err (refusal_of_pattern sig ws)))
    go true e = (eqb_eq (refusal_of_pattern sig ws) 0 e, refl)
    go false e = (some_number (refusal_of_pattern sig ws) (eqb_ne (refusal_of_pattern sig ws) 0 e), refusal_other sig (read_pattern sig ws), refl)

own_number : (x later : ℕ) → 1 ≤ x → cond (not (eqb x 0)) x later ≡ x
own_number x later h = ap (λ b. cond (not b) x later) (eqb_no x 0 (λ e. omega (arith, e, h)))

module _ {t table ws : List ℕ} {used total : ℕ} {rows : List ℕ} {m : ℕ} (g : GivenCheck t table ws used total rows m) where
  pub holds : Holds limits table g.force.rs
  holds = sound_holds g.force.known.sig table g.force.rs g.force.is_sound

  light : total ≤ limits.weight
  light = omega (arith, g.force.ready.total_is, (sound_valid g.force.known.sig g.force.known.signed table g.force.rs g.force.is_sound).0.light)

  pub le : used ≤ length rows
  le = omega (arith, g.room)

  pub words_given : (n' m' : ℕ) → n' ≡ length rows - used → m' ≡ m → GivenWords t ws n' m'
  words_given n' m' e e' = record { known = g.force.known; room = omega (arith, e, g.room); work_room = omega (arith, e', g.work_room) }

  ready_kept : (ys : List ℕ) → Ready g.force.known.sig g.force.rs used total (back rows used ys)
  ready_kept ys =
      let L = lists_for g.force.known.sig (patterns g.force.rs) in
      let front : take used rows ≡ L = ap (take used) g.force.ready.code_is ∙ take_at L g.force.ready.rest used (sym g.force.ready.used_is) in
      record {
        rest = ys ++ drop (length rows - used) (drop used rows);
        code_is = ap (λ z. z ++ (ys ++ drop (length rows - used) (drop used rows))) front;
        used_is = g.force.ready.used_is;
        total_is = g.force.ready.total_is;
        small = g.force.ready.small;
      }

  module _ (n : ℕ) where
    abbrev later : ℕ
    later = cond (leb limits.rules (length g.force.rs) || ltb limits.weight (weight g.force.known.sig ws + total_weight g.force.known.sig g.force.rs)) 11 (cond (any (λ r. shares g.force.known.sig ws r.pattern) g.force.rs) 12 0)

    abbrev after_number : ℕ
    after_number = cond (not (eqb (refusal_of_pattern g.force.known.sig ws) 0)) (refusal_of_pattern g.force.known.sig ws) later

    module _ (s : Result ℕ ℕ) (said : (rs : List Rule) → Holds limits table rs → FreeFor n rs s) where
      pub bad_number : (q : ℕ) → s ≡ Err q → CheckedAs g.force.known.sig g.force.rs n ws used total (Err q) rows
      bad_number q e = let f = subst (FreeFor n g.force.rs) e (said g.force.rs holds) in (f.0, f.1, f.2 after_number)

    module _ (s : Result ℕ ℕ) (said : (rs : List Rule) → Holds limits table rs → FreeFor n rs s) (at : ℕ) (s_is : s ≡ Ok at) (n' m' : ℕ) (n'_is : n' ≡ length rows - used) (m'_is : m' ≡ m) (r : Result ℕ ℕ) (gave : (q : GivenWords t ws n' m') → r ≡ admission_of q.known.sig ws) where
      told : Tells g.force.known.sig ws r
      unfolding words_given
      told = subst (Tells g.force.known.sig ws) (sym (gave (words_given n' m' n'_is m'_is))) (tells g.force.known.sig ws)

      f : FreeFor n g.force.rs (Ok at)
      f = subst (FreeFor n g.force.rs) s_is (said g.force.rs holds)

      start : entry_refusal limits g.force.known.sig n ws g.force.rs ≡ after_number
      start = not_held n g.force.rs f.0 f.1 at f.2 after_number

      pub bad_pattern : (q : ℕ) → r ≡ Err q → CheckedAs g.force.known.sig g.force.rs n ws used total (Err q) rows
      bad_pattern q e =
          let z : Tells g.force.known.sig ws (Err q) = subst (Tells g.force.known.sig ws) e told in
          (z.0, z.1, start ∙ own_number (refusal_of_pattern g.force.known.sig ws) later (omega (arith, z.0, z.2)) ∙ sym z.2)

      module _ (w : ℕ) (e : r ≡ Ok w) where
        so : (refusal_of_pattern g.force.known.sig ws ≡ 0) × (w ≡ weight g.force.known.sig ws)
        so = subst (Tells g.force.known.sig ws) e told

        pub sum_small : total + w ≤ limits.weight + part_weight_limit
        sum_small =
            let p = passed_of g.force.known.sig ws so.0 in
            omega (arith, so.1, ap weight_by p.read, light_weight plus p.pat p.light, light)

        good : entry_refusal limits g.force.known.sig n ws g.force.rs ≡ later
        good = start ∙ ap (λ q. cond (not (eqb q 0)) q later) so.0

        pub full : limits.rules ≤ get_or table 0 0 → CheckedAs g.force.known.sig g.force.rs n ws used total (Err 11) rows
        full h = (omega arith, λ e. omega arith, good ∙ ap (λ b. cond (b || ltb limits.weight (weight g.force.known.sig ws + total_weight g.force.known.sig g.force.rs)) 11 (cond (any (λ r. shares g.force.known.sig ws r.pattern) g.force.rs) 12 0)) (leb_yes limits.rules (length g.force.rs) (omega (arith, h, count_is holds))))

        pub heavy : limits.weight < total + w → CheckedAs g.force.known.sig g.force.rs n ws used total (Err 11) rows
        heavy h = (
          omega arith,
          λ e. omega arith,
          good
              ∙ ap (λ b. cond (leb limits.rules (length g.force.rs) || b) 11 (cond (any (λ r. shares g.force.known.sig ws r.pattern) g.force.rs) 12 0)) (ltb_yes limits.weight (weight g.force.known.sig ws + total_weight g.force.known.sig g.force.rs) (omega (arith, h, so.1, g.force.ready.total_is)))
              ∙ ap (λ b. cond b 11 (cond (any (λ r. shares g.force.known.sig ws r.pattern) g.force.rs) 12 0)) (or_true (leb limits.rules (length g.force.rs))),
        )

        pub clear : get_or table 0 0 < limits.rules → total + w ≤ limits.weight → (ys : List ℕ) → CheckedAs g.force.known.sig g.force.rs n ws used total (Ok at) (back rows used ys)
        clear h k ys =
            let few : length g.force.rs < limits.rules = omega (arith, h, count_is holds) in
            let a = leb_no limits.rules (length g.force.rs) few in
            let b = ltb_no limits.weight (weight g.force.known.sig ws + total_weight g.force.known.sig g.force.rs) (omega (arith, k, so.1, g.force.ready.total_is)) in
            let c : later ≡ cond (any (λ r. shares g.force.known.sig ws r.pattern) g.force.rs) 12 0 = rw (a, b) in
            (record { free = f.2; passed = so.0; few = few; light = omega (arith, k, so.1, g.force.ready.total_is); refusal_is = good ∙ c }, ready_kept ys)
