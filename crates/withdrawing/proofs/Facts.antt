-- The withdrawal, refusal by refusal.
use mathlib.Core.Path.{◌≡◌, refl, sym, ap, subst, ◌∙◌}
use mathlib.Core.List.{List}
use mathlib.Core.Bool.{false, cond, not}
use Prim.Native.Nat.{ℕ, ◌<◌, ◌≤◌}
use native.Mathlib.Omega.{arith}
use lib.Dec.{eqb}
use Rattle.signature.proofs.Tests.{leb_yes, leb_no}
use Rattle.tree.specs.Limits.{last_number}
use Rattle.table.specs.Limits.{limits}
use Rattle.table.specs.Calls.{Withdraw, withdraw_number, withdraw_table}
use Rattle.table.specs.Refusals.{withdrawal_refusal}
use Rattle.table.specs.Rule.{Rule, default_of, held, stored, take_out}
use Rattle.store.specs.Change.{GivenTake}
use Rattle.store.specs.Laid.{Holds}
use Rattle.store.specs.Place.{FoundAt, HeldAt, FreeAt}
use Rattle.std.specs.Prelude.{Result, Ok, Err}
use Rattle.store.proofs.LaidFacts.{sound_holds}
use Rattle.opening.specs.Open.{OpenedAs, Ruled}
use Rattle.withdrawing.specs.Withdraw.{withdrawn}

-- a refusal leaves the table
stays : (n k : ℕ) (rs : List Rule) (table : List ℕ) → withdrawal_refusal n rs ≡ k → eqb k 0 ≡ false → (k ≡ withdrawal_refusal n rs) × (table ≡ withdrawn n rs table)
stays n k rs table e h = (sym e, sym (ap (λ z. cond (eqb z 0) (stored limits (default_of table) (take_out n rs) table) table) e ∙ ap (λ b. cond b (stored limits (default_of table) (take_out n rs) table) table) h))

module _ {table : List ℕ} (g : (rs : List Rule) × Holds limits table rs) (n : ℕ) where
  pub zero_4 : n ≡ 0 → (4 ≡ withdrawal_refusal n g.0) × (table ≡ withdrawn n g.0 table)
  zero_4 e = stays n 4 g.0 table (ap (λ z. withdrawal_refusal z g.0) e) refl

  pub over_4 : last_number < n → (4 ≡ withdrawal_refusal n g.0) × (table ≡ withdrawn n g.0 table)
  over_4 l = stays n 4 g.0 table (rw (leb_yes 1 n (omega arith), leb_no n last_number l)) refl

  module _ (low : (n ≡ 0 → ⊥)) (high : n ≤ last_number) where
    refusal_is : withdrawal_refusal n g.0 ≡ cond (not (held n g.0)) 6 0
    refusal_is = rw (leb_yes 1 n (omega (arith, low)), leb_yes n last_number high)

    module _ (f : Result ℕ ℕ) (gave : (rs : List Rule) → Holds limits table rs → FoundAt n rs f) where
      pub not_held_6 : ((at : ℕ) → f ≡ Ok at → ⊥) → (6 ≡ withdrawal_refusal n g.0) × (table ≡ withdrawn n g.0 table)
      not_held_6 free = go f free (gave g.0 g.1)
        where
          go : (r : Result ℕ ℕ) → ((at : ℕ) → r ≡ Ok at → ⊥) → FoundAt n g.0 r → (6 ≡ withdrawal_refusal n g.0) × (table ≡ withdrawn n g.0 table)
          go (Ok at) free q = absurd (free at refl)
          go (Err at) free q = stays n 6 g.0 table (refusal_is ∙ ap (λ b. cond (not b) 6 0) q.not_held) refl

      module _ (at : ℕ) (e : f ≡ Ok at) where
        found : HeldAt n g.0 at
        found = subst (FoundAt n g.0) e (gave g.0 g.1)

        pub take_given : GivenTake table at
        take_given = record { rs = g.0; holds = g.1; number = n; held = found }

        pub taken_0 : (after : List ℕ) → ((q : GivenTake table at) → after ≡ stored limits (default_of table) (take_out q.number q.rs) table) → (0 ≡ withdrawal_refusal n g.0) × (after ≡ withdrawn n g.0 table)
        unfolding take_given
        taken_0 after t =
            let z : withdrawal_refusal n g.0 ≡ 0 = refusal_is ∙ ap (λ b. cond (not b) 6 0) found.is_held in
            (sym z, t take_given ∙ sym (ap (λ k. cond (eqb k 0) (stored limits (default_of table) (take_out n g.0) table) table) z))

module _ (ss table t : List ℕ) (n k : ℕ) (open_so : OpenedAs ss table k t) where
  pub turned_down : (k ≡ 0 → ⊥) → Withdraw limits ss n table k table
  turned_down f =
      let z = open_so.turned_down f in
      record { number_is = sym (ap (λ x. withdraw_number x n) z); table_is = sym (ap (λ x. withdraw_table limits x n table) z) }

  module _ (e : k ≡ 0) where
    abbrev force : Ruled t table
    force = (open_so.begun e).0

    pub in_table : (rs : List Rule) × Holds limits table rs
    in_table = (force.rs, sound_holds force.known.sig table force.rs force.is_sound)

    pub withdrawn_so : (r : ℕ) (after : List ℕ) → ((g : (rs : List Rule) × Holds limits table rs) → (r ≡ withdrawal_refusal n g.0) × (after ≡ withdrawn n g.0 table)) → Withdraw limits ss n table r after
    unfolding in_table
    withdrawn_so r after f =
        let q = f in_table in
        let z = (open_so.begun e).1 in
        record { number_is = q.0 ∙ sym (ap (λ x. withdraw_number x n) z); table_is = q.1 ∙ sym (ap (λ x. withdraw_table limits x n table) z) }
