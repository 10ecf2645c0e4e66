-- The default set, or the refusal.
use mathlib.Core.Path.{◌≡◌, sym, ap}
use mathlib.Core.List.{List}
use Prim.Native.Nat.{ℕ, ◌≤◌}
use lib.ListN.{length, set}
use Rattle.table.specs.Limits.{limits, table_length, default_at}
use Rattle.table.specs.Calls.{SetDefault, set_number, set_table}
use Rattle.store.proofs.LaidFacts.{sound_holds}
use Rattle.opening.specs.Open.{OpenedAs, Ruled}

module _ (ss table t : List ℕ) (plan k : ℕ) (open_so : OpenedAs ss table k t) where
  pub turned_down : (k ≡ 0 → ⊥) → SetDefault limits ss plan table k table
  turned_down f =
      let z = open_so.turned_down f in
      record { number_is = sym (ap set_number z); table_is = sym (ap (λ x. set_table x plan table) z) }

  module _ (e : k ≡ 0) where
    abbrev force : Ruled t table
    force = (open_so.begun e).0

    pub long : table_length limits ≤ length table
    long = (sound_holds force.known.sig table force.rs force.is_sound).long

    pub set_so : SetDefault limits ss plan table 0 (set table default_at plan)
    set_so =
        let z = (open_so.begun e).1 in
        record { number_is = sym (ap set_number z); table_is = sym (ap (λ x. set_table x plan table) z) }
