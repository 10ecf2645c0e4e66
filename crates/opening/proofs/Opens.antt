-- 1 and 2, then the table by itself.
use mathlib.Core.Path.{◌≡◌, refl, sym, ap, subst, ◌∙◌}
use mathlib.Core.List.{List}
use mathlib.Core.Option.{none, some}
use Rattle.builder.specs.Build.{row_room}
use Rattle.loading.specs.Add.{rows_room}
use mathlib.Core.Bool.{Bool, true, false}
use Prim.Native.Nat.{ℕ, ◌≤◌}
use native.Mathlib.Omega.{arith}
use lib.ListN.{length}
use Rattle.signature.specs.Lists.{is_some}
use Rattle.signature.specs.Read.{read_signature}
use Rattle.signature.specs.Signature.{Signature}
use Rattle.signature.proofs.Tests.{le_of}
use Rattle.booking.proofs.PartLaws.{Of, there, missing}
use Rattle.table.specs.Limits.{limits, table_length}
use Rattle.table.specs.Calls.{start, on_signature, on_sound, long_table}
use Rattle.table.specs.Rule.{Rule}
use Rattle.table.specs.Sound.{sound}
use Rattle.loading.specs.Load.{GivenLoad, Ready, LoadedAs}
use Rattle.std.specs.Prelude.{Option, Some, None, IsSome, Result, Ok, Err}
use Rattle.loading.specs.declared.add.LoadError.{LoadError}
use Rattle.loading.specs.declared.add.LoadError.TheVariants.{Unsound, NoRoom}
use Rattle.opening.specs.Open.{Lawful, BeginsAs, OpenedAs, SoundAs}

-- a refusal's number is not 0
other : (n : ℕ) → 1 ≤ n → {A : Type 0} → n ≡ 0 → A
other n h e = absurd (omega (arith, h, e))

pub refuses_1 : (ss : List ℕ) (long : Bool) (t : List ℕ) → false ≡ is_some (read_signature ss) → BeginsAs ss long 1 t
refuses_1 ss long t e = record { begins = other 1 (omega arith); refuses = λ f table. ap (λ o. on_signature limits o long table) (missing (read_signature ss) e) }

module _ {ss t : List ℕ} (o : Of ss t) (long : Bool) where
  pub refuses_2 : long ≡ false → BeginsAs ss long 2 t
  refuses_2 e = record { begins = other 2 (omega arith); refuses = λ f table. rw (o.read, e) }

  pub begins : long ≡ true → BeginsAs ss long 0 t
  begins e = record { begins = λ z. (record { known = o.known; read = o.read }, e); refuses = λ f. absurd (f refl) }

-- past 1 and 2
pub goes_on : {ss t : List ℕ} (o : Lawful ss t) (long : Bool) (table : List ℕ) → long ≡ true → start limits ss long table ≡ on_sound o.known.sig (sound limits o.known.sig table)
goes_on o long table e = rw (o.read, e)

-- what a load tells
module _ (P : Type 0) (sig : Signature) (table : List ℕ) (r : Result (ℕ × ℕ) LoadError) (rows : List ℕ) (h : LoadedAs P sig table r rows) where
  said_of : (z : Result (ℕ × ℕ) LoadError) → r ≡ z → LoadedAs P sig table z rows
  said_of z e = subst (λ z. LoadedAs P sig table z rows) e h

  pub loaded_sound : (x : ℕ × ℕ) → r ≡ Ok x → (rs : List Rule) × (sound limits sig table ≡ some rs) × Ready sig rs x.0 x.1 rows
  loaded_sound x e = said_of (Ok x) e

  pub loaded_unsound : r ≡ Err Unsound → sound limits sig table ≡ none
  loaded_unsound e = said_of (Err Unsound) e

  pub loaded_none : r ≡ Err NoRoom → P
  loaded_none e = said_of (Err NoRoom) e

  pub told_sound : (x : ℕ × ℕ) → r ≡ Ok x → true ≡ is_some (sound limits sig table)
  told_sound x e = sym (ap is_some (loaded_sound x e).1)

  pub told_unsound : r ≡ Err Unsound → false ≡ is_some (sound limits sig table)
  told_unsound e = sym (ap is_some (loaded_unsound e))

-- the answer with arrays of any size, and that there is one where they are the largest
module _ (sig : Signature) (table : List ℕ) where
  pub sound_so : (n m : ℕ) (r : Option Bool) → SoundAs n m sig table r → (b : Bool) → r ≡ Some b → b ≡ is_some (sound limits sig table)
  sound_so n m r h b e = subst (SoundAs n m sig table) e h

  pub always : (r : Option Bool) → SoundAs rows_room row_room sig table r → IsSome r
  always None h = absurd (h (omega arith) (omega arith))
  always (Some b) h = refl

module _ (ss table t : List ℕ) (r : ℕ) (b : BeginsAs ss (long_table limits table) r t) where
  pub refused_early : (r ≡ 0 → ⊥) → OpenedAs ss table r t
  refused_early f = record { begun = λ e. absurd (f e); turned_down = λ z. b.refuses f table }

  module _ (e : r ≡ 0) where
    lawful : Lawful ss t
    lawful = (b.begins e).0

    pub load_given : GivenLoad t table
    load_given = record { known = lawful.known; long = le_of (table_length limits) (length table) (b.begins e).1 }

    module _ (q : Bool) (gave : (g : GivenLoad t table) → q ≡ is_some (sound limits g.known.sig table)) where
      said : q ≡ is_some (sound limits lawful.known.sig table)
      unfolding load_given
      said = gave load_given

      started : start limits ss (long_table limits table) table ≡ on_sound lawful.known.sig (sound limits lawful.known.sig table)
      started = goes_on lawful (long_table limits table) table (b.begins e).1

      pub refused_3 : q ≡ false → OpenedAs ss table 3 t
      refused_3 x = record { begun = other 3 (omega arith); turned_down = λ z. started ∙ ap (on_sound lawful.known.sig) (missing (sound limits lawful.known.sig table) (sym x ∙ said)) }

      pub opened : q ≡ true → OpenedAs ss table 0 t
      opened x =
          let (rs, s) = there (sound limits lawful.known.sig table) (sym x ∙ said) in
          record { begun = λ z. (record { known = lawful.known; rs = rs; is_sound = s }, started ∙ ap (on_sound lawful.known.sig) s); turned_down = λ f. absurd (f refl) }
