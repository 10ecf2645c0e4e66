-- The call as a whole.
use mathlib.Core.Path.{◌≡◌, refl, sym, ap, subst, ◌∙◌}
use mathlib.Core.List.{List}
use mathlib.Core.Bool.{Bool, true, false, ◌&&◌}
use Prim.Native.Nat.{ℕ, ◌<◌, ◌≤◌}
use native.Mathlib.Omega.{arith}
use lib.ListN.{length}
use Rattle.signature.specs.Signature.{Signature}
use Rattle.signature.proofs.Booleans.{and_left, and_right}
use Rattle.signature.proofs.Tests.{leb_yes, leb_no, le_of}
use Rattle.table.specs.Calls.{Entered as Answer, Enter, Shows, start, on_sound, refused, begin, enter_start, enter_number, enter_table, long_table, long_witness}
use Rattle.table.specs.Limits.{limits, table_length, witness_length}
use Rattle.table.specs.Rule.{Rule}
use Rattle.table.specs.Sound.{sound}
use Rattle.table.proofs.Outcomes.{begin_inj, refused_begin}
use Rattle.loading.specs.Load.{GivenLoad, LoadedAs, InForce}
use Rattle.std.specs.Prelude.{Option as CodeOption, None, Some, IsSome, Result, Ok, Err}
use Rattle.signature.specs.Refusal.{number_of}
use Rattle.signature.specs.declared.refusals.Refusal.{Refusal}
use Rattle.signature.specs.declared.refusals.Refusal.TheVariants.{Unsound as RefusedUnsound}
use Rattle.signature.proofs.Numbers.{positive, not_0}
use Rattle.builder.specs.Build.{row_room}
use Rattle.loading.specs.Add.{TooSmall, rows_room}
use Rattle.loading.specs.declared.add.LoadError.{LoadError}
use Rattle.loading.specs.declared.add.LoadError.TheVariants.{Unsound, NoRoom}
use Rattle.opening.specs.Open.{BeginsAs}
use Rattle.opening.proofs.Opens.{goes_on}
use Rattle.entry.specs.Entry.{entry_answer, Numbered}
use Rattle.entry.specs.Settle.{EntryOf, TriedAs}
use Rattle.entry.specs.declared.sound.Entry.{Entry}
use Rattle.entry.specs.declared.sound.Entry.TheVariants.{Refused}
use Rattle.entering.specs.Enter.{GivenEnter, EntersAs, TriesAs}

-- 2
pub long_is : (table witness : List ℕ) → table_length limits ≤ length table → (b : Bool) → b ≡ long_witness witness → b ≡ (long_table limits table && long_witness witness)
long_is table witness h b e = e ∙ sym (ap (λ z. z && long_witness witness) (leb_yes (table_length limits) (length table) h))

pub short_is : (table witness : List ℕ) → length table < (table_length limits) → false ≡ (long_table limits table && long_witness witness)
short_is table witness h = sym (ap (λ z. z && long_witness witness) (leb_no (table_length limits) (length table) h))

module _ (table witness : List ℕ) (b : Bool) (b_is : b ≡ (long_table limits table && long_witness witness)) (e : b ≡ true) where
  pub table_long : table_length limits ≤ length table
  table_long = le_of (table_length limits) (length table) (and_left (long_table limits table) (long_witness witness) (sym b_is ∙ e))

  pub witness_long : witness_length ≤ length witness
  witness_long = le_of witness_length (length witness) (and_right (long_table limits table) (long_witness witness) (sym b_is ∙ e))

module _ (ss : List ℕ) (n plan : ℕ) (ws table witness : List ℕ) where
  pub refused_early : (q : Refusal) → enter_start limits ss table witness ≡ refused (number_of q) → Enter limits ss n plan ws table witness (entry_answer (Refused q)) table witness
  refused_early q e = record {
    number_is = sym (ap (λ s. enter_number limits s n ws) e);
    table_is = sym (ap (λ s. enter_table limits s n plan ws table) e);
    not_12 = λ f. (refl, refl, refl);
    on_12 = λ sig rs z x. refused_begin (number_of q) sig rs (sym e ∙ z);
  }

  pub as_whole : (sig : Signature) (rs : List Rule) → enter_start limits ss table witness ≡ begin sig rs → (e : Answer) (after witness' : List ℕ) → EntryOf sig rs n plan ws table witness e after witness' → Enter limits ss n plan ws table witness e after witness'
  as_whole sig rs b e after witness' h = record {
    number_is = h.number_is ∙ sym (ap (λ s. enter_number limits s n ws) b);
    table_is = h.table_is ∙ sym (ap (λ s. enter_table limits s n plan ws table) b);
    not_12 = h.not_12;
    on_12 = λ sig' rs' z x. moved sig' rs' (begin_inj sig sig' rs rs' (sym b ∙ z)) (h.on_12 x);
  }
    where
      moved : (sig' : Signature) (rs' : List Rule) → (sig ≡ sig') × (rs ≡ rs') → Shows sig rs ws witness e witness' → Shows sig' rs' ws witness e witness'
      moved sig' rs' (a, c) w = subst (λ z. Shows sig' z ws witness e witness') c (subst (λ z. Shows z rs ws witness e witness') a w)

-- past 1 and 2: what the load tells, then the entry under rules in force
module _ {t table witness : List ℕ} (g : GivenEnter t table witness) (P : Type 0) (n plan : ℕ) (ws : List ℕ) (r : Result (ℕ × ℕ) LoadError) (rows : List ℕ) (gave : (q : GivenLoad t table) → LoadedAs P q.known.sig table r rows) where
  said : (z : Result (ℕ × ℕ) LoadError) → r ≡ z → LoadedAs P g.load.known.sig table z rows
  said z e = subst (λ z. LoadedAs P g.load.known.sig table z rows) e (gave g.load)

  pub no_room : r ≡ Err NoRoom → P
  no_room e = said (Err NoRoom) e

  pub refused_3 : r ≡ Err Unsound → EntersAs g.load.known.sig n plan ws table witness (Refused RefusedUnsound) table witness
  refused_3 e = (λ ss s. refused_early ss n plan ws table witness RefusedUnsound (s ∙ ap (on_sound g.load.known.sig) (said (Err Unsound) e)), omega arith)

  module _ (x : ℕ × ℕ) (e : r ≡ Ok x) where
    pub force : InForce t table x.0 x.1 rows
    force = let (rs, s, d) = said (Ok x) e in record { known = g.load.known; rs = rs; is_sound = s; ready = d }

    pub tried : (Q R : Type 0) → (Q → R) → (z : CodeOption Entry) (after witness' : List ℕ) → ((q : InForce t table x.0 x.1 rows) → TriedAs Q q.known.sig q.rs n plan ws table witness z after witness') → TriesAs R g.load.known.sig n plan ws table witness z after witness'
    unfolding force
    tried Q R f z after witness' did = go z (did force)
      where
        go : (z : CodeOption Entry) → TriedAs Q force.known.sig force.rs n plan ws table witness z after witness' → TriesAs R g.load.known.sig n plan ws table witness z after witness'
        go None h = (f h.0, h.1, h.2)
        go (Some a) h = (λ ss s. as_whole ss n plan ws table witness force.known.sig force.rs (s ∙ ap (on_sound g.load.known.sig) force.is_sound) (entry_answer a) after witness' h.0, h.1)

-- what is told where no room tells P
module _ (P : Type 0) (sig : Signature) (n plan : ℕ) (ws table witness : List ℕ) (r : CodeOption Entry) (after witness' : List ℕ) (h : TriesAs P sig n plan ws table witness r after witness') where
  pub done : (a : Entry) → r ≡ Some a → EntersAs sig n plan ws table witness a after witness'
  done a e = subst (λ z. TriesAs P sig n plan ws table witness z after witness') e h

  pub none : r ≡ None → P × (after ≡ table) × (witness' ≡ witness)
  none e = subst (λ z. TriesAs P sig n plan ws table witness z after witness') e h

-- past 1 and 2
module _ (ss table witness : List ℕ) (long : Bool) (long_so : long ≡ (long_table limits table && long_witness witness)) (t : List ℕ) (k : ℕ) (begin_so : BeginsAs ss long k t) where
  same_start : start limits ss long table ≡ enter_start limits ss table witness
  same_start = ap (λ b. start limits ss b table) long_so

  pub refused_start : (k ≡ 0 → ⊥) → enter_start limits ss table witness ≡ refused k
  refused_start f = sym same_start ∙ begin_so.refuses f table

  module _ (e : k ≡ 0) where
    abbrev pub given : GivenEnter t table witness
    given = record { load = record { known = (begin_so.begins e).0.known; long = table_long table witness long long_so (begin_so.begins e).1 }; witness_long = witness_long table witness long long_so (begin_so.begins e).1 }

    pub starts : enter_start limits ss table witness ≡ on_sound given.load.known.sig (sound limits given.load.known.sig table)
    starts = sym same_start ∙ goes_on (begin_so.begins e).0 long table (begin_so.begins e).1

-- the largest arrays are never too small
pub always : (sig : Signature) (n plan : ℕ) (ws table witness : List ℕ) (r : CodeOption Entry) (after witness' : List ℕ) → TriesAs (TooSmall rows_room row_room) sig n plan ws table witness r after witness' → IsSome r
always sig n plan ws table witness None after witness' h = absurd (h.0 (omega arith) (omega arith))
always sig n plan ws table witness (Some a) after witness' h = refl

-- the call: the entry in the arrays that are tried first, or in those that are tried then
module _ (ss : List ℕ) (n plan : ℕ) (ws table witness : List ℕ) (long : Bool) (long_so : long ≡ (long_table limits table && long_witness witness)) (t : List ℕ) (k : ℕ) (begin_so : BeginsAs ss long k t) where
  pub turned_down : (q : Refusal) → k ≡ number_of q → Enter limits ss n plan ws table witness (entry_answer (Refused q)) table witness
  turned_down q e = refused_early ss n plan ws table witness q (refused_start ss table witness long long_so t k begin_so (λ z. not_0 q (sym e ∙ z)) ∙ ap refused e)

  module _ (e : k ≡ 0) where
    abbrev here : GivenEnter t table witness
    here = given ss table witness long long_so t k begin_so e

    entered : (a : Entry) (after witness' : List ℕ) → EntersAs here.load.known.sig n plan ws table witness a after witness' → Enter limits ss n plan ws table witness (entry_answer a) after witness' × Numbered a
    entered a after witness' h = (h.0 ss (starts ss table witness long long_so t k begin_so e), h.1)

    module _ (P : Type 0) (r : CodeOption Entry) (table₁ witness₁ : List ℕ) (gave : (g : GivenEnter t table witness) → TriesAs P g.load.known.sig n plan ws table witness r table₁ witness₁) where
      pub entered_first : (a : Entry) → r ≡ Some a → Enter limits ss n plan ws table witness (entry_answer a) table₁ witness₁ × Numbered a
      entered_first a x = entered a table₁ witness₁ (done P here.load.known.sig n plan ws table witness r table₁ witness₁ (gave here) a x)

      module _ (x : r ≡ None) where
        kept : P × (table₁ ≡ table) × (witness₁ ≡ witness)
        kept = none P here.load.known.sig n plan ws table witness r table₁ witness₁ (gave here) x

        pub given_again : GivenEnter t table₁ witness₁
        given_again = subst (λ z. GivenEnter t z witness₁) (sym kept.1) (subst (λ z. GivenEnter t table z) (sym kept.2) here)

        pub entered_then : (Q : Type 0) (q : CodeOption Entry) (a : Entry) (after witness' : List ℕ) → ((g : GivenEnter t table₁ witness₁) → TriesAs Q g.load.known.sig n plan ws table₁ witness₁ q after witness') → q ≡ Some a → Enter limits ss n plan ws table witness (entry_answer a) after witness' × Numbered a
        entered_then Q q a after witness' did y =
            entered a after witness' (done Q here.load.known.sig n plan ws table witness q after witness' (subst
            (λ z. (g : GivenEnter t table z) → TriesAs Q g.load.known.sig n plan ws table z q after witness')
            kept.2
            (subst (λ z. (g : GivenEnter t z witness₁) → TriesAs Q g.load.known.sig n plan ws z witness₁ q after witness') kept.1 did)
            here) a y)
