-- 4 to 11, then 12.
use mathlib.Core.Path.{◌≡◌, refl, sym, ap, subst, ◌∙◌}
use mathlib.Core.List.{List}
use mathlib.Core.Bool.{cond}
use Prim.Native.Nat.{ℕ, ◌+◌, ◌*◌, ◌≤◌}
use native.Mathlib.Omega.{arith}
use lib.Dec.{eqb}
use lib.ListN.{length}
use Rattle.signature.proofs.Tests.{eqb_no}
use Rattle.rowset.specs.Limits.{row_limit}
use Rattle.rowset.specs.Member.{set_words}
use Rattle.table.specs.Calls.{Entered as Answer}
use Rattle.table.specs.Limits.{limits, witness_length}
use Rattle.table.specs.Rule.{default_of, stored, add_rule}
use Rattle.table.proofs.SoundFacts.{sound_valid}
use Rattle.builder.specs.Build.{words_room}
use Rattle.store.proofs.LaidFacts.{sound_holds}
use Rattle.loading.specs.Add.{lists_room}
use Rattle.loading.specs.Load.{InForce}
use Rattle.entry.specs.Check.{GivenCheck, CheckedAs}
use Rattle.entry.specs.Entry.{entry_answer, Numbered}
use Rattle.entry.specs.Settle.{GivenSettle, EntryOf}
use Rattle.std.specs.Prelude.{Result, Ok, Err}
use Rattle.signature.specs.Refusal.{number_of}
use Rattle.signature.specs.declared.refusals.Refusal.{Refusal}
use Rattle.signature.proofs.Numbers.{positive}
use Rattle.entry.specs.declared.sound.Entry.TheVariants.{Refused}

not_0 : (q : ℕ) (x y : List ℕ) → 1 ≤ q → cond (eqb q 0) x y ≡ y
not_0 q x y h = ap (λ b. cond b x y) (eqb_no q 0 (λ e. omega (arith, e, h)))

module _ {t table : List ℕ} {used total : ℕ} {rows : List ℕ} (g : InForce t table used total rows) where
  pub used_small : used ≤ lists_room limits.weight limits.rules
  used_small = omega (arith, g.ready.small, g.ready.total_is, (sound_valid g.known.sig g.known.signed table g.rs g.is_sound).0.light, (sound_holds g.known.sig table g.rs g.is_sound).few)

  abbrev pub check_given : {ws : List ℕ} {m : ℕ} → (used + 1 + words_room (length ws) ≤ length rows) × (words_room (length ws) ≤ m) → GivenCheck t table ws used total rows m
  check_given h = record { force = g; room = h.0; work_room = h.1 }

module _ {t table ws : List ℕ} {used total : ℕ} {rows : List ℕ} {m : ℕ} (g : GivenCheck t table ws used total rows m) (n plan : ℕ) (witness : List ℕ) (r : Result ℕ ℕ) (rows' : List ℕ) (gave : (q : GivenCheck t table ws used total rows m) → CheckedAs q.force.known.sig q.force.rs n ws used total r rows') where
  pub turned_down : (q : Refusal) → r ≡ Err (number_of q) → EntryOf g.force.known.sig g.force.rs n plan ws table witness (entry_answer (Refused q)) table witness
  turned_down q e =
      let (a, b, c) = subst (λ z. CheckedAs g.force.known.sig g.force.rs n ws used total z rows') e (gave g) in
      record {
        number_is = sym c;
        table_is = sym (ap (λ z. cond (eqb z 0) (stored limits (default_of table) (add_rule (record { number = n; plan = plan; pattern = ws }) g.force.rs) table) table) c ∙ not_0 (number_of q) (stored limits (default_of table) (add_rule (record { number = n; plan = plan; pattern = ws }) g.force.rs) table) table a);
        not_12 = λ f. (refl, refl, refl);
        on_12 = λ x. absurd (b x);
      }

  pub settle_given : (at : ℕ) → r ≡ Ok at → (m' : ℕ) → m' ≡ m → length rows' ≡ length rows → (l : ℕ) → witness_length ≤ l → set_words * row_limit ≤ m → GivenSettle t table n ws at used rows' m' l
  settle_given at e m' m_is rows_is l w v =
      let z = subst (λ z. CheckedAs g.force.known.sig g.force.rs n ws used total z rows') e (gave g) in
      record {
        total = total;
        force = record { known = g.force.known; rs = g.force.rs; is_sound = g.force.is_sound; ready = z.1 };
        cleared = z.0;
        room = omega (arith, rows_is, g.room);
        work_room = omega (arith, m_is, g.work_room);
        matrix_room = omega (arith, m_is, v);
        witness_long = w;
      }

  pub settled : (at : ℕ) (e : r ≡ Ok at) (m' : ℕ) (m_is : m' ≡ m) (rows_is : length rows' ≡ length rows) (w : witness_length ≤ length witness) (v : set_words * row_limit ≤ m) (a : Answer) (after witness' : List ℕ)
      → ((q : GivenSettle t table n ws at used rows' m' (length witness)) → EntryOf q.force.known.sig q.force.rs n plan ws table witness a after witness')
      → EntryOf g.force.known.sig g.force.rs n plan ws table witness a after witness'
  unfolding settle_given
  settled at e m' m_is rows_is w v a after witness' did = did (settle_given at e m' m_is rows_is (length witness) w v)
