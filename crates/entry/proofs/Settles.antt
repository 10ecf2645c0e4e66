-- 12, and the rule stored.
use mathlib.Core.Path.{◌≡◌, refl, sym, ap, ap₂, ◌∙◌, subst}
use mathlib.Core.List.{List, [], ◌∷◌, ◌++◌, append_assoc}
use mathlib.Core.Bool.{cond}
use Prim.Native.Nat.{ℕ, suc, ◌+◌, ◌-◌, ◌<◌, ◌≤◌}
use native.Mathlib.Omega.{arith}
use lib.Dec.{eqb}
use lib.ListN.{length, take, drop, length-append}
use lib.Seq.{drop_at, take_at}
use Rattle.pattern.proofs.PatternBack.{pattern_words}
use Rattle.row.specs.Admitted.{Passed as PassedWords}
use Rattle.row.specs.Row.{rows_plus}
use Rattle.row.proofs.PassedFacts.{passed_of, short_of}
use Rattle.cell.specs.Coded.{kinds_of}
use Rattle.cell.specs.RowList.{list_code}
use Rattle.cell.proofs.Walk.{from_is}
use Rattle.table.specs.Limits.{limits}
use Rattle.table.specs.Refusals.{entry_refusal}
use Rattle.table.specs.Rule.{add_rule, default_of, stored}
use Rattle.table.proofs.SoundFacts.{sound_valid}
use Rattle.table.proofs.TableFacts.{Valid}
use Rattle.store.specs.Change.{GivenPut}
use Rattle.store.proofs.LaidFacts.{sound_holds}
use Rattle.loading.specs.Add.{GivenPlace, ListPlaced}
use Rattle.loading.specs.Lists.{rows_by, list_for, lists_for}
use Rattle.loading.specs.Load.{patterns}
use Rattle.sharing.specs.Sharer.{GivenSharer, SharerOf}
use Rattle.sharing.specs.declared.first.Sharer.{Sharer}
use Rattle.std.specs.Prelude.{Option as CodeOption, None, Some}
use Rattle.entry.specs.Entry.{entry_answer}
use Rattle.entry.specs.Settle.{GivenSettle, EntryOf}
use Rattle.entry.specs.declared.sound.Entry.TheVariants.{Entered, Shares}

module _ {t table : List ℕ} {n : ℕ} {ws : List ℕ} {at used : ℕ} {rows : List ℕ} {m l : ℕ} (g : GivenSettle t table n ws at used rows m l) where
  valid : Valid g.force.known.sig g.force.rs
  valid = (sound_valid g.force.known.sig g.force.known.signed table g.force.rs g.force.is_sound).0

  pub next_le : used + 1 ≤ length rows
  next_le = omega (arith, g.room)

  abbrev passed : PassedWords g.force.known.sig ws
  passed = passed_of g.force.known.sig ws g.cleared.passed

  pub place_given : GivenPlace t ws used (length rows) m
  place_given = record { known = g.force.known; p = passed.pat; words = pattern_words g.force.known.sig ws passed.pat passed.read; light = passed.light; ranges = passed.ranges; room = g.room; work_room = g.work_room }

  pub put_given : GivenPut table at n ws
  put_given = record { rs = g.force.rs; holds = sound_holds g.force.known.sig table g.force.rs g.force.is_sound; free = g.cleared.free; few = g.cleared.few; short = valid.short; short_new = short_of g.force.known.sig ws g.cleared.passed }

  module _ (r : ℕ) (o : List ℕ) (put : (q : GivenPlace t ws used (length rows) m) → ListPlaced q.known.sig q.p used r rows o) where
    placed : ListPlaced g.force.known.sig passed.pat used r rows o
    unfolding place_given
    placed = put place_given

    L : List ℕ
    L = list_for g.force.known.sig ws

    L_is : list_code (kinds_of g.force.known.sig) 0 (rows_plus g.force.known.sig 0 passed.pat) ≡ L
    unfolding L
    L_is = ap (λ z. list_code (kinds_of g.force.known.sig) 0 (rows_by g.force.known.sig z)) (sym passed.read)

    front : List ℕ
    front = lists_for g.force.known.sig (patterns g.force.rs)

    front_is : take used rows ≡ front
    unfolding front
    front_is = ap (take used) g.force.ready.code_is ∙ take_at (lists_for g.force.known.sig (patterns g.force.rs)) g.force.ready.rest used (sym g.force.ready.used_is)

    used_is : used ≡ length front
    unfolding front
    used_is = g.force.ready.used_is

    code_so : o ≡ front ++ (length L ∷ (L ++ placed.rest))
    code_so = placed.code_is ∙ ap₂ (λ x y. x ++ (length y ∷ (y ++ placed.rest))) front_is L_is

    size : length o ≡ used + suc (length L + length placed.rest)
    size = ap length code_so ∙ length-append front (length L ∷ (L ++ placed.rest)) ∙ ap₂ (λ x y. x + suc y) (sym used_is) (length-append L placed.rest)

    pub sharer_given : GivenSharer t table o (used + 1) l
    unfolding L front
    sharer_given = record {
      used = used;
      total = g.total;
      force = record {
        known = g.force.known;
        rs = g.force.rs;
        is_sound = g.force.is_sound;
        ready = record { rest = length L ∷ (L ++ placed.rest); code_is = code_so; used_is = used_is; total_is = g.force.ready.total_is; small = g.force.ready.small };
      };
      ws = ws;
      p = passed.pat;
      read = passed.read;
      light = g.cleared.light;
      rest' = placed.rest;
      within = omega (arith, size);
      last =
          from_is o (used + 1)
          ∙ ap (drop (used + 1)) (code_so ∙ sym (append_assoc front (length L ∷ []) (L ++ placed.rest)))
          ∙ drop_at (front ++ (length L ∷ [])) (L ++ placed.rest) (used + 1) (length-append front (length L ∷ []) ∙ omega (arith, used_is));
      room = g.witness_long;
    }

    module _ (plan : ℕ) (witness : List ℕ) (s : CodeOption Sharer) (witness' : List ℕ) (gave : (q : GivenSharer t table o (used + 1) l) → SharerOf q.force.known.sig q.force.rs q.ws witness s witness') where
      said : SharerOf g.force.known.sig g.force.rs ws witness s witness'
      unfolding sharer_given
      said = gave sharer_given

      pub shared : (r : Sharer) → s ≡ Some r → EntryOf g.force.known.sig g.force.rs n plan ws table witness (entry_answer (Shares r.rule r.length)) table witness'
      shared r is =
          let (e, w) = subst (λ z. SharerOf g.force.known.sig g.force.rs ws witness z witness') is said in
          let z : entry_refusal limits g.force.known.sig n ws g.force.rs ≡ 12 = g.cleared.refusal_is ∙ ap (λ b. cond b 12 0) e in
          record {
            number_is = sym z;
            table_is = sym (ap (λ q. cond (eqb q 0) (stored limits (default_of table) (add_rule (record { number = n; plan = plan; pattern = ws }) g.force.rs) table) table) z);
            not_12 = λ f. absurd (f refl);
            on_12 = λ x. w;
          }

      pub entered : s ≡ None → (after : List ℕ) → ((q : GivenPut table at n ws) → after ≡ stored limits (default_of table) (add_rule (record { number = n; plan = plan; pattern = ws }) q.rs) table) → EntryOf g.force.known.sig g.force.rs n plan ws table witness (entry_answer Entered) after witness'
      unfolding put_given
      entered is after did =
          let (e, w) = subst (λ z. SharerOf g.force.known.sig g.force.rs ws witness z witness') is said in
          let z : entry_refusal limits g.force.known.sig n ws g.force.rs ≡ 0 = g.cleared.refusal_is ∙ ap (λ b. cond b 12 0) e in
          record {
            number_is = sym z;
            table_is = did put_given ∙ sym (ap (λ q. cond (eqb q 0) (stored limits (default_of table) (add_rule (record { number = n; plan = plan; pattern = ws }) g.force.rs) table) table) z);
            not_12 = λ f. (refl, refl, w);
            on_12 = λ x. absurd (omega (arith, x));
          }
