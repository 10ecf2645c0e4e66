-- What is seen at a node, from the row of its branch.
use mathlib.Core.Path.{◌≡◌, refl, ap, ap₂, ◌∙◌, sym}
use mathlib.Core.List.{List}
use mathlib.Core.Bool.{Bool, true, false, ◌&&◌}
use mathlib.Core.Option.{Option, none, some}
use Prim.Native.Nat.{ℕ, ◌<◌}
use native.Mathlib.Omega.{arith}
use lib.ListN.{length, take}
use Rattle.std.specs.Prelude.{Option as CodeOption, None, Some}
use Rattle.signature.specs.Lawful.{OfKind}
use Rattle.signature.specs.Limits.{booking_limit}
use Rattle.signature.specs.Lists.{is_some}
use Rattle.signature.specs.Signature.{Signature}
use Rattle.signature.specs.Value.{Value, code, size}
use Rattle.signature.proofs.Booleans.{and_left}
use Rattle.signature.proofs.Tests.{true≢false}
use Rattle.row.specs.Row.{Row, combine}
use Rattle.row.specs.RowFits.{row_fits}
use Rattle.row.proofs.Kept.{kept_fits}
use Rattle.row.proofs.RowMeet.{combine_fits}
use Rattle.cell.specs.RowList.{from}
use Rattle.rowset.specs.Member.{member, set_words}
use Rattle.path.specs.State.{start_of}
use Rattle.values.specs.Shortest.{GivenRow, Taken}
use Rattle.search.specs.Search.{Missed}
use Rattle.search.specs.Branch.{row_at, on_path, Cube, CubeOf}
use Rattle.search.specs.Cells.{GivenBeside, AgreeBeside}
use Rattle.search.specs.Choice.{GivenMeeting, Meeting, GivenTaker, Taker}
use Rattle.search.specs.Look.{GivenNode, TakenBy, SeenOf}
use Rattle.search.specs.declared.look.Seen.TheVariants.{Nothing, Free, Taken as TakenSeen}
use Rattle.search.proofs.ChoiceFacts.{row_proper, row_placed, row_words}
use Rattle.search.proofs.RowFacts.{none_taken}

module _ {t a rows : List ℕ} {n : ℕ} {s path : List ℕ} {depth ql ol vl : ℕ} (g : GivenNode t a rows n s path depth ql ol vl) where
  abbrev sig : Signature
  sig = g.branch.table.known.sig

  abbrev rs : List Row
  rs = g.branch.table.rs

  seen_nothing : (live v : List ℕ) → ((u : Value) → Missed sig rs u → on_path sig rs path depth u ≡ true → ⊥) → SeenOf sig rs n s path depth Nothing live v
  seen_nothing live v f = record { nothing = λ e. f; free_value = λ m e. absurd (no_free m e); taken = λ r o e. absurd (no_taken r o e) }
    where
      no_free : (m : ℕ) → Nothing ≡ Free m → ⊥
      no_free m e = let z : ◌≡◌ {A = ℕ} 0 1 = cc in omega (arith, z)

      no_taken : (r o : ℕ) → Nothing ≡ TakenSeen r o → ⊥
      no_taken r o e = let z : ◌≡◌ {A = ℕ} 0 1 = cc in omega (arith, z)

  -- the branch has no value that is as short as a booking
  pub none_seen : (q live v : List ℕ) (res : CodeOption ℕ) → res ≡ None → CubeOf sig rs path depth res q → SeenOf sig rs n s path depth Nothing live v
  none_seen q live v res e C = seen_nothing live v (λ u h p. C.none_short e u h.kinded h.few p)

  module _ (q : List ℕ) (w : ℕ) (C : Cube sig rs path depth q w) where
    on_cube : (v : Value) → OfKind sig 0 v → on_path sig rs path depth v ≡ true → row_fits C.row v ≡ true
    on_cube v k p = C.just v k ∙ p

    abbrev pub to_shortest : (v : List ℕ) → vl ≡ length v → GivenRow t q v
    to_shortest v e = record { known = g.branch.table.known; kind = 0; r = C.row; rest = C.rest; good = C.good; code_is = C.code_is; room = rw (← e) g.room }

    pub long_seen : (live v : List ℕ) → ((u : Value) → OfKind sig 0 u → row_fits C.row u ≡ true → booking_limit < size u) → SeenOf sig rs n s path depth Nothing live v
    long_seen live v f = seen_nothing live v (λ u h p. absurd (omega (arith, f u h.kinded (on_cube u h.kinded p), h.few)))

    abbrev pub to_meeting : GivenMeeting t a rows n q
    to_meeting = record { table = g.branch.table; row = C.row; rest = C.rest; good = C.good; code_is = C.code_is }

    module _ (live : List ℕ) (M : Meeting to_meeting s n live) where
      -- a row that takes a value of the branch meets it
      met : (r : ℕ) (v : Value) → r < n → OfKind sig 0 v → on_path sig rs path depth v ≡ true → row_fits (row_at rs r) v ≡ true → member live r ≡ true
      met r v l k p f = M r l ∙ ap₂ ◌&&◌ (g.complete r v l k p f) (go (combine C.row (row_at rs r)) refl)
        where
          go : (m : Option Row) → combine C.row (row_at rs r) ≡ m → is_some (combine C.row (row_at rs r)) ≡ true
          go none e = true≢false (sym (ap₂ ◌&&◌ (on_cube v k p) f) ∙ sym (combine_fits C.row (row_at rs r) v) ∙ ap (λ (x : Option Row). kept_fits x v) e)
          go (some x) e = rw e refl

      module _ (m : ℕ) (b v' : List ℕ) (x : Value) (T : Taken sig 0 C.row x) (em : m ≡ size x) (eb : take m v' ≡ code x) (eq : b ≡ take m v') where
        abbrev pub to_taker : GivenTaker t a rows n b
        to_taker = record { table = g.branch.table; value = x; kinded = T.kinded; words = eq ∙ eb }

        module _ (res : CodeOption ℕ) (K : Taker to_taker live res) where
          not_taken : res ≡ None → (p : ℕ) → p < n → row_fits (row_at rs p) x ≡ false
          not_taken e p l = go (row_fits (row_at rs p) x) refl
            where
              go : (z : Bool) → row_fits (row_at rs p) x ≡ z → row_fits (row_at rs p) x ≡ false
              go true h = K.none_takes e p l (met p x l T.kinded (sym (C.just x T.kinded) ∙ T.fits) h)
              go false h = h

          pub free_seen : res ≡ None → SeenOf sig rs n s path depth (Free m) live v'
          free_seen e = record {
            nothing = λ z. absurd (no_nothing z);
            free_value = λ k z. record {
              value = x;
              missed = record { kinded = T.kinded; few = T.few; deep = omega (arith, T.deep, C.low); taken_by_none = none_taken rs x (λ p l. not_taken e p (omega (arith, l, g.branch.table.many))) };
              size_is = sym (same_free k z) ∙ em;
              words_are = rw (← same_free k z) eb;
            };
            taken = λ p o z. absurd (no_taken p o z);
          }
            where
              no_nothing : Free m ≡ Nothing → ⊥
              no_nothing e = let z : ◌≡◌ {A = ℕ} 0 1 = cc in omega (arith, z)

              no_taken : (p o : ℕ) → Free m ≡ TakenSeen p o → ⊥
              no_taken p o e = let z : ◌≡◌ {A = ℕ} 0 1 = cc in omega (arith, z)

              same_free : (k : ℕ) → Free m ≡ Free k → m ≡ k
              same_free k e = cc

          module _ (r : ℕ) (er : res ≡ Some r) (start : ℕ) (es : start ≡ start_of rows r) where
            abbrev below : r < n
            below = K.there r er

            abbrev pub to_beside : GivenBeside t (from a start) q
            to_beside = record {
              known = g.branch.table.known;
              r = row_at rs r;
              s = C.row;
              rest_r = (row_placed g.branch.table r below).rest;
              rest_s = C.rest;
              proper = row_proper g.branch.table r below;
              good = C.good;
              code_r = row_words g.branch.table r below start es;
              code_s = C.code_is;
            }

            taken_by : (opened : ℕ) → length live ≡ set_words → AgreeBeside to_beside opened → TakenBy sig rs n s path depth r opened live
            taken_by opened sized A = record {
              there = below;
              sized = sized;
              alive = K.one r er;
              complete = λ p v k o h f. met p v k o h f;
              within = λ p k e. and_left (member s p) (is_some (combine C.row (row_at rs p))) (sym (M p k) ∙ e);
              agree = (A.0, λ v k p. A.1 v k (on_cube v k p));
            }

            pub taken_seen : (opened : ℕ) → length live ≡ set_words → AgreeBeside to_beside opened → SeenOf sig rs n s path depth (TakenSeen r opened) live v'
            taken_seen opened sized A = record {
              nothing = λ z. absurd (no_nothing z);
              free_value = λ k z. absurd (no_free k z);
              taken = λ p o z. rw (← same_row p o z, ← same_opened p o z) (taken_by opened sized A);
            }
              where
                no_nothing : TakenSeen r opened ≡ Nothing → ⊥
                no_nothing e = let z : ◌≡◌ {A = ℕ} 0 1 = cc in omega (arith, z)

                no_free : (k : ℕ) → TakenSeen r opened ≡ Free k → ⊥
                no_free k e = let z : ◌≡◌ {A = ℕ} 0 1 = cc in omega (arith, z)

                same_row : (p o : ℕ) → TakenSeen r opened ≡ TakenSeen p o → r ≡ p
                same_row p o e = cc

                same_opened : (p o : ℕ) → TakenSeen r opened ≡ TakenSeen p o → opened ≡ o
                same_opened p o e = cc
