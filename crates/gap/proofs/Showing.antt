-- What the search is given, and what its answer shows.
use mathlib.Core.Path.{◌≡◌, refl, ap, sym, ◌∙◌}
use mathlib.Core.List.{List, ◌++◌}
use mathlib.Core.Option.{some}
use Prim.Native.Nat.{ℕ, ◌*◌, ◌≤◌, ◌<◌}
use native.Mathlib.Omega.{arith}
use lib.ListN.{length, take, drop, get_elem?, length-map}
use Rattle.std.specs.Prelude.{Option as CodeOption, None, Some}
use Rattle.signature.specs.Lawful.{LawfulBooking}
use Rattle.signature.specs.Limits.{booking_limit}
use Rattle.signature.specs.Signature.{Signature}
use Rattle.signature.specs.Value.{Value, code}
use Rattle.signature.proofs.Values.{length_code, some_size}
use Rattle.row.specs.Row.{Row}
use Rattle.cell.specs.Coded.{kinds_of, row_code}
use Rattle.rowset.specs.Limits.{row_limit}
use Rattle.path.specs.Rows.{RuleRow}
use Rattle.path.specs.State.{row_stride}
use Rattle.table.specs.Gap.{Gap, ShowsGap}
use Rattle.table.specs.Limits.{limits}
use Rattle.table.specs.Sound.{SoundTable}
use Rattle.table.proofs.SoundFacts.{sound_table}
use Rattle.indexing.specs.Indexing.{rows_all, GivenRules, TableIndexed}
use Rattle.indexing.proofs.RuleRows.{at_made}
use Rattle.compiling.specs.Compile.{InTable}
use Rattle.compiling.proofs.Treed.{few, indexed}
use Rattle.search.specs.Search.{Placed, GivenTable, Missed, Searched}
use Rattle.gap.specs.Rows.{rows_in}
use Rattle.gap.proofs.RowsTaken.{fails_all, taken_by_none, proper_in}

module _ {t table lists : List ℕ} (g : InTable t table lists) where
  held : SoundTable limits g.force.known.sig table g.force.rs
  held = sound_table g.force.known.sig g.force.known.signed table g.force.rs g.force.is_sound

  module _ (room : ℕ) (x : row_stride * row_limit < room) (n : ℕ) (tab : List ℕ) (gave : (q : GivenRules t table lists room) → TableIndexed q.force.known.sig t table lists q.force.rs n tab) (long : row_stride * row_limit ≤ length tab) where
    made : TableIndexed g.force.known.sig t table lists g.force.rs n tab
    made = indexed g room x n tab gave

    placed : (r : ℕ) (e : Row) → get_elem? (rows_in g.force.known.sig g.force.rs) r ≡ some e → Placed g.force.known.sig lists tab r e
    placed r e q =
        let (d, a, b) = at_made (λ (z : RuleRow). z.row) (rows_all g.force.known.sig g.force.rs) r e q in
        let k = made.rows.placed r d a in
        record { rest = k.rest; code_is = ap (λ s. drop s lists) k.indexed.start_is ∙ k.code_is ∙ ap (λ w. row_code (kinds_of g.force.known.sig) w 0 ++ k.rest) b; within = omega (arith, k.within, k.indexed.start_is) }

    pub given_table : GivenTable t lists tab n
    given_table = record {
      known = g.force.known;
      rs = rows_in g.force.known.sig g.force.rs;
      many = made.rows.many ∙ sym (length-map (rows_all g.force.known.sig g.force.rs) (λ e. e.row));
      few = omega (arith, made.rows.many, few g);
      long = omega (arith, made.rows.many, few g, long);
      proper = proper_in g.force.known g.force.rs held.passed;
      placed = placed;
    }

    pub searched : (res : CodeOption ℕ) (o : List ℕ) → ((q : GivenTable t lists tab n) → Searched q.known.sig q.rs res o) → Searched g.force.known.sig (rows_in g.force.known.sig g.force.rs) res o
    unfolding given_table
    searched res o search_so = search_so given_table

-- a value within the limits of a booking
pub short : {sig : Signature} {rs : List Row} {res : CodeOption ℕ} {o : List ℕ} → Searched sig rs res o → (m : ℕ) → res ≡ Some m → m ≤ booking_limit
short s m e = let (v, h, l, c) = s.one_there m e in omega (arith, l, h.few)

-- it has a word
pub worded : {sig : Signature} {rs : List Row} {res : CodeOption ℕ} {o : List ℕ} → Searched sig rs res o → (m : ℕ) → res ≡ Some m → 1 ≤ m
worded s m e = let (v, h, l, c) = s.one_there m e in omega (arith, l, some_size v)

lawful : {sig : Signature} {rs : List Row} (v : Value) → Missed sig rs v → LawfulBooking sig (code v) v
lawful v h = record { kind_0 = h.kinded; is_code = refl; some_words = omega (arith, length_code v, some_size v); at_most = omega (arith, length_code v, h.few); deep = h.deep }

module _ {t table lists : List ℕ} (g : InTable t table lists) where
  missed : (p : Gap g.force.known.sig g.force.rs) → Missed g.force.known.sig (rows_in g.force.known.sig g.force.rs) p.value
  missed p = record { kinded = p.lawful.kind_0; few = omega (arith, length_code p.value, ap length p.lawful.is_code, p.lawful.at_most); deep = p.lawful.deep; taken_by_none = taken_by_none g.force.known.sig g.force.rs (held g).passed p.booking p.value p.lawful p.failed }

  -- the words are copied into the witness buffer
  pub shows : (res : CodeOption ℕ) (m : ℕ) (o witness ws : List ℕ) → Searched g.force.known.sig (rows_in g.force.known.sig g.force.rs) res o → res ≡ Some m → ws ≡ take m o → ShowsGap g.force.known.sig g.force.rs m witness (ws ++ drop m witness)
  shows res m o witness ws s f w = record {
    none_there = λ e. let (v, h, k, c) = s.one_there m f in absurd (omega (arith, e, k, some_size v));
    one_there = λ l.
        let (v, h, k, c) = s.one_there m f in
        (record { booking = code v; value = v; lawful = lawful v h; failed = fails_all g.force.known.sig g.force.rs (held g).passed (code v) v (lawful v h) h.taken_by_none }, k ∙ sym (length_code v), ap (λ z. z ++ drop m witness) (w ∙ c));
  }

  -- nothing is found, and nothing is written
  pub shows_none : (res : CodeOption ℕ) (o witness : List ℕ) → Searched g.force.known.sig (rows_in g.force.known.sig g.force.rs) res o → res ≡ None → ShowsGap g.force.known.sig g.force.rs 0 witness witness
  shows_none res o witness s e = record { none_there = λ z. (λ p. s.none_there e p.value (missed p), refl); one_there = λ l. absurd (omega (arith, l)) }
