-- The end of a part: its cells are passed one after the other.
use borrow.Author.Tests.{lt-ltb, le-ltb}
use mathlib.Core.Path.{◌≡◌, refl, ap, sym, ◌∙◌}
use mathlib.Core.List.{List, [], ◌∷◌, ◌++◌, append_assoc, append-nil}
use Prim.Native.Nat.{ℕ, suc, ◌+◌, ◌-◌, ◌≤◌, ◌<◌}
use native.Mathlib.Omega.{arith}
use lib.ListN.{length, drop, length-append, length-drop}
use Rattle.signature.specs.Decoded.{decoded_length}
use Rattle.cell.specs.Cell.{Kinds, RowCells, RowsCells, named_cells, free_cell, no_cells, more_cells, words, all_words}
use Rattle.cell.specs.Coded.{cells}
use Rattle.cell.specs.Cursor.{cell_at, opens_of}
use Rattle.cell.specs.declared.cell.Cell.{Cell}
use Rattle.cell.proofs.CellFacts.{Ofs, count}
use Rattle.cell.proofs.CodedFacts.{of_cells}
use Rattle.cell.proofs.Columns.{cell_there}
use Rattle.meeting.specs.Part.{GivenPart}

-- cells behind cells
abbrev and_then : RowsCells → RowsCells → RowsCells
and_then no_cells ss = ss
and_then (more_cells r rs) ss = more_cells r (and_then rs ss)

words_then : (rs ss : RowsCells) → all_words (and_then rs ss) ≡ all_words rs ++ all_words ss
words_then no_cells ss = refl
words_then (more_cells r rs) ss = ap (λ (l : List ℕ). words r ++ l) (words_then rs ss) ∙ sym (append_assoc (words r) (all_words rs) (all_words ss))

count_then : (rs ss : RowsCells) → count (and_then rs ss) ≡ count rs + count ss
count_then no_cells ss = omega arith
count_then (more_cells r rs) ss = omega (arith, count_then rs ss)

module _ (K : Kinds) (t : List ℕ) where
  ofs_then : (rs ss : RowsCells) (js ks : List ℕ) → Ofs K t rs js → Ofs K t ss ks → Ofs K t (and_then rs ss) (js ++ ks)
  ofs_then no_cells ss [] ks o p = p
  ofs_then no_cells ss (j ∷ js) ks o p = absurd o
  ofs_then (more_cells r rs) ss [] ks o p = absurd o
  ofs_then (more_cells r rs) ss (j ∷ js) ks o p = (o.0, ofs_then rs ss js ks o.1 p)

  count_ofs : (rs : RowsCells) (js : List ℕ) → Ofs K t rs js → count rs ≡ length js
  count_ofs no_cells [] o = refl
  count_ofs no_cells (j ∷ js) o = absurd o
  count_ofs (more_cells r rs) [] o = absurd o
  count_ofs (more_cells r rs) (j ∷ js) o = ap suc (count_ofs rs js o.1)

-- each cell has words
long : (r : RowCells) → 1 ≤ length (words r)
long (named_cells c v m rs) = omega arith
long (free_cell c v m) = omega arith

count_words : (rs : RowsCells) → count rs ≤ length (all_words rs)
count_words no_cells = omega arith
count_words (more_cells r rs) = simp length-append (omega (arith, long r, count_words rs))

module _ {t a : List ℕ} {at : ℕ} (g : GivenPart t a at) where
  abbrev cells_of : RowCells
  cells_of = cells g.K g.r g.kind

  -- the cells still to pass, from a word on
  pub record Left (end left : ℕ) (todo : RowsCells) (ks : List ℕ) : Type 0 where
    pub of : Ofs g.K t todo ks
    pub code_is : drop end a ≡ all_words todo ++ g.there.rest
    pub left_is : left ≡ count todo
    pub ends : end + length (all_words todo) ≡ at + length (words cells_of)
    pub within : end ≤ length a

  abbrev pub Now : ℕ → ℕ → Type 0
  Now end left = (todo : RowsCells) × (ks : List ℕ) × Left end left todo ks

  pub start : Now at 1
  start = (
    more_cells cells_of no_cells,
    g.kind ∷ [],
    record {
      of = (of_cells g.K t g.r g.kind g.there.typed, tt);
      code_is = g.there.code_is ∙ ap (λ (l : List ℕ). l ++ g.there.rest) (sym (append-nil (words cells_of)));
      left_is = refl;
      ends = ap (λ (l : List ℕ). at + length l) (append-nil (words cells_of));
      within = g.there.within;
    },
  )

  -- the cell in front: it is there, and it is passed
  pub record Turn (end left : ℕ) : Type 0 where
    pub see : end + 3 ≤ length a
    pub long : (c : Cell) → c ≡ cell_at a end → c.tag < 256 → length t ≡ decoded_length
    pub past : (c : Cell) (w : ℕ) → c ≡ cell_at a end → w ≡ opens_of t c.tag → Now (end + 3) (left - 1 + w)

  turn_at : (end left : ℕ) (todo : RowsCells) (ks : List ℕ) → Left end left todo ks → 0 < left → Turn end left
  turn_at end left no_cells ks l h = absurd (omega (arith, l.left_is))
  turn_at end left (more_cells r rs) [] l h = absurd l.of
  turn_at end left (more_cells (named_cells c v m qs) rs) (k ∷ ks) l h =
      let H = l.of.0.0 in
      let C = cell_there a end c v m ((all_words qs ++ all_words rs) ++ g.there.rest) (omega (arith, H.tag)) l.code_is in
      record {
        see = C.room;
        long = λ d e z. H.known;
        past = λ d w e f. (
          and_then qs rs,
          g.K.args c ++ ks,
          record {
            of = ofs_then g.K t qs rs (g.K.args c) ks l.of.0.1 l.of.1;
            code_is = C.after ∙ ap (λ (z : List ℕ). z ++ g.there.rest) (sym (words_then qs rs));
            left_is =
                let n : w ≡ count qs = f ∙ ap (λ (z : Cell). opens_of t z.tag) (e ∙ C.cell) ∙ (rw (lt-ltb c 256 H.tag) H.arity) ∙ sym (count_ofs g.K t qs (g.K.args c) l.of.0.1) in
                omega (arith, l.left_is, n, count_then qs rs);
            ends = let n = l.ends in rw (words_then qs rs) (omega (arith, n));
            within = C.room;
          },
        );
      }
  turn_at end left (more_cells (free_cell c v m) rs) (k ∷ ks) l h =
      let F = l.of.0 in
      let C = cell_there a end c v m (all_words rs ++ g.there.rest) (omega (arith, F.tag, F.kind)) l.code_is in
      let no : (d : Cell) → d ≡ cell_at a end → d.tag ≡ c = λ d e. ap (λ (z : Cell). z.tag) (e ∙ C.cell) in
      record {
        see = C.room;
        long = λ d e z. absurd (omega (arith, no d e, F.tag));
        past = λ d w e f. (
          rs,
          ks,
          record {
            of = l.of.1;
            code_is = C.after;
            left_is = let n : w ≡ 0 = f ∙ ap (opens_of t) (no d e) ∙ (rw (le-ltb c 256 (omega (arith, F.tag)))) in omega (arith, l.left_is, n);
            ends = let n = l.ends in omega (arith, n);
            within = C.room;
          },
        );
      }

  module _ (end left : ℕ) (n : Now end left) where
    pub turn : 0 < left → Turn end left
    turn h = turn_at end left n.0 n.1 n.2 h

    -- there are no more cells to pass than words
    pub few_left : end + left ≤ length a
    few_left = omega (arith, n.2.left_is, count_words n.0, simp length-append at (ap length n.2.code_is), length-drop end a, n.2.within)

    pub finished : left ≤ 0 → end ≡ at + length (words cells_of)
    finished h = go n.0 n.2.left_is n.2.ends
      where
        go : (todo : RowsCells) → left ≡ count todo → end + length (all_words todo) ≡ at + length (words cells_of) → end ≡ at + length (words cells_of)
        go no_cells e f = omega (arith, f)
        go (more_cells r rs) e f = absurd (omega (arith, e, h))
