-- The tree of a sound table's rules.
use mathlib.Core.Path.{◌≡◌, refl, sym, ap, ap₂, subst, ◌∙◌}
use mathlib.Core.List.{List, [], ◌∷◌, ◌++◌, map}
use mathlib.Core.Bool.{Bool, true, false, not, cond, ◌&&◌, ◌||◌}
use Prim.Native.Nat.{ℕ, ◌*◌, ◌≤◌, ◌<◌}
use native.Mathlib.Omega.{arith}
use lib.Dec.{leb, ltb}
use lib.ListN.{length, drop}
use Rattle.signature.proofs.Tests.{le_of, lt_of_not, leb_yes, leb_no, ltb_yes, ltb_no}
use Rattle.tree.specs.Limits.{tree_limit}
use Rattle.rowset.specs.Limits.{row_limit}
use Rattle.tree.specs.Tree.{Line, Tree, compile}
use Rattle.tree.specs.Words.{words, layout}
use Rattle.tree.proofs.RunFacts.{length_layout}
use Rattle.table.specs.Calls.{TreeIn, too_large}
use Rattle.table.specs.Limits.{limits, visit_bound}
use Rattle.table.specs.Matrix.{tree, tree_words}
use Rattle.table.specs.Rule.{total_weight, default_of}
use Rattle.store.specs.Laid.{Holds}
use Rattle.path.specs.State.{row_stride, default_in}
use Rattle.writer.specs.Write.{GivenRows, TreeWritten, most_words, answer, space_after}
use Rattle.path.specs.Rows.{line_of}
use Rattle.std.specs.Prelude.{Option as CodeOption, None, Some}
use Rattle.loading.proofs.Tested.{tests}
use Rattle.loading.proofs.Loads.{sound_holds}
use Rattle.loading.proofs.Tested.{tests_light}
use Rattle.indexing.specs.Indexing.{rows_all, GivenRules, TableIndexed}
use Rattle.compiling.specs.Compile.{InTable, small_tree}
use Rattle.compiling.proofs.RowsOf.{lines_are, few_rows, rows_are_fit}

-- the answer of the writer as the call's

abbrev pub number_by : CodeOption ℕ → ℕ
number_by (Some n) = 0
number_by None = 14

abbrev pub length_by : CodeOption ℕ → ℕ
length_by (Some n) = n
length_by None = 0

no_done : {n : ℕ} → Some n ≡ None → ⊥
no_done e = absurd (omega (arith, ap number_by e))

-- 14: "The tree exceeds the lent slice or 32,768 words."
abbrev fits : Tree → List ℕ → Bool
fits T space = leb (words T) (length space) && leb (words T) tree_limit

ltb_not : (m n : ℕ) → ltb m n ≡ not (leb n m)
ltb_not m n = go (leb n m) refl
  where
    go : (b : Bool) → leb n m ≡ b → ltb m n ≡ not b
    go true e = ltb_no m n (le_of n m e)
    go false e = ltb_yes m n (lt_of_not n m e)

fits_or : (T : Tree) (space : List ℕ) → too_large (layout T 0) space ≡ not (fits T space)
fits_or T space =
    ap₂ (λ (x y : Bool). x || y) (ltb_not (length space) (length (layout T 0)) ∙ ap (λ (n : ℕ). not (leb n (length space))) (length_layout T 0)) (ltb_not tree_limit (length (layout T 0)) ∙ ap (λ (n : ℕ). not (leb n tree_limit)) (length_layout T 0))
    ∙ go (leb (words T) (length space)) (leb (words T) tree_limit)
  where
    go : (a b : Bool) → (not a || not b) ≡ not (a && b)
    go true b = refl
    go false b = refl

told : (T : Tree) (space : List ℕ) (m : ℕ) → leb (words T) m ≡ fits T space → TreeIn (layout T 0) space (number_by (answer T m)) (length_by (answer T m)) (space_after T m space)
told T space m i = record {
  number_is = number_so (leb (words T) m) ∙ ap (λ (b : Bool). cond {A = ℕ} b 14 0) (ap not i ∙ sym (fits_or T space));
  length_is = length_so (leb (words T) m) ∙ ap (λ (b : Bool). cond b 0 (length (layout T 0))) (ap not i ∙ sym (fits_or T space));
  space_is = space_so (leb (words T) m) ∙ ap (λ (b : Bool). cond b space (layout T 0 ++ drop (length (layout T 0)) space)) (ap not i ∙ sym (fits_or T space));
}
  where
    number_so : (b : Bool) → number_by (cond b (Some (words T)) None) ≡ cond (not b) 14 0
    number_so true = refl
    number_so false = refl

    length_so : (b : Bool) → length_by (cond b (Some (words T)) None) ≡ cond (not b) 0 (length (layout T 0))
    length_so true = sym (length_layout T 0)
    length_so false = refl

    space_so : (b : Bool) → cond b (layout T 0 ++ drop (words T) space) space ≡ cond (not b) space (layout T 0 ++ drop (length (layout T 0)) space)
    space_so true = ap (λ (n : ℕ). layout T 0 ++ drop n space) (sym (length_layout T 0))
    space_so false = refl

-- by the words of the tree, whatever is known of the writer's answer
treed : (T : Tree) (ts space : List ℕ) (m : ℕ) (w : CodeOption ℕ) (space' : List ℕ) → leb (words T) m ≡ fits T space → layout T 0 ≡ ts → w ≡ answer T m → space' ≡ space_after T m space → TreeIn ts space (number_by w) (length_by w) space'
treed T ts space m w space' i e f h = rw (f, h, ← e) (told T space m i)

-- a working space for every tree, or one in which the tree is written, says what 14 says
all_fit : (T : Tree) (space : List ℕ) → leb (words T) (most_words (length space) tree_limit) ≡ fits T space
all_fit T space = go (leb (words T) (length space)) refl (leb (words T) tree_limit) refl
  where
    go : (a : Bool) → leb (words T) (length space) ≡ a → (b : Bool) → leb (words T) tree_limit ≡ b → leb (words T) (most_words (length space) tree_limit) ≡ (a && b)
    go true x true y = leb_yes (words T) (most_words (length space) tree_limit) (omega (arith, le_of (words T) (length space) x, le_of (words T) tree_limit y))
    go true x false y = leb_no (words T) (most_words (length space) tree_limit) (omega (arith, lt_of_not (words T) tree_limit y))
    go false x b y = leb_no (words T) (most_words (length space) tree_limit) (omega (arith, lt_of_not (words T) (length space) x))

done_words : (T : Tree) (m n : ℕ) → Some n ≡ answer T m → leb (words T) m ≡ true
done_words T m n e = go (leb (words T) m) e
  where
    go : (b : Bool) → Some n ≡ cond b (Some (words T)) None → b ≡ true
    go true x = refl
    go false x = absurd (no_done x)

some_fit : (T : Tree) (space : List ℕ) (room : ℕ) → leb (words T) (most_words (length space) room) ≡ true → leb (words T) (most_words (length space) room) ≡ fits T space
some_fit T space room e =
    let l : words T ≤ most_words (length space) room = le_of (words T) (most_words (length space) room) e in
    e ∙ sym (rw (leb_yes (words T) (length space) (omega arith), leb_yes (words T) tree_limit (omega arith)))

large_space : (T : Tree) (m : ℕ) (space : List ℕ) → None ≡ answer T m → space_after T m space ≡ space
large_space T m space e = go (leb (words T) m) e
  where
    go : (b : Bool) → None ≡ cond b (Some (words T)) None → cond b (layout T 0 ++ drop (words T) space) space ≡ space
    go true x = absurd (no_done (sym x))
    go false x = refl

-- the rows of the rules

module _ {t table lists : List ℕ} (g : InTable t table lists) where
  holds : Holds limits table g.force.rs
  holds = (sound_holds g.force.known.sig table g.force.rs g.force.is_sound).0

  good : tests g.force.known.sig g.force.rs ≡ true
  good = (sound_holds g.force.known.sig table g.force.rs g.force.is_sound).1

  light : total_weight g.force.known.sig g.force.rs ≤ limits.weight
  light = tests_light g.force.known.sig g.force.rs good

  pub few : length (rows_all g.force.known.sig g.force.rs) ≤ row_limit
  few = omega (arith, few_rows g.force.known.sig g.force.rs, light)

  pub given_rules : (room : ℕ) → row_stride * row_limit < room → GivenRules t table lists room
  given_rules room x = record {
    used = g.used;
    total = g.total;
    force = g.force;
    near = omega (arith, g.force.ready.used_is, g.force.ready.total_is, g.force.ready.small, light, holds.few);
    fit = rows_are_fit g.force.known g.force.rs good;
    few = few;
    room_is = x;
  }

  module _ (room : ℕ) (x : row_stride * row_limit < room) (n : ℕ) (tab : List ℕ) (gave : (q : GivenRules t table lists room) → TableIndexed q.force.known.sig t table lists q.force.rs n tab) where
    pub indexed : TableIndexed g.force.known.sig t table lists g.force.rs n tab
    unfolding given_rules
    indexed = gave (given_rules room x)

    pub many : n ≤ row_limit
    many = omega (arith, indexed.rows.many, few)

    pub given_rows : GivenRows t lists tab n
    given_rows = record {
      known = g.force.known;
      rows = rows_all g.force.known.sig g.force.rs;
      count = indexed.rows.many;
      few = many;
      fit = rows_are_fit g.force.known g.force.rs good;
      placed = indexed.rows.placed;
    }

    tree_is : layout (compile (default_in tab) visit_bound g.force.known.sig (0 ∷ []) (map line_of (rows_all g.force.known.sig g.force.rs)) 0) 0 ≡ tree_words (default_of table) g.force.known.sig g.force.rs
    unfolding tree_words tree
    tree_is = ap₂ (λ (d : ℕ) (ls : List Line). layout (compile d visit_bound g.force.known.sig (0 ∷ []) ls 0) 0) indexed.default_is (lines_are g.force.known.sig g.force.rs)

    abbrev T : Tree
    T = compile (default_in tab) visit_bound g.force.known.sig (0 ∷ []) (map line_of (rows_all g.force.known.sig g.force.rs)) 0

    -- with the smaller working space
    module _ (w : CodeOption ℕ) (space space' : List ℕ) (h : TreeWritten t lists tab n small_tree space w space') where
      pub written_small : (len : ℕ) → w ≡ Some len → TreeIn (tree_words (default_of table) g.force.known.sig g.force.rs) space 0 len space'
      unfolding given_rows
      written_small len e =
          let z = h given_rows visit_bound (omega arith) in
          let f : Some len ≡ answer T (most_words (length space) small_tree) = sym e ∙ z.0 in
          treed T (tree_words (default_of table) g.force.known.sig g.force.rs) space (most_words (length space) small_tree) (Some len) space' (some_fit T space small_tree (done_words T (most_words (length space) small_tree) len f)) tree_is f z.1

      pub unwritten : w ≡ None → space' ≡ space
      unfolding given_rows
      unwritten e =
          let z = h given_rows visit_bound (omega arith) in
          z.1 ∙ large_space T (most_words (length space) small_tree) space (sym e ∙ z.0)

    pub written_large : (w : CodeOption ℕ) (space space₁ space' : List ℕ) → space₁ ≡ space → TreeWritten t lists tab n tree_limit space₁ w space' → (v : CodeOption ℕ) → w ≡ v → TreeIn (tree_words (default_of table) g.force.known.sig g.force.rs) space (number_by v) (length_by v) space'
    unfolding given_rows
    written_large w space space₁ space' same h v e =
        let z = h given_rows visit_bound (omega arith) in
        subst (λ (x : List ℕ). TreeIn (tree_words (default_of table) g.force.known.sig g.force.rs) x (number_by v) (length_by v) space') same (treed T (tree_words (default_of table) g.force.known.sig g.force.rs) space₁ (most_words (length space₁) tree_limit) v space' (all_fit T space₁) tree_is (sym e ∙ z.0) z.1)
