-- One argument is taken: what is asked of the rows that are next, and of the arguments that are left, and what is made.
use mathlib.Core.Path.{◌≡◌, refl, ap, ap₂, ◌∙◌, sym, subst}
use mathlib.Core.List.{List, [], ◌∷◌, ◌++◌, append_assoc}
use mathlib.Core.Bool.{Bool, true, false, cond}
use Prim.Native.Nat.{ℕ, zero, suc, ◌+◌, ◌*◌, ◌≤◌, ◌<◌, ◌-◌}
use native.Mathlib.Nat.{mul_assoc}
use native.Mathlib.Omega.{arith}
use lib.Dec.{ltb}
use lib.ListN.{length, take, drop, length-append}
use lib.Seq.{drop_at}
use Rattle.signature.specs.Decoded.{arity_of, argument_of, count_of}
use Rattle.sets.specs.Set.{bit}
use Rattle.signature.specs.Signature.{Signature, arguments}
use Rattle.signature.proofs.Tests.{times_less}
use Rattle.pattern.specs.Pattern.{Pattern, pattern_code, Patterns, pcons, patterns_code}
use Rattle.pattern.specs.Weight.{weight_plus, product_plus}
use Rattle.builder.specs.Arguments.{GivenArgs, MadeArgs, few_begun, HasFirst, behind, words_of_rows}
use Rattle.rowlist.specs.Next.{GivenNextAt, Short, next_made, next_rows}
use Rattle.rowlist.specs.Sides.{rows_of}
use Rattle.builder.specs.Build.{GivenPat, Made}
use Rattle.cell.specs.Cell.{kind_tag, cell_code}
use Rattle.cell.specs.Coded.{kinds_of, row_code}
use Rattle.rowlist.specs.Grow.{words_list}
use Rattle.rowlist.specs.Product.{Product}
use Rattle.row.specs.Row.{Rows, open_row, rows_plus, args_plus}
use Rattle.cell.specs.RowList.{from}
use Rattle.builder.proofs.ArgCalls.{view, size_is, arg_made, wild_is, next_core, first_of, minus_few}
use Rattle.builder.proofs.ArgSteps.{begun_small}
use Rattle.builder.proofs.Behind.{behind_plus, behind_minus}
use Rattle.builder.proofs.NextLists.{next_filled, next_short, next_first, next_few, words_short, words_count}
use Rattle.pattern.proofs.PatternBack.{some_pattern_word}
use Rattle.builder.proofs.Rooms.{rows_places}
use Rattle.row.proofs.RowCount.{plus_count, args_plus_count}
use Rattle.cell.proofs.Walk.{from_is, back}

-- more rows than a part may weigh: none of the arguments that are left has rows
none_left : (sig : Signature) (k n : ℕ) (p : Pattern) (js : List ℕ) (qs : Patterns) → n * product_plus (pcons p qs) ≤ 64 → 64 < n * length (words_of_rows sig k (rows_plus sig k p)) → args_plus sig js qs ≡ []
none_left sig k n p js qs h l = go (product_plus qs) refl (args_plus sig js qs) (args_plus_count sig qs js)
  where
    go : (d : ℕ) → product_plus qs ≡ d → (rss : List Rows) → length rss ≤ product_plus qs → rss ≡ []
    go d e [] i = refl
    go zero e (rs ∷ rss) i = absurd (omega (arith, e, i))
    go (suc d) e (rs ∷ rss) i =
        let w : length (words_of_rows sig k (rows_plus sig k p)) ≤ weight_plus p = omega (arith, words_count sig k (rows_plus sig k p), plus_count sig p k) in
        let x : n * length (words_of_rows sig k (rows_plus sig k p)) ≤ n * weight_plus p = times_less n n _ _ (omega arith) w in
        let y : (n * weight_plus p) * 1 ≤ (n * weight_plus p) * product_plus qs = times_less (n * weight_plus p) (n * weight_plus p) 1 (product_plus qs) (omega arith) (omega (arith, e)) in
        let z : (n * weight_plus p) * product_plus qs ≤ 64 = rw (mul_assoc n (weight_plus p) (product_plus qs)) h in
        absurd (omega (arith, l, x, y, z))

behind_one : (b : Bool) (sig : Signature) (k : ℕ) (js : List ℕ) (p : Pattern) (qs : Patterns) (vs : List (List ℕ)) → few_begun b (length vs) (pcons p qs)
    → behind b sig (k ∷ js) (pcons p qs) vs ≡ behind b sig js qs (next_rows b (row_code (kinds_of sig) (open_row sig k) k) vs (words_of_rows sig k (rows_of sig k b p)))
behind_one true sig k js p qs vs f = behind_plus sig k js p qs vs (λ l. none_left sig k (length vs) p js qs f l)
behind_one false sig k js p qs vs f = behind_minus sig k js p qs vs

module _ {t : List ℕ} {c j : ℕ} {w : List ℕ} {b : Bool} {used : ℕ} {o : List ℕ} {m : ℕ} (g : GivenArgs t c j w b used o m) (h : j < arity_of t c) (arg : ℕ) (arg_is : arg ≡ argument_of t c j)
    (full : ℕ) (f : (i : ℕ) → bit full i ≡ cond (ltb i (count_of t arg)) 1 0)
    (k k' usedr read : ℕ) (e : k ≡ m - (used + 1)) (e' : k' ≡ length o) (ys : List ℕ) (f' : (q : GivenPat t (kind_tag + arg) full w b k k') → Made (kinds_of q.known.sig) q.known.sig q.k b q.p usedr read ys)
    (v : List ℕ) (front : take (0 + (used + 1)) v ≡ take (used + 1) o) (l : length v ≡ m) where
  next_at : (d : Bool) → b ≡ d → (n : ℕ) → n ≡ length o → GivenNextAt d (back v (used + 1) ys) (used + 1) n
  next_at true z n i = next_core g h arg arg_is full f k k' usedr read e e' ys f' v front l n i
  next_at false z n i =
      let q = first_of g.begun (subst (λ (d : Bool). HasFirst d g.begun) z g.first) in
      record {
        next = next_core g h arg arg_is full f k k' usedr read e e' ys f' v front l n i;
        v = q.0;
        vs = q.1;
        first = q.2;
        cell = omega (arith, some_pattern_word (view g h arg arg_is).p);
        few = minus_few g.known.sig arg (view g h arg arg_is).p (view g h arg arg_is).qs g.ps (length g.begun) b z (view g h arg arg_is).parts_are g.few;
      }

  pub next_given : (n : ℕ) → n ≡ length o → GivenNextAt b (back v (used + 1) ys) (used + 1) n
  next_given n i = next_at b refl n i

  abbrev begun' : List (List ℕ)
  begun' = next_rows b (cell_code (kind_tag + arg) 0 full) g.begun (words_of_rows g.known.sig arg (rows_of g.known.sig arg b (view g h arg arg_is).p))

  next_list : (d : Bool) (z : b ≡ d) (n : ℕ) (i : n ≡ length o) → next_made d (kind_tag + arg) full (back v (used + 1) ys) (used + 1) n (next_at d z n i)
      ≡ words_list (next_rows d (cell_code (kind_tag + arg) 0 full) g.begun (words_of_rows g.known.sig arg (rows_of g.known.sig arg b (view g h arg arg_is).p)))
  unfolding next_at
  next_list true z n i = refl
  next_list false z n i = refl

  module _ (n r : ℕ) (i : n ≡ length o) (o' : List ℕ) (same : length o' ≡ length o) (f'' : (q : GivenNextAt b (back v (used + 1) ys) (used + 1) n) → Product (next_made b (kind_tag + arg) full (back v (used + 1) ys) (used + 1) n q) r o') where
    made_next : Product (words_list begun') r o'
    unfolding next_given
    made_next = subst (λ (z : List ℕ). Product z r o') (next_list b refl n i) (f'' (next_given n i))

    few_next : few_begun b (length begun') (view g h arg arg_is).qs × (length begun' ≤ 64)
    few_next = next_few b g.known.sig arg (view g h arg arg_is).p (view g h arg arg_is).qs (cell_code (kind_tag + arg) 0 full) g.begun g.first (subst (λ (z : Patterns). few_begun b (length g.begun) z) (view g h arg arg_is).parts_are g.few)

    short_next : Short (3 * (g.a + length (pattern_code (view g h arg arg_is).p))) begun'
    short_next =
        let x : 3 * (g.a + length (pattern_code (view g h arg arg_is).p)) ≡ 3 * g.a + 3 * length (pattern_code (view g h arg arg_is).p) = omega arith in
        rw x (next_short b (3 * g.a) (3 * length (pattern_code (view g h arg arg_is).p)) (cell_code (kind_tag + arg) 0 full) g.begun (words_of_rows g.known.sig arg (rows_of g.known.sig arg b (view g h arg arg_is).p)) (omega (arith, some_pattern_word (view g h arg arg_is).p)) g.short
        (words_short g.known.sig arg (length (pattern_code (view g h arg arg_is).p)) (rows_places g.known.sig arg (view g h arg arg_is).p b (view g h arg arg_is).well)))

    pub rest_given : (m' : ℕ) → m' ≡ m → GivenArgs t c (j + 1) (from w read) b r o' m'
    rest_given m' z = record {
      known = g.known;
      head = g.head;
      ks = drop (j + 1) (arguments g.known.sig c);
      kinds = refl;
      ps = (view g h arg arg_is).qs;
      rest = g.rest;
      code_is =
          let made = arg_made g h arg arg_is full f k k' usedr read e e' ys f' in
          let q : w ≡ pattern_code (view g h arg arg_is).p ++ (patterns_code (view g h arg arg_is).qs ++ g.rest) = g.code_is ∙ ap (λ (z : Patterns). patterns_code z ++ g.rest) (view g h arg arg_is).parts_are ∙ append_assoc (pattern_code (view g h arg arg_is).p) (patterns_code (view g h arg arg_is).qs) g.rest in
          from_is w read ∙ ap (drop read) q ∙ drop_at (pattern_code (view g h arg arg_is).p) (patterns_code (view g h arg arg_is).qs ++ g.rest) read (sym made.read_is);
      well = (view g h arg arg_is).wells;
      light = (view g h arg arg_is).lights;
      ranges = (view g h arg arg_is).ranges.1;
      there = (view g h arg arg_is).theres;
      begun = begun';
      list = made_next;
      filled = next_filled b (cell_code (kind_tag + arg) 0 full) g.begun (words_of_rows g.known.sig arg (rows_of g.known.sig arg b (view g h arg arg_is).p)) g.filled;
      a = g.a + length (pattern_code (view g h arg arg_is).p);
      small = omega (arith, begun_small (g.a + length (pattern_code (view g h arg arg_is).p)) begun' made_next short_next few_next.1, g.small, some_pattern_word (view g h arg arg_is).p);
      short = short_next;
      few = few_next.0;
      count = few_next.1;
      first = next_first b (cell_code (kind_tag + arg) 0 full) g.begun (words_of_rows g.known.sig arg (rows_of g.known.sig arg b (view g h arg arg_is).p)) g.first;
      room = omega (arith, size_is g h arg arg_is, g.room, same);
      work_room = omega (arith, size_is g h arg arg_is, g.work_room, z);
    }

    module _ (m' used' read' : ℕ) (z : m' ≡ m) (o'' : List ℕ) (fr : (q : GivenArgs t c (j + 1) (from w read) b r o' m') → MadeArgs q.known.sig b q.ks q.ps q.begun (q.a + length (patterns_code q.ps)) used' read' o'') where
      made_rest : MadeArgs g.known.sig b (drop (j + 1) (arguments g.known.sig c)) (view g h arg arg_is).qs begun' (g.a + length (pattern_code (view g h arg arg_is).p) + length (patterns_code (view g h arg arg_is).qs)) used' read' o''
      unfolding rest_given
      made_rest = fr (rest_given m' z)

      pub args_made : MadeArgs g.known.sig b g.ks g.ps g.begun (g.a + length (patterns_code g.ps)) used' (read + read') o''
      args_made = record {
        read_is = omega (arith, (arg_made g h arg arg_is full f k k' usedr read e e' ys f').read_is, made_rest.read_is, size_is g h arg arg_is);
        small = omega (arith, made_rest.small, size_is g h arg arg_is);
        list =
            let js = drop (j + 1) (arguments g.known.sig c) in
            let q : behind b g.known.sig g.ks g.ps g.begun ≡ behind b g.known.sig js (view g h arg arg_is).qs begun' =
            ap₂ (λ (a : List ℕ) (d : Patterns). behind b g.known.sig a d g.begun) (view g h arg arg_is).kinds_are (view g h arg arg_is).parts_are
            ∙ behind_one b g.known.sig arg js (view g h arg arg_is).p (view g h arg arg_is).qs g.begun (subst (λ (z : Patterns). few_begun b (length g.begun) z) (view g h arg arg_is).parts_are g.few)
            ∙ ap (λ (x : List ℕ). behind b g.known.sig js (view g h arg arg_is).qs (next_rows b x g.begun (words_of_rows g.known.sig arg (rows_of g.known.sig arg b (view g h arg arg_is).p)))) (sym (wild_is g h arg arg_is full f)) in
            subst (λ (x : List (List ℕ)). Product (words_list x) used' o'') (sym q) made_rest.list;
      }

      pub args_read : read + read' ≤ length w
      args_read = omega (arith, args_made.read_is, simp length-append at (ap length g.code_is))
