-- A step of the writer's state is a step of its lines.
use mathlib.Core.Path.{◌≡◌, refl, sym, ap, ap₂, ◌∙◌}
use mathlib.Core.List.{List, ◌∷◌, ◌++◌}
use mathlib.Core.Option.{Option, none, some}
use mathlib.Core.Bool.{Bool, true, false, ◌&&◌, not, cond}
use Prim.Native.Nat.{ℕ, zero, suc, ◌+◌, ◌-◌, ◌≤◌, ◌<◌}
use native.Mathlib.Omega.{arith}
use lib.Dec.{eqb}
use lib.ListN.{length, get_or, length-append}
use Rattle.signature.specs.Lists.{◌>>=◌, memb, first}
use Rattle.rowlist.proofs.Kinded.{Sized}
use Rattle.sets.specs.Set.{bit}
use Rattle.signature.specs.Signature.{Signature, heads, arguments}
use Rattle.sets.proofs.SetLaws.{bit_lt}
use Rattle.signature.proofs.Tests.{eqb_eq, eqb_ne, none≢some, some_inj}
use Rattle.row.specs.Row.{Rows}
use Rattle.cell.specs.Cursor.{opens_of}
use Rattle.tree.specs.Tree.{Line, inserts, after, taken, passed, refined, holds}
use Rattle.path.specs.Standing.{refined_cell, tag_of, vars_of, allowed_of}
use Rattle.path.specs.State.{Indexed, LineAt, RowIs, State, Raised, real_of, kept_by, cell_of, own_of, stop_of, visit_of, bound, one_if}
use Rattle.path.specs.Variables.{variables}
use Rattle.path.proofs.StepLaws.{Next, virt_taken, virt_passed, virt_refined, real_taken, real_not, real_passed, real_refined, real_room, real_holds, virt_holds}
use Rattle.path.proofs.VariableLaws.{once_rising, no_variables}

-- the rows that are kept, by the cursors before they are raised
abbrev pub keep_of : List ℕ → List ℕ → (ℕ → Bool) → (ℕ → Bool) → List ℕ → ℕ → ℕ → Bool
keep_of a rows alive real cur j r = kept_by a rows alive real (get_or cur r 0) j r

module _ (sig : Signature) (t a rows : List ℕ) (n : ℕ) where
  -- visits before the cursor are all that counts
  pub bound_same : (vis vis' : List ℕ) (r q : ℕ) → ((p : ℕ) → p < q → visit_of vis' r p ≡ visit_of vis r p) → bound a rows vis' r q ≡ bound a rows vis r q
  bound_same vis vis' r zero h = refl
  bound_same vis vis' r (suc q) h = rw (h q (omega arith), bound_same vis vis' r q (λ p l. h p (omega arith)))

  pub state_frame : (alive : ℕ → Bool) (cur vis vis' ks : List ℕ) (f : ℕ → Option Line) → State sig t a rows n alive cur vis ks f
      → ((r q : ℕ) → r < n → q < get_or cur r 0 → visit_of vis' r q ≡ visit_of vis r q) → State sig t a rows n alive cur vis' ks f
  state_frame alive cur vis vis' ks f s h r l = go (alive r) (f r) (s r l)
    where
      go : (b : Bool) (o : Option Line) → RowIs sig t a rows n b o vis r (get_or cur r 0) ks → RowIs sig t a rows n b o vis' r (get_or cur r 0) ks
      go true (some x) w = record { here = w.here; rule_is = w.rule_is; plan_is = w.plan_is; binds_are = w.binds_are ∙ sym (bound_same vis vis' r (get_or cur r 0) (λ p g. h r p l g)) }
      go true none w = absurd w
      go false (some x) w = absurd w
      go false none w = tt

  abbrev stepped : ℕ → Line → Option (List ℕ × Rows) → Option Line
  stepped v l o = o >>= λ x. some (record { rule = l.rule; plan = l.plan; binds = inserts v x.0 l.binds; cells = x.1 })

  -- a line that stays where it is
  line_virt : (vis vis' : List ℕ) (v r q : ℕ) (ks ks' : List ℕ) (l : Line) (o : Option (List ℕ × Rows)) → LineAt sig t a rows n vis r q ks l
      → ((p : ℕ) → p < q → visit_of vis' r p ≡ visit_of vis r p)
      → Next sig t a (stop_of rows r) (cell_of rows r q) (own_of rows r q) ks' 0 o
      → RowIs sig t a rows n true (stepped v l o) vis' r q ks'
  line_virt vis vis' v r q ks ks' l o w h g = rw g.is (record {
    here = g.here;
    rule_is = w.rule_is;
    plan_is = w.plan_is;
    binds_are =
        once_rising v g.vs l.binds g.once
        ∙ ap (λ (ws : List ℕ). inserts v ws l.binds) (ap variables g.vars_are ∙ no_variables)
        ∙ w.binds_are
        ∙ sym (bound_same vis vis' r q h);
  })

  -- a line that goes on to the next cell
  line_real : (vis vis' : List ℕ) (v r q : ℕ) (ks ks' : List ℕ) (l : Line) (o : Option (List ℕ × Rows)) → LineAt sig t a rows n vis r q ks l
      → ((p : ℕ) → p < q → visit_of vis' r p ≡ visit_of vis r p) → visit_of vis' r q ≡ v
      → Next sig t a (stop_of rows r) (cell_of rows r (suc q)) (own_of rows r (suc q)) ks' (vars_of a (cell_of rows r q)) o
      → RowIs sig t a rows n true (stepped v l o) vis' r (suc q) ks'
  line_real vis vis' v r q ks ks' l o w h e g = rw g.is (record {
    here = g.here;
    rule_is = w.rule_is;
    plan_is = w.plan_is;
    binds_are =
        once_rising v g.vs l.binds g.once
        ∙ ap₂ (λ (m : ℕ) (bs : List (ℕ × ℕ)). inserts v (variables m) bs) g.vars_are (w.binds_are ∙ sym (bound_same vis vis' r q h))
        ∙ ap (λ (u : ℕ). inserts u (variables (vars_of a (cell_of rows r q))) (bound a rows vis' r q)) (sym e);
  })

  own_most : (vis : List ℕ) (r q k : ℕ) (ks : List ℕ) (l : Line) → LineAt sig t a rows n vis r q (k ∷ ks) l → own_of rows r q ≤ suc (length ks)
  own_most vis r q k ks l w = omega (arith, w.here.own_is, ap length w.here.kinds_are, length-append w.here.virt w.here.mine)

  own_next : Indexed t a rows n → (r q : ℕ) → r < n → cell_of rows r q + 3 ≤ stop_of rows r → own_of rows r q - 1 + opens_of t (tag_of a (cell_of rows r q)) ≡ own_of rows r (suc q)
  own_next ok r q l h = sym (ok.counts r q l h) ∙ ap (λ (m : ℕ). own_of rows r m) (let e : q + 1 ≡ suc q = omega arith in e)

  next_cell : Indexed t a rows n → (r q : ℕ) (ks : List ℕ) (v : ℕ) (o : Option (List ℕ × Rows)) → r < n → cell_of rows r q + 3 ≤ stop_of rows r
      → Next sig t a (stop_of rows r) (cell_of rows r q + 3) (own_of rows r q - 1 + opens_of t (tag_of a (cell_of rows r q))) ks v o
      → Next sig t a (stop_of rows r) (cell_of rows r (suc q)) (own_of rows r (suc q)) ks v o
  next_cell ok r q ks v o l h g =
      let e : cell_of rows r q + 3 ≡ cell_of rows r (suc q) = omega arith in
      rw (← e, ← own_next ok r q l h) g

  -- one row where the head c of kind k is taken
  row_take : Indexed t a rows n → (vis vis' : List ℕ) (v r q q' c k : ℕ) (ks : List ℕ) → r < n → memb c (heads sig k) ≡ true → first (heads sig k) ≤ c
      → (b : Bool) (o : Option Line) (e z : Bool) → RowIs sig t a rows n b o vis r q (k ∷ ks)
      → eqb (own_of rows r q) (suc (length ks)) ≡ e → eqb (bit (allowed_of a (cell_of rows r q)) (c - first (heads sig k))) 0 ≡ z
      → q' ≡ q + one_if (b && e) → ((p : ℕ) → p < q → visit_of vis' r p ≡ visit_of vis r p) → ((b && e) ≡ true → visit_of vis' r q ≡ v)
      → RowIs sig t a rows n (b && not ((b && e) && z)) (o >>= after v (taken sig (arguments sig c) c)) vis' r q' (arguments sig c ++ ks)
  row_take ok vis vis' v r q q' c k ks l m f true none e z w x y u h i = absurd w
  row_take ok vis vis' v r q q' c k ks l m f false (some s) e z w x y u h i = absurd w
  row_take ok vis vis' v r q q' c k ks l m f false none e z w x y u h i = tt
  row_take ok vis vis' v r q q' c k ks l m f true (some s) true true w x y u h i =
      rw (real_not sig t a (stop_of rows r) (cell_of rows r q) (own_of rows r q) k ks s.cells w.here (eqb_eq _ _ x) c f (eqb_eq _ _ y)) tt
  row_take ok vis vis' v r q q' c k ks l m f true (some s) true false w x y u h i =
      let own = eqb_eq _ _ x in
      let one : bit (allowed_of a (cell_of rows r q)) (c - first (heads sig k)) ≡ 1 = omega (arith, bit_lt (allowed_of a (cell_of rows r q)) (c - first (heads sig k)), eqb_ne (bit (allowed_of a (cell_of rows r q)) (c - first (heads sig k))) 0 y) in
      let g = real_taken sig t a (stop_of rows r) (cell_of rows r q) (own_of rows r q) k ks s.cells w.here own c f one in
      let room = real_room sig t a (stop_of rows r) (cell_of rows r q) (own_of rows r q) k ks s.cells w.here own in
      let q'is : q' ≡ suc q = omega arith in
      rw q'is (line_real vis vis' v r q (k ∷ ks) (arguments sig c ++ ks) s _ w h (i refl) (next_cell ok r q (arguments sig c ++ ks) _ _ l room.1 g))
  row_take ok vis vis' v r q q' c k ks l m f true (some s) false z w x y u h i =
      let q'is : q' ≡ q = omega arith in
      let less : own_of rows r q < suc (length ks) = omega (arith, own_most vis r q k ks s w, eqb_ne (own_of rows r q) (suc (length ks)) x) in
      rw q'is (line_virt vis vis' v r q (k ∷ ks) (arguments sig c ++ ks) s _ w h (virt_taken sig t a (stop_of rows r) (cell_of rows r q) (own_of rows r q) k ks s.cells w.here c m less))

  pub state_take : Indexed t a rows n → (alive : ℕ → Bool) (cur vis cur' vis' : List ℕ) (v c k : ℕ) (ks : List ℕ) (f : ℕ → Option Line) → memb c (heads sig k) ≡ true → first (heads sig k) ≤ c
      → State sig t a rows n alive cur vis (k ∷ ks) f → Raised n (real_of rows alive cur (suc (length ks))) v cur vis cur' vis'
      → State sig t a rows n (keep_of a rows alive (real_of rows alive cur (suc (length ks))) cur (c - first (heads sig k))) cur' vis' (arguments sig c ++ ks) (λ r. f r >>= after v (taken sig (arguments sig c) c))
  state_take ok alive cur vis cur' vis' v c k ks f m h s g r l =
      row_take ok vis vis' v r (get_or cur r 0) (get_or cur' r 0) c k ks l m h (alive r) (f r) _ _ (s r l) refl refl (g.cursor r l) (λ p x. g.others r p l x) (λ x. g.visit r l x)

  -- one row where no row refines the column
  row_pass : Indexed t a rows n → (vis vis' : List ℕ) (v r q q' k : ℕ) (ks : List ℕ) → r < n
      → (b : Bool) (o : Option Line) (e : Bool) → RowIs sig t a rows n b o vis r q (k ∷ ks) → ((s : Line) → o ≡ some s → refined sig k s.cells ≡ false)
      → eqb (own_of rows r q) (suc (length ks)) ≡ e
      → q' ≡ q + one_if (b && e) → ((p : ℕ) → p < q → visit_of vis' r p ≡ visit_of vis r p) → ((b && e) ≡ true → visit_of vis' r q ≡ v)
      → RowIs sig t a rows n b (o >>= after v passed) vis' r q' ks
  row_pass ok vis vis' v r q q' k ks l true none e w f x u h i = absurd w
  row_pass ok vis vis' v r q q' k ks l false (some s) e w f x u h i = absurd w
  row_pass ok vis vis' v r q q' k ks l false none e w f x u h i = tt
  row_pass ok vis vis' v r q q' k ks l true (some s) true w f x u h i =
      let own = eqb_eq _ _ x in
      let g = real_passed sig t a (stop_of rows r) (cell_of rows r q) (own_of rows r q) k ks s.cells w.here own (f s refl) in
      let room = real_room sig t a (stop_of rows r) (cell_of rows r q) (own_of rows r q) k ks s.cells w.here own in
      let q'is : q' ≡ suc q = omega arith in
      rw q'is (line_real vis vis' v r q (k ∷ ks) ks s _ w h (i refl) (next_cell ok r q ks _ _ l room.1 g))
  row_pass ok vis vis' v r q q' k ks l true (some s) false w f x u h i =
      let q'is : q' ≡ q = omega arith in
      let less : own_of rows r q < suc (length ks) = omega (arith, own_most vis r q k ks s w, eqb_ne (own_of rows r q) (suc (length ks)) x) in
      rw q'is (line_virt vis vis' v r q (k ∷ ks) ks s _ w h (virt_passed sig t a (stop_of rows r) (cell_of rows r q) (own_of rows r q) k ks s.cells w.here less))

  pub state_pass : Indexed t a rows n → (alive : ℕ → Bool) (cur vis cur' vis' : List ℕ) (v k : ℕ) (ks : List ℕ) (f : ℕ → Option Line)
      → ((r : ℕ) (s : Line) → r < n → f r ≡ some s → refined sig k s.cells ≡ false)
      → State sig t a rows n alive cur vis (k ∷ ks) f → Raised n (real_of rows alive cur (suc (length ks))) v cur vis cur' vis' → State sig t a rows n alive cur' vis' ks (λ r. f r >>= after v passed)
  state_pass ok alive cur vis cur' vis' v k ks f m s g r l =
      row_pass ok vis vis' v r (get_or cur r 0) (get_or cur' r 0) k ks l (alive r) (f r) _ (s r l) (λ x e. m r x l e) refl (g.cursor r l) (λ p x. g.others r p l x) (λ x. g.visit r l x)

  -- refined, by the cells of the real rows
  pub row_refined : (vis : List ℕ) (r q k : ℕ) (ks : List ℕ) → Sized sig k → (b : Bool) (o : Option Line) (e : Bool) (s : Line) → RowIs sig t a rows n b o vis r q (k ∷ ks) → o ≡ some s
      → eqb (own_of rows r q) (suc (length ks)) ≡ e
      → refined sig k s.cells ≡ ((b && e) && refined_cell sig k (tag_of a (cell_of rows r q)) (allowed_of a (cell_of rows r q)))
  row_refined vis r q k ks z b none e s w i x = none≢some i
  row_refined vis r q k ks z false (some l) e s w i x = absurd w
  row_refined vis r q k ks z true (some l) true s w i x =
      ap (λ (m : Line). refined sig k m.cells) (sym (some_inj l s i)) ∙ real_refined sig t a (stop_of rows r) (cell_of rows r q) (own_of rows r q) k ks l.cells w.here (eqb_eq _ _ x) z
  row_refined vis r q k ks z true (some l) false s w i x =
      ap (λ (m : Line). refined sig k m.cells) (sym (some_inj l s i)) ∙ virt_refined sig t a (stop_of rows r) (cell_of rows r q) (own_of rows r q) k ks l.cells w.here (omega (arith, own_most vis r q k ks l w, eqb_ne (own_of rows r q) (suc (length ks)) x))

  -- whether a line's first column allows the head c, by the cell of a real row
  pub row_holds : (vis : List ℕ) (r q c k : ℕ) (ks : List ℕ) → memb c (heads sig k) ≡ true → first (heads sig k) ≤ c → (b : Bool) (o : Option Line) (e : Bool) (s : Line) → RowIs sig t a rows n b o vis r q (k ∷ ks) → o ≡ some s
      → eqb (own_of rows r q) (suc (length ks)) ≡ e
      → holds s.cells c ≡ cond (b && e) (eqb (bit (allowed_of a (cell_of rows r q)) (c - first (heads sig k))) 1) true
  row_holds vis r q c k ks m f b none e s w i x = none≢some i
  row_holds vis r q c k ks m f false (some l) e s w i x = absurd w
  row_holds vis r q c k ks m f true (some l) true s w i x =
      ap (λ (y : Line). holds y.cells c) (sym (some_inj l s i)) ∙ real_holds sig t a (stop_of rows r) (cell_of rows r q) (own_of rows r q) k ks l.cells w.here (eqb_eq _ _ x) c f
  row_holds vis r q c k ks m f true (some l) false s w i x =
      ap (λ (y : Line). holds y.cells c) (sym (some_inj l s i)) ∙ virt_holds sig t a (stop_of rows r) (cell_of rows r q) (own_of rows r q) k ks l.cells w.here c m (omega (arith, own_most vis r q k ks l w, eqb_ne (own_of rows r q) (suc (length ks)) x))
