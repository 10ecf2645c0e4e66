-- A row's cells are taken one after the other; what is written of each is as short as can be.
use borrow.Author.Tests.{lt-ltb, le-ltb}
use mathlib.Core.Path.{◌≡◌, refl, ap, sym, subst, ◌∙◌}
use mathlib.Core.List.{List, [], ◌∷◌, ◌++◌, append_assoc, append-nil}
use mathlib.Core.Bool.{true}
use mathlib.Core.Option.{some}
use Prim.Native.Nat.{ℕ, ◌+◌, ◌-◌, ◌≤◌, ◌<◌}
use native.Mathlib.Omega.{arith}
use lib.Dec.{eqb}
use lib.ListN.{length, drop, take, length-append, length-drop}
use Rattle.signature.specs.Decoded.{Known}
use Rattle.signature.specs.Lawful.{OfKind, of_kind, OfKinds, of_kinds_nil, of_kinds_cons}
use Rattle.signature.specs.Limits.{booking_limit}
use Rattle.signature.specs.Lists.{All, first, memb}
use Rattle.signature.specs.Signature.{Signature, arguments_at, heads}
use Rattle.signature.specs.Value.{Value, Values, con, vnil, vcons, code, codes, size, sizes, depth, depths}
use Rattle.signature.proofs.Booleans.{and_left, and_right}
use Rattle.signature.proofs.Heads.{args_same, same_args}
use Rattle.signature.proofs.KnownFacts.{few_kinds}
use Rattle.signature.proofs.ListFacts.{take_exact}
use Rattle.signature.proofs.Members.{all_memb, all_self}
use Rattle.signature.proofs.Tests.{eqb_self, eqb_eq}
use Rattle.signature.proofs.Values.{length_code, depth_size}
use Rattle.row.specs.Limits.{place_words}
use Rattle.row.specs.Row.{Row, Rows, named, free, rnil, rcons}
use Rattle.row.specs.RowFits.{good_named, good_free, Goods, goods_nil, goods_cons, row_fits, rows_fit}
use Rattle.cell.specs.Cell.{Kinds, kind_tag, all_words, tag_limit}
use Rattle.cell.specs.declared.cell.Cell.{Cell}
use Rattle.cell.specs.Coded.{kinds_of, all_cells, row_code}
use Rattle.cell.specs.Cursor.{opens_of, cell_at}
use Rattle.cell.specs.RowList.{from, WrittenFirst}
use Rattle.cell.proofs.Columns.{three_at}
use Rattle.cell.proofs.RowListFacts.{not_both}
use Rattle.cell.proofs.Walk.{back, back_length, part_back, code_long}
use Rattle.sets.specs.Heads.{number_of}
use Rattle.sets.specs.Set.{set_of, Within}
use Rattle.rowlist.proofs.Kinded.{known_head, within_kind}
use Rattle.overlap.specs.Least.{GivenPlace}
use Rattle.witness.proofs.Behind.{◌behind◌, count, count_behind, goods_behind, count_goods, words_behind}
use Rattle.witness.proofs.Filling.{within_all, kind_here, seen, room_from, Now, Front}
use Rattle.views.specs.View.{height, heights}
use Rattle.values.specs.Shortest.{GivenRow, Taken, ShortestOf, LeastWritten}
use Rattle.std.specs.Prelude.{None, Some}
use Rattle.values.proofs.Beside.{◌beside◌, sizes_beside, codes_beside, Valued, valued_nil, valued_cons, valued_beside, split_valued, Fitting, each_fits}
use Rattle.values.proofs.HeadSizes.{head_least}

-- a value that a row takes, not much deeper than the row
pub record Low (sig : Signature) (k : ℕ) (r : Row) (v : Value) : Type 0 where
  pub fitting : Fitting sig k r v
  pub deep : depth v ≤ height r + place_words

together : {sig : Signature} {ks : List ℕ} {rs : Rows} {vs : Values} → Valued (Low sig) ks rs vs → OfKinds sig ks vs × (rows_fit rs vs ≡ true) × (depths vs ≤ heights rs + place_words)
together valued_nil = (of_kinds_nil, refl, omega arith)
together (valued_cons h hs) =
    let (a, b, d) = together hs in
    (of_kinds_cons h.fitting.kinded a, rw (h.fitting.fits, b), omega (arith, h.deep, d))

-- in the loop: done is written, and the rows still to come with their kinds; each value of the whole row has at least n words and those of values for what is to come
pub record Mid {t row o₀ : List ℕ} (g : GivenRow t row o₀) (i n left : ℕ) (o ks : List ℕ) (todo : Rows) : Type 0 where
  pub good : Goods g.known.sig ks todo
  pub code_is : drop i row ≡ all_words (all_cells (kinds_of g.known.sig) todo ks) ++ g.rest
  pub within : i ≤ length row
  pub left_is : left ≡ count todo
  pub whole : length o ≡ length o₀
  pub small : n ≤ booking_limit + place_words
  pub done : List ℕ
  pub written : WrittenFirst done n o
  pub finish : (us : Values) → Valued (Low g.known.sig) ks todo us → (v : Value) × Low g.known.sig g.kind g.r v × (code v ≡ done ++ codes us)
  pub least : (v : Value) → OfKind g.known.sig g.kind v → row_fits g.r v ≡ true → (us : Values) × Valued (Fitting g.known.sig) ks todo us × (n + sizes us ≤ size v)

-- as many words as rows, at least
count_words : {sig : Signature} (K : Kinds) {ks : List ℕ} {todo : Rows} → Goods sig ks todo → count todo ≤ length (all_words (all_cells K todo ks))
count_words K goods_nil = omega arith
count_words K (goods_cons {k = k} {r = r} h hs) = simp length-append (omega (arith, code_long K k r, count_words K hs))

-- a place at which some heads of its kind are allowed
module _ {t : List ℕ} (g : Known t) (k d : ℕ) (cs : List ℕ) (h : All (λ c. memb c (heads g.sig k) ≡ true) (d ∷ cs)) where
  unfoldable free_given : (kk al : ℕ) (p : List ℕ) → kk ≡ k → al ≡ set_of (first (heads g.sig k)) (d ∷ cs) → place_words ≤ length p → GivenPlace t kk al p
  free_given kk al p e f room = record {
    known = g;
    there = omega (arith, kind_here g k d cs h, e);
    cs = d ∷ cs;
    set_is = rw e f;
    some_head = refl;
    within = subst (λ (z : ℕ). Within (first (heads g.sig z)) (d ∷ cs)) (sym e) (within_all (first (heads g.sig k)) (heads g.sig k) (within_kind g k (kind_here g k d cs h)) h);
    of_kind_k = λ c m. subst (λ (z : ℕ). memb c (heads g.sig z) ≡ true) (sym e) (all_memb (λ x. memb x (heads g.sig k)) c (d ∷ cs) (all_self (d ∷ cs) (heads g.sig k) h) m);
    room = room;
  }

  -- what was written there: a value that is taken, and no value that is taken is shorter
  free_taken : (kk al m : ℕ) (xs p ys : List ℕ) (e : kk ≡ k) (f : al ≡ set_of (first (heads g.sig k)) (d ∷ cs)) (room : place_words ≤ length p) → LeastWritten (free_given kk al p e f room) m ys
      → (v : Value) × Low g.sig k (free xs (d ∷ cs)) v × (m ≡ size v) × (m ≤ place_words) × (ys ≡ code v ++ drop m p) × ((u : Value) → Fitting g.sig k (free xs (d ∷ cs)) u → m ≤ size u)
  unfolding free_given
  free_taken kk al m xs p ys e f room W =
      let P = W.value in
      let v : Value = con P.c P.vs in
      (v, record { fitting = record { kinded = rw e at P.kinded; fits = P.may }; deep = omega (arith, depth_size v, P.small) }, P.count, omega (arith, P.count, P.small), P.list, shortest)
    where
      shortest : (u : Value) → Fitting g.sig k (free xs (d ∷ cs)) u → m ≤ size u
      shortest (con c vs) F = omega (arith, W.least c F.fits, head_least g k c vs F.kinded)

module _ {t row o₀ : List ℕ} (g : GivenRow t row o₀) where
  pub start : Now (Mid g 0 0 1 o₀)
  start = (
    g.kind ∷ [],
    rcons g.r rnil,
    record {
      good = goods_cons g.good goods_nil;
      code_is = g.code_is ∙ ap (λ (l : List ℕ). l ++ g.rest) (sym (append-nil (row_code (kinds_of g.known.sig) g.r g.kind)));
      within = omega arith;
      left_is = refl;
      whole = refl;
      small = omega arith;
      done = [];
      written = (refl, refl);
      finish = one;
      least = λ v h f. (vcons v vnil, valued_cons (record { kinded = h; fits = f }) valued_nil, omega arith);
    },
  )
    where
      one : (us : Values) → Valued (Low g.known.sig) (g.kind ∷ []) (rcons g.r rnil) us → (v : Value) × Low g.known.sig g.kind g.r v × (code v ≡ codes us)
      one us (valued_cons {v = v} h valued_nil) = (v, h, sym (append-nil (code v)))

  module _ (i n left : ℕ) (o : List ℕ) where
    -- more is written
    more : (done w ys : List ℕ) (m : ℕ) → n ≤ length o → WrittenFirst done n o → m ≡ length w → ys ≡ w ++ drop m (from o n) → WrittenFirst (done ++ w) (n + m) (back o n ys)
    more done w ys m h W em ey = (simp length-append (omega (arith, W.0, em)), part_back o ys done w _ n m h W.1 (em, ap (take m) ey ∙ take_exact m w _ (sym em)))

    -- a constructor that is named
    named_turn : (k c : ℕ) (xs ks js : List ℕ) (rs todo : Rows) (w m : ℕ) (ys : List ℕ) → n ≤ booking_limit → n ≤ length o → arguments_at g.known.sig k c ≡ some js → Goods g.known.sig js rs → Goods g.known.sig ks todo
        → Mid g i n left o (k ∷ ks) (rcons (named xs c rs) todo) → w ≡ length js → m ≡ 1 → ys ≡ c ∷ drop 1 (from o n) → length ys ≡ length (from o n) → Now (Mid g (i + 3) (n + m) (left - 1 + w) (back o n ys))
    named_turn k c xs ks js rs todo w m ys nl nw e gs G M ew em ey el =
        let K = kinds_of g.known.sig in
        let T = three_at row i _ _ _ _ M.code_is in (
          js ++ ks,
          rs behind todo,
          record {
            good = goods_behind gs G;
            code_is = T.after ∙ ap (λ (l : List ℕ). l ++ g.rest) (ap (λ (is : List ℕ). all_words (all_cells K rs is) ++ all_words (all_cells K todo ks)) (args_same g.known.sig k c js e) ∙ sym (words_behind K ks todo gs));
            within = T.room;
            left_is = omega (arith, M.left_is, count_behind rs todo, count_goods gs, ew);
            whole = back_length o ys n nw el ∙ M.whole;
            small = omega (arith, nl, em);
            done = M.done ++ (c ∷ []);
            written = more M.done (c ∷ []) ys m nw M.written em (rw em ey);
            finish = λ us H.
                let (vs, ws, a, b, q) = split_valued gs H in
                let (hk, hf, hd) = together a in
                let (v, hv, cv) = M.finish (vcons (con c vs) ws) (valued_cons (record { fitting = record { kinded = of_kind e hk; fits = rw (eqb_self c) hf }; deep = omega (arith, hd) }) b) in
                (v, hv, cv ∙ ap (λ (l : List ℕ). M.done ++ (c ∷ l)) (sym (ap codes q ∙ codes_beside vs ws)) ∙ sym (append_assoc M.done (c ∷ []) (codes us)));
            least = λ v hv fv. let (us, F, l) = M.least v hv fv in later v us F l;
          },
        )
      where
        own : (d : ℕ) (vs : Values) → OfKind g.known.sig k (con d vs) → eqb c d ≡ true → OfKinds g.known.sig js vs
        own d vs (of_kind ed hd) z = subst (λ (is : List ℕ). OfKinds g.known.sig is vs) (same_args g.known.sig k c d e ed (eqb_eq c d z)) hd

        later : (v : Value) (us : Values) → Valued (Fitting g.known.sig) (k ∷ ks) (rcons (named xs c rs) todo) us → n + sizes us ≤ size v → (us' : Values) × Valued (Fitting g.known.sig) (js ++ ks) (rs behind todo) us' × (n + m + sizes us' ≤ size v)
        later v us (valued_cons {v = con d vs} {vs = ws} F Fs) l =
            (vs beside ws, valued_beside (each_fits rs (own d vs F.kinded (and_left (eqb c d) (rows_fit rs vs) F.fits)) (and_right (eqb c d) (rows_fit rs vs) F.fits)) Fs, omega (arith, l, em, sizes_beside vs ws))

    -- a place that is not
    free_turn : (k : ℕ) (xs cs ks : List ℕ) (todo : Rows) (w m : ℕ) (v : Value) (ys : List ℕ) → n ≤ booking_limit → n ≤ length o → Goods g.known.sig ks todo
        → Mid g i n left o (k ∷ ks) (rcons (free xs cs) todo) → Low g.known.sig k (free xs cs) v → ((u : Value) → Fitting g.known.sig k (free xs cs) u → m ≤ size u)
        → w ≡ 0 → m ≡ size v → m ≤ place_words → ys ≡ code v ++ drop m (from o n) → length ys ≡ length (from o n) → Now (Mid g (i + 3) (n + m) (left - 1 + w) (back o n ys))
    free_turn k xs cs ks todo w m v ys nl nw G M h s ew em ml ey el =
        let T = three_at row i _ _ _ _ M.code_is in (
          ks,
          todo,
          record {
            good = G;
            code_is = T.after;
            within = T.room;
            left_is = omega (arith, M.left_is, ew);
            whole = back_length o ys n nw el ∙ M.whole;
            small = omega (arith, nl, ml);
            done = M.done ++ code v;
            written = more M.done (code v) ys m nw M.written (em ∙ sym (length_code v)) ey;
            finish = λ us H.
                let (u, hu, cu) = M.finish (vcons v us) (valued_cons h H) in
                (u, hu, cu ∙ sym (append_assoc M.done (code v) (codes us)));
            least = λ u hu fu. let (us, F, l) = M.least u hu fu in later u us F l;
          },
        )
      where
        later : (u : Value) (us : Values) → Valued (Fitting g.known.sig) (k ∷ ks) (rcons (free xs cs) todo) us → n + sizes us ≤ size u → (us' : Values) × Valued (Fitting g.known.sig) ks todo us' × (n + m + sizes us' ≤ size u)
        later u us (valued_cons {v = x} {vs = ws} F Fs) l = (ws, Fs, omega (arith, l, s x F))

    tag_small : {k : ℕ} → k < g.known.decoded.n → kind_tag + k < tag_limit
    tag_small l = omega (arith, l, few_kinds g.known)

    room_here : {ks : List ℕ} {todo : Rows} → Mid g i n left o ks todo → n ≤ booking_limit → n + place_words ≤ length o
    room_here M l = omega (arith, M.whole, g.room, l)

    front_at : {ks : List ℕ} {todo : Rows} → Goods g.known.sig ks todo → Mid g i n left o ks todo → 0 < left → n ≤ booking_limit → Front t row o₀ i n o
    front_at goods_nil M h nl = absurd (omega (arith, M.left_is))
    front_at (goods_cons (good_named {c = c} l e gs) G) M h nl =
        let T = three_at row i _ _ _ _ M.code_is in
        record { see = T.room; whole = M.whole; room = room_here M nl; place = λ x ex z. absurd (omega (arith, z, (seen row i x c _ _ _ (omega (arith, l)) M.code_is ex).0, l)) }
    front_at (goods_cons {k = k} (good_free {c = d} {cs = cs} a) G) M h nl =
        let T = three_at row i _ _ _ _ M.code_is in
        let room = room_here M nl in
        record { see = T.room; whole = M.whole; room = room; place = λ x ex z. let s = seen row i x (kind_tag + k) _ _ _ (tag_small (kind_here g.known k d cs a)) M.code_is ex in free_given g.known k d cs a _ _ (from o n) (omega (arith, s.0)) s.1 (room_from o n room) }

    turn_at : {ks : List ℕ} {todo : Rows} (x : Cell) (w m : ℕ) (ys : List ℕ) → Goods g.known.sig ks todo → Mid g i n left o ks todo → 0 < left → n ≤ booking_limit → x ≡ cell_at row i → w ≡ opens_of t x.tag
        → (x.tag < kind_tag → (m ≡ 1) × (ys ≡ x.tag ∷ drop 1 (from o n)))
        → (kind_tag ≤ x.tag → (q : GivenPlace t (x.tag - kind_tag) (number_of x.allowed) (from o n)) → LeastWritten q m ys) → length ys ≡ length (from o n) → Now (Mid g (i + 3) (n + m) (left - 1 + w) (back o n ys))
    turn_at x w m ys goods_nil M h nl ex ew N U el = absurd (omega (arith, M.left_is))
    turn_at x w m ys (goods_cons {k = k} {ks = ks} {rs = todo} (good_named {c = c} {xs = xs} {js = js} {rs = rs} l e gs) G) M h nl ex ew N U el =
        let z : x.tag ≡ c = (seen row i x c _ _ _ (omega (arith, l)) M.code_is ex).0 in
        let K = known_head g.known k c js (omega (arith, l)) e in
        let q = N (omega (arith, z, K.tag)) in
        named_turn k c xs ks js rs todo w m ys nl (omega (arith, room_here M nl)) e gs G M (ew ∙ ap (opens_of t) z ∙ rw (lt-ltb c kind_tag K.tag) (K.arity ∙ ap length (args_same g.known.sig k c js e))) q.0 (rw z at q.1) el
    turn_at x w m ys (goods_cons {k = k} {ks = ks} {rs = todo} (good_free {c = d} {xs = xs} {cs = cs} a) G) M h nl ex ew N U el =
        let s = seen row i x (kind_tag + k) _ _ _ (tag_small (kind_here g.known k d cs a)) M.code_is ex in
        let room = room_here M nl in
        let kk : x.tag - kind_tag ≡ k = omega (arith, s.0) in
        let z : kind_tag ≤ x.tag = omega (arith, s.0) in
        let (v, hv, em, ml, ey, sh) = free_taken g.known k d cs a _ _ m xs (from o n) ys kk s.1 (room_from o n room) (U z (free_given g.known k d cs a _ _ (from o n) kk s.1 (room_from o n room))) in
        free_turn k xs (d ∷ cs) ks todo w m v ys nl (omega (arith, room)) G M hv sh (ew ∙ ap (opens_of t) s.0 ∙ rw (le-ltb (kind_tag + k) kind_tag (omega arith))) em ml ey el

    pub front : Now (Mid g i n left o) → 0 < left → n ≤ booking_limit → Front t row o₀ i n o
    front m h nl = front_at m.2.good m.2 h nl

    -- all that the loop needs to go on
    pub few : Now (Mid g i n left o) → (length o ≡ length o₀) × (n ≤ booking_limit + place_words) × (left ≤ length row)
    few (ks, todo, M) = (M.whole, M.small, omega (arith, M.left_is, count_words (kinds_of g.known.sig) M.good, simp length-append at (ap length M.code_is), length-drop i row))

    pub turn : (x : Cell) (w m : ℕ) (ys : List ℕ) → Now (Mid g i n left o) → 0 < left → n ≤ booking_limit → x ≡ cell_at row i → w ≡ opens_of t x.tag
        → (x.tag < kind_tag → (m ≡ 1) × (ys ≡ x.tag ∷ drop 1 (from o n)))
        → (kind_tag ≤ x.tag → (q : GivenPlace t (x.tag - kind_tag) (number_of x.allowed) (from o n)) → LeastWritten q m ys) → length ys ≡ length (from o n) → Now (Mid g (i + 3) (n + m) (left - 1 + w) (back o n ys))
    turn x w m ys N h nl ex ew A B el = turn_at x w m ys N.2.good N.2 h nl ex ew A B el

    -- each value that the row takes has at least n words
    at_least : Now (Mid g i n left o) → (v : Value) → OfKind g.known.sig g.kind v → row_fits g.r v ≡ true → n ≤ size v
    at_least (ks, todo, M) v h f = let (us, F, s) = M.least v h f in omega (arith, s)

    -- it is too long, or it is whole
    pub long : Now (Mid g i n left o) → booking_limit < n → ShortestOf g None o
    long m l = record { found = λ k e. absurd (not_both e refl); shortest = λ k e. absurd (not_both e refl); too_long = λ e v h f. omega (arith, l, at_least m v h f) }

    end_at : {ks : List ℕ} {todo : Rows} → Goods g.known.sig ks todo → Mid g i n left o ks todo → left ≡ 0 → n ≤ booking_limit → ShortestOf g (Some n) o
    end_at (goods_cons a b) M e l = absurd (omega (arith, M.left_is))
    end_at goods_nil M e l = record { found = λ m q. whole_value m (same_length m q); shortest = λ m q v h f. omega (arith, same_length m q, at_least (_, _, M) v h f); too_long = λ q. absurd (not_both {res = Some n} refl q) }
      where
        same_length : (m : ℕ) → Some n ≡ Some m → n ≡ m
        same_length m q = cc

        whole_value : (m : ℕ) → n ≡ m → (v : Value) × Taken g.known.sig g.kind g.r v × (m ≡ size v) × (take m o ≡ code v)
        whole_value m q =
            let (v, h, c) = M.finish vnil valued_nil in
            let d : code v ≡ M.done = c ∙ append-nil M.done in
            let s : n ≡ size v = M.written.0 ∙ ap length (sym d) ∙ length_code v in
            (v, record { kinded = h.fitting.kinded; fits = h.fitting.fits; few = omega (arith, s, l); deep = h.deep }, sym q ∙ s, ap (λ (x : ℕ). take x o) (sym q) ∙ M.written.1 ∙ sym d)

    pub end : Now (Mid g i n left o) → left ≡ 0 → n ≤ booking_limit → ShortestOf g (Some n) o
    end m e l = end_at m.2.good m.2 e l
