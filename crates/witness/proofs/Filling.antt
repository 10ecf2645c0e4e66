-- A row's cells are taken one after the other, and what each stands for is written.
use borrow.Author.Tests.{lt-ltb, le-ltb}
use mathlib.Core.Path.{◌≡◌, refl, ap, sym, subst, ◌∙◌}
use mathlib.Core.List.{List, [], ◌∷◌, ◌++◌, append_assoc, append-nil}
use mathlib.Core.Bool.{true}
use mathlib.Core.Option.{some}
use Prim.Native.Nat.{ℕ, ◌+◌, ◌-◌, ◌*◌, ◌≤◌, ◌<◌}
use native.Mathlib.Omega.{arith}
use lib.ListN.{length, drop, take, length-append, length-drop, drop_of_length-le}
use lib.Seq.{drop-drop, drop_at, take_at}
use Rattle.signature.specs.Decoded.{Known}
use Rattle.signature.specs.Lawful.{of_kind}
use Rattle.signature.specs.Lists.{All, none_left, also, first, memb}
use Rattle.signature.specs.Signature.{arguments_at, heads}
use Rattle.signature.specs.Value.{Value, Values, con, vnil, vcons, code, codes, size}
use Rattle.signature.proofs.Heads.{args_same, kind_of_head}
use Rattle.signature.proofs.ListFacts.{first_of}
use Rattle.signature.proofs.Members.{all_memb, all_self}
use Rattle.signature.proofs.Tests.{eqb_self}
use Rattle.signature.proofs.Values.{length_code, depth_size}
use Rattle.row.specs.Limits.{place_words}
use Rattle.row.specs.Row.{Rows, named, free, rnil, rcons}
use Rattle.row.specs.RowFits.{good_named, good_free, Goods, goods_nil, goods_cons, places_count}
use Rattle.cell.specs.Cell.{kind_tag, all_words, cell_code, tag_limit}
use Rattle.cell.specs.declared.cell.Cell.{Cell}
use Rattle.cell.specs.Coded.{kinds_of, all_cells, row_code}
use Rattle.cell.specs.Cursor.{opens_of, cell_at, cell_of}
use Rattle.sets.specs.Heads.{number_of}
use Rattle.sets.specs.Set.{set_of, Within}
use Rattle.sets.proofs.HeadSets.{number_words}
use Rattle.sets.proofs.ListSets.{within_one}
use Rattle.cell.specs.RowList.{from}
use Rattle.cell.proofs.Columns.{three_at, cell_there}
use Rattle.cell.proofs.Walk.{from_is, back}
use Rattle.rowlist.proofs.Kinded.{known_head, kind_there, kinds_same, within_kind}
use Rattle.signature.proofs.KnownFacts.{words_of}
use Rattle.overlap.specs.Least.{GivenPlace, ValueWritten}
use Rattle.witness.specs.Fill.{GivenRow, Taken, Filled}
use Rattle.witness.proofs.Behind.{◌behind◌, count, count_places, places_behind, count_behind, goods_behind, count_goods, words_behind, Takens, takens_nil, takens_cons, together, split_values}

pub within_all : (f : ℕ) (hs : List ℕ) {cs : List ℕ} → Within f hs → All (λ d. memb d hs ≡ true) cs → Within f cs
within_all f hs w none_left = tt
within_all f hs w (also d h a) = let q = within_one f d hs w h in (q.0, q.1, within_all f hs w a)

-- a part came back with m words of a value in front
part_back : (o₀ o done v ys : List ℕ) (n m : ℕ) → length done ≡ n → o ≡ done ++ drop n o₀ → ys ≡ v ++ drop m (from o n) → back o n ys ≡ (done ++ v) ++ drop (n + m) o₀
part_back o₀ o done v ys n m len l f =
    let ta : take n o ≡ done = ap (take n) l ∙ take_at done (drop n o₀) n len in
    let da : drop n o ≡ drop n o₀ = ap (drop n) l ∙ drop_at done (drop n o₀) n len in
    let fr : from o n ≡ drop n o₀ = from_is o n ∙ da in
    let yy : ys ≡ v ++ drop (n + m) o₀ = f ∙ ap (λ (z : List ℕ). v ++ drop m z) fr ∙ ap (λ (z : List ℕ). v ++ z) (drop-drop m n o₀) in
    let no : drop (length o - n) (drop n o) ≡ [] = drop_of_length-le (drop n o) {i = length o - n} (omega (arith, length-drop n o)) in
    rw (ta, no, append-nil ys, yy) (sym (append_assoc done v (drop (n + m) o₀)))

-- a place at which some heads of its kind are allowed
module _ {t : List ℕ} (g : Known t) (k d : ℕ) (cs : List ℕ) (h : All (λ c. memb c (heads g.sig k) ≡ true) (d ∷ cs)) where
  pub kind_here : k < g.decoded.n
  kind_here = let q = kind_of_head g.sig k d (first_of h) in kind_there g k d q.0 q.1

  unfoldable free_given : (kk al : ℕ) (p : List ℕ) → kk ≡ k → al ≡ set_of (first (heads g.sig k)) (d ∷ cs) → place_words ≤ length p → GivenPlace t kk al p
  free_given kk al p e f room = record {
    known = g;
    there = omega (arith, kind_here, e);
    cs = d ∷ cs;
    set_is = rw e f;
    some_head = refl;
    within = subst (λ (z : ℕ). Within (first (heads g.sig z)) (d ∷ cs)) (sym e) (within_all (first (heads g.sig k)) (heads g.sig k) (within_kind g k kind_here) h);
    of_kind_k = λ c m. subst (λ (z : ℕ). memb c (heads g.sig z) ≡ true) (sym e) (all_memb (λ x. memb x (heads g.sig k)) c (d ∷ cs) (all_self (d ∷ cs) (heads g.sig k) h) m);
    room = room;
  }

  free_taken : (kk al m : ℕ) (xs p ys : List ℕ) (e : kk ≡ k) (f : al ≡ set_of (first (heads g.sig k)) (d ∷ cs)) (room : place_words ≤ length p) → ValueWritten (free_given kk al p e f room) m ys
      → (v : Value) × Taken g.sig k (free xs (d ∷ cs)) v × (m ≡ size v) × (ys ≡ code v ++ drop m p)
  unfolding free_given
  free_taken kk al m xs p ys e f room P =
      let v : Value = con P.c P.vs in
      (v, record { kinded = rw e at P.kinded; fits = P.may; few = omega (arith, P.small); deep = omega (arith, depth_size v, P.small) }, P.count, P.list)

-- in the loop: done is written, and the rows still to come with their kinds
pub record Mid {t row o₀ : List ℕ} (g : GivenRow t row o₀) (i n left : ℕ) (o ks : List ℕ) (todo : Rows) : Type 0 where
  pub good : Goods g.known.sig ks todo
  pub code_is : drop i row ≡ all_words (all_cells (kinds_of g.known.sig) todo ks) ++ g.rest
  pub within : i ≤ length row
  pub left_is : left ≡ count todo
  pub done : List ℕ
  pub size : length done ≡ n
  pub list : o ≡ done ++ drop n o₀
  pub room : n + place_words * places_count todo ≤ length o₀
  pub finish : (us : Values) → Takens g.known.sig ks todo us → (v : Value) × Taken g.known.sig g.kind g.r v × (code v ≡ done ++ codes us)

-- the same of some rows and kinds
abbrev pub Now : (List ℕ → Rows → Type 0) → Type 0
Now At = (ks : List ℕ) × (todo : Rows) × At ks todo

-- the cell in front
pub record Front (t row o₀ : List ℕ) (i n : ℕ) (o : List ℕ) : Type 0 where
  pub see : i + 3 ≤ length row
  pub whole : length o ≡ length o₀
  pub room : n + place_words ≤ length o
  pub place : (c : Cell) → c ≡ cell_at row i → kind_tag ≤ c.tag → GivenPlace t (c.tag - kind_tag) (number_of c.allowed) (from o n)

-- what is seen of it
pub seen : (row : List ℕ) (i : ℕ) (c : Cell) (tag v m : ℕ) (w : List ℕ) → tag < tag_limit → drop i row ≡ cell_code tag v m ++ w → c ≡ cell_at row i → (c.tag ≡ tag) × (number_of c.allowed ≡ m)
seen row i c tag v m w l e ec =
    let E : c ≡ cell_of tag v m = ec ∙ (cell_there row i tag v m w l e).cell in
    (ap (λ (z : Cell). z.tag) E, ap (λ (z : Cell). number_of z.allowed) E ∙ number_words m)

pub room_from : (o : List ℕ) (n : ℕ) → n + place_words ≤ length o → place_words ≤ length (from o n)
room_from o n h = rw (from_is o n) (omega (arith, length-drop n o))

module _ {t row o₀ : List ℕ} (g : GivenRow t row o₀) where
  pub start : Now (Mid g 0 0 1 o₀)
  start = (
    g.kind ∷ [],
    rcons g.r rnil,
    record {
      good = goods_cons g.good goods_nil;
      code_is = g.code_is ∙ ap (λ (l : List ℕ). l ++ g.rest) (sym (append-nil (row_code (kinds_of g.known.sig) g.r g.kind)));
      within = omega arith;
      left_is = refl;
      done = [];
      size = refl;
      list = refl;
      room = omega (arith, g.room);
      finish = λ us h. one us h;
    },
  )
    where
      one : (us : Values) → Takens g.known.sig (g.kind ∷ []) (rcons g.r rnil) us → (v : Value) × Taken g.known.sig g.kind g.r v × (code v ≡ codes us)
      one us (takens_cons {v = v} h takens_nil) = (v, h, sym (append-nil (code v)))

  module _ (i n left : ℕ) (o : List ℕ) where
    whole_at : (ks : List ℕ) (todo : Rows) → Mid g i n left o ks todo → length o ≡ length o₀
    whole_at ks todo m = ap length m.list ∙ simp (length-append, length-drop) (omega (arith, m.size, m.room))

    end_at : {ks : List ℕ} {todo : Rows} → Goods g.known.sig ks todo → Mid g i n left o ks todo → left ≡ 0 → Filled g n o
    end_at goods_nil m e =
        let (v, h, c) = m.finish vnil takens_nil in
        let d : code v ≡ m.done = c ∙ append-nil m.done in
        record { value = v; taken = h; count = sym m.size ∙ ap length (sym d) ∙ length_code v; list = m.list ∙ ap (λ (l : List ℕ). l ++ drop n o₀) (sym d) }
    end_at (goods_cons a b) m e = absurd (omega (arith, m.left_is))

    pub end : Now (Mid g i n left o) → left ≡ 0 → Filled g n o
    end m e = end_at m.2.good m.2 e

    -- a constructor that is named
    named_turn : (k c : ℕ) (xs ks js : List ℕ) (rs todo : Rows) (w m : ℕ) (ys : List ℕ) → arguments_at g.known.sig k c ≡ some js → Goods g.known.sig js rs → Goods g.known.sig ks todo
        → Mid g i n left o (k ∷ ks) (rcons (named xs c rs) todo) → w ≡ length js → m ≡ 1 → ys ≡ c ∷ drop 1 (from o n) → Now (Mid g (i + 3) (n + m) (left - 1 + w) (back o n ys))
    named_turn k c xs ks js rs todo w m ys e gs G M ew em ey =
        let K = kinds_of g.known.sig in
        let T = three_at row i _ _ _ _ M.code_is in
        let pl = places_behind rs todo in (
          js ++ ks,
          rs behind todo,
          record {
            good = goods_behind gs G;
            code_is = T.after ∙ ap (λ (l : List ℕ). l ++ g.rest) (ap (λ (is : List ℕ). all_words (all_cells K rs is) ++ all_words (all_cells K todo ks)) (args_same g.known.sig k c js e) ∙ sym (words_behind K ks todo gs));
            within = T.room;
            left_is = omega (arith, M.left_is, count_behind rs todo, count_goods gs, ew);
            done = M.done ++ (c ∷ []);
            size = simp length-append (omega (arith, M.size, em));
            list = part_back o₀ o M.done (c ∷ []) ys n m M.size M.list (rw em ey);
            room = omega (arith, M.room, em, pl);
            finish = λ us H.
                let (vs, ws, a, b, q) = split_values gs H in
                let (hk, hf, hl, hd) = together a in
                let (v, hv, cv) = M.finish (vcons (con c vs) ws) (takens_cons (record { kinded = of_kind e hk; fits = rw (eqb_self c) hf; few = omega arith; deep = omega arith }) b) in
                (v, hv, cv ∙ ap (λ (l : List ℕ). M.done ++ (c ∷ l)) (sym q) ∙ sym (append_assoc M.done (c ∷ []) (codes us)));
          },
        )

    -- a place that is not
    free_turn : (k : ℕ) (xs cs ks : List ℕ) (todo : Rows) (w m : ℕ) (v : Value) (ys : List ℕ) → Goods g.known.sig ks todo
        → Mid g i n left o (k ∷ ks) (rcons (free xs cs) todo) → Taken g.known.sig k (free xs cs) v → w ≡ 0 → m ≡ size v → ys ≡ code v ++ drop m (from o n) → Now (Mid g (i + 3) (n + m) (left - 1 + w) (back o n ys))
    free_turn k xs cs ks todo w m v ys G M h ew em ey =
        let T = three_at row i _ _ _ _ M.code_is in (
          ks,
          todo,
          record {
            good = G;
            code_is = T.after;
            within = T.room;
            left_is = omega (arith, M.left_is, ew);
            done = M.done ++ code v;
            size = simp length-append (omega (arith, M.size, em, length_code v));
            list = part_back o₀ o M.done (code v) ys n m M.size M.list ey;
            room = omega (arith, M.room, em, h.few);
            finish = λ us H.
                let (u, hu, cu) = M.finish (vcons v us) (takens_cons h H) in
                (u, hu, cu ∙ sym (append_assoc M.done (code v) (codes us)));
          },
        )

    tag_small : {k : ℕ} → k < g.known.decoded.n → kind_tag + k < tag_limit
    tag_small l = omega (arith, l, kinds_same g.known, (words_of g.known).few_kinds)

    front_at : {ks : List ℕ} {todo : Rows} → Goods g.known.sig ks todo → Mid g i n left o ks todo → 0 < left → Front t row o₀ i n o
    front_at goods_nil M h = absurd (omega (arith, M.left_is))
    front_at (goods_cons {k = k} (good_named {c = c} {js = js} l e gs) G) M h =
        let T = three_at row i _ _ _ _ M.code_is in
        let w = whole_at _ _ M in
        record { see = T.room; whole = w; room = omega (arith, M.room, w); place = λ x ex z. absurd (omega (arith, z, (seen row i x c _ _ _ (omega (arith, l)) M.code_is ex).0, l)) }
    front_at (goods_cons {k = k} (good_free {c = d} {cs = cs} a) G) M h =
        let T = three_at row i _ _ _ _ M.code_is in
        let w = whole_at _ _ M in
        let room : n + place_words ≤ length o = omega (arith, M.room, w) in
        record { see = T.room; whole = w; room = room; place = λ x ex z. let s = seen row i x (kind_tag + k) _ _ _ (tag_small (kind_here g.known k d cs a)) M.code_is ex in free_given g.known k d cs a _ _ (from o n) (omega (arith, s.0)) s.1 (room_from o n room) }

    turn_at : {ks : List ℕ} {todo : Rows} (x : Cell) (w m : ℕ) (ys : List ℕ) → Goods g.known.sig ks todo → Mid g i n left o ks todo → 0 < left → x ≡ cell_at row i → w ≡ opens_of t x.tag
        → (x.tag < kind_tag → (m ≡ 1) × (ys ≡ x.tag ∷ drop 1 (from o n)))
        → (kind_tag ≤ x.tag → (q : GivenPlace t (x.tag - kind_tag) (number_of x.allowed) (from o n)) → ValueWritten q m ys) → Now (Mid g (i + 3) (n + m) (left - 1 + w) (back o n ys))
    turn_at x w m ys goods_nil M h ex ew N U = absurd (omega (arith, M.left_is))
    turn_at x w m ys (goods_cons {k = k} {ks = ks} {rs = todo} (good_named {c = c} {xs = xs} {js = js} {rs = rs} l e gs) G) M h ex ew N U =
        let z : x.tag ≡ c = (seen row i x c _ _ _ (omega (arith, l)) M.code_is ex).0 in
        let K = known_head g.known k c js (omega (arith, l)) e in
        let q = N (omega (arith, z, K.tag)) in
        named_turn k c xs ks js rs todo w m ys e gs G M (ew ∙ ap (opens_of t) z ∙ rw (lt-ltb c kind_tag K.tag) (K.arity ∙ ap length (args_same g.known.sig k c js e))) q.0 (rw z at q.1)
    turn_at x w m ys (goods_cons {k = k} {ks = ks} {rs = todo} (good_free {c = d} {xs = xs} {cs = cs} a) G) M h ex ew N U =
        let s = seen row i x (kind_tag + k) _ _ _ (tag_small (kind_here g.known k d cs a)) M.code_is ex in
        let room : n + place_words ≤ length o = omega (arith, M.room, whole_at _ _ M) in
        let kk : x.tag - kind_tag ≡ k = omega (arith, s.0) in
        let z : kind_tag ≤ x.tag = omega (arith, s.0) in
        let (v, hv, em, ey) = free_taken g.known k d cs a _ _ m xs (from o n) ys kk s.1 (room_from o n room) (U z (free_given g.known k d cs a _ _ (from o n) kk s.1 (room_from o n room))) in
        free_turn k xs (d ∷ cs) ks todo w m v ys G M hv (ew ∙ ap (opens_of t) s.0 ∙ rw (le-ltb (kind_tag + k) kind_tag (omega arith))) em ey

    pub front : Now (Mid g i n left o) → 0 < left → Front t row o₀ i n o
    front m h = front_at m.2.good m.2 h

    -- all that the loop needs to go on
    pub few : Now (Mid g i n left o) → (length o ≡ length o₀) × (n + left ≤ length o₀)
    few m = (whole_at m.0 m.1 m.2, omega (arith, m.2.room, m.2.left_is, count_places m.1))

    pub turn : (x : Cell) (w m : ℕ) (ys : List ℕ) → Now (Mid g i n left o) → 0 < left → x ≡ cell_at row i → w ≡ opens_of t x.tag
        → (x.tag < kind_tag → (m ≡ 1) × (ys ≡ x.tag ∷ drop 1 (from o n)))
        → (kind_tag ≤ x.tag → (q : GivenPlace t (x.tag - kind_tag) (number_of x.allowed) (from o n)) → ValueWritten q m ys) → Now (Mid g (i + 3) (n + m) (left - 1 + w) (back o n ys))
    turn x w m ys M h ex ew N U = turn_at x w m ys M.2.good M.2 h ex ew N U
