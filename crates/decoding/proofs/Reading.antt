-- Reading the rows one after the other: their words, their kinds' order, their highest argument kind.
use Rattle.std.specs.Prelude.{None}
use mathlib.Core.Path.{◌≡◌, refl, sym, ap, ap₂, ◌∙◌, subst}
use mathlib.Core.Logic.{inl, inr}
use mathlib.Core.List.{List, [], ◌∷◌, ◌++◌, append_assoc}
use mathlib.Core.Option.{none, some}
use mathlib.Core.Bool.{Bool, true, false, cond, not, ◌&&◌}
use Prim.Native.Nat.{ℕ, suc, ◌+◌, ◌-◌, ◌*◌, ◌≤◌, ◌<◌}
use native.Mathlib.Nat.{zero-add, add-zero}
use native.Mathlib.Omega.{arith}
use lib.ListN.{length, drop}
use lib.Seq.{drop-cons}
use lib.Dec.{eqb, ltb}
use Rattle.signature.specs.Limits.{constructor_limit}
use Rattle.signature.specs.Read.{read_constructors, count_kinds}
use Rattle.signature.specs.Signature.{Signature, Constructor}
use Rattle.signature.specs.Decoded.{stride, kinds_at, kind_stride, kind_of, first_of, count_of}
use Rattle.decoding.specs.Decoding.{declares_number, row, rows, below, kinds_below, plain, Highest, RowRead, Arities, next_kinds, kinds_or_0, HeadNoted, Noted, Reading, Barred, Unlawful, led_by}
use Rattle.signature.proofs.Tests.{eqb_eq, eqb_ne, none≢some, some_inj, bind_some}
use Rattle.signature.proofs.Counting.{counted_more}
use Rattle.decoding.proofs.Rows.{all_more, rows_same, rows_more, arities_more}
use Rattle.decoding.proofs.Ordering.{Follows, due_more, due_refused, next_few, next_below, next_grows, noted_same, noted_more}

pub number_few : (b : Bool) (x : ℕ) → x ≡ cond b 1 0 → x ≤ 1
number_few true x e = omega arith
number_few false x e = omega arith

module _ (w t : List ℕ) (c place kinds most numbers : ℕ) (h : Reading w t c place kinds most numbers) (lc : c < constructor_limit) (u : List ℕ) where
  module _ (words : ℕ) (r : RowRead w place t c u words) where
    abbrev d : Constructor
    d = row u c

    read_more : (m : ℕ) → read_constructors (c + suc m) (drop 1 w) ≡ led_by (rows t 0 c ++ (d ∷ [])) (read_constructors m (drop (place + words) w))
    read_more m = rows_more w t u place c words m r (h.read (suc m))

    joined : (ahead : Signature) → (rows t 0 c ++ (d ∷ [])) ++ ahead ≡ rows t 0 c ++ (d ∷ ahead)
    joined ahead = append_assoc (rows t 0 c) (d ∷ []) ahead

    pub next_wrong : (x : ℕ) → x ≡ kind_of u c → None ≡ next_kinds x kinds → Barred w c
    next_wrong x ex ey j sig f =
        let (ds, e₁, e₂) = bind_some (read_constructors j (drop (place + words) w)) (λ ds. some ((rows t 0 c ++ (d ∷ [])) ++ ds)) sig (sym (read_more j) ∙ f) in
        let e : sig ≡ rows t 0 c ++ (d ∷ ds) = sym (some_inj ((rows t 0 c ++ (d ∷ [])) ++ ds) sig e₂) ∙ joined ds in
        due_refused kinds d ds (ap (λ v. next_kinds v kinds) (sym ex) ∙ sym ey) ∙ ap kinds_or_0 (sym (ap count_kinds e ∙ h.due (d ∷ ds)))

    module _ (v : List ℕ) (x y k : ℕ) (ex : x ≡ kind_of u c) (f' : Follows x kinds y) (ek : k ≡ x) (g' : HeadNoted u k c kinds v) where
      g : HeadNoted u d.kind c kinds v
      g = subst (λ z. HeadNoted u z c kinds v) (ek ∙ ex) g'

      follows : Follows d.kind kinds y
      follows = subst (λ z. Follows z kinds y) ex f'

      arities_u : Arities u (c + 1)
      arities_u = arities_more w t u place c words r h.arities

      rows_v : rows v 0 (c + 1) ≡ rows t 0 c ++ (d ∷ [])
      rows_v = rows_same u v kinds_at (c + 1) g.rows_same (omega arith) arities_u ∙ counted_more (λ j. row u j) 0 c ∙ ap₂ (λ xs j. xs ++ (row u j ∷ [])) (rows_same t u (stride * c) c r.before (omega arith) h.arities) (zero-add c)

      ahead_v : (ahead : Signature) → rows v 0 (c + 1) ++ ahead ≡ rows t 0 c ++ (d ∷ ahead)
      ahead_v ahead = ap (λ z. z ++ ahead) rows_v ∙ joined ahead

      first_u : (j : ℕ) → first_of u j ≡ first_of t j
      first_u j = r.behind (kinds_at + kind_stride * j) (omega arith)

      count_u : (j : ℕ) → count_of u j ≡ count_of t j
      count_u j = r.behind (kinds_at + kind_stride * j + 1) (omega arith)

      last : Follows d.kind kinds y → (j : ℕ) → suc j ≡ y → first_of v j + count_of v j ≡ c + 1
      last (inl (p, e)) j q =
          let z : j ≡ d.kind = omega arith in
          let (a, b) = g.old (λ i. omega arith) in
          let s : first_of t d.kind + count_of t d.kind ≡ c = h.last d.kind p in
          rw z (omega (arith, first_u d.kind, count_u d.kind))
      last (inr (p, m, e)) j q =
          let z : j ≡ d.kind = omega arith in
          let (a, b) = g.new p in
          rw z (omega arith)

      each : (i : ℕ) → i < c + 1 → kind_of v i < y
      each i l = go (eqb i c) refl
        where
          go : (b : Bool) → eqb i c ≡ b → kind_of v i < y
          go true q = rw (eqb_eq i c q) (omega (arith, g.rows_same (stride * c) (omega arith), next_below d.kind kinds y follows))
          go false q =
              let z : ¬ (i ≡ c) = eqb_ne i c q in
              omega (arith, g.rows_same (stride * i) (omega arith), r.before (stride * i) (omega arith), h.each i (omega arith), next_grows d.kind kinds y follows)

      highest : (top : ℕ) → Highest most d.args top → (j : ℕ) → 0 < j → ltb top j ≡ kinds_below j (rows v 0 (c + 1))
      highest top e j l = e j ∙ ap (λ z. z && below j d.args) (h.highest j l) ∙ sym (ap (kinds_below j) rows_v ∙ all_more (λ i. below j i.args) (rows t 0 c) d)

      bare : (number : ℕ) → number ≡ cond (declares_number u c) 1 0 → numbers + number ≡ 0 → plain (rows v 0 (c + 1)) ≡ true
      bare number e z = ap plain rows_v ∙ all_more (λ i. not i.number) (rows t 0 c) d ∙ go (declares_number u c) refl
        where
          go : (b : Bool) → declares_number u c ≡ b → (plain (rows t 0 c) && not (declares_number u c)) ≡ true
          go true q = absurd (let y : number ≡ 1 = e ∙ (rw q) in omega arith)
          go false q = rw (q, h.bare (omega arith))

      pub next_read : (top number : ℕ) → Highest most d.args top → number ≡ cond (declares_number u c) 1 0 → Reading w v (c + 1) (place + words) y top (numbers + number)
      next_read top number e f = record {
        long = g.long ∙ r.long ∙ h.long;
        within = r.within;
        few_kinds = next_few d.kind kinds y follows h.few_kinds;
        some_kind = λ z. omega (arith, next_below d.kind kinds y follows);
        few_numbers = omega (arith, h.few_numbers, number_few (declares_number u c) number f);
        arities = λ j l. omega (arith, g.rows_same (stride * j + 1) (omega arith), arities_u j l);
        read = λ m. let q : c + 1 + m ≡ c + suc m = omega arith in ap (λ z. read_constructors z (drop 1 w)) q ∙ read_more m ∙ ap (λ z. led_by z (read_constructors m (drop (place + words) w))) (sym rows_v);
        due = λ ahead. ap count_kinds (ahead_v ahead) ∙ h.due (d ∷ ahead) ∙ due_more kinds y d ahead follows;
        noted = λ ahead. subst (λ z. Noted z ahead (c + 1) y v) (sym (ahead_v ahead)) (noted_more (rows t 0 c ++ (d ∷ ahead)) d ahead c kinds u v (noted_same (rows t 0 c ++ (d ∷ ahead)) (d ∷ ahead) c kinds t u r.behind (h.noted (d ∷ ahead))) g y follows);
        last = last follows;
        each = each;
        highest = highest top e;
        bare = bare number f;
      }

-- the end
pub all_barred : (w : List ℕ) (c n : ℕ) → c < n → Barred w c → Unlawful w n
all_barred w c n l h sig f =
    let q : c + suc (n - suc c) ≡ n = omega arith in
    h (n - suc c) sig (ap (λ j. read_constructors j (drop 1 w)) q ∙ f)

module _ (w t : List ℕ) (c n place kinds most numbers : ℕ) (h : Reading w t c place kinds most numbers) (same : c ≡ n) where
  whole : read_constructors n (drop 1 w) ≡ led_by (rows t 0 c) (read_constructors 0 (drop place w))
  whole = ap (λ j. read_constructors j (drop 1 w)) (sym same ∙ sym (add-zero c)) ∙ h.read 0

  pub all_short : ¬ (place ≡ length w) → Unlawful w n
  all_short ne sig f = none≢some (sym left ∙ f)
    where
      left : read_constructors n (drop 1 w) ≡ none
      left = whole ∙ rw (drop-cons w place 0 (omega (arith, h.within)))
