-- The sizes that are lowered until they are settled are those that six rounds find.
use mathlib.Core.Path.{◌≡◌, refl, sym, ap, ap₂, ◌∙◌}
use mathlib.Core.List.{List, [], ◌∷◌}
use mathlib.Core.Bool.{Bool, true, false, cond}
use Prim.Native.Nat.{ℕ, zero, suc, ◌+◌, ◌-◌, ◌≤◌, ◌<◌, min}
use native.Mathlib.Nat.{zero-add}
use native.Mathlib.Decide.{dec_le}
use native.Mathlib.Omega.{arith}
use lib.ListN.{length, get_or, set, length-set, replicate, length-replicate, get_or-eq_default}
use lib.Seq.{ext_get_or, get_or-set_same, get_or-set_other}
use lib.Dec.{eqb}
use Rattle.signature.specs.Limits.{kind_limit, over_small, small_size}
use Rattle.signature.specs.Lists.{count_up, first, keep, memb}
use Rattle.signature.specs.Read.{best, least, total}
use Rattle.signature.specs.Signature.{Signature, numbers_from, arguments}
use Rattle.signature.specs.Decoded.{kind_of, first_of, count_of}
use Rattle.decoding.specs.Decoding.{row, rows, Sizes, KindFit, lowest, lowest_in, fewest, row_words, span, size_by, Settled, Under, sum, SizeLowered, SizesLowered, Greatest, Spanned, sizes_after}
use Rattle.signature.proofs.Tests.{eqb_eq, eqb_ne, eqb_no, true≢false}
use Rattle.signature.proofs.Heads.{memb_count}
use Rattle.signature.proofs.ListFacts.{at_count, at_getD, at_out, getD_rep}
use Rattle.signature.proofs.Counting.{counted_length, getD_counted}

-- the fewest words of some rows
pub fewest_most : (f : ℕ → ℕ) (cs : List ℕ) → fewest f cs ≤ over_small
fewest_most f [] = omega arith
fewest_most f (c ∷ cs) = omega (arith, fewest_most f cs)

pub fewest_some : (g : ℕ → ℕ) (cs : List ℕ) → 1 ≤ fewest (λ c. suc (g c)) cs
fewest_some g [] = omega arith
fewest_some g (c ∷ cs) = omega (arith, fewest_some g cs)

fewest_under : (f g : ℕ → ℕ) → ((c : ℕ) → f c ≤ g c) → (cs : List ℕ) → fewest f cs ≤ fewest g cs
fewest_under f g h [] = omega arith
fewest_under f g h (c ∷ cs) = omega (arith, h c, fewest_under f g h cs)

-- lower sizes make lower values
module _ (a b : List ℕ) (long : length a ≡ length b) where
  total_under : Under a b → (ks : List ℕ) → total a ks ≤ total b ks
  total_under h [] = omega arith
  total_under h (k ∷ ks) = go (dec_le (suc k) (length a)) (total_under h ks)
    where
      go : Dec (suc k ≤ length a) → total a ks ≤ total b ks → total a (k ∷ ks) ≤ total b (k ∷ ks)
      go (yes l) m = rw (at_getD a k l, at_getD b k (omega arith)) (omega (arith, h k))
      go (no l) m = rw (at_out a k (omega arith), at_out b k (omega arith)) (omega arith)

  size_under : (t : List ℕ) (k : ℕ) → Under a b → size_by t a k ≤ size_by t b k
  size_under t k h = fewest_under (row_words t a) (row_words t b) (λ c. omega (arith, total_under h (row t c).args)) (span t k)

  -- sizes of so few words that they are the same one round before
  module _ (d : ℕ) (few : d < over_small) (same : (j : ℕ) → j < length a → get_or a j 0 ≤ d → get_or b j 0 ≤ get_or a j 0) where
    total_early : (ks : List ℕ) → total a ks ≤ d → total b ks ≤ total a ks
    total_early [] m = omega arith
    total_early (k ∷ ks) m = go (dec_le (suc k) (length a)) m (total_early ks)
      where
        go : Dec (suc k ≤ length a) → total a (k ∷ ks) ≤ d → (total a ks ≤ d → total b ks ≤ total a ks) → total b (k ∷ ks) ≤ total a (k ∷ ks)
        go (yes l) e f =
            let e' : get_or a k 0 + total a ks ≤ d = rw (at_getD a k l) at e in
            rw (at_getD a k l, at_getD b k (omega arith)) (omega (arith, same k l (omega arith), f (omega arith)))
        go (no l) e f =
            let e' : over_small ≤ d = rw (at_out a k (omega arith)) at e in
            absurd (omega arith)

    best_early : (sig : Signature) (k : ℕ) → best sig a k ≤ suc d → best sig b k ≤ best sig a k
    best_early [] k m = omega arith
    best_early (c ∷ cs) k m = go (eqb c.kind k) refl m (best_early cs k)
      where
        go : (e : Bool) → eqb c.kind k ≡ e → best (c ∷ cs) a k ≤ suc d → (best cs a k ≤ suc d → best cs b k ≤ best cs a k) → best (c ∷ cs) b k ≤ best (c ∷ cs) a k
        go true q p f =
            let p' : min (suc (total a c.args)) (best cs a k) ≤ suc d = rw q at p in
            rw q (on (dec_le (suc (total a c.args)) (suc d)) (dec_le (best cs a k) (suc d)) p')
          where
            on : Dec (suc (total a c.args) ≤ suc d) → Dec (best cs a k ≤ suc d) → min (suc (total a c.args)) (best cs a k) ≤ suc d → min (suc (total b c.args)) (best cs b k) ≤ min (suc (total a c.args)) (best cs a k)
            on (yes x) (yes y) z = omega (arith, total_early c.args (omega arith), f y)
            on (yes x) (no y) z = omega (arith, total_early c.args (omega arith))
            on (no x) (yes y) z = omega (arith, f y)
            on (no x) (no y) z = absurd (omega arith)
        go false q p f = rw q (f (rw q at p))

-- the rounds
module _ (sig : Signature) where
  abbrev after : ℕ → List ℕ
  after d = least d sig kind_limit

  after_long : (d : ℕ) → length (after d) ≡ kind_limit
  after_long zero = counted_length (λ k. over_small) 0 kind_limit
  after_long (suc d) = counted_length (λ k. min over_small (best sig (after d) k)) 0 kind_limit

  after_first : (k : ℕ) → k < kind_limit → get_or (after 0) k 0 ≡ over_small
  after_first k l = getD_counted (λ j. over_small) 0 kind_limit k l

  after_next : (d k : ℕ) → k < kind_limit → get_or (after (suc d)) k 0 ≡ min over_small (best sig (after d) k)
  after_next d k l = getD_counted (λ j. min over_small (best sig (after d) j)) 0 kind_limit k l ∙ ap (λ z. min over_small (best sig (after d) z)) (zero-add k)

  after_out : (d k : ℕ) → kind_limit ≤ k → get_or (after d) k 0 ≡ 0
  after_out d k l = get_or-eq_default (after d) 0 {n = k} (omega (arith, after_long d))

  after_most : (d k : ℕ) → get_or (after d) k 0 ≤ over_small
  after_most d k = go d (dec_le kind_limit k)
    where
      go : (d : ℕ) → Dec (kind_limit ≤ k) → get_or (after d) k 0 ≤ over_small
      go d (yes l) = omega (arith, after_out d k l)
      go zero (no l) = omega (arith, after_first k (omega arith))
      go (suc d) (no l) = omega (arith, after_next d k (omega arith))

  best_some : (cs : Signature) (s : List ℕ) (k : ℕ) → 1 ≤ best cs s k
  best_some [] s k = omega arith
  best_some (c ∷ cs) s k = go (eqb c.kind k) refl (best_some cs s k)
    where
      go : (b : Bool) → eqb c.kind k ≡ b → 1 ≤ best cs s k → 1 ≤ best (c ∷ cs) s k
      go true q l = rw q (omega arith)
      go false q l = rw q l

  -- a size of at most d words is found in d rounds
  found : (d k : ℕ) → d ≤ small_size → k < kind_limit → get_or (after (suc d)) k 0 ≤ d → get_or (after d) k 0 ≤ get_or (after (suc d)) k 0
  found zero k m l e = absurd (omega (arith, after_next 0 k l, best_some sig (after 0) k))
  found (suc d) k m l e =
      let p : best sig (after (suc d)) k ≤ suc d = omega (arith, after_next (suc d) k l) in
      let q = best_early (after (suc d)) (after d) (after_long (suc d) ∙ sym (after_long d)) d (omega arith) (λ j i r. found d j (omega arith) (omega (arith, after_long (suc d))) r) sig k p in
      omega (arith, after_next (suc d) k l, after_next d k l, q)

  pub six : (k : ℕ) → k < kind_limit → get_or (after small_size) k 0 ≤ get_or (after (suc small_size)) k 0
  six k l = go (dec_le (get_or (after (suc small_size)) k 0) small_size)
    where
      go : Dec (get_or (after (suc small_size)) k 0 ≤ small_size) → get_or (after small_size) k 0 ≤ get_or (after (suc small_size)) k 0
      go (yes m) = found small_size k (omega arith) l m
      go (no m) = omega (arith, after_most small_size k)

-- the rows of a kind
best_numbers : (t s : List ℕ) (k c m : ℕ) → best (rows t c m) s k ≡ fewest (row_words t s) (numbers_from c (rows t c m) k)
best_numbers t s k c zero = refl
best_numbers t s k c (suc m) = go (eqb (kind_of t c) k) refl (best_numbers t s k (suc c) m)
  where
    go : (b : Bool) → eqb (kind_of t c) k ≡ b → best (rows t (suc c) m) s k ≡ fewest (row_words t s) (numbers_from (suc c) (rows t (suc c) m) k) → best (rows t c (suc m)) s k ≡ fewest (row_words t s) (numbers_from c (rows t c (suc m)) k)
    go true q e = rw q (ap (λ z. min (row_words t s c) z) e)
    go false q e = rw q e

numbers_below : (t : List ℕ) (k x c m : ℕ) → memb x (numbers_from c (rows t c m) k) ≡ true → x < c + m
numbers_below t k x c zero e = true≢false (sym e)
numbers_below t k x c (suc m) e = go (eqb (kind_of t c) k) (eqb x c) refl refl e (numbers_below t k x (suc c) m)
  where
    go : (a b : Bool) → eqb (kind_of t c) k ≡ a → eqb x c ≡ b → memb x (numbers_from c (rows t c (suc m)) k) ≡ true → (memb x (numbers_from (suc c) (rows t (suc c) m) k) ≡ true → x < suc c + m) → x < c + suc m
    go true true p q r f = omega (arith, eqb_eq x c q)
    go true false p q r f = omega (arith, f (rw (p, q) at r))
    go false b p q r f = omega (arith, f (rw p at r))

keep_count : (f g : ℕ → Bool) (i m : ℕ) → ((j : ℕ) → i ≤ j → j < i + m → f j ≡ g j) → keep f (count_up i m) ≡ keep g (count_up i m)
keep_count f g i zero e = refl
keep_count f g i (suc m) e = ap₂ (λ b ys. cond b (i ∷ ys) ys) (e i (omega arith) (omega arith)) (keep_count f g (suc i) m (λ j l k. e j (omega arith) (omega arith)))

module _ (t : List ℕ) (n kinds : ℕ) (h : Spanned t n kinds) where
  in_span : (k : ℕ) → k < kinds → (c : ℕ) → first_of t k ≤ c → c < first_of t k + count_of t k → c < n
  in_span k l c p q = omega (arith, numbers_below t k c 0 n (rw (h.together k l) (memb_count c (first_of t k) (count_of t k) p q)))

  pub kind_fit : (k : ℕ) → k < kinds → KindFit t k
  kind_fit k l c p q = let m : c < n = in_span k l c p q in (omega (arith, h.fit.few), h.fit.each c m)

  pub lowest_same : (s : List ℕ) (k : ℕ) → k < kinds → lowest_in t s k ≡ lowest (rows t 0 n) s k
  lowest_same s k l = ap first (keep_count (λ c. eqb (row_words t s c) (get_or s k 0)) (λ c. eqb (suc (total s (arguments (rows t 0 n) c))) (get_or s k 0)) (first_of t k) (count_of t k) (λ c p q. ap (λ z. eqb (suc (total s z)) (get_or s k 0)) (sym (row_arguments c (in_span k l c p q)))) ∙ ap (keep (λ c. eqb (suc (total s (arguments (rows t 0 n) c))) (get_or s k 0))) (sym (h.together k l)))
    where
      row_arguments : (c : ℕ) → c < n → arguments (rows t 0 n) c ≡ (row t c).args
      row_arguments c m = rw (at_count (λ d. row t d) 0 n c m, zero-add c)

  size_best : (s : List ℕ) (k : ℕ) → k < kinds → size_by t s k ≡ best (rows t 0 n) s k
  size_best s k l = ap (fewest (row_words t s)) (sym (h.together k l)) ∙ sym (best_numbers t s k 0 n)

  best_beyond : (s : List ℕ) (k : ℕ) → kinds ≤ k → best (rows t 0 n) s k ≡ over_small
  best_beyond s k l = best_numbers t s k 0 n ∙ ap (fewest (row_words t s)) (h.beyond k l)

  module _ (a : List ℕ) (g : Greatest t kinds a) where
    long : length a ≡ kind_limit
    long = g.sizes.long

    under : (d : ℕ) → Under a (after (rows t 0 n) d)
    under zero k = go (dec_le kind_limit k)
      where
        go : Dec (kind_limit ≤ k) → get_or a k 0 ≤ get_or (after (rows t 0 n) 0) k 0
        go (yes l) = omega (arith, get_or-eq_default a 0 {n = k} (omega (arith, long)))
        go (no l) = omega (arith, after_first (rows t 0 n) k (omega arith), g.sizes.each k)
    under (suc d) k = go (dec_le kind_limit k) (dec_le kinds k) (under d)
      where
        go : Dec (kind_limit ≤ k) → Dec (kinds ≤ k) → Under a (after (rows t 0 n) d) → get_or a k 0 ≤ get_or (after (rows t 0 n) (suc d)) k 0
        go (yes l) x u = omega (arith, get_or-eq_default a 0 {n = k} (omega (arith, long)))
        go (no l) (yes m) u = omega (arith, after_next (rows t 0 n) d k (omega arith), best_beyond (after (rows t 0 n) d) k m, g.sizes.each k)
        go (no l) (no m) u = omega (arith, after_next (rows t 0 n) d k (omega arith), g.sizes.each k, g.settled k (omega arith), size_under a (after (rows t 0 n) d) (long ∙ sym (after_long (rows t 0 n) d)) t k u, size_best (after (rows t 0 n) d) k (omega arith))

    over : Under (after (rows t 0 n) small_size) a
    over = g.over (after (rows t 0 n) small_size) (record { long = after_long (rows t 0 n) small_size; each = after_most (rows t 0 n) small_size }) (λ k l. omega (arith, h.few, size_best (after (rows t 0 n) small_size) k l, six (rows t 0 n) k (omega (arith, h.few)), after_next (rows t 0 n) small_size k (omega (arith, h.few))))

    pub greatest_least : a ≡ sizes_after small_size (rows t 0 n)
    unfolding sizes_after
    greatest_least = ext_get_or 0 a (after (rows t 0 n) small_size) (long ∙ sym (after_long (rows t 0 n) small_size)) (λ i l. omega (arith, under small_size i, over i))

-- lowering one size, and all
sum_less : (xs : List ℕ) (k v : ℕ) → k < length xs → v < get_or xs k 0 → sum (set xs k v) < sum xs
sum_less [] k v l m = absurd (omega arith)
sum_less (x ∷ xs) zero v l m = omega arith
sum_less (x ∷ xs) (suc k) v l m = omega (arith, sum_less xs k v (omega arith) m)

set_sizes : (a : List ℕ) (k v : ℕ) → v ≤ over_small → Sizes a → Sizes (set a k v)
set_sizes a k v l h = record { long = length-set a k v ∙ h.long; each = each }
  where
    each : (j : ℕ) → get_or (set a k v) j 0 ≤ over_small
    each j = go (eqb j k) refl (dec_le (suc k) (length a))
      where
        go : (b : Bool) → eqb j k ≡ b → Dec (suc k ≤ length a) → get_or (set a k v) j 0 ≤ over_small
        go true q (yes m) = rw (eqb_eq j k q) (omega (arith, get_or-set_same a k v 0 m))
        go true q (no m) = let e : j ≡ k = eqb_eq j k q in omega (arith, get_or-eq_default (set a k v) 0 {n = j} (omega (arith, length-set a k v)))
        go false q m = omega (arith, get_or-set_other a k j v 0 (eqb_ne j k q), h.each j)

set_over : (t : List ℕ) (kinds k : ℕ) (g a : List ℕ) → k < kinds → kinds ≤ kind_limit → length g ≡ kind_limit → length a ≡ kind_limit → Settled t kinds g → Under g a → Under g (set a k (size_by t a k))
set_over t kinds k g a l m lg la h u j = go (eqb j k) refl
  where
    go : (b : Bool) → eqb j k ≡ b → get_or g j 0 ≤ get_or (set a k (size_by t a k)) j 0
    go true q = rw (eqb_eq j k q) (omega (arith, get_or-set_same a k (size_by t a k) 0 (omega arith), h k l, size_under g a (lg ∙ sym la) t k u))
    go false q = omega (arith, get_or-set_other a k j (size_by t a k) 0 (eqb_ne j k q), u j)

pub size_not : (t : List ℕ) (k : ℕ) (a : List ℕ) → get_or a k 0 ≤ size_by t a k → SizeLowered t k a a 0
size_not t k a l = record { once = omega arith; kept = λ e. (refl, l); lowered = λ e. absurd (omega arith) }

pub size_one : (t : List ℕ) (k : ℕ) (a : List ℕ) → get_or a k 0 ≤ 1 → SizeLowered t k a a 0
size_one t k a l = size_not t k a (omega (arith, fewest_some (λ c. total a (row t c).args) (span t k)))

pub size_less : (t : List ℕ) (k : ℕ) (a : List ℕ) (v : ℕ) → v ≡ size_by t a k → v < get_or a k 0 → SizeLowered t k a (set a k v) 1
size_less t k a v e l = record { once = omega arith; kept = λ z. absurd (omega arith); lowered = λ z. (ap (set a k) e, omega arith) }

module _ (t : List ℕ) (kinds k : ℕ) (a b c : List ℕ) (r s : ℕ) (p : 0 < k) (most : kinds ≤ kind_limit) (h : SizesLowered t kinds k a b r) (g : SizeLowered t (k - 1) b c s) where
  in_kinds : k - 1 < kinds
  in_kinds = omega (arith, h.few)

  sum_not_more : sum b ≤ sum a
  sum_not_more = go (dec_le r 0)
    where
      go : Dec (r ≤ 0) → sum b ≤ sum a
      go (yes l) = omega (arith, ap sum (h.kept (omega arith)).0)
      go (no l) = omega (arith, h.fewer (omega arith))

  more_kept : s ≡ 0 → SizesLowered t kinds (k - 1) a c (r + s)
  more_kept e = rw (e, (g.kept e).0) (record { sizes = h.sizes; few = omega (arith, h.few); kept = λ z. ((h.kept (omega arith)).0, settled (omega arith)); fewer = λ z. h.fewer (omega arith); over = h.over })
    where
      settled : r ≡ 0 → (j : ℕ) → k - 1 ≤ j → j < kinds → get_or b j 0 ≤ size_by t b j
      settled z j l m = go (eqb j (k - 1)) refl
        where
          go : (x : Bool) → eqb j (k - 1) ≡ x → get_or b j 0 ≤ size_by t b j
          go true q = rw (eqb_eq j (k - 1) q) (g.kept e).1
          go false q = let y : ¬ (j ≡ k - 1) = eqb_ne j (k - 1) q in (h.kept z).1 j (omega arith) m

  more_lowered : 0 < s → SizesLowered t kinds (k - 1) a c (r + s)
  more_lowered e = rw (g.lowered e).0 (record { sizes = set_sizes b (k - 1) (size_by t b (k - 1)) (fewest_most (row_words t b) (span t (k - 1))) h.sizes; few = omega (arith, h.few, g.once); kept = λ z. absurd (omega arith); fewer = λ z. omega (arith, sum_not_more, sum_less b (k - 1) (size_by t b (k - 1)) (omega (arith, h.sizes.long, in_kinds)) (g.lowered e).1); over = λ x l y u. set_over t kinds (k - 1) x b in_kinds most l h.sizes.long y (h.over x l y u) })

  pub lowering_more : SizesLowered t kinds (k - 1) a c (r + s)
  lowering_more = go (dec_le s 0)
    where
      go : Dec (s ≤ 0) → SizesLowered t kinds (k - 1) a c (r + s)
      go (yes l) = more_kept (omega arith)
      go (no l) = more_lowered (omega arith)

-- lowering until no size is lowered
pub record Lowering (t : List ℕ) (kinds : ℕ) (a : List ℕ) : Type 0 where
  pub sizes : Sizes a
  pub over : (g : List ℕ) → Sizes g → Settled t kinds g → Under g a

pub lowering_start : (t : List ℕ) (kinds : ℕ) → Lowering t kinds (replicate kind_limit over_small)
lowering_start t kinds = record { sizes = record { long = length-replicate kind_limit over_small; each = each }; over = λ g s h k. go g s k (dec_le kind_limit k) }
  where
    each : (k : ℕ) → get_or (replicate kind_limit over_small) k 0 ≤ over_small
    each k = on (dec_le kind_limit k)
      where
        on : Dec (kind_limit ≤ k) → get_or (replicate kind_limit over_small) k 0 ≤ over_small
        on (yes l) = omega (arith, get_or-eq_default (replicate kind_limit over_small) 0 {n = k} (omega (arith, length-replicate kind_limit over_small)))
        on (no l) = omega (arith, getD_rep kind_limit k over_small 0 (omega arith))

    go : (g : List ℕ) → Sizes g → (k : ℕ) → Dec (kind_limit ≤ k) → get_or g k 0 ≤ get_or (replicate kind_limit over_small) k 0
    go g s k (yes l) = omega (arith, get_or-eq_default g 0 {n = k} (omega (arith, s.long)))
    go g s k (no l) = omega (arith, s.each k, getD_rep kind_limit k over_small 0 (omega arith))

pub lowering_next : (t : List ℕ) (kinds : ℕ) (a b : List ℕ) (r : ℕ) → Lowering t kinds a → SizesLowered t kinds 0 a b r → Lowering t kinds b
lowering_next t kinds a b r h g = record { sizes = g.sizes; over = λ x s y. g.over x s.long y (h.over x s y) }

pub lowering_end : (t : List ℕ) (kinds : ℕ) (a b : List ℕ) (r : ℕ) → Lowering t kinds a → SizesLowered t kinds 0 a b r → r ≡ 0 → Greatest t kinds b
lowering_end t kinds a b r h g e = record { sizes = g.sizes; settled = λ k l. (g.kept e).1 k (omega arith) l; over = (lowering_next t kinds a b r h g).over }

-- rows of no kind
pub numbers_none : (t : List ℕ) (k c m : ℕ) → ((j : ℕ) → c ≤ j → j < c + m → ¬ (kind_of t j ≡ k)) → numbers_from c (rows t c m) k ≡ []
numbers_none t k c zero h = refl
numbers_none t k c (suc m) h = rw (eqb_no (kind_of t c) k (h c (omega arith) (omega arith))) (numbers_none t k (suc c) m (λ j l p. h j (omega arith) (omega arith)))
