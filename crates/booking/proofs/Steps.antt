-- A step over open values is a word of the walk over the values due.
use mathlib.Core.Path.{◌≡◌, refl, sym, ap, ◌∙◌, subst}
use mathlib.Core.List.{List, [], ◌∷◌, ◌++◌, map}
use mathlib.Core.Option.{some, none}
use mathlib.Core.Bool.{Bool, true, false, ◌&&◌, cond}
use Prim.Native.Nat.{ℕ, zero, suc, ◌+◌, ◌-◌, ◌*◌, ◌≤◌, ◌<◌}
use native.Mathlib.Omega.{arith}
use lib.Dec.{leb, eqb}
use lib.ListN.{length, take, drop, get_or}
use lib.Seq.{drop-cons}
use Rattle.signature.specs.Limits.{depth_limit}
use Rattle.signature.specs.Lists.{◌>>=◌, require, is_empty, All, also}
use Rattle.signature.specs.Signature.{Signature, arguments_at}
use Rattle.booking.specs.Walk.{View, walk_at, walk_word, ended, open_word, open_limit, left_in, deep_in, due_in, due_after, one_less, opened, step_by, Nested}
use Rattle.signature.proofs.ListFacts.{rest_of}
use Rattle.signature.proofs.Tests.{eqb_eq, eqb_ne, le_of, lt_of_not, leb_yes, ltb_yes, none≢some, some_inj}

-- what a view shows is the signature, of which n are the kinds
pub record Sees (sig : Signature) (n : ℕ) (v : View) : Type 0 where
  pub some_kind : 0 < n
  pub is : (k w : ℕ) → k < n → v.head k w ≡ true → arguments_at sig k w ≡ some (take (v.count w) (drop (v.place w) v.rows))
  pub is_not : (k w : ℕ) → k < n → v.head k w ≡ false → arguments_at sig k w ≡ none
  pub inside : (k w : ℕ) → k < n → v.head k w ≡ true → 0 < v.count w → v.place w + v.count w ≤ length v.rows
  pub below : (k w : ℕ) → k < n → v.head k w ≡ true → All (λ j. j < n) (take (v.count w) (drop (v.place w) v.rows))

module _ (rows : List ℕ) where
  -- the arguments of a head that was read
  due_opened : (p m d : ℕ) (os : List ℕ) → d < depth_limit → due_in rows (opened p m d os) ≡ map (λ k. (k, d)) (take m (drop p rows)) ++ due_in rows os
  due_opened p m d os h = go (eqb m 0) refl
    where
      left_back : left_in (open_word m d) ≡ m
      left_back = omega arith

      deep_back : deep_in (open_word m d) ≡ d
      deep_back = omega arith

      go : (b : Bool) → eqb m 0 ≡ b → due_in rows (cond b os (p ∷ (open_word m d ∷ os))) ≡ map (λ k. (k, d)) (take m (drop p rows)) ++ due_in rows os
      go true e = rw (eqb_eq m 0 e)
      go false e = rw (left_back, deep_back)

  -- the next argument and the others
  taken_first : (p l : ℕ) → p < length rows → 1 ≤ l → take l (drop p rows) ≡ get_or rows p 0 ∷ take (l - 1) (drop (suc p) rows)
  taken_first p zero h m = absurd (omega arith)
  taken_first p (suc l) h m = let e : suc l - 1 ≡ l = omega arith in ap (λ us. take (suc l) us) (drop-cons rows p 0 h) ∙ (rw e)

  due_first : (p x : ℕ) (os : List ℕ) → p < length rows → depth_limit ≤ x → due_in rows (p ∷ (x ∷ os)) ≡ (get_or rows p 0, deep_in x) ∷ due_in rows (one_less (p ∷ (x ∷ os)))
  due_first p x os h l = ap (λ us. map (λ k. (k, deep_in x)) us ++ due_in rows os) (taken_first p (left_in x) h (omega arith)) ∙ ap (λ us. (get_or rows p 0, deep_in x) ∷ us) (go (leb (left_in x) 1) refl)
    where
      one : left_in x ≤ 1 → left_in x - 1 ≡ 0
      one m = omega arith

      less_left : left_in (x - depth_limit) ≡ left_in x - 1
      less_left = omega arith

      less_deep : deep_in (x - depth_limit) ≡ deep_in x
      less_deep = omega arith

      go : (b : Bool) → leb (left_in x) 1 ≡ b → map (λ k. (k, deep_in x)) (take (left_in x - 1) (drop (suc p) rows)) ++ due_in rows os ≡ due_in rows (cond b os (suc p ∷ ((x - depth_limit) ∷ os)))
      go true e = rw (one (le_of (left_in x) 1 e))
      go false e = rw (less_left, less_deep)

  module _ (n : ℕ) where
    nested_opened : (p m d : ℕ) (os : List ℕ) → d < depth_limit → (0 < m → p + m ≤ length rows) → All (λ k. k < n) (take m (drop p rows)) → length os + 2 * suc d ≤ open_limit → Nested rows n os → Nested rows n (opened p m d os)
    nested_opened p m d os h l a r s = go (eqb m 0) refl
      where
        left_back : left_in (open_word m d) ≡ m
        left_back = omega arith

        deep_back : deep_in (open_word m d) ≡ d
        deep_back = omega arith

        go : (b : Bool) → eqb m 0 ≡ b → Nested rows n (cond b os (p ∷ (open_word m d ∷ os)))
        go true e = s
        go false e = let z : m ≡ 0 → ⊥ = eqb_ne m 0 e in rw (left_back, deep_back) (omega arith, l (omega arith), a, r, s)

    nested_less : (p x : ℕ) (os : List ℕ) → Nested rows n (p ∷ (x ∷ os)) → Nested rows n (one_less (p ∷ (x ∷ os))) × (length (one_less (p ∷ (x ∷ os))) + 2 * deep_in x ≤ open_limit)
    nested_less p x os (h, l, a, r, s) = go (leb (left_in x) 1) refl
      where
        less_left : left_in (x - depth_limit) ≡ left_in x - 1
        less_left = omega arith

        less_deep : deep_in (x - depth_limit) ≡ deep_in x
        less_deep = omega arith

        go : (b : Bool) → leb (left_in x) 1 ≡ b → Nested rows n (cond b os (suc p ∷ ((x - depth_limit) ∷ os))) × (length (cond b os (suc p ∷ ((x - depth_limit) ∷ os))) + 2 * deep_in x ≤ open_limit)
        go true e = (s, omega arith)
        go false e =
            let m : 1 < left_in x = lt_of_not (left_in x) 1 e in
            let b : All (λ k. k < n) (get_or rows p 0 ∷ take (left_in x - 1) (drop (suc p) rows)) = subst (All (λ k. k < n)) (taken_first p (left_in x) (omega arith) (omega arith)) a in
            (rw (less_left, less_deep) (omega arith, omega arith, rest_of b, r, s), omega arith)

    pub first_kind : (p x : ℕ) (os : List ℕ) → Nested rows n (p ∷ (x ∷ os)) → (p < length rows) × (get_or rows p 0 < n)
    first_kind p x os (h, l, a, r, s) =
        let b : All (λ k. k < n) (get_or rows p 0 ∷ take (left_in x - 1) (drop (suc p) rows)) = subst (All (λ k. k < n)) (taken_first p (left_in x) (omega arith) (omega arith)) a in
        (omega arith, first b)
      where
        first : {k : ℕ} {ks : List ℕ} → All (λ k. k < n) (k ∷ ks) → k < n
        first (also k q r) = q

    -- nothing is due where nothing is open
    pub ended_open : (os : List ℕ) → Nested rows n os → ended (some (due_in rows os)) ≡ is_empty os
    ended_open [] a = refl
    ended_open (p ∷ []) a = absurd a
    ended_open (p ∷ (x ∷ os)) a = ap (λ xs. ended (some xs)) (due_first p x os (first_kind p x os a).0 a.0)

    -- one word has room, for each depth has one open value at most
    pub room : (p x : ℕ) (os : List ℕ) → Nested rows n (p ∷ (x ∷ os)) → (deep_in x ≡ 0 → ⊥) → 2 + length (p ∷ (x ∷ os)) ≤ open_limit
    room p x os (h, l, a, r, s) z = omega arith

module _ (sig : Signature) (n : ℕ) (v : View) (s : Sees sig n v) where
  at_head : (k d w : ℕ) (os : List ℕ) → k < n → d ≤ depth_limit
      → walk_at sig k d w (due_in v.rows os) ≡ ((require (leb 1 d && v.head k w) >>= λ u. some (opened (v.place w) (v.count w) (d - 1) os)) >>= λ qs. some (due_in v.rows qs))
  at_head k zero w os h l = refl
  at_head k (suc d) w os h l = go (v.head k w) refl
    where
      e : suc d - 1 ≡ d
      e = omega arith

      one : leb 1 (suc d) ≡ true
      one = leb_yes 1 (suc d) (omega arith)

      go : (b : Bool) → v.head k w ≡ b → walk_at sig k (suc d) w (due_in v.rows os) ≡ ((require (leb 1 (suc d) && b) >>= λ u. some (opened (v.place w) (v.count w) (suc d - 1) os)) >>= λ qs. some (due_in v.rows qs))
      go false q = rw (one, s.is_not k w h q)
      go true q = rw (one, s.is k w h q, e) (ap some (sym (due_opened v.rows (v.place w) (v.count w) d os (omega arith))))

  head_kept : (k d w : ℕ) (os qs : List ℕ) → k < n → d ≤ depth_limit → Nested v.rows n os → length os + 2 * d ≤ open_limit
      → (require (leb 1 d && v.head k w) >>= λ u. some (opened (v.place w) (v.count w) (d - 1) os)) ≡ some qs → Nested v.rows n qs
  head_kept k zero w os qs h l a r e = none≢some e
  head_kept k (suc d) w os qs h l a r e = go (v.head k w) refl e
    where
      less : suc d - 1 ≡ d
      less = omega arith

      one : leb 1 (suc d) ≡ true
      one = leb_yes 1 (suc d) (omega arith)

      go : (b : Bool) → v.head k w ≡ b → (require (leb 1 (suc d) && b) >>= λ u. some (opened (v.place w) (v.count w) (suc d - 1) os)) ≡ some qs → Nested v.rows n qs
      go false q f = none≢some (rw one at f)
      go true q f =
          subst (Nested v.rows n) (some_inj _ qs (rw one at f)) (rw less (nested_opened v.rows n (v.place w) (v.count w) d os (omega arith) (s.inside k w h q) (s.below k w h q) (omega arith) a))

  pub step_walks : (i w : ℕ) (os : List ℕ) → Nested v.rows n os → walk_word sig (due_after v.rows i os) w ≡ (step_by v i os w >>= λ qs. some (due_in v.rows qs))
  step_walks zero w os a = at_head 0 depth_limit w [] s.some_kind (omega arith)
  step_walks (suc i) w [] a = refl
  step_walks (suc i) w (p ∷ []) a = absurd a
  step_walks (suc i) w (p ∷ (x ∷ os)) a =
      let (h, k) = first_kind v.rows n p x os a in
      ap (λ xs. walk_word sig xs w) (due_first v.rows p x os h a.0) ∙ (rw (leb_yes depth_limit x a.0, ltb_yes p (length v.rows) h) (at_head (get_or v.rows p 0) (deep_in x) w (one_less (p ∷ (x ∷ os))) k (omega arith)))

  pub step_kept : (i w : ℕ) (os qs : List ℕ) → Nested v.rows n os → step_by v i os w ≡ some qs → Nested v.rows n qs
  step_kept zero w os qs a e = head_kept 0 depth_limit w [] qs s.some_kind (omega arith) tt (omega arith) e
  step_kept (suc i) w [] qs a e = none≢some e
  step_kept (suc i) w (p ∷ []) qs a e = absurd a
  step_kept (suc i) w (p ∷ (x ∷ os)) qs a e =
      let (h, k) = first_kind v.rows n p x os a in
      let (b, r) = nested_less v.rows n p x os a in
      head_kept (get_or v.rows p 0) (deep_in x) w (one_less (p ∷ (x ∷ os))) qs k (omega arith) b r (rw (leb_yes depth_limit x a.0, ltb_yes p (length v.rows) h) at e)
