-- Cursors of rows that are moved, and rows that are chosen by their cells.
use mathlib.Core.Path.{◌≡◌, refl, sym, ap, ap₂, ◌∙◌}
use mathlib.Core.List.{List, [], ◌∷◌}
use mathlib.Core.Bool.{Bool, true, false, cond, ◌&&◌, ◌||◌, or-true, or-false}
use Prim.Native.Nat.{ℕ, ◌+◌, ◌-◌, ◌*◌, ◌/◌, ◌%◌, ◌^◌, ◌≤◌, ◌<◌}
use native.Mathlib.Omega.{arith}
use borrow.Author.Tests.{le-ltb}
use lib.Dec.{eqb}
use lib.ListN.{length, get_or, set}
use lib.Seq.{get_or-set_same, get_or-set_other}
use Rattle.signature.proofs.Tests.{eqb_eq, eqb_ne, eqb_no, eqb_self}
use Rattle.sets.specs.Heads.{number_of}
use Rattle.sets.specs.Set.{bit, set_limit, Lowest}
use Rattle.rowset.specs.Limits.{row_limit}
use Rattle.rowset.specs.Member.{member, in_word}
use Rattle.rowset.proofs.MemberLaws.{member_is, below_none}
use Rattle.rowset.proofs.WordLaws.{Done, not_yet, in_word_by, in_word_is, in_word_below, in_word_above, eqb_at, gone, Left, gone_none, empty_in, still, low_in, among, in_member, in_set, among_none, words_grow, bits_turn, bits_end, words_turn, words_end}
use Rattle.cell.specs.Cell.{cell_width}
use Rattle.cell.specs.declared.cell.Cell.{Cell}
use Rattle.meeting.specs.Part.{same_cell}
use Rattle.meeting.specs.Descent.{Moved, Passable, Chosen, WordChosen}

-- cursors

moved_one : (cur : List ℕ) (r n : ℕ) → r < length cur → Moved (λ q. eqb q r) (λ q. n) cur (set cur r (get_or cur r 0 + n))
moved_one cur r n l q _ = go (eqb q r) refl
  where
    go : (b : Bool) → eqb q r ≡ b → get_or (set cur r (get_or cur r 0 + n)) q 0 ≡ cond b (get_or cur q 0 + n) (get_or cur q 0)
    go true e = let i : q ≡ r = eqb_eq q r e in rw i (get_or-set_same cur r (get_or cur r 0 + n) 0 l)
    go false e = get_or-set_other cur r q (get_or cur r 0 + n) 0 (eqb_ne q r e)

pub moved_turn : (base word left b next n : ℕ) (cur₀ cur : List ℕ) → base + b < length cur → Left base word left → Lowest set_limit left b → ((j : ℕ) → bit next j ≡ cond (eqb j b) 0 (bit left j)) → Moved (gone base word left) (λ q. n) cur₀ cur → Moved (gone base word next) (λ q. n) cur₀ (set cur (base + b) (get_or cur (base + b) 0 + n))
moved_turn base word left b next n cur₀ cur l h low without k = bits_turn (λ q v. v + n) (λ q. get_or cur₀ q 0) base word left b next (λ q. get_or cur q 0) (λ q. get_or (set cur (base + b) (get_or cur (base + b) 0 + n)) q 0) h low without k (moved_one cur (base + b) n l)

pub moved_end : (base word left n : ℕ) (cur₀ cur : List ℕ) → left ≤ 0 → Moved (gone base word left) (λ q. n) cur₀ cur → Moved (in_word base word) (λ q. n) cur₀ cur
moved_end base word left n cur₀ cur = bits_end (λ q v. v + n) (λ q. get_or cur₀ q 0) base word left (λ q. get_or cur q 0)

-- the lowest of what is left can be moved
pub can_pass : (base word left b : ℕ) (cur₀ cur : List ℕ) → base + set_limit ≤ row_limit → Passable (in_word base word) cur₀ → Left base word left → Moved (gone base word left) (λ q. cell_width) cur₀ cur → Lowest set_limit left b → get_or cur (base + b) 0 + cell_width < 2 ^ 64
can_pass base word left b cur₀ cur l p h k low =
    let m : base + b < row_limit = omega (arith, low.small) in
    let i : in_word base left (base + b) ≡ true = low_in base left b low in
    let same : get_or cur (base + b) 0 ≡ get_or cur₀ (base + b) 0 = not_yet (λ q v. v + cell_width) (λ q. get_or cur₀ q 0) (gone base word left) (λ q. get_or cur q 0) (base + b) m k (still base word left (base + b) i) in
    omega (arith, p (base + b) m (h (base + b) i))

-- so can the rows of the next word
pub can_pass_word : (s : List ℕ) (w : ℕ) (cur₀ cur : List ℕ) → Passable (member s) cur₀ → Moved (among s w) (λ q. cell_width) cur₀ cur → Passable (in_word (set_limit * w) (get_or s w 0)) cur
can_pass_word s w cur₀ cur p k q l e =
    let same : get_or cur q 0 ≡ get_or cur₀ q 0 = not_yet (λ q v. v + cell_width) (λ q. get_or cur₀ q 0) (among s w) (λ q. get_or cur q 0) q l k ((words_grow s w).apart q e) in
    omega (arith, p q l (in_set s w q e))

-- rows that pass a test

abbrev pub no_row : ℕ → Bool
no_row q = false

-- a row is chosen too where f says so
abbrev pub or_test : (ℕ → Bool) → ℕ → Bool → Bool
or_test f q x = x || f q

-- of the rows of a word that are done, those that f chooses are in v
abbrev pub Chose : (ℕ → Bool) → ℕ → ℕ → ℕ → ℕ → Type 0
Chose f base word left v = Done (gone base word left) (or_test f) no_row (in_word base v)

pub none_chosen : (f : ℕ → Bool) (base word : ℕ) → Chose f base word word 0
none_chosen f base word q l = empty_in base q ∙ sym (ap (λ (b : Bool). cond b (f q) false) (gone_none base word q))

one_chosen : (f : ℕ → Bool) (base b v next : ℕ) (on : Bool) → b < set_limit → on ≡ f (base + b) → ((j : ℕ) → bit next j ≡ cond (on && eqb j b) 1 (bit v j)) → Done (λ q. eqb q (base + b)) (or_test f) (in_word base v) (in_word base next)
one_chosen f base b v next on s e h q _ =
    in_word_by base q next (new (eqb q (base + b)))
    (λ l m. ap (λ (n : ℕ). eqb n 1) (h (q - base)) ∙ ap (λ (z : Bool). eqb (cond (on && z) 1 (bit v (q - base))) 1) (eqb_at base q b l) ∙ go (eqb q (base + b)) refl on e (bit v (q - base)) (in_word_is base q v l m))
    (λ l. ap new (eqb_no q (base + b) (λ i. omega arith)) ∙ in_word_below base q v l)
    (λ l. ap new (eqb_no q (base + b) (λ i. omega arith)) ∙ in_word_above base q v l)
  where
    new : Bool → Bool
    new z = cond z (in_word base v q || f q) (in_word base v q)

    go : (z : Bool) → eqb q (base + b) ≡ z → (y : Bool) → y ≡ f (base + b) → (n : ℕ) → in_word base v q ≡ eqb n 1 → eqb (cond (y && z) 1 n) 1 ≡ new z
    go true i true k n m = sym (ap (λ (x : Bool). in_word base v q || x) (ap f (eqb_eq q (base + b) i) ∙ sym k) ∙ or-true (in_word base v q))
    go true i false k n m = sym m ∙ sym (ap (λ (x : Bool). in_word base v q || x) (ap f (eqb_eq q (base + b) i) ∙ sym k) ∙ or-false (in_word base v q))
    go false i true k n m = sym m
    go false i false k n m = sym m

-- those of a set that are chosen, out of none
chosen_of : (f p : ℕ → Bool) (new : ℕ → Bool) → Done p (or_test f) no_row new → (q : ℕ) → q < row_limit → new q ≡ (p q && f q)
chosen_of f p new h q l = h q l ∙ go (p q)
  where
    go : (b : Bool) → cond b (f q) false ≡ (b && f q)
    go true = refl
    go false = refl

pub chosen_turn : (f : ℕ → Bool) (base word left b next v u : ℕ) (on : Bool) → Left base word left → Lowest set_limit left b → ((j : ℕ) → bit next j ≡ cond (eqb j b) 0 (bit left j)) → Chose f base word left v → on ≡ f (base + b) → ((j : ℕ) → bit u j ≡ cond (on && eqb j b) 1 (bit v j)) → Chose f base word next u
chosen_turn f base word left b next v u on h low without k e g = bits_turn (or_test f) no_row base word left b next (in_word base v) (in_word base u) h low without k (one_chosen f base b v u on low.small e g)

pub chosen_end : (f : ℕ → Bool) (base word left v : ℕ) → left ≤ 0 → Chose f base word left v → WordChosen f base word v
chosen_end f base word left v l h = chosen_of f (in_word base word) (in_word base v) (bits_end (or_test f) no_row base word left (in_word base v) l h)

-- of the rows of the first w words, those that f chooses are in x
abbrev pub ChoseWords : (ℕ → Bool) → List ℕ → ℕ → List ℕ → Type 0
ChoseWords f s w x = Done (among s w) (or_test f) no_row (member x)

-- a word of them is written
word_chosen : (f : ℕ → Bool) (s x : List ℕ) (w v : ℕ) → w < length x → ChoseWords f s w x → WordChosen f (set_limit * w) (get_or s w 0) v → Done (in_word (set_limit * w) (get_or s w 0)) (or_test f) (member x) (member (set x w v))
word_chosen f s x w v n h c q l = go (eqb (q / 64) w) refl
  where
    r : Bool
    r = in_word (64 * w) (get_or s w 0) q

    chosen : (b : Bool) → (b && f q) ≡ cond b (false || f q) false
    chosen true = refl
    chosen false = refl

    go : (b : Bool) → eqb (q / 64) w ≡ b → member (set x w v) q ≡ cond r (member x q || f q) (member x q)
    go true e =
        let i : q / 64 ≡ w = eqb_eq (q / 64) w e in
        let j : q - 64 * w ≡ q % 64 = omega arith in
        let before : member x q ≡ false = h q l ∙ ap (λ (b : Bool). cond (b && member s q) (f q) false) (le-ltb q (64 * w) (omega arith)) in
        sym (member_is (set x w v) q)
        ∙ ap₂ (λ (u m : ℕ). eqb (bit u m) 1) (ap (λ (u : ℕ). get_or (set x w v) u 0) i ∙ get_or-set_same x w v 0 n) (sym j)
        ∙ sym (in_word_is (64 * w) q v (omega arith) (omega arith))
        ∙ c q l
        ∙ chosen r
        ∙ ap (λ (b : Bool). cond r (b || f q) b) (sym before)
    go false e =
        sym (member_is (set x w v) q)
        ∙ ap (λ (u : ℕ). eqb (bit u (q % 64)) 1) (get_or-set_other x w (q / 64) v 0 (eqb_ne (q / 64) w e))
        ∙ member_is x q
        ∙ sym (ap (λ (b : Bool). cond b (member x q || f q) (member x q)) (in_member s w q ∙ ap (λ (b : Bool). b && member s q) e))

pub words_none : (f : ℕ → Bool) (s : List ℕ) → ChoseWords f s 0 (0 ∷ 0 ∷ 0 ∷ 0 ∷ [])
words_none f s q l = below_none q l ∙ le-ltb q 0 (omega arith) ∙ sym (ap (λ (b : Bool). cond b (f q) false) (among_none s q))

pub words_chosen : (f : ℕ → Bool) (s x : List ℕ) (w v : ℕ) → w < length x → ChoseWords f s w x → WordChosen f (set_limit * w) (get_or s w 0) v → ChoseWords f s (w + 1) (set x w v)
words_chosen f s x w v n h c = words_turn (or_test f) no_row s w (member x) (member (set x w v)) h (word_chosen f s x w v n h c)

pub all_chosen : (f : ℕ → Bool) (s x : List ℕ) (w : ℕ) → 4 ≤ w → ChoseWords f s w x → Chosen f s x
all_chosen f s x w l h = chosen_of f (member s) (member x) (words_end (or_test f) no_row s w (member x) l h)

-- cells

pub tags_differ : (c d : Cell) → ¬ (c.tag ≡ d.tag) → eqb c.tag d.tag ≡ same_cell c d
tags_differ c d n = eqb_no c.tag d.tag n ∙ sym (ap (λ (b : Bool). b && eqb (number_of c.allowed) (number_of d.allowed)) (eqb_no c.tag d.tag n))

lows_differ : (c d : Cell) → c.allowed.low < 2 ^ 64 → d.allowed.low < 2 ^ 64 → ¬ (c.allowed.low ≡ d.allowed.low) → false ≡ same_cell c d
lows_differ c d l m n =
    sym (ap (λ (b : Bool). eqb c.tag d.tag && b) (eqb_no (number_of c.allowed) (number_of d.allowed) (λ e. n (omega arith))) ∙ go (eqb c.tag d.tag))
  where
    go : (b : Bool) → (b && false) ≡ false
    go true = refl
    go false = refl

highs_tell : (c d : Cell) → c.tag ≡ d.tag → c.allowed.low ≡ d.allowed.low → eqb c.allowed.high d.allowed.high ≡ same_cell c d
highs_tell c d e f = go (eqb c.allowed.high d.allowed.high) refl ∙ sym (ap (λ (b : Bool). b && eqb (number_of c.allowed) (number_of d.allowed)) (ap (λ (n : ℕ). eqb n d.tag) e ∙ eqb_self d.tag))
  where
    go : (b : Bool) → eqb c.allowed.high d.allowed.high ≡ b → b ≡ eqb (number_of c.allowed) (number_of d.allowed)
    go true h = let i : number_of c.allowed ≡ number_of d.allowed = omega (arith, eqb_eq c.allowed.high d.allowed.high h) in sym (ap (λ (n : ℕ). eqb n (number_of d.allowed)) i ∙ eqb_self (number_of d.allowed))
    go false h = sym (eqb_no (number_of c.allowed) (number_of d.allowed) (λ i. eqb_ne c.allowed.high d.allowed.high h (omega arith)))

pub heads_tell : (c d : Cell) → c.allowed.low < 2 ^ 64 → d.allowed.low < 2 ^ 64 → c.tag ≡ d.tag → (eqb c.allowed.low d.allowed.low && eqb c.allowed.high d.allowed.high) ≡ same_cell c d
heads_tell c d l m e = go (eqb c.allowed.low d.allowed.low) refl
  where
    go : (b : Bool) → eqb c.allowed.low d.allowed.low ≡ b → (b && eqb c.allowed.high d.allowed.high) ≡ same_cell c d
    go true f = highs_tell c d e (eqb_eq c.allowed.low d.allowed.low f)
    go false f = lows_differ c d l m (eqb_ne c.allowed.low d.allowed.low f)
