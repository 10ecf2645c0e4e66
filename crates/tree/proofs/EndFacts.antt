-- The ends of a split: they rise to the last level, and a level's lines are those of the first end not below it.
use mathlib.Core.Path.{◌≡◌, refl, ap, ap₂, ◌∙◌, sym, subst}
use mathlib.Core.List.{List, [], ◌∷◌, map}
use mathlib.Core.Option.{some}
use mathlib.Core.Bool.{Bool, true, false, not, cond}
use Prim.Native.Nat.{ℕ, zero, suc, ◌+◌, ◌-◌, ◌≤◌, ◌<◌}
use native.Mathlib.Decide.{dec_le}
use native.Mathlib.Nat.{add-zero, add-suc, suc-add}
use native.Mathlib.Omega.{arith}
use lib.Dec.{eqb, leb}
use lib.ListN.{get_elem?}
use Rattle.signature.specs.Limits.{level_base, last_level}
use Rattle.signature.specs.Lists.{All, none_left, also, any, count_up, first, keep, memb, ◌>>=◌}
use Rattle.signature.specs.Signature.{Signature, heads, numbers, levels, level_of, is_number_kind}
use Rattle.signature.proofs.Booleans.{and_left, and_right, or_right}
use Rattle.signature.proofs.Heads.{count_memb}
use Rattle.signature.proofs.ListFacts.{all_with, in_all}
use Rattle.signature.proofs.Members.{memb_keep}
use Rattle.signature.proofs.Tests.{true≢false, leb_yes, leb_no, eqb_self, eqb_eq}
use Rattle.row.specs.Row.{Rows, rnil, rcons, named, free}
use Rattle.tree.specs.Run.{rise_to, place_of}
use Rattle.tree.specs.Tree.{Line, Trees, split, test, inserts, taken, after, holds, just_one, is_end, branches, branch}

-- the lines of two levels between which no line changes
not_just_one : (a b : Bool) → just_one a b ≡ false → a ≡ b
not_just_one true true e = refl
not_just_one true false e = true≢false e
not_just_one false true e = true≢false e
not_just_one false false e = refl

taken_same : (sig : Signature) (js : List ℕ) (c e : ℕ) (cells : Rows) → holds cells c ≡ holds cells e → taken sig js c cells ≡ taken sig js e cells
taken_same sig js c e rnil h = refl
taken_same sig js c e (rcons (named xs d rs) ss) h = rw h
taken_same sig js c e (rcons (free xs cs) ss) h = rw h

map_same : {A B : Type 0} (f g : A → B) {xs : List A} → All (λ x. f x ≡ g x) xs → map f xs ≡ map g xs
map_same f g none_left = refl
map_same f g (also x e h) = ap₂ (λ y ys. y ∷ ys) e (map_same f g h)

all_there : {A : Type 0} (xs : List A) → All (λ x. Unit {0}) xs
all_there xs = in_all xs (λ x i. tt)

module _ (sig : Signature) (js : List ℕ) (t : ℕ) (ls : List Line) where
  one_step : (v : ℕ) → is_end ls v ≡ false → map (after t (taken sig js v)) ls ≡ map (after t (taken sig js (suc v))) ls
  one_step v e =
      let changes : Line → Bool = λ l. just_one (holds l.cells v) (holds l.cells (suc v)) in
      map_same (after t (taken sig js v)) (after t (taken sig js (suc v))) (all_with changes (λ l u q. same l (not_just_one (holds l.cells v) (holds l.cells (suc v)) q)) (all_there ls) (or_right (eqb v (level_base + last_level)) (any changes ls) e))
    where
      same : (l : Line) → holds l.cells v ≡ holds l.cells (suc v) → after t (taken sig js v) l ≡ after t (taken sig js (suc v)) l
      same l h = ap (λ o. o >>= λ r. some (record { rule = l.rule; plan = l.plan; binds = inserts t r.0 l.binds; cells = r.1 })) (taken_same sig js v (suc v) l.cells h)

  steps : (n c : ℕ) → ((v : ℕ) → c ≤ v → v < c + n → is_end ls v ≡ false) → map (after t (taken sig js c)) ls ≡ map (after t (taken sig js (c + n))) ls
  steps zero c f = rw (add-zero c)
  steps (suc n) c f = one_step c (f c (omega arith) (omega arith)) ∙ steps n (suc c) (λ v a b. f v (omega arith) (omega arith)) ∙ ap (λ m. map (after t (taken sig js m)) ls) (suc-add c n ∙ sym (add-suc c n))

  pub one_interval : (c e : ℕ) → c ≤ e → ((v : ℕ) → c ≤ v → v < e → is_end ls v ≡ false) → map (after t (taken sig js c)) ls ≡ map (after t (taken sig js e)) ls
  one_interval c e l f =
      let q : c + (e - c) ≡ e = omega arith in
      steps (e - c) c (λ v a b. f v a (omega arith)) ∙ ap (λ m. map (after t (taken sig js m)) ls) q

-- the first end not below a level
pub record FirstEnd (f : ℕ → Bool) (es : List ℕ) (base c b : ℕ) : Type 0 where
  pub end : ℕ
  pub low : base ≤ c
  pub at : get_elem? es (place_of (c - base) (map (λ e. e - base) es)) ≡ some end
  pub above : c ≤ end
  pub none_between : (v : ℕ) → c ≤ v → b ≤ v → v < end → f v ≡ false

module _ (f : ℕ → Bool) (base c : ℕ) (low : base ≤ c) where
  first_more : (b : ℕ) (es : List ℕ) → base ≤ b → (x : Bool) → f b ≡ x → Dec (c ≤ b) → FirstEnd f es base c (suc b) → FirstEnd f (cond x (b ∷ es) es) base c b
  first_more b es h true p (yes m) r = record { end = b; low = low; at = rw (leb_yes (c - base) (b - base) (omega arith)); above = m; none_between = λ v a a' a''. absurd (omega arith) }
  first_more b es h true p (no m) r = record { end = r.end; low = low; at = rw (leb_no (c - base) (b - base) (omega arith)) r.at; above = r.above; none_between = λ v a a' a''. r.none_between v a (omega arith) a'' }
  first_more b es h false p d r = record { end = r.end; low = low; at = r.at; above = r.above; none_between = λ v a a' a''. between v a a' a'' (dec_le (suc b) v) }
    where
      between : (v : ℕ) → c ≤ v → b ≤ v → v < r.end → Dec (suc b ≤ v) → f v ≡ false
      between v a a' a'' (yes m) = r.none_between v a m a''
      between v a a' a'' (no m) = let q : v ≡ b = omega arith in ap f q ∙ p

  pub first_end : (n b : ℕ) → base ≤ b → f (b + n) ≡ true → c ≤ b + n → FirstEnd f (keep f (count_up b (suc n))) base c b
  first_end zero b h e l =
      let p : f b ≡ true = ap f (sym (add-zero b)) ∙ e in
      rw p (record { end = b; low = low; at = rw (leb_yes (c - base) (b - base) (omega arith)); above = omega arith; none_between = λ v a a' a''. absurd (omega arith) })
  first_end (suc n) b h e l = first_more b (keep f (count_up (suc b) (suc n))) h (f b) refl (dec_le c b) (first_end n (suc b) (omega arith) (ap f (suc-add b n ∙ sym (add-suc b n)) ∙ e) (omega arith))

-- ends that rise to the last
rise_cons : (last m e : ℕ) (es : List ℕ) → m ≤ e → rise_to last (suc e) es ≡ true → rise_to last m (e ∷ es) ≡ true
rise_cons last m e [] l h = true≢false (sym h)
rise_cons last m e (d ∷ es) l h = rw (leb_yes m e l) h

module _ (f : ℕ → Bool) (base : ℕ) where
  rises_more : (last m b : ℕ) (es : List ℕ) → base + m ≤ b → (x : Bool) → rise_to last (suc (b - base)) (map (λ e. e - base) es) ≡ true → rise_to last m (map (λ e. e - base) es) ≡ true → rise_to last m (map (λ e. e - base) (cond x (b ∷ es) es)) ≡ true
  rises_more last m b es l true h g = rise_cons last m (b - base) (map (λ e. e - base) es) (omega arith) h
  rises_more last m b es l false h g = g

  pub ends_rise : (n b m last : ℕ) → base + m ≤ b → b + n ≡ base + last → f (b + n) ≡ true → rise_to last m (map (λ e. e - base) (keep f (count_up b (suc n)))) ≡ true
  ends_rise zero b m last l q e =
      let p : f b ≡ true = ap f (sym (add-zero b)) ∙ e in
      let z : b - base ≡ last = omega arith in
      let k : m ≤ last = omega arith in
      rw (p, z, leb_yes m last k, eqb_self last)
  ends_rise (suc n) b m last l q e =
      let e' : f (suc b + n) ≡ true = ap f (suc-add b n ∙ sym (add-suc b n)) ∙ e in
      rises_more last m b (keep f (count_up (suc b) (suc n))) l (f b) (ends_rise n (suc b) (suc (b - base)) last (omega arith) (omega arith) e') (ends_rise n (suc b) m last (omega arith) (omega arith) e')

  back_more : (b : ℕ) (es : List ℕ) → base ≤ b → (x : Bool) → map (λ e. base + e) (map (λ e. e - base) es) ≡ es → map (λ e. base + e) (map (λ e. e - base) (cond x (b ∷ es) es)) ≡ cond x (b ∷ es) es
  back_more b es l true h = let q : base + (b - base) ≡ b = omega arith in ap₂ (λ y ys. y ∷ ys) q h
  back_more b es l false h = h

  -- as words, they are the ends as they were
  pub ends_back : (n b : ℕ) → base ≤ b → map (λ e. base + e) (map (λ e. e - base) (keep f (count_up b n))) ≡ keep f (count_up b n)
  ends_back zero b l = refl
  ends_back (suc n) b l = back_more b (keep f (count_up (suc b) n)) l (f b) (ends_back n (suc b) (omega arith))

-- heads that count up from a base, the last of which is an end
module _ (f : ℕ → Bool) (base n : ℕ) (hs : List ℕ) (q : hs ≡ count_up base (suc n)) (e : f (base + n) ≡ true) where
  pub heads_end : (c : ℕ) → memb c hs ≡ true → FirstEnd f (keep f hs) base c base
  heads_end c m =
      let (h, l) = count_memb c base (suc n) (ap (memb c) (sym q) ∙ m) in
      subst (λ xs. FirstEnd f (keep f xs) base c base) (sym q) (first_end f base c h n base (omega arith) e (omega arith))

  pub heads_rise : rise_to n 0 (map (λ d. d - base) (keep f hs)) ≡ true
  heads_rise = subst (λ xs. rise_to n 0 (map (λ d. d - base) (keep f xs)) ≡ true) (sym q) (ends_rise f base n base 0 n (omega arith) refl e)

  pub heads_back : map (λ d. base + d) (map (λ d. d - base) (keep f hs)) ≡ keep f hs
  heads_back = subst (λ xs. map (λ d. base + d) (map (λ d. d - base) (keep f xs)) ≡ keep f xs) (sym q) (ends_back f base (suc n) base (omega arith))

-- a level that is not above the last has an end
pub end_at : (last m v : ℕ) (es : List ℕ) → rise_to last m es ≡ true → v ≤ last → (e : ℕ) × (get_elem? es (place_of v es) ≡ some e)
end_at last m v [] h l = true≢false (sym h)
end_at last m v (e ∷ []) h l = let q : e ≡ last = eqb_eq e last (and_right (leb m e) (eqb e last) h) in (e, rw (leb_yes v e (omega arith)))
end_at last m v (e ∷ (d ∷ es)) h l = go (leb v e) refl (end_at last (suc e) v (d ∷ es) (and_right (leb m e) (rise_to last (suc e) (d ∷ es)) h) l)
  where
    go : (x : Bool) → leb v e ≡ x → (a : ℕ) × (get_elem? (d ∷ es) (place_of v (d ∷ es)) ≡ some a) → (a : ℕ) × (get_elem? (e ∷ (d ∷ es)) (cond x 0 (suc (place_of v (d ∷ es)))) ≡ some a)
    go true p r = (e, refl)
    go false p r = r

-- the node over a column of either sort of kind, and its heads
module _ (sig : Signature) (k : ℕ) where
  pub number_heads : is_number_kind sig k ≡ true → heads sig k ≡ levels
  number_heads q = ap (λ b. cond b levels (numbers sig k)) q

  module _ (ls : List Line) where
    pub split_branches : is_number_kind sig k ≡ true → branches sig k ls ≡ keep (is_end ls) (heads sig k)
    split_branches q = ap (λ b. cond b (keep (is_end ls) (heads sig k)) (heads sig k)) q

    pub test_branches : is_number_kind sig k ≡ false → branches sig k ls ≡ heads sig k
    test_branches q = ap (λ b. cond b (keep (is_end ls) (heads sig k)) (heads sig k)) q

  module _ (es : List ℕ) (ts : Trees) where
    pub split_branch : is_number_kind sig k ≡ true → branch sig k es ts ≡ split (map level_of es) ts
    split_branch q = ap (λ b. cond b (split (map level_of es) ts) (test (first (heads sig k)) ts)) q

    pub test_branch : is_number_kind sig k ≡ false → branch sig k es ts ≡ test (first (heads sig k)) ts
    test_branch q = ap (λ b. cond b (split (map level_of es) ts) (test (first (heads sig k)) ts)) q

-- a head with a child is a head of the kind
pub branch_head : (sig : Signature) (k : ℕ) (ls : List Line) (c : ℕ) → memb c (branches sig k ls) ≡ true → memb c (heads sig k) ≡ true
branch_head sig k ls c e = go (is_number_kind sig k) e
  where
    go : (x : Bool) → memb c (cond x (keep (is_end ls) (heads sig k)) (heads sig k)) ≡ true → memb c (heads sig k) ≡ true
    go true h = and_left (memb c (heads sig k)) (is_end ls c) (sym (memb_keep (is_end ls) c (heads sig k)) ∙ h)
    go false h = h
