-- A table with that layout: reading it, and what its words are.
use mathlib.Core.Path.{◌≡◌, refl, ap, ap₂, sym, ◌∙◌, subst}
use mathlib.Core.List.{List, [], ◌∷◌, ◌++◌, append_assoc}
use mathlib.Core.Option.{Option, none, some}
use mathlib.Core.Bool.{◌&&◌, true, false}
use Prim.Native.Nat.{ℕ, ◌+◌, ◌-◌, ◌*◌, ◌≤◌}
use native.Mathlib.Omega.{arith}
use lib.Dec.{eqb, leb}
use lib.ListN.{length, take, drop, replicate, length-append, length-replicate, take-append-drop}
use lib.Seq.{length-take-le}
use Rattle.signature.specs.Lists.{All, all, require, is_some, ◌>>=◌}
use Rattle.signature.specs.Signature.{Signature}
use Rattle.signature.proofs.Booleans.{and_left, and_right}
use Rattle.signature.proofs.ListFacts.{take_exact}
use Rattle.signature.proofs.Tests.{bind_some, require_some, none≢some, le_of, leb_yes, same_some, some_inj, true≢false}
use Rattle.pattern.specs.Limits.{pattern_limit}
use Rattle.row.specs.Admitted.{refusal_of_pattern}
use Rattle.table.specs.Limits.{limits, table_length, rules_length, rule_length}
use Rattle.table.specs.Rule.{Rule, Rises, rules_words, rules_end, default_of, table_words, stored, total_weight}
use Rattle.table.specs.Sound.{read_rules, sound, no_shared}
use Rattle.table.proofs.SoundFacts.{Were, rules_were}
use Rattle.table.proofs.TableFacts.{read_back, words_few}
use Rattle.store.specs.Laid.{laid, Holds}

-- the words behind the rules
abbrev pub zeros_left : List Rule → ℕ
zeros_left rs = table_length limits - rules_end rs

abbrev pub behind : List ℕ → List Rule → List ℕ
behind table rs = replicate (zeros_left rs) 0 ++ drop (table_length limits) table

-- read

laid_of : (dft : ℕ) (rs : List Rule) (body tail : List ℕ) → length body ≡ (rules_length limits) → length rs ≤ limits.rules → read_rules (length rs) 0 body ≡ some rs → laid limits (length rs ∷ (dft ∷ (body ++ tail))) ≡ some rs
laid_of dft rs body tail n few e =
    let long : rules_length limits ≤ length (body ++ tail) = simp length-append (omega arith) in
    rw (leb_yes (rules_length limits) (length (body ++ tail)) long, leb_yes (length rs) limits.rules few, take_exact (rules_length limits) body tail n, e)

module _ {table : List ℕ} {rs : List Rule} (h : Holds limits table rs) where
  pub room : rules_end rs ≤ (table_length limits)
  room =
      let a : length (take (table_length limits) table) ≡ table_length limits = length-take-le (table_length limits) table h.long in
      let b : length (table_words limits (default_of table) rs) ≡ rules_end rs + zeros_left rs = simp (length-append, length-replicate) (omega arith) in
      omega (arith, ap length h.layout)

  pub is_stored : table ≡ length rs ∷ (default_of table ∷ (rules_words rs ++ behind table rs))
  is_stored = sym (take-append-drop (table_length limits) table) ∙ ap (λ (x : List ℕ). x ++ drop (table_length limits) table) h.layout ∙ ap (λ (x : List ℕ). length rs ∷ (default_of table ∷ x)) (append_assoc (rules_words rs) (replicate (zeros_left rs) 0) (drop (table_length limits) table))

  pub holds_laid : laid limits table ≡ some rs
  holds_laid =
      let r = room in
      let body = rules_words rs ++ replicate (zeros_left rs) 0 in
      let e : table ≡ length rs ∷ (default_of table ∷ (body ++ drop (table_length limits) table)) = sym (take-append-drop (table_length limits) table) ∙ ap (λ (x : List ℕ). x ++ drop (table_length limits) table) h.layout in
      ap (laid limits) e ∙ laid_of (default_of table) rs body (drop (table_length limits) table) (simp (length-append, length-replicate) (omega arith)) h.few (read_back (zeros_left rs) h.rises)

-- what was read

laid_parts : (n d : ℕ) (ws : List ℕ) (rs : List Rule) → (leb (rules_length limits) (length ws) && leb n limits.rules) ≡ true → Were n 0 (take (rules_length limits) ws) rs → Holds limits (n ∷ (d ∷ ws)) rs
laid_parts n d ws rs a (h, k, (z, x)) =
    let a₁ : rules_length limits ≤ length ws = le_of (rules_length limits) (length ws) (and_left (leb (rules_length limits) (length ws)) (leb n limits.rules) a) in
    let a₂ : n ≤ limits.rules = le_of n limits.rules (and_right (leb (rules_length limits) (length ws)) (leb n limits.rules) a) in
    let l : length (take (rules_length limits) ws) ≡ length (rules_words rs) + z = ap length x ∙ length-append (rules_words rs) (replicate z 0) ∙ ap (λ m. length (rules_words rs) + m) (length-replicate z 0) in
    let l' : length (take (rules_length limits) ws) ≡ rules_length limits = length-take-le (rules_length limits) ws a₁ in
    let z_is : z ≡ zeros_left rs = omega arith in
    record { long = omega arith; layout = ap₂ (λ y ys. y ∷ (d ∷ ys)) (sym k) (x ∙ ap (λ m. rules_words rs ++ replicate m 0) z_is); rises = h; few = omega arith }

pub laid_holds : (table : List ℕ) (rs : List Rule) → laid limits table ≡ some rs → Holds limits table rs
laid_holds [] rs e = none≢some e
laid_holds (n ∷ []) rs e = none≢some e
laid_holds (n ∷ (d ∷ ws)) rs e =
    let (u, e₁, f₁) = bind_some (require (leb (rules_length limits) (length ws) && leb n limits.rules)) _ rs e in
    laid_parts n d ws rs (require_some _ u e₁) (rules_were n 0 (take (rules_length limits) ws) rs f₁)

pub one_list : (table : List ℕ) (rs qs : List Rule) → Holds limits table rs → Holds limits table qs → rs ≡ qs
one_list table rs qs h g = same_some rs qs (laid limits table) (holds_laid h) (holds_laid g)

-- soundness is the layout and three tests

bind_bind : {A B C : Type 0} (m : Option A) (f : A → Option B) (g : B → Option C) → (m >>= λ a. f a >>= g) ≡ (m >>= f >>= g)
bind_bind none f g = refl
bind_bind (some a) f g = refl

pub sound_laid : (sig : Signature) (table : List ℕ) → sound limits sig table ≡ (laid limits table >>= λ rs. require (all (λ r. eqb (refusal_of_pattern sig r.pattern) 0) rs && leb (total_weight sig rs) limits.weight && no_shared sig rs) >>= λ u. some rs)
sound_laid sig [] = refl
sound_laid sig (n ∷ []) = refl
sound_laid sig (n ∷ (d ∷ ws)) = bind_bind (require (leb (rules_length limits) (length ws) && leb n limits.rules)) (λ u. read_rules n 0 (take (rules_length limits) ws)) _

pub sound_holds : (sig : Signature) (table : List ℕ) (rs : List Rule) → sound limits sig table ≡ some rs → Holds limits table rs
sound_holds sig table rs e =
    let (qs, e₁, f₁) = bind_some (laid limits table) _ rs (sym (sound_laid sig table) ∙ e) in
    let (u, e₂, f₂) = bind_some (require (all (λ r. eqb (refusal_of_pattern sig r.pattern) 0) qs && leb (total_weight sig qs) limits.weight && no_shared sig qs)) _ rs f₁ in
    subst (Holds limits table) (some_inj qs rs f₂) (laid_holds table qs e₁)

-- whether a table has that layout

pub is_laid : (table : List ℕ) → is_some (laid limits table) ≡ true → (rs : List Rule) × Holds limits table rs
is_laid table e = go (laid limits table) refl e
  where
    go : (o : Option (List Rule)) → laid limits table ≡ o → is_some o ≡ true → (rs : List Rule) × Holds limits table rs
    go none q f = true≢false (sym f)
    go (some rs) q f = (rs, laid_holds table rs q)

pub not_laid : (sig : Signature) (table : List ℕ) → is_some (laid limits table) ≡ false → sound limits sig table ≡ none
not_laid sig table e = sound_laid sig table ∙ go (laid limits table) _ e
  where
    go : (o : Option (List Rule)) (f : List Rule → Option (List Rule)) → is_some o ≡ false → (o >>= f) ≡ none
    go none f q = refl
    go (some rs) f q = true≢false q

-- stored

pub stored_holds : (lent : List ℕ) (rs : List Rule) → table_length limits ≤ length lent → Rises 0 rs → length rs ≤ limits.rules → All (λ r. length r.pattern ≤ pattern_limit) rs → (dft : ℕ) → Holds limits (stored limits dft rs lent) rs
stored_holds lent rs l h few short dft =
    let fits : length (rules_words rs) ≤ rule_length * length rs = words_few short in
    let n : length (table_words limits dft rs) ≡ table_length limits = simp (length-append, length-replicate) (omega arith) in
    record { long = omega (arith, length-append (table_words limits dft rs) (drop (table_length limits) lent)); layout = take_exact (table_length limits) (table_words limits dft rs) (drop (table_length limits) lent) n; rises = h; few = few }
