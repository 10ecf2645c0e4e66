-- Overlap does not depend on the order of the two patterns.
use mathlib.Core.Path.{◌≡◌, refl, ◌∙◌, ap₂, sym}
use mathlib.Core.List.{List, [], ◌∷◌, map, ◌++◌}
use mathlib.Core.Option.{Option, none, some}
use mathlib.Core.Bool.{Bool, ◌&&◌, not, ◌||◌}
use Prim.Native.Nat.{ℕ}
use lib.Dec.{eqb}
use Rattle.signature.specs.Lists.{any, is_some, require, memb, is_empty, keep, somes}
use Rattle.signature.specs.Signature.{Signature}
use Rattle.signature.proofs.Members.{any_append, any_map, some_both, some_when, meet_sym, somes_some, any_swap, any_ext}
use Rattle.signature.proofs.Tests.{eqb_sym}
use Rattle.pattern.specs.Pattern.{Pattern}
use Rattle.pattern.specs.Read.{read_pattern}
use Rattle.row.specs.Overlap.{overlap, shares, shared_by}
use Rattle.row.specs.Row.{each, Row, combine, named, combines, free, Rows, rnil, rcons, rows_plus}

any_each : {A B C : Type 0} (f : C → Bool) (g : A → B → C) (xs : List A) (ys : List B) → any f (each g xs ys) ≡ any (λ x. any (λ y. f (g x y)) ys) xs
any_each f g [] ys = refl
any_each f g (x ∷ xs) ys = any_append f (map (g x) ys) (each g xs ys) ∙ ap₂ ◌||◌ (any_map f (g x) ys) (any_each f g xs ys)

mutual
  pub combine_sym : (r s : Row) → is_some (combine r s) ≡ is_some (combine s r)
  combine_sym (named xs c rs) (named ys d ss) = some_both (require (eqb c d)) (combines rs ss) (λ u ts. named (xs ++ ys) c ts) ∙ ap₂ (λ a b. is_some (require a) && b) (eqb_sym c d) (combines_sym rs ss) ∙ sym (some_both (require (eqb d c)) (combines ss rs) (λ u ts. named (ys ++ xs) d ts))
  combine_sym (named xs c rs) (free ys ds) = some_when (memb c ds) (named (xs ++ ys) c rs) ∙ sym (some_when (memb c ds) (named (ys ++ xs) c rs))
  combine_sym (free xs cs) (named ys d ss) = some_when (memb d cs) (named (xs ++ ys) d ss) ∙ sym (some_when (memb d cs) (named (ys ++ xs) d ss))
  combine_sym (free xs cs) (free ys ds) = some_when (not (is_empty (keep (λ c. memb c ds) cs))) (free (xs ++ ys) (keep (λ c. memb c ds) cs)) ∙ meet_sym cs ds ∙ sym (some_when (not (is_empty (keep (λ d. memb d cs) ds))) (free (ys ++ xs) (keep (λ d. memb d cs) ds)))

  combines_sym : (rs ss : Rows) → is_some (combines rs ss) ≡ is_some (combines ss rs)
  combines_sym rnil rnil = refl
  combines_sym rnil (rcons s ss) = refl
  combines_sym (rcons r rs) rnil = refl
  combines_sym (rcons r rs) (rcons s ss) = some_both (combine r s) (combines rs ss) rcons ∙ ap₂ ◌&&◌ (combine_sym r s) (combines_sym rs ss) ∙ sym (some_both (combine s r) (combines ss rs) rcons)

-- some row of the one list with some row of the other, either way
pub lists_flip : (rs ss : List Row) → not (is_empty (somes (each combine rs ss))) ≡ any (λ s. any (λ r. is_some (combine s r)) rs) ss
lists_flip rs ss =
    somes_some (each combine rs ss) ∙ any_each is_some combine rs ss ∙ any_swap (λ r s. is_some (combine r s)) rs ss
    ∙ any_ext (λ s. any (λ r. is_some (combine r s)) rs) (λ s. any (λ r. is_some (combine s r)) rs) (λ s. any_ext (λ r. is_some (combine r s)) (λ r. is_some (combine s r)) (λ r. combine_sym r s) rs) ss

pub overlap_sym : (sig : Signature) (k : ℕ) (p q : Pattern) → overlap sig k p q ≡ overlap sig k q p
overlap_sym sig k p q =
    let rs = rows_plus sig k p in
    let ss = rows_plus sig k q in
    lists_flip rs ss ∙ sym (any_each is_some combine ss rs) ∙ sym (somes_some (each combine ss rs))

pub shares_sym : (sig : Signature) (us ws : List ℕ) → shares sig us ws ≡ shares sig ws us
shares_sym sig us ws = go (read_pattern sig us) (read_pattern sig ws)
  where
    go : (o u : Option Pattern) → shared_by sig o u ≡ shared_by sig u o
    go none none = refl
    go none (some q) = refl
    go (some p) none = refl
    go (some p) (some q) = overlap_sym sig 0 p q
