-- The rows of a constructor's arguments are taken one argument after the other.
use mathlib.Core.Path.{◌≡◌, refl, ap, ap₂, ◌∙◌, sym}
use mathlib.Core.List.{List, map, [], ◌∷◌, ◌++◌, append_assoc, append-nil}
use mathlib.Core.Bool.{Bool, true, false, cond}
use Prim.Native.Nat.{ℕ, ◌*◌, ◌<◌}
use borrow.Author.Tests.{ltb-true}
use lib.Dec.{ltb}
use lib.ListN.{length}
use Rattle.signature.specs.Signature.{Signature}
use Rattle.pattern.specs.Pattern.{Pattern, Patterns, pnil, pcons}
use Rattle.builder.specs.Arguments.{words_of_rows, arg_words, open_words, behind}
use Rattle.rowlist.specs.Next.{next_rows}
use Rattle.cell.specs.Cell.{Kinds, all_words}
use Rattle.cell.specs.Coded.{kinds_of, row_code, all_cells}
use Rattle.rowlist.specs.Grow.{words_list, appends, grown}
use Rattle.row.specs.Row.{Row, Rows, rcons, each, open_row, open_rows, rows_plus, rows_minus, args_plus, args_minus}
use Rattle.cell.specs.RowList.{entries}

-- rows behind rows
appends_nil : (ws : List (List ℕ)) → appends [] ws ≡ ws
appends_nil [] = refl
appends_nil (w ∷ ws) = ap (λ (l : List (List ℕ)). w ∷ l) (appends_nil ws)

pub appends_append : (v : List ℕ) (us ws : List (List ℕ)) → appends v (us ++ ws) ≡ appends v us ++ appends v ws
appends_append v [] ws = refl
appends_append v (u ∷ us) ws = ap (λ (l : List (List ℕ)). (v ++ u) ∷ l) (appends_append v us ws)

appends_appends : (u v : List ℕ) (ws : List (List ℕ)) → appends (u ++ v) ws ≡ appends u (appends v ws)
appends_appends u v [] = refl
appends_appends u v (w ∷ ws) = ap₂ (λ (a : List ℕ) (l : List (List ℕ)). a ∷ l) (append_assoc u v w) (appends_appends u v ws)

grown_append : (us vs ws : List (List ℕ)) → grown (us ++ vs) ws ≡ grown us ws ++ grown vs ws
grown_append [] vs ws = refl
grown_append (u ∷ us) vs ws = ap (λ (l : List (List ℕ)). appends u ws ++ l) (grown_append us vs ws) ∙ sym (append_assoc (appends u ws) (grown us ws) (grown vs ws))

appends_grown : (u : List ℕ) (vs ws : List (List ℕ)) → grown (appends u vs) ws ≡ appends u (grown vs ws)
appends_grown u [] ws = refl
appends_grown u (v ∷ vs) ws = ap₂ (λ (a b : List (List ℕ)). a ++ b) (appends_appends u v ws) (appends_grown u vs ws) ∙ sym (appends_append u (appends v ws) (grown vs ws))

grown_grown : (us vs ws : List (List ℕ)) → grown (grown us vs) ws ≡ grown us (grown vs ws)
grown_grown [] vs ws = refl
grown_grown (u ∷ us) vs ws = grown_append (appends u vs) (grown us vs) ws ∙ ap₂ (λ (a b : List (List ℕ)). a ++ b) (appends_grown u vs ws) (grown_grown us vs ws)

grown_none : (vs : List (List ℕ)) → grown vs [] ≡ []
grown_none [] = refl
grown_none (v ∷ vs) = grown_none vs

pub grown_empty : (vs : List (List ℕ)) → grown vs ([] ∷ []) ≡ vs
grown_empty [] = refl
grown_empty (v ∷ vs) = ap₂ (λ (a : List ℕ) (l : List (List ℕ)). a ∷ l) (append-nil v) (grown_empty vs)

-- the words of arguments
pub list_words : (K : Kinds) (k : ℕ) (rs : List Row) → words_list (map (λ r. row_code K r k) rs) ≡ entries K k rs
list_words K k [] = refl
list_words K k (r ∷ rs) = ap (λ (l : List ℕ). length (row_code K r k) ∷ (row_code K r k ++ l)) (list_words K k rs)

map_append : {A B : Type 0} (f : A → B) (xs ys : List A) → map f (xs ++ ys) ≡ map f xs ++ map f ys
map_append f [] ys = refl
map_append f (x ∷ xs) ys = ap (λ (l : List _). f x ∷ l) (map_append f xs ys)

module _ (sig : Signature) (k : ℕ) (ks : List ℕ) where
  one_cons : (r : Row) (rss : List Rows) → arg_words sig (k ∷ ks) (map (rcons r) rss) ≡ appends (row_code (kinds_of sig) r k) (arg_words sig ks rss)
  one_cons r [] = refl
  one_cons r (rs ∷ rss) = ap (λ (l : List (List ℕ)). (row_code (kinds_of sig) r k ++ all_words (all_cells (kinds_of sig) rs ks)) ∷ l) (one_cons r rss)

  each_cons : (rs : List Row) (rss : List Rows) → arg_words sig (k ∷ ks) (each rcons rs rss) ≡ grown (words_of_rows sig k rs) (arg_words sig ks rss)
  each_cons [] rss = refl
  each_cons (r ∷ rs) rss = map_append (λ rs. all_words (all_cells (kinds_of sig) rs (k ∷ ks))) (map (rcons r) rss) (each rcons rs rss) ∙ ap₂ (λ (a b : List (List ℕ)). a ++ b) (one_cons r rss) (each_cons rs rss)

  open_cons : (rs : List Row) → arg_words sig (k ∷ ks) (map (λ r. rcons r (open_rows sig ks)) rs) ≡ grown (words_of_rows sig k rs) (open_words sig ks ∷ [])
  open_cons [] = refl
  open_cons (r ∷ rs) = ap (λ (l : List (List ℕ)). (row_code (kinds_of sig) r k ++ open_words sig ks) ∷ l) (open_cons rs)

-- none is left
pub behind_nil : (b : Bool) (sig : Signature) (vs : List (List ℕ)) → behind b sig [] pnil vs ≡ vs
behind_nil true sig vs = grown_empty vs
behind_nil false sig [] = refl
behind_nil false sig (v ∷ vs) = ap₂ (λ (a : List ℕ) (l : List (List ℕ)). a ∷ l) (append-nil v) (append-nil (grown vs ([] ∷ [])) ∙ grown_empty vs)

-- one argument
module _ (sig : Signature) (k : ℕ) (ks : List ℕ) (p : Pattern) (ps : Patterns) where
  -- no argument that is still to come has rows
  void : (args_plus sig ks ps ≡ []) → (vs : List (List ℕ)) → behind true sig (k ∷ ks) (pcons p ps) vs ≡ []
  void e vs =
      let q : arg_words sig ks (args_plus sig ks ps) ≡ [] = ap (arg_words sig ks) e in
      ap (grown vs) (each_cons sig k ks (rows_plus sig k p) (args_plus sig ks ps) ∙ ap (grown (words_of_rows sig k (rows_plus sig k p))) q ∙ grown_none (words_of_rows sig k (rows_plus sig k p))) ∙ grown_none vs

  pub behind_plus : (vs : List (List ℕ)) → (64 < length vs * length (words_of_rows sig k (rows_plus sig k p)) → args_plus sig ks ps ≡ [])
      → behind true sig (k ∷ ks) (pcons p ps) vs ≡ behind true sig ks ps (next_rows true (row_code (kinds_of sig) (open_row sig k) k) vs (words_of_rows sig k (rows_plus sig k p)))
  behind_plus vs h = go (ltb 64 (length vs * length (words_of_rows sig k (rows_plus sig k p)))) refl
    where
      go : (b : Bool) → ltb 64 (length vs * length (words_of_rows sig k (rows_plus sig k p))) ≡ b
          → behind true sig (k ∷ ks) (pcons p ps) vs ≡ grown (cond b [] (grown vs (words_of_rows sig k (rows_plus sig k p)))) (arg_words sig ks (args_plus sig ks ps))
      go true e = void (h (ltb-true 64 _ e)) vs
      go false e = ap (grown vs) (each_cons sig k ks (rows_plus sig k p) (args_plus sig ks ps)) ∙ sym (grown_grown vs (words_of_rows sig k (rows_plus sig k p)) (arg_words sig ks (args_plus sig ks ps)))

  pub behind_minus : (vs : List (List ℕ)) → behind false sig (k ∷ ks) (pcons p ps) vs ≡ behind false sig ks ps (next_rows false (row_code (kinds_of sig) (open_row sig k) k) vs (words_of_rows sig k (rows_minus sig k p)))
  behind_minus [] = refl
  behind_minus (v ∷ vs) =
      let W = row_code (kinds_of sig) (open_row sig k) k in
      let O = open_words sig ks in
      let L = words_of_rows sig k (rows_minus sig k p) in
      let R = arg_words sig ks (args_minus sig ks ps) in
      let args : arg_words sig (k ∷ ks) (args_minus sig (k ∷ ks) (pcons p ps)) ≡ grown L (O ∷ []) ++ appends W R =
      map_append (λ rs. all_words (all_cells (kinds_of sig) rs (k ∷ ks))) (map (λ r. rcons r (open_rows sig ks)) (rows_minus sig k p)) (map (rcons (open_row sig k)) (args_minus sig ks ps))
      ∙ ap₂ (λ (a b : List (List ℕ)). a ++ b) (open_cons sig k ks (rows_minus sig k p)) (one_cons sig k ks (open_row sig k) (args_minus sig ks ps)) in
      let left : grown vs ((W ++ O) ∷ []) ≡ grown (grown vs (W ∷ [])) (O ∷ []) = sym (grown_grown vs (W ∷ []) (O ∷ [])) in
      let right : appends v (arg_words sig (k ∷ ks) (args_minus sig (k ∷ ks) (pcons p ps))) ≡ grown (appends v L) (O ∷ []) ++ appends (v ++ W) R =
      ap (appends v) args ∙ appends_append v (grown L (O ∷ [])) (appends W R) ∙ ap₂ (λ (a b : List (List ℕ)). a ++ b) (sym (appends_grown v L (O ∷ []))) (sym (appends_appends v W R)) in
      ap₂ (λ (a : List ℕ) (l : List (List ℕ)). a ∷ l) (sym (append_assoc v W O))
      (ap₂ (λ (a b : List (List ℕ)). a ++ b) left right
      ∙ sym (append_assoc (grown (grown vs (W ∷ [])) (O ∷ [])) (grown (appends v L) (O ∷ [])) (appends (v ++ W) R))
      ∙ ap (λ (l : List (List ℕ)). l ++ appends (v ++ W) R) (sym (grown_append (grown vs (W ∷ [])) (appends v L) (O ∷ []))))
