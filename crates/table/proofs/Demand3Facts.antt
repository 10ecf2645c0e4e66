-- Demand 3 holds.
use mathlib.Core.Path.{◌≡◌, refl, ap, ap₂, ◌∙◌, sym, subst}
use mathlib.Core.Logic.{◌↔◌}
use mathlib.Core.List.{List, [], ◌∷◌, ◌++◌}
use mathlib.Core.Option.{some}
use mathlib.Core.Bool.{true, false, cond}
use Prim.Native.Nat.{ℕ, suc, ◌≤◌, ◌<◌}
use native.Mathlib.Omega.{arith}
use lib.Dec.{eqb, ltb}
use lib.ListN.{length, drop}
use Rattle.signature.specs.Lists.{All, also}
use Rattle.signature.specs.Read.{read_signature}
use Rattle.signature.specs.Signature.{Signature}
use Rattle.signature.proofs.Booleans.{or_right, or_left}
use Rattle.signature.proofs.ListFacts.{drop_exact}
use Rattle.signature.proofs.Tests.{pass, lt_of_not, ltb_no, true≢false}
use Rattle.tree.specs.Limits.{tree_limit}
use Rattle.table.specs.Calls.{Entered, Enter, Empty, too_large, Compile, CompileFrom}
use Rattle.table.specs.Decide.{Answered}
use Rattle.table.specs.Demand3.{AfterList, Alike, Demand3, Earlier, sets, UnderOne}
use Rattle.table.specs.Limits.{limits, table_length, emptied_default}
use Rattle.table.specs.ListsOfCalls.{ListCall, enter, withdraw, set_default, reckon_number, reckon_rules, reckon_default, numbers_reckoned, rules_left, default_left, Calls}
use Rattle.table.specs.Matrix.{tree_words}
use Rattle.table.specs.Refusals.{SharesHeld}
use Rattle.table.specs.Rule.{Rule, default_of, table_words, stored, SameRules}
use Rattle.table.specs.Sound.{sound, SoundTable}
use Rattle.table.proofs.GapFacts.{long_gap}
use Rattle.table.proofs.Outcomes.{calls_outcome, unlawful_calls}
use Rattle.table.proofs.Reckoning.{emptied_is, numbers_not_3, valid_nil, valid_left, length_table, rises_same, step_enter, same_kept, chain, twelve_of, of_twelve}
use Rattle.table.proofs.SameTrees.{sound_same_tree}
use Rattle.table.proofs.SoundFacts.{sound_valid, sound_table, table_sound, table_stored, sound_start, sound_runs, sound_decides}
use Rattle.table.proofs.TableFacts.{Valid, sound_stored}

not_large : (tree space : List ℕ) → cond {A = ℕ} (too_large tree space) 14 0 ≡ 0 → (length tree ≤ length space) × (length tree ≤ tree_limit)
not_large tree space e =
    let (f, z) = pass (too_large tree space) 14 0 (λ x. omega arith) e in
    let a : length tree < suc (length space) = lt_of_not (suc (length space)) (length tree) (or_left (ltb (length space) (length tree)) (ltb tree_limit (length tree)) f) in
    let b : length tree < suc tree_limit = lt_of_not (suc tree_limit) (length tree) (or_right (ltb (length space) (length tree)) (ltb tree_limit (length tree)) f) in
    (omega arith, omega arith)

small : (tree space : List ℕ) → length tree ≤ length space → length tree ≤ tree_limit → too_large tree space ≡ false
small tree space a b = rw (ltb_no (length space) (length tree) a, ltb_no tree_limit (length tree) b)

module _ (ss : List ℕ) (sig : Signature) (lawful : read_signature ss ≡ some sig) where
  -- compile from a sound table
  compiles : (table : List ℕ) (rs : List Rule) → sound limits sig table ≡ some rs → (space space' : List ℕ) (number len : ℕ) → Compile limits ss table space number len space' → ((number ≡ 0) ↔ ((length (tree_words (default_of table) sig rs) ≤ length space) × (length (tree_words (default_of table) sig rs) ≤ tree_limit)))
  compiles table rs h space space' number len k =
      let q : number ≡ cond (too_large (tree_words (default_of table) sig rs) space) 14 0 = (subst (λ s. CompileFrom (default_of table) s space number len space') (sound_start ss sig lawful table rs h) k.result_is).number_is in
      (λ t. not_large (tree_words (default_of table) sig rs) space (sym q ∙ t), λ t. q ∙ ap (λ b. cond b 14 0) (small (tree_words (default_of table) sig rs) space t.0 t.1))

  valid_of : (table : List ℕ) (rs : List Rule) → SoundTable limits sig table rs → Valid sig rs
  valid_of table rs h = (sound_valid sig (ss, lawful) table rs (table_sound sig (ss, lawful) table rs h)).0

module _ (ss : List ℕ) (sig : Signature) (lawful : read_signature ss ≡ some sig) where
  -- one list
  module _ (table : List ℕ) (rs : List Rule) (h : SoundTable limits sig table rs) (cs : List ListCall) (ns last : List ℕ) (c : Calls limits ss table cs ns last) where
    abbrev left : List Rule
    left = rules_left limits sig cs rs

    abbrev dft : ℕ
    dft = default_left limits sig cs rs (default_of table)

    reckoned : (ns ≡ numbers_reckoned limits sig cs rs) × (last ≡ stored limits dft left table)
    reckoned = chain ss sig lawful c table (default_of table) rs (valid_of ss sig lawful table rs h) (table_stored sig table rs h)

    left_valid : Valid sig left
    left_valid = valid_left sig cs rs (valid_of ss sig lawful table rs h)

    left_sound : sound limits sig last ≡ some left
    left_sound = ap (sound limits sig) reckoned.1 ∙ sound_stored sig dft left table left_valid

    left_default : default_of last ≡ dft
    left_default = ap default_of reckoned.1

    pub after_list : AfterList ss sig table rs cs ns last left dft
    after_list = record {
      numbers_are = reckoned.0;
      never_3 = subst (All (λ n. n ≡ 3 → ⊥)) (sym reckoned.0) (numbers_not_3 sig cs rs);
      holds = sound_table sig (ss, lawful) last left left_sound;
      default_is = left_default;
      rest_is = ap (drop (table_length limits)) reckoned.1 ∙ drop_exact (table_length limits) (table_words limits dft left) (drop (table_length limits) table) (length_table sig dft left left_valid);
      compiles = λ space space' number len k. subst (λ d. (number ≡ 0) ↔ ((length (tree_words d sig left) ≤ length space) × (length (tree_words d sig left) ≤ tree_limit))) left_default (compiles ss sig lawful last left left_sound space space' number len k);
      runs = λ space space' behind bs len number v a k b r.
          let (x, y, z) = sound_runs ss sig lawful last left left_sound space space' behind bs len number v a k b r in
          (x, subst (λ d. Answered d sig left bs a) left_default z);
      decides = λ bs number v a b r.
          let (x, y, z) = sound_decides ss sig lawful last left left_sound bs number v a b r in
          (x, subst (λ d. Answered d sig left bs a) left_default z);
      gaps = λ witness witness' number len l k. long_gap ss sig lawful last left (sound_table sig (ss, lawful) last left left_sound) witness witness' number len k l;
    }

-- which call of a list sets the default that it leaves
module _ (sig : Signature) where
  none_set : (cs : List ListCall) (d : ℕ) (rs : List Rule) → All (λ c. sets c ≡ false) cs → default_left limits sig cs rs d ≡ d
  none_set [] d rs h = refl
  none_set (enter n plan ws witness ∷ cs) d rs (also x s h) = none_set cs (reckon_default limits sig (enter n plan ws witness) rs d) (reckon_rules limits sig (enter n plan ws witness) rs) h ∙ same_kept (eqb (reckon_number limits sig (enter n plan ws witness) rs) 0) d
  none_set (withdraw n ∷ cs) d rs (also x s h) = none_set cs (reckon_default limits sig (withdraw n) rs d) (reckon_rules limits sig (withdraw n) rs) h ∙ same_kept (eqb (reckon_number limits sig (withdraw n) rs) 0) d
  none_set (set_default plan ∷ cs) d rs (also x s h) = true≢false s

  last_set : (cs ds : List ListCall) (plan d : ℕ) (rs : List Rule) → All (λ c. sets c ≡ false) ds → default_left limits sig (cs ++ (set_default plan ∷ ds)) rs d ≡ plan
  last_set [] ds plan d rs h = none_set ds plan rs h
  last_set (c ∷ cs) ds plan d rs h = last_set cs ds plan (reckon_default limits sig c rs d) (reckon_rules limits sig c rs) h

module _ (ss : List ℕ) (sig : Signature) (lawful : read_signature ss ≡ some sig) where
  two_tables : (table table' : List ℕ) (rs qs : List Rule) → SoundTable limits sig table rs → SoundTable limits sig table' qs → SameRules rs qs → default_of table ≡ default_of table' → Alike ss table table'
  two_tables table table' rs qs h h' s d = record {
    same_words = h.layout ∙ ap₂ (table_words limits) d (rises_same h.rises h'.rises s.to s.from) ∙ sym h'.layout;
    same_tree = sound_same_tree ss sig lawful table table' rs qs (table_sound sig (ss, lawful) table rs h) (table_sound sig (ss, lawful) table' qs h') s d;
  }

  emptied_sound : (lent emptied : List ℕ) → Empty limits lent 0 emptied → SoundTable limits sig emptied [] × (default_of emptied ≡ emptied_default) × (drop (table_length limits) emptied ≡ drop (table_length limits) lent)
  emptied_sound lent emptied h =
      let is = emptied_is lent emptied h in
      (sound_table sig (ss, lawful) emptied [] (ap (sound limits sig) is ∙ sound_stored sig emptied_default [] lent (valid_nil sig)), ap default_of is, ap (drop (table_length limits)) is ∙ drop_exact (table_length limits) (table_words limits emptied_default []) (drop (table_length limits) lent) (length_table sig emptied_default [] (valid_nil sig)))

  -- 12, at any sound table
  overlap : (table : List ℕ) (rs : List Rule) → SoundTable limits sig table rs → (n plan : ℕ) (ws witness after witness' : List ℕ) (e : Entered) → Enter limits ss n plan ws table witness e after witness' → ((e.number ≡ 12) ↔ (Earlier limits sig n ws witness rs × SharesHeld sig ws rs))
  overlap table rs h n plan ws witness after witness' e k =
      let q = (step_enter ss sig lawful (default_of table) rs table (valid_of ss sig lawful table rs h) (subst (λ z. Enter limits ss n plan ws z witness e after witness') (table_stored sig table rs h) k)).0 in
      (λ t. twelve_of ss sig lawful n plan ws witness rs (sym q ∙ t), λ t. q ∙ of_twelve ss sig lawful n plan ws witness rs t.0 t.1)

  under_one : UnderOne ss sig
  under_one = record {
    just_emptied = emptied_sound;
    one_list = λ table rs h cs ns last c. after_list ss sig lawful table rs h cs ns last c;
    two_lists = λ table table' rs qs h h' cs ds ns ms last last' c c' s d.
        let one = after_list ss sig lawful table rs h cs ns last c in
        let other = after_list ss sig lawful table' qs h' ds ms last' c' in
        two_tables last last' (rules_left limits sig cs rs) (rules_left limits sig ds qs) one.holds other.holds s (one.default_is ∙ d ∙ sym other.default_is);
    two_tables = two_tables;
    last_set = last_set sig;
    none_set = none_set sig;
    overlap = overlap;
  }

pub demand_3 : Demand3
demand_3 = record { lawful = under_one; unlawful = λ ss e cs table ns last c. unlawful_calls ss e c; outcome = calls_outcome }
