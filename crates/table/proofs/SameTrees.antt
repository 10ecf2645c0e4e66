-- Two sound tables of equal rules and equal default compile alike.
use mathlib.Core.Path.{◌≡◌, ◌∙◌, ap, ap₂, sym, subst}
use mathlib.Core.List.{List}
use mathlib.Core.Option.{some}
use mathlib.Core.Bool.{cond, ◌||◌}
use Prim.Native.Nat.{ℕ}
use lib.Dec.{ltb}
use lib.ListN.{length, take}
use Rattle.signature.specs.Read.{read_signature}
use Rattle.signature.specs.Signature.{Signature}
use Rattle.tree.specs.Limits.{tree_limit}
use Rattle.table.specs.Limits.{limits}
use Rattle.table.specs.Calls.{Compile, start, long_table, begin, too_large, CompileFrom}
use Rattle.table.specs.Matrix.{tree_words}
use Rattle.table.specs.Rule.{Rule, SameRules, default_of}
use Rattle.table.specs.Sound.{sound}
use Rattle.table.proofs.Reckoning.{rises_same}
use Rattle.table.proofs.SoundFacts.{sound_valid, sound_start, sound_tree}

-- "Compile gives two sound tables of equal rules, under one signature and into spaces of equal length, the same number and, on 0, the same length and that many equal words."
pub sound_same_tree : (ss : List ℕ) (sig : Signature) → read_signature ss ≡ some sig → (table table' : List ℕ) (rs qs : List Rule) → sound limits sig table ≡ some rs → sound limits sig table' ≡ some qs → SameRules rs qs → default_of table ≡ default_of table' → (space space' out out' : List ℕ) (n n' len len' : ℕ) → length space ≡ length space' → Compile limits ss table space n len out → Compile limits ss table' space' n' len' out' → (n ≡ n') × (len ≡ len') × (n ≡ 0 → take len out ≡ take len' out')
sound_same_tree ss sig lawful table table' rs qs a b s d space space' out out' n n' len len' q k k' =
    let e : rs ≡ qs = rises_same (sound_valid sig (ss, lawful) table rs a).0.rises (sound_valid sig (ss, lawful) table' qs b).0.rises s.to s.from in
    let st : start limits ss (long_table limits table) table ≡ begin sig qs = sound_start ss sig lawful table rs a ∙ ap (begin sig) e in
    let st' : start limits ss (long_table limits table') table' ≡ begin sig qs = sound_start ss sig lawful table' qs b in
    let dft = default_of table' in
    let same_large : too_large (tree_words dft sig qs) space ≡ too_large (tree_words dft sig qs) space' = ap (λ m. ltb m (length (tree_words dft sig qs)) || ltb tree_limit (length (tree_words dft sig qs))) q in
    let r = subst (λ z. CompileFrom dft z space n len out) st (subst (λ x. CompileFrom x (start limits ss (long_table limits table) table) space n len out) d k.result_is) in
    let r' = subst (λ z. CompileFrom dft z space' n' len' out') st' k'.result_is in
    let en : n ≡ n' = r.number_is ∙ ap (λ z. cond z 14 0) same_large ∙ sym r'.number_is in
    let el : len ≡ len' = r.length_is ∙ ap (λ z. cond z 0 (length (tree_words dft sig qs))) same_large ∙ sym r'.length_is in
    (en, el, λ z. sound_tree ss sig lawful table rs a space out len (subst (λ m. Compile limits ss table space m len out) z k) ∙ ap₂ (λ x y. tree_words x sig y) d e ∙ sym (sound_tree ss sig lawful table' qs b space' out' len' (subst (λ m. Compile limits ss table' space' m len' out') (sym en ∙ z) k')))
