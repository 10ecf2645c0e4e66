-- Case T holds.
use mathlib.Core.Path.{◌≡◌, refl, ap, sym, subst, ◌∙◌}
use mathlib.Core.Logic.{◌⊎◌, inl, inr}
use mathlib.Core.List.{List, [], ◌∷◌, ◌++◌}
use mathlib.Core.Option.{some}
use mathlib.Core.Bool.{true, false, cond, ◌||◌}
use Prim.Native.Nat.{ℕ, ◌≤◌}
use native.Mathlib.Omega.{arith}
use lib.Dec.{eqb, ltb}
use lib.ListN.{length, drop, drop_of_length-le}
use Rattle.signature.specs.Cases.{T, words_T}
use Rattle.signature.specs.Lawful.{OfKind}
use Rattle.signature.specs.Lists.{In, in_here}
use Rattle.signature.specs.Read.{read_booking}
use Rattle.signature.specs.Value.{Value, con, code}
use Rattle.signature.proofs.ListFacts.{in_cases, no_in}
use Rattle.signature.proofs.Tests.{some_inj, leb_yes}
use Rattle.signature.proofs.Values.{booking_lawful}
use Rattle.pattern.specs.Match.{Binds, Fits, fits_var, fits_wild, fits_not, fits_con, fails_not, all_nil, all_cons}
use Rattle.pattern.specs.Pattern.{Pattern, head, wild, var, neg, pnil, pcons}
use Rattle.pattern.specs.Read.{read_pattern}
use Rattle.pattern.specs.Takes.{Takes}
use Rattle.pattern.proofs.Exclusive.{exclusive}
use Rattle.row.proofs.Exists.{shares_exists}
use Rattle.tree.specs.Cases.{tree_T}
use Rattle.tree.specs.Limits.{last_number}
use Rattle.table.specs.Calls.{Entered, Enter, Compile, CompileFrom, TreeIn, Shows, long_witness, too_large}
use Rattle.table.specs.CaseT.{CaseT, IntoEmpty}
use Rattle.table.specs.Cases.{rules_T, table_T, ors_8_8, ors_5_13}
use Rattle.table.specs.Limits.{limits, witness_length, emptied_default}
use Rattle.table.specs.ListsOfCalls.{enter, reckon_number, reckon_rules, changed}
use Rattle.table.specs.Refusals.{entry_refusal}
use Rattle.table.specs.Rule.{held, stored}
use Rattle.table.proofs.Cases.{cases}
use Rattle.table.proofs.Reckoning.{step_enter, entry_start, valid_nil, emptied_is}
use Rattle.table.proofs.SoundFacts.{sound_valid, sound_start}
use Rattle.table.proofs.TableFacts.{Valid, sound_stored}

abbrev entered : List ℕ
entered = 0 ∷ 258 ∷ 4 ∷ []

-- a value that fits C0(C1, x) and C0(_, C4)
shown : (v : Value) → OfKind T 0 v → {i j : ℕ} {σ τ : Binds} → Fits (head 0 (pcons (head 1 pnil) (pcons (var 0) pnil))) v i σ → Fits (head 0 (pcons wild (pcons (head 4 pnil) pnil))) v j τ → code v ≡ 0 ∷ 1 ∷ 4 ∷ []
shown (con c vs) h (fits_con a (all_cons (fits_con a₁ all_nil) (all_cons fits_var all_nil))) (fits_con b (all_cons fits_wild (all_cons (fits_con b₁ all_nil) all_nil))) = rw (← a, ← a₁, ← b₁)

fits_of : (ws bs : List ℕ) (p : Pattern) (v : Value) {σ : Binds} → read_pattern T ws ≡ some p → read_booking T bs ≡ some v → Takes T ws bs σ → Fits p v 0 σ
fits_of ws bs p v {σ} e b (q, w, e', b', f) = subst (λ x. Fits x v 0 σ) (some_inj q p (sym e' ∙ e)) (subst (λ x. Fits q x 0 σ) (some_inj w v (sym b' ∙ b)) f)

only_014 : (bs : List ℕ) {σ τ : Binds} → Takes T (0 ∷ 1 ∷ 261 ∷ []) bs σ → Takes T entered bs τ → bs ≡ 0 ∷ 1 ∷ 4 ∷ []
only_014 bs {σ} {τ} (p, v, e, b, f) y =
    let l = booking_lawful T bs v b in
    sym l.is_code ∙ shown v l.kind_0 (fits_of (0 ∷ 1 ∷ 261 ∷ []) bs (head 0 (pcons (head 1 pnil) (pcons (var 0) pnil))) v refl b (p, v, e, b, f)) (fits_of entered bs (head 0 (pcons wild (pcons (head 4 pnil) pnil))) v refl b y)

-- whatever shared booking is shown, it names rule 7 and shows 0 1 4
shows_T : (witness witness' : List ℕ) (e : Entered) → Shows T rules_T entered witness e witness' → (e.sharer ≡ 7) × (e.shown ≡ 3) × (witness' ≡ 0 ∷ 1 ∷ 4 ∷ drop 3 witness)
shows_T witness witness' e h = on_1 (in_cases h.held)
  where
    rule_7 : h.rule.number ≡ 7 → h.rule.pattern ≡ 0 ∷ 1 ∷ 261 ∷ [] → (e.sharer ≡ 7) × (e.shown ≡ 3) × (witness' ≡ 0 ∷ 1 ∷ 4 ∷ drop 3 witness)
    rule_7 a b =
        let z : h.booking ≡ 0 ∷ 1 ∷ 4 ∷ [] = only_014 h.booking (subst (λ x. Takes T x h.booking h.binds') b h.taken') h.taken in
        (h.named ∙ a, h.length_is ∙ ap length z, h.witness_is ∙ ap (λ x. x ++ drop (length x) witness) z)

    nine : (h.rule ≡ record { number = 9; plan = 41; pattern = 0 ∷ 260 ∷ 1 ∷ 5 ∷ [] }) → ⊥
    nine q = h.lowest (record { number = 7; plan = 40; pattern = 0 ∷ 1 ∷ 261 ∷ [] }) in_here (rw q (omega arith)) (shares_exists T (words_T, refl) entered (0 ∷ 1 ∷ 261 ∷ []) refl)

    on_2 : (h.rule ≡ record { number = 9; plan = 41; pattern = 0 ∷ 260 ∷ 1 ∷ 5 ∷ [] }) ⊎ In h.rule [] → ⊥
    on_2 (inl q) = nine q
    on_2 (inr i) = no_in i

    on_1 : (h.rule ≡ record { number = 7; plan = 40; pattern = 0 ∷ 1 ∷ 261 ∷ [] }) ⊎ In h.rule (record { number = 9; plan = 41; pattern = 0 ∷ 260 ∷ 1 ∷ 5 ∷ [] } ∷ []) → (e.sharer ≡ 7) × (e.shown ≡ 3) × (witness' ≡ 0 ∷ 1 ∷ 4 ∷ drop 3 witness)
    on_1 (inl q) = rule_7 (ap (λ x. x.number) q) (ap (λ x. x.pattern) q)
    on_1 (inr i) = absurd (on_2 (in_cases i))

valid_T : Valid T rules_T
valid_T = (sound_valid T (words_T, refl) table_T rules_T refl).0

entry_T : (n plan dft : ℕ) (lent witness after witness' : List ℕ) (e : Entered) → 1 ≤ n → n ≤ last_number → held n rules_T ≡ false → witness_length ≤ length witness → Enter limits words_T n plan entered (stored limits dft rules_T lent) witness e after witness' → (e.number ≡ 12) × (e.sharer ≡ 7) × (e.shown ≡ 3) × (after ≡ stored limits dft rules_T lent) × (witness' ≡ 0 ∷ 1 ∷ 4 ∷ drop 3 witness)
entry_T n plan dft lent witness after witness' e low high free l h =
    let long : long_witness witness ≡ true = leb_yes witness_length (length witness) l in
    let (a, b) = step_enter words_T T refl dft rules_T lent valid_T h in
    let m : reckon_number limits T (enter n plan entered witness) rules_T ≡ 12 = rw (long, leb_yes 1 n low, leb_yes n last_number high, free) in
    let rs : reckon_rules limits T (enter n plan entered witness) rules_T ≡ rules_T = ap (λ x. cond (eqb x 0) (changed (enter n plan entered witness) rules_T) rules_T) m in
    let (x, y, z) = shows_T witness witness' e (h.on_12 T rules_T (entry_start words_T T refl dft rules_T lent witness true valid_T long) (a ∙ m)) in
    (a ∙ m, x, y, b ∙ ap (λ q. stored limits dft q lent) rs, z)

never : (bs : List ℕ) (σ : Binds) → Takes T (260 ∷ 261 ∷ []) bs σ → ⊥
never bs σ (p, v, e, b, f) = exclusive (neg (var 0)) (fits_of (260 ∷ 261 ∷ []) bs (neg (var 0)) v refl b (p, v, e, b, f)) (fails_not fits_var)

-- a sound table with T's rules compiles into TreeIn of T's tree
tree_of : (lent space space' : List ℕ) (number len : ℕ) → Compile limits words_T (stored limits emptied_default rules_T lent) space number len space' → TreeIn tree_T space number len space'
tree_of lent space space' number len k = subst (λ t. TreeIn t space number len space') cases.tree (subst (λ s. CompileFrom emptied_default s space number len space') (sound_start words_T T refl (stored limits emptied_default rules_T lent) rules_T (sound_stored T emptied_default rules_T lent valid_T)) k.result_is)

in_39 : (lent space space' : List ℕ) (number len : ℕ) → length space ≡ 39 → Compile limits words_T (stored limits emptied_default rules_T lent) space number len space' → (number ≡ 0) × (len ≡ 39) × (space' ≡ tree_T)
in_39 lent space space' number len l k =
    let r = tree_of lent space space' number len k in
    let fits : too_large tree_T space ≡ false = ap (λ n. ltb n 39 || false) l in
    (r.number_is ∙ ap (λ b. cond b 14 0) fits, r.length_is ∙ ap (λ b. cond b 0 39) fits, r.space_is ∙ ap (λ b. cond b space (tree_T ++ drop 39 space)) fits ∙ ap (λ z. tree_T ++ z) (drop_of_length-le space {i = 39} (omega (arith, l))))

in_38 : (lent space space' : List ℕ) (number len : ℕ) → length space ≡ 38 → Compile limits words_T (stored limits emptied_default rules_T lent) space number len space' → (number ≡ 14) × (len ≡ 0) × (space' ≡ space)
in_38 lent space space' number len l k =
    let r = tree_of lent space space' number len k in
    let large : too_large tree_T space ≡ true = ap (λ n. ltb n 39 || false) l in
    (r.number_is ∙ ap (λ b. cond b 14 0) large, r.length_is ∙ ap (λ b. cond b 0 39) large, r.space_is ∙ ap (λ b. cond b space (tree_T ++ drop 39 space)) large)

-- the number does not matter where it is lawful
into_empty : (ws : List ℕ) (k : ℕ) → entry_refusal limits T 1 ws [] ≡ k → IntoEmpty ws k
into_empty ws k c n plan lent emptied witness after witness' e low high l h x =
    let q = (step_enter words_T T refl emptied_default [] lent (valid_nil T) (subst (λ z. Enter limits words_T n plan ws z witness e after witness') (emptied_is lent emptied h) x)).0 in
    let m : reckon_number limits T (enter n plan ws witness) [] ≡ entry_refusal limits T 1 ws [] = rw (leb_yes witness_length (length witness) l, leb_yes 1 n low, leb_yes n last_number high) in
    q ∙ m ∙ c

pub case_t : CaseT
case_t = record {
  computed = cases;
  tree_in_39 = in_39;
  tree_in_38 = in_38;
  entry = entry_T;
  not_not = into_empty (260 ∷ 260 ∷ 261 ∷ []) 0 cases.not_not_admitted;
  takes_all = λ bs v b. (neg (neg (var 0)), v, refl, b, fits_not (fails_not fits_var));
  not_variable = into_empty (260 ∷ 261 ∷ []) 0 cases.not_variable_admitted;
  takes_none = never;
  or_twice = into_empty (257 ∷ 261 ∷ 261 ∷ []) 10 cases.or_twice;
  and_twice = into_empty (256 ∷ 261 ∷ 261 ∷ []) 8 cases.and_twice;
  or_unequal = into_empty (257 ∷ 261 ∷ 258 ∷ []) 8 cases.or_unequal;
  not_con = into_empty (260 ∷ 0 ∷ 261 ∷ 258 ∷ []) 0 cases.not_con;
  not_con_not = into_empty (260 ∷ 0 ∷ 260 ∷ 261 ∷ 258 ∷ []) 8 cases.not_con_not;
  wildcards_64 = into_empty ors_8_8 0 cases.admitted_64;
  wildcards_65 = into_empty ors_5_13 9 cases.refused_65;
}
