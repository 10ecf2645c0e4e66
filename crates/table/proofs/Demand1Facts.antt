-- Demand 1 holds: each call's number is that of the first refusal that applies.
use mathlib.Core.Path.{◌≡◌, refl, ap, sym, subst, ◌∙◌}
use mathlib.Core.Logic.{◌⊎◌, inl, inr}
use mathlib.Core.List.{List, [], ◌∷◌}
use mathlib.Core.Option.{Option, none, some}
use mathlib.Core.Bool.{Bool, true, false, cond, not, ◌&&◌, ◌||◌}
use Prim.Native.Nat.{ℕ, suc, ◌+◌}
use native.Mathlib.Omega.{arith}
use lib.Dec.{leb, eqb, ltb}
use lib.ListN.{length}
use Rattle.signature.specs.Lawful.{SignatureWords}
use Rattle.signature.specs.Lists.{any}
use Rattle.signature.specs.Part.{part_call, part_signature, part_booking, part_words, part_at}
use Rattle.signature.specs.Read.{read_signature, read_booking}
use Rattle.signature.specs.Signature.{Signature}
use Rattle.signature.specs.Value.{Value, vcons, vnil}
use Rattle.signature.proofs.Booleans.{not_false, and_left, and_right, or_left, or_right}
use Rattle.signature.proofs.ListFacts.{any_in, in_any}
use Rattle.signature.proofs.SignatureBack.{signature_is, is_signature}
use Rattle.signature.proofs.Tests.{none≢some, some_inj, true≢false, eqb_eq, eqb_self, leb_yes, leb_no, ltb_yes, le_of, lt_of_not}
use Rattle.signature.proofs.Values.{booking_lawful, lawful_booking}
use Rattle.pattern.specs.Linear.{linear_plus}
use Rattle.pattern.specs.Pattern.{Pattern}
use Rattle.pattern.specs.Ranged.{ranged}
use Rattle.pattern.specs.Read.{read_pattern}
use Rattle.pattern.specs.Weight.{light_plus, weight}
use Rattle.pattern.specs.WellFormed.{PatternWords}
use Rattle.pattern.proofs.PatternBack.{pattern_words, words_pattern}
use Rattle.pattern.proofs.Laws.{laws as pattern_laws}
use Rattle.pattern.proofs.StandsLaw.{heavy_is_some}
use Rattle.row.specs.Admitted.{refusal_of_pattern, refusal_by}
use Rattle.row.specs.Overlap.{ambiguous_plus, shares}
use Rattle.row.proofs.Exists.{ambiguous_exists, ambiguous_decided, shares_exists, exists_shares}
use Rattle.signature.proofs.LawfulFacts.{sig_facts, small_0}
use Rattle.tree.specs.Answer.{Answer}
use Rattle.tree.specs.Limits.{last_number, tree_limit}
use Rattle.tree.specs.Run.{run, run_words}
use Rattle.tree.specs.RunCall.{RunCall, run_signature, run_booking, run_at}
use Rattle.table.specs.Calls.{Start, refused, begin, start, on_signature, long_table, long_witness, enter_start, enter_number, enter_table, withdraw_number, withdraw_table, set_number, set_table, too_large, CompileFrom, decide_from, decide_booking, Entered, Empty, Enter, Withdraw, SetDefault, Compile, DecideCall}
use Rattle.table.specs.Demand1.{FirstOf, Unlawful, Under, ShortTable, ShortWitness, Unsound, OfRulesInForce, NumberOutside, Held, NotHeld, Malformed, WronglyRanged, NotLinear, HeavyWords, AmbiguousWords, Full, UnlawfulBooking, TooLarge, Broken, zeros, part_refusals, empty_refusals, enter_refusals, withdraw_refusals, set_refusals, gap_refusals, compile_refusals, decide_refusals, run_refusals, Demand1}
use Rattle.table.specs.Gap.{GapFrom, GapCall}
use Rattle.table.specs.Limits.{limits, table_length, witness_length, emptied_default}
use Rattle.table.specs.Matrix.{tree_words}
use Rattle.table.specs.Refusals.{entry_refusal, withdrawal_refusal, SharesHeld}
use Rattle.table.specs.Rule.{Rule, default_of, held, total_weight, stored, add_rule, take_out}
use Rattle.table.specs.Sound.{sound}
use Rattle.table.proofs.SoundFacts.{sound_table, table_sound}

-- A applies and n is its number k, or A does not and R holds of those behind it
abbrev Next : Type 0 → ℕ → ℕ → Type 0 → Type 0
Next A k n R = (A × (n ≡ k)) ⊎ ((A → ⊥) × R)

-- one test, and those behind it
test : (b : Bool) {k m n : ℕ} {A R : Type 0} → (b ≡ true → A) → (b ≡ false → A → ⊥) → n ≡ cond b k m → (b ≡ false → n ≡ m → R) → Next A k n R
test true y f e g = inl (y refl, e)
test false y f e g = inr (f refl, g refl e)

module _ (ss : List ℕ) where
  unlawful_of : read_signature ss ≡ none → Unlawful ss
  unlawful_of e sig w = none≢some (sym e ∙ is_signature ss sig w)

  module _ (sig : Signature) (lawful : read_signature ss ≡ some sig) where
    is_lawful : Unlawful ss → ⊥
    is_lawful u = u sig (signature_is ss sig lawful)

    same_signature : (sig' : Signature) → SignatureWords ss sig' → sig' ≡ sig
    same_signature sig' w = some_inj sig' sig (sym (is_signature ss sig' w) ∙ lawful)

    under : (P : Signature → Type 0) → P sig → Under ss P
    under P p = (sig, signature_is ss sig lawful, p)

    under_not : (P : Signature → Type 0) → (P sig → ⊥) → Under ss P → ⊥
    under_not P f (sig', w, p) = f (subst P (same_signature sig' w) p)

    unsound_of : (table : List ℕ) → sound limits sig table ≡ none → Unsound ss table
    unsound_of table e sig' rs w h = none≢some (sym e ∙ ap (λ z. sound limits z table) (sym (same_signature sig' w)) ∙ table_sound sig' (ss, is_signature ss sig' w) table rs h)

    booking_unlawful : (bs : List ℕ) → read_booking sig bs ≡ none → UnlawfulBooking sig bs
    booking_unlawful bs e v l = none≢some (sym e ∙ lawful_booking sig bs v l)

    booking_not : (bs : List ℕ) (v : Value) → read_booking sig bs ≡ some v → UnlawfulBooking sig bs → ⊥
    booking_not bs v e u = u v (booking_lawful sig bs v e)

    module _ (table : List ℕ) (rs : List Rule) (holds : sound limits sig table ≡ some rs) where
      is_sound : Unsound ss table → ⊥
      is_sound u = u sig rs (signature_is ss sig lawful) (sound_table sig (ss, lawful) table rs holds)

      in_force : (P : Signature → List Rule → Type 0) → P sig rs → OfRulesInForce ss table P
      in_force P p = (sig, rs, signature_is ss sig lawful, sound_table sig (ss, lawful) table rs holds, p)

      in_force_not : (P : Signature → List Rule → Type 0) → (P sig rs → ⊥) → OfRulesInForce ss table P → ⊥
      in_force_not P f (sig', rs', w, h, p) =
          let e : sig' ≡ sig = same_signature sig' w in
          let q : rs' ≡ rs = some_inj rs' rs (sym (table_sound sig' (ss, is_signature ss sig' w) table rs' h) ∙ ap (λ z. sound limits z table) e ∙ holds) in
          f (subst (λ z. P z rs) e (subst (P sig') q p))

-- 1 to 3, and the refusals behind them
module _ (ss : List ℕ) (long : Bool) (table : List ℕ) {S : Type 0} (short : long ≡ false → S) (not_IsShort : long ≡ true → S → ⊥) where
  opened : {R : Type 0} (n : ℕ) (f : Start → ℕ) → ((m : ℕ) → f (refused m) ≡ m) → n ≡ f (start limits ss long table) → ((sig : Signature) (rs : List Rule) → read_signature ss ≡ some sig → sound limits sig table ≡ some rs → n ≡ f (begin sig rs) → R) → Next (Unlawful ss) 1 n (Next S 2 n (Next (Unsound ss table) 3 n R))
  opened {R} n f plain n_is later = on_1 (read_signature ss) refl
    where
      on_3 : (sig : Signature) → read_signature ss ≡ some sig → long ≡ true → (o : Option (List Rule)) → sound limits sig table ≡ o → Next (Unsound ss table) 3 n R
      on_3 sig e q none h = inl (unsound_of ss sig e table h, n_is ∙ ap f (rw (e, q, h)) ∙ plain 3)
      on_3 sig e q (some rs) h = inr (is_sound ss sig e table rs h, later sig rs e h (n_is ∙ ap f (rw (e, q, h))))

      on_2 : (sig : Signature) → read_signature ss ≡ some sig → (b : Bool) → long ≡ b → Next S 2 n (Next (Unsound ss table) 3 n R)
      on_2 sig e false q = inl (short q, n_is ∙ ap f (rw (e, q)) ∙ plain 2)
      on_2 sig e true q = inr (not_IsShort q, on_3 sig e q (sound limits sig table) refl)

      on_1 : (o : Option Signature) → read_signature ss ≡ o → Next (Unlawful ss) 1 n (Next S 2 n (Next (Unsound ss table) 3 n R))
      on_1 none e = inl (unlawful_of ss e, n_is ∙ ap f (ap (λ o. on_signature limits o long table) e) ∙ plain 1)
      on_1 (some sig) e = inr (is_lawful ss sig e, on_2 sig e long refl)

-- 2
short_table : (table : List ℕ) → long_table limits table ≡ false → ShortTable table
short_table table e = lt_of_not (table_length limits) (length table) e

long_not : (table : List ℕ) → long_table limits table ≡ true → ShortTable table → ⊥
long_not table e s = true≢false (sym e ∙ leb_no (table_length limits) (length table) s)

short_either : (table witness : List ℕ) → (long_table limits table && long_witness witness) ≡ false → ShortTable table ⊎ ShortWitness witness
short_either table witness e = go (long_table limits table) refl
  where
    go : (b : Bool) → long_table limits table ≡ b → ShortTable table ⊎ ShortWitness witness
    go false q = inl (short_table table q)
    go true q = inr (lt_of_not witness_length (length witness) (rw q at e))

long_both : (table witness : List ℕ) → (long_table limits table && long_witness witness) ≡ true → ShortTable table ⊎ ShortWitness witness → ⊥
long_both table witness e (inl s) = long_not table (and_left (long_table limits table) (long_witness witness) e) s
long_both table witness e (inr s) = true≢false (sym (and_right (long_table limits table) (long_witness witness) e) ∙ leb_no witness_length (length witness) s)

-- 4
outside : (n : ℕ) → not (leb 1 n && leb n last_number) ≡ true → NumberOutside n
outside n e = go (leb 1 n) refl (leb n last_number) refl
  where
    go : (a : Bool) → leb 1 n ≡ a → (b : Bool) → leb n last_number ≡ b → NumberOutside n
    go false p b q = inl (lt_of_not 1 n p)
    go true p false q = inr (lt_of_not n last_number q)
    go true p true q = true≢false (sym e ∙ rw (p, q))

inside : (n : ℕ) → not (leb 1 n && leb n last_number) ≡ false → NumberOutside n → ⊥
inside n e (inl l) = let h = not_false (leb 1 n && leb n last_number) e in omega (arith, l, le_of 1 n (and_left (leb 1 n) (leb n last_number) h))
inside n e (inr l) = let h = not_false (leb 1 n && leb n last_number) e in omega (arith, l, le_of n last_number (and_right (leb 1 n) (leb n last_number) h))

-- 5 and 6
held_some : (n : ℕ) (rs : List Rule) → held n rs ≡ true → Held n rs
held_some n rs e = let (r, i, q) = any_in (λ r. eqb n r.number) rs e in (r, i, sym (eqb_eq n r.number q))

some_held : (n : ℕ) (rs : List Rule) → Held n rs → held n rs ≡ true
some_held n rs (r, i, q) = in_any (λ r. eqb n r.number) rs r i (subst (λ z. eqb n z ≡ true) (sym q) (eqb_self n))

-- 11
is_full : (sig : Signature) (ws : List ℕ) (rs : List Rule) → (leb limits.rules (length rs) || ltb limits.weight (weight sig ws + total_weight sig rs)) ≡ true → Full sig ws rs
is_full sig ws rs e = go (leb limits.rules (length rs)) refl
  where
    go : (b : Bool) → leb limits.rules (length rs) ≡ b → Full sig ws rs
    go true q = inl (le_of limits.rules (length rs) q)
    go false q = inr (le_of (suc limits.weight) (weight sig ws + total_weight sig rs) (rw q at e))

not_full : (sig : Signature) (ws : List ℕ) (rs : List Rule) → (leb limits.rules (length rs) || ltb limits.weight (weight sig ws + total_weight sig rs)) ≡ false → Full sig ws rs → ⊥
not_full sig ws rs e (inl l) = true≢false (sym (leb_yes limits.rules (length rs) l) ∙ or_left (leb limits.rules (length rs)) (ltb limits.weight (weight sig ws + total_weight sig rs)) e)
not_full sig ws rs e (inr l) = true≢false (sym (ltb_yes limits.weight (weight sig ws + total_weight sig rs) l) ∙ or_right (leb limits.rules (length rs)) (ltb limits.weight (weight sig ws + total_weight sig rs)) e)

-- 7, 18, 8 to 10, and the refusals behind them
module _ (ss : List ℕ) (sig : Signature) (lawful : read_signature ss ≡ some sig) (table : List ℕ) (rs : List Rule) (holds : sound limits sig table ≡ some rs) (ws : List ℕ) where
  same_pattern : (p q : Pattern) → read_pattern sig ws ≡ some p → PatternWords sig ws q → q ≡ p
  same_pattern p q e w = some_inj q p (sym (words_pattern sig ws q w) ∙ e)

  pattern_first : {R : Type 0} (n m : ℕ) → n ≡ (let q = refusal_of_pattern sig ws in cond (not (eqb q 0)) q m) → (n ≡ m → R) → Next (OfRulesInForce ss table (λ s r. Malformed s ws)) 7 n (Next (OfRulesInForce ss table (λ s r. WronglyRanged s ws)) 18 n (Next (OfRulesInForce ss table (λ s r. NotLinear s ws)) 8 n (Next (OfRulesInForce ss table (λ s r. HeavyWords s ws)) 9 n (Next (OfRulesInForce ss table (λ s r. AmbiguousWords s ws)) 10 n R))))
  pattern_first {R} n m n_is later = go (read_pattern sig ws) refl
    where
      own : (o : Option Pattern) → read_pattern sig ws ≡ o → n ≡ (let q = refusal_by sig o in cond (not (eqb q 0)) q m)
      own o e = n_is ∙ ap (λ o. let q = refusal_by sig o in cond (not (eqb q 0)) q m) e

      go : (o : Option Pattern) → read_pattern sig ws ≡ o → Next (OfRulesInForce ss table (λ s r. Malformed s ws)) 7 n (Next (OfRulesInForce ss table (λ s r. WronglyRanged s ws)) 18 n (Next (OfRulesInForce ss table (λ s r. NotLinear s ws)) 8 n (Next (OfRulesInForce ss table (λ s r. HeavyWords s ws)) 9 n (Next (OfRulesInForce ss table (λ s r. AmbiguousWords s ws)) 10 n R))))
      go none e = inl (in_force ss sig lawful table rs holds (λ s r. Malformed s ws) (λ p w. none≢some (sym e ∙ words_pattern sig ws p w)), own none e)
      go (some p) e = inr (in_force_not ss sig lawful table rs holds (λ s r. Malformed s ws) (λ h. h p (pattern_words sig ws p e)), on_18 (ranged p) refl)
        where
          on_10 : ranged p ≡ true → linear_plus p ≡ true → light_plus p ≡ true → (b : Bool) → ambiguous_plus sig 0 p ≡ b → Next (OfRulesInForce ss table (λ s r. AmbiguousWords s ws)) 10 n R
          on_10 g a c true q =
              let f = sig_facts sig (ss, lawful) in
              inl (in_force ss sig lawful table rs holds (λ s r. AmbiguousWords s ws) (p, pattern_words sig ws p e, ambiguous_exists sig f p (small_0 sig f) (pattern_words sig ws p e).well_formed q), own (some p) e ∙ rw (g, a, c, q))
          on_10 g a c false q = inr (in_force_not ss sig lawful table rs holds (λ s r. AmbiguousWords s ws) (λ (p', w, h). true≢false (sym (ambiguous_decided sig p' w.well_formed h) ∙ ap (ambiguous_plus sig 0) (same_pattern p p' e w) ∙ q)), later (own (some p) e ∙ rw (g, a, c, q)))

          on_9 : ranged p ≡ true → linear_plus p ≡ true → (b : Bool) → light_plus p ≡ b → Next (OfRulesInForce ss table (λ s r. HeavyWords s ws)) 9 n (Next (OfRulesInForce ss table (λ s r. AmbiguousWords s ws)) 10 n R)
          on_9 g a false q = inl (in_force ss sig lawful table rs holds (λ s r. HeavyWords s ws) (p, pattern_words sig ws p e, (heavy_is_some sig p (pattern_words sig ws p e).well_formed).0 q), own (some p) e ∙ rw (g, a, q))
          on_9 g a true q = inr (in_force_not ss sig lawful table rs holds (λ s r. HeavyWords s ws) (λ (p', w, h). true≢false (sym q ∙ ap light_plus (sym (same_pattern p p' e w)) ∙ (heavy_is_some sig p' w.well_formed).1 h)), on_10 g a q (ambiguous_plus sig 0 p) refl)

          on_8 : ranged p ≡ true → (b : Bool) → linear_plus p ≡ b → Next (OfRulesInForce ss table (λ s r. NotLinear s ws)) 8 n (Next (OfRulesInForce ss table (λ s r. HeavyWords s ws)) 9 n (Next (OfRulesInForce ss table (λ s r. AmbiguousWords s ws)) 10 n R))
          on_8 g false q = inl (in_force ss sig lawful table rs holds (λ s r. NotLinear s ws) (p, pattern_words sig ws p e, q), own (some p) e ∙ rw (g, q))
          on_8 g true q = inr (in_force_not ss sig lawful table rs holds (λ s r. NotLinear s ws) (λ (p', w, h). true≢false (sym q ∙ ap linear_plus (sym (same_pattern p p' e w)) ∙ h)), on_9 g q (light_plus p) refl)

          on_18 : (b : Bool) → ranged p ≡ b → Next (OfRulesInForce ss table (λ s r. WronglyRanged s ws)) 18 n (Next (OfRulesInForce ss table (λ s r. NotLinear s ws)) 8 n (Next (OfRulesInForce ss table (λ s r. HeavyWords s ws)) 9 n (Next (OfRulesInForce ss table (λ s r. AmbiguousWords s ws)) 10 n R)))
          on_18 false q = inl (in_force ss sig lawful table rs holds (λ s r. WronglyRanged s ws) (p, pattern_words sig ws p e, (pattern_laws.wrong_range sig 0 p (pattern_words sig ws p e).well_formed).0 q), own (some p) e ∙ rw q)
          on_18 true q = inr (in_force_not ss sig lawful table rs holds (λ s r. WronglyRanged s ws) (λ (p', w, h). true≢false (sym q ∙ ap ranged (sym (same_pattern p p' e w)) ∙ (pattern_laws.wrong_range sig 0 p' w.well_formed).1 h)), on_8 q (linear_plus p) refl)

  -- 12
  shared : any (λ r. shares sig ws r.pattern) rs ≡ true → SharesHeld sig ws rs
  shared e = let (r, i, x) = any_in (λ r. shares sig ws r.pattern) rs e in record { rule = r; held = i; shared = shares_exists sig (ss, lawful) ws r.pattern x }

  not_shared : any (λ r. shares sig ws r.pattern) rs ≡ false → SharesHeld sig ws rs → ⊥
  not_shared e h = true≢false (sym (in_any (λ r. shares sig ws r.pattern) rs h.rule h.held (exists_shares sig (ss, lawful) ws h.rule.pattern h.shared)) ∙ e)

-- the part at a place
part_first : (ss bs : List ℕ) (place : ℕ) → FirstOf (part_refusals ss bs place) (part_call ss bs place).0 × (((part_call ss bs place).0 ≡ 0 → ⊥) → (part_call ss bs place).1 ≡ [])
part_first ss bs place = go (read_signature ss) refl
  where
    on_16 : (sig : Signature) → read_signature ss ≡ some sig → (v : Value) → read_booking sig bs ≡ some v → (w : List ℕ) (c : Bool) → ltb place (length bs) ≡ c → FirstOf (part_refusals ss bs place) (cond {A = ℕ × List ℕ} c (0, w) (16, [])).0 × (((cond {A = ℕ × List ℕ} c (0, w) (16, [])).0 ≡ 0 → ⊥) → (cond {A = ℕ × List ℕ} c (0, w) (16, [])).1 ≡ [])
    on_16 sig e v q w true h = (inr (is_lawful ss sig e, inr (under_not ss sig e (λ s. UnlawfulBooking s bs) (booking_not ss sig e bs v q), inr (λ l. omega (arith, l, le_of (suc place) (length bs) h), refl))), λ f. absurd (f refl))
    on_16 sig e v q w false h = (inr (is_lawful ss sig e, inr (under_not ss sig e (λ s. UnlawfulBooking s bs) (booking_not ss sig e bs v q), inl (let z = lt_of_not (suc place) (length bs) h in omega arith, refl))), λ f. refl)

    on_13 : (sig : Signature) → read_signature ss ≡ some sig → (b : Option Value) → read_booking sig bs ≡ b → FirstOf (part_refusals ss bs place) (part_booking bs place b).0 × (((part_booking bs place b).0 ≡ 0 → ⊥) → (part_booking bs place b).1 ≡ [])
    on_13 sig e none q = (inr (is_lawful ss sig e, inl (under ss sig e (λ s. UnlawfulBooking s bs) (booking_unlawful ss sig e bs q), refl)), λ f. refl)
    on_13 sig e (some v) q = on_16 sig e v q (part_words (part_at v place)) (ltb place (length bs)) refl

    go : (o : Option Signature) → read_signature ss ≡ o → FirstOf (part_refusals ss bs place) (part_signature o bs place).0 × (((part_signature o bs place).0 ≡ 0 → ⊥) → (part_signature o bs place).1 ≡ [])
    go none e = (inl (unlawful_of ss e, refl), λ f. refl)
    go (some sig) e = on_13 sig e (read_booking sig bs) refl

empty_first : (before : List ℕ) (number : ℕ) (after : List ℕ) → Empty limits before number after → FirstOf (empty_refusals before) number × ((number ≡ 0 → ⊥) → after ≡ before)
empty_first before number after h = go (long_table limits before) refl
  where
    go : (b : Bool) → long_table limits before ≡ b → FirstOf (empty_refusals before) number × ((number ≡ 0 → ⊥) → after ≡ before)
    go true q = let e : number ≡ 0 = h.number_is ∙ ap (λ b. cond b 0 2) q in (inr (long_not before q, e), λ f. absurd (f e))
    go false q = (inl (short_table before q, h.number_is ∙ ap (λ b. cond b 0 2) q), λ f. h.table_is ∙ ap (λ b. cond b (stored limits emptied_default [] before) before) q)

enter_first : (ss : List ℕ) (n plan : ℕ) (ws before witness : List ℕ) (e : Entered) (after witness' : List ℕ) → Enter limits ss n plan ws before witness e after witness' → FirstOf (enter_refusals ss n ws before witness) e.number × ((e.number ≡ 0 → ⊥) → after ≡ before) × ((e.number ≡ 12 → ⊥) → (e.sharer ≡ 0) × (e.shown ≡ 0) × (witness' ≡ witness))
enter_first ss n plan ws before witness e after witness' h =
    (opened ss (long_table limits before && long_witness witness) before (short_either before witness) (long_both before witness) e.number (λ s. enter_number limits s n ws) (λ m. refl) h.number_is later, kept (enter_start limits ss before witness) h.number_is h.table_is, h.not_12)
  where
    later : (sig : Signature) (rs : List Rule) → read_signature ss ≡ some sig → sound limits sig before ≡ some rs → e.number ≡ entry_refusal limits sig n ws rs → FirstOf ((4, NumberOutside n) ∷ ((5, OfRulesInForce ss before (λ s r. Held n r)) ∷ ((7, OfRulesInForce ss before (λ s r. Malformed s ws)) ∷ ((18, OfRulesInForce ss before (λ s r. WronglyRanged s ws)) ∷ ((8, OfRulesInForce ss before (λ s r. NotLinear s ws)) ∷ ((9, OfRulesInForce ss before (λ s r. HeavyWords s ws)) ∷ ((10, OfRulesInForce ss before (λ s r. AmbiguousWords s ws)) ∷ ((11, OfRulesInForce ss before (λ s r. Full s ws r)) ∷ ((12, OfRulesInForce ss before (λ s r. SharesHeld s ws r)) ∷ []))))))))) e.number
    later sig rs lawful holds n_is =
        test (not (leb 1 n && leb n last_number)) (outside n) (inside n) n_is
        (λ q₁ e₁. test (held n rs) (λ q. in_force ss sig lawful before rs holds (λ s r. Held n r) (held_some n rs q)) (λ q. in_force_not ss sig lawful before rs holds (λ s r. Held n r) (λ y. true≢false (sym (some_held n rs y) ∙ q))) e₁
        (λ q₂ e₂. pattern_first ss sig lawful before rs holds ws e.number _ e₂
        (λ e₃. test (leb limits.rules (length rs) || ltb limits.weight (weight sig ws + total_weight sig rs)) (λ q. in_force ss sig lawful before rs holds (λ s r. Full s ws r) (is_full sig ws rs q)) (λ q. in_force_not ss sig lawful before rs holds (λ s r. Full s ws r) (not_full sig ws rs q)) e₃
        (λ q₃ e₄. test (any (λ r. shares sig ws r.pattern) rs) (λ q. in_force ss sig lawful before rs holds (λ s r. SharesHeld s ws r) (shared ss sig lawful before rs holds ws q)) (λ q. in_force_not ss sig lawful before rs holds (λ s r. SharesHeld s ws r) (not_shared ss sig lawful before rs holds ws q)) e₄ (λ q₄ e₅. e₅)))))

    kept : (s : Start) → e.number ≡ enter_number limits s n ws → after ≡ enter_table limits s n plan ws before → (e.number ≡ 0 → ⊥) → after ≡ before
    kept (refused m) a b f = b
    kept (begin sig rs) a b f = go (eqb (entry_refusal limits sig n ws rs) 0) refl
      where
        go : (c : Bool) → eqb (entry_refusal limits sig n ws rs) 0 ≡ c → after ≡ before
        go true q = absurd (f (a ∙ eqb_eq (entry_refusal limits sig n ws rs) 0 q))
        go false q = b ∙ ap (λ c. cond c (stored limits (default_of before) (add_rule (record { number = n; plan = plan; pattern = ws }) rs) before) before) q

withdraw_first : (ss : List ℕ) (n : ℕ) (before : List ℕ) (number : ℕ) (after : List ℕ) → Withdraw limits ss n before number after → FirstOf (withdraw_refusals ss n before) number × ((number ≡ 0 → ⊥) → after ≡ before)
withdraw_first ss n before number after h =
    (opened ss (long_table limits before) before (short_table before) (long_not before) number (λ s. withdraw_number s n) (λ m. refl) h.number_is later, kept (start limits ss (long_table limits before) before) h.number_is h.table_is)
  where
    later : (sig : Signature) (rs : List Rule) → read_signature ss ≡ some sig → sound limits sig before ≡ some rs → number ≡ withdrawal_refusal n rs → FirstOf ((4, NumberOutside n) ∷ ((6, OfRulesInForce ss before (λ s r. NotHeld n r)) ∷ [])) number
    later sig rs lawful holds n_is =
        test (not (leb 1 n && leb n last_number)) (outside n) (inside n) n_is
        (λ q₁ e₁. test (not (held n rs)) (λ q. in_force ss sig lawful before rs holds (λ s r. NotHeld n r) (λ r i x. true≢false (sym q ∙ ap not (some_held n rs (r, i, x))))) (λ q. in_force_not ss sig lawful before rs holds (λ s r. NotHeld n r) (λ y. let (r, i, x) = held_some n rs (not_false (held n rs) q) in y r i x)) e₁ (λ q₂ e₂. e₂))

    kept : (s : Start) → number ≡ withdraw_number s n → after ≡ withdraw_table limits s n before → (number ≡ 0 → ⊥) → after ≡ before
    kept (refused m) a b f = b
    kept (begin sig rs) a b f = go (eqb (withdrawal_refusal n rs) 0) refl
      where
        go : (c : Bool) → eqb (withdrawal_refusal n rs) 0 ≡ c → after ≡ before
        go true q = absurd (f (a ∙ eqb_eq (withdrawal_refusal n rs) 0 q))
        go false q = b ∙ ap (λ c. cond c (stored limits (default_of before) (take_out n rs) before) before) q

set_first : (ss : List ℕ) (plan : ℕ) (before : List ℕ) (number : ℕ) (after : List ℕ) → SetDefault limits ss plan before number after → FirstOf (set_refusals ss before) number × ((number ≡ 0 → ⊥) → after ≡ before)
set_first ss plan before number after h =
    (opened ss (long_table limits before) before (short_table before) (long_not before) number set_number (λ m. refl) h.number_is (λ sig rs lawful holds e. e), kept (start limits ss (long_table limits before) before) h.number_is h.table_is)
  where
    kept : (s : Start) → number ≡ set_number s → after ≡ set_table s plan before → (number ≡ 0 → ⊥) → after ≡ before
    kept (refused m) a b f = b
    kept (begin sig rs) a b f = absurd (f a)

gap_first : (ss table witness : List ℕ) (number len : ℕ) (witness' : List ℕ) → GapCall limits ss table witness number len witness' → FirstOf (gap_refusals ss table witness) number × ((number ≡ 0 → ⊥) → (len ≡ 0) × (witness' ≡ witness)) × (len ≡ 0 → witness' ≡ witness)
gap_first ss table witness number len witness' h =
    (opened ss (long_table limits table && long_witness witness) table (short_either table witness) (long_both table witness) number set_number (λ m. refl) (number_is (enter_start limits ss table witness) h.result_is) (λ sig rs lawful holds e. e), kept (enter_start limits ss table witness) h.result_is, unwritten (enter_start limits ss table witness) h.result_is)
  where
    number_is : (s : Start) → GapFrom s witness number len witness' → number ≡ set_number s
    number_is (refused m) (a, b, c) = a
    number_is (begin sig rs) (a, r) = a

    kept : (s : Start) → GapFrom s witness number len witness' → (number ≡ 0 → ⊥) → (len ≡ 0) × (witness' ≡ witness)
    kept (refused m) (a, b, c) f = (b, c)
    kept (begin sig rs) (a, r) f = absurd (f a)

    unwritten : (s : Start) → GapFrom s witness number len witness' → len ≡ 0 → witness' ≡ witness
    unwritten (refused m) (a, b, c) e = c
    unwritten (begin sig rs) (a, r) e = (r.none_there e).1

compile_first : (ss table space : List ℕ) (number len : ℕ) (space' : List ℕ) → Compile limits ss table space number len space' → FirstOf (compile_refusals ss table space) number × ((number ≡ 0 → ⊥) → (len ≡ 0) × (space' ≡ space))
compile_first ss table space number len space' h =
    (opened ss (long_table limits table) table (short_table table) (long_not table) number f (λ m. refl) (number_is (start limits ss (long_table limits table) table) h.result_is) later, kept (start limits ss (long_table limits table) table) h.result_is)
  where
    f : Start → ℕ
    f (refused m) = m
    f (begin sig rs) = cond (too_large (tree_words (default_of table) sig rs) space) 14 0

    number_is : (s : Start) → CompileFrom (default_of table) s space number len space' → number ≡ f s
    number_is (refused m) (a, b, c) = a
    number_is (begin sig rs) r = r.number_is

    large : (sig : Signature) (rs : List Rule) → too_large (tree_words (default_of table) sig rs) space ≡ true → TooLarge (default_of table) sig rs space
    large sig rs e = go (ltb (length space) (length (tree_words (default_of table) sig rs))) refl
      where
        go : (b : Bool) → ltb (length space) (length (tree_words (default_of table) sig rs)) ≡ b → TooLarge (default_of table) sig rs space
        go true q = inl (le_of (suc (length space)) (length (tree_words (default_of table) sig rs)) q)
        go false q = inr (le_of (suc tree_limit) (length (tree_words (default_of table) sig rs)) (rw q at e))

    not_large : (sig : Signature) (rs : List Rule) → too_large (tree_words (default_of table) sig rs) space ≡ false → TooLarge (default_of table) sig rs space → ⊥
    not_large sig rs e (inl l) = true≢false (sym (ltb_yes (length space) (length (tree_words (default_of table) sig rs)) l) ∙ or_left (ltb (length space) (length (tree_words (default_of table) sig rs))) (ltb tree_limit (length (tree_words (default_of table) sig rs))) e)
    not_large sig rs e (inr l) = true≢false (sym (ltb_yes tree_limit (length (tree_words (default_of table) sig rs)) l) ∙ or_right (ltb (length space) (length (tree_words (default_of table) sig rs))) (ltb tree_limit (length (tree_words (default_of table) sig rs))) e)

    later : (sig : Signature) (rs : List Rule) → read_signature ss ≡ some sig → sound limits sig table ≡ some rs → number ≡ f (begin sig rs) → FirstOf ((14, OfRulesInForce ss table (λ s r. TooLarge (default_of table) s r space)) ∷ []) number
    later sig rs lawful holds n_is = test (too_large (tree_words (default_of table) sig rs) space) (λ q. in_force ss sig lawful table rs holds (λ s r. TooLarge (default_of table) s r space) (large sig rs q)) (λ q. in_force_not ss sig lawful table rs holds (λ s r. TooLarge (default_of table) s r space) (not_large sig rs q)) n_is (λ q e. e)

    kept : (s : Start) → CompileFrom (default_of table) s space number len space' → (number ≡ 0 → ⊥) → (len ≡ 0) × (space' ≡ space)
    kept (refused m) (a, b, c) g = (b, c)
    kept (begin sig rs) r g = go (too_large (tree_words (default_of table) sig rs) space) refl
      where
        go : (b : Bool) → too_large (tree_words (default_of table) sig rs) space ≡ b → (len ≡ 0) × (space' ≡ space)
        go true q = (r.length_is ∙ rw q, r.space_is ∙ rw q)
        go false q = absurd (g (r.number_is ∙ ap (λ b. cond b 14 0) q))

decide_first : (ss table bs : List ℕ) (number : ℕ) (a : Answer) → DecideCall limits ss table bs number a → FirstOf (decide_refusals ss table bs) number × ((number ≡ 0 → ⊥) → a ≡ zeros)
decide_first ss table bs number a h =
    (opened ss (long_table limits table) table (short_table table) (long_not table) number (λ s. (decide_from (default_of table) s bs).0) (λ m. refl) (ap (λ z. z.0) h.result_is) later, kept (start limits ss (long_table limits table) table) h.result_is)
  where
    later : (sig : Signature) (rs : List Rule) → read_signature ss ≡ some sig → sound limits sig table ≡ some rs → number ≡ (decide_from (default_of table) (begin sig rs) bs).0 → FirstOf ((13, Under ss (λ s. UnlawfulBooking s bs)) ∷ []) number
    later sig rs lawful holds n_is = go (read_booking sig bs) refl
      where
        go : (o : Option Value) → read_booking sig bs ≡ o → FirstOf ((13, Under ss (λ s. UnlawfulBooking s bs)) ∷ []) number
        go none q = inl (under ss sig lawful (λ s. UnlawfulBooking s bs) (booking_unlawful ss sig lawful bs q), n_is ∙ ap (λ o. (decide_booking (default_of table) sig rs o).0) q)
        go (some v) q = inr (under_not ss sig lawful (λ s. UnlawfulBooking s bs) (booking_not ss sig lawful bs v q), n_is ∙ ap (λ o. (decide_booking (default_of table) sig rs o).0) q)

    kept : (s : Start) → (number, a) ≡ decide_from (default_of table) s bs → (number ≡ 0 → ⊥) → a ≡ zeros
    kept (refused m) e f = ap (λ z. z.1) e
    kept (begin sig rs) e f = go (read_booking sig bs) refl
      where
        go : (o : Option Value) → read_booking sig bs ≡ o → a ≡ zeros
        go none q = ap (λ z. z.1) (e ∙ ap (decide_booking (default_of table) sig rs) q)
        go (some v) q = absurd (f (ap (λ z. z.0) (e ∙ ap (decide_booking (default_of table) sig rs) q)))

run_first : (ss tree bs : List ℕ) (number : ℕ) (a : Answer) → RunCall ss tree bs number a → FirstOf (run_refusals ss tree bs) number × ((number ≡ 0 → ⊥) → a ≡ zeros)
run_first ss tree bs number a h = go (read_signature ss) refl
  where
    on_15 : (sig : Signature) → read_signature ss ≡ some sig → (v : Value) → read_booking sig bs ≡ some v → (r : Option Answer) → run (length tree) sig tree 0 (vcons v vnil) 0 [] ≡ r → FirstOf (run_refusals ss tree bs) number × ((number ≡ 0 → ⊥) → a ≡ zeros)
    on_15 sig e v q r w = last r w (h.result_is ∙ ap (λ o. run_signature o tree bs) e ∙ ap (run_booking sig tree) q ∙ ap run_at w)
      where
        broken : (o : Option Answer) → run (length tree) sig tree 0 (vcons v vnil) 0 [] ≡ o → run_words sig tree bs ≡ o
        broken o z = rw q z

        last : (r : Option Answer) → run (length tree) sig tree 0 (vcons v vnil) 0 [] ≡ r → (number, a) ≡ run_at r → FirstOf (run_refusals ss tree bs) number × ((number ≡ 0 → ⊥) → a ≡ zeros)
        last none w x = (inr (is_lawful ss sig e, inr (under_not ss sig e (λ s. UnlawfulBooking s bs) (booking_not ss sig e bs v q), inl (under ss sig e (λ s. Broken s tree bs) (broken none w), ap (λ z. z.0) x))), λ f. ap (λ z. z.1) x)
        last (some b) w x = (inr (is_lawful ss sig e, inr (under_not ss sig e (λ s. UnlawfulBooking s bs) (booking_not ss sig e bs v q), inr (under_not ss sig e (λ s. Broken s tree bs) (λ z. none≢some (sym z ∙ broken (some b) w)), ap (λ z. z.0) x))), λ f. absurd (f (ap (λ z. z.0) x)))

    on_13 : (sig : Signature) → read_signature ss ≡ some sig → (o : Option Value) → read_booking sig bs ≡ o → FirstOf (run_refusals ss tree bs) number × ((number ≡ 0 → ⊥) → a ≡ zeros)
    on_13 sig e none q =
        let x = h.result_is ∙ ap (λ o. run_signature o tree bs) e ∙ ap (run_booking sig tree) q in
        (inr (is_lawful ss sig e, inl (under ss sig e (λ s. UnlawfulBooking s bs) (booking_unlawful ss sig e bs q), ap (λ z. z.0) x)), λ f. ap (λ z. z.1) x)
    on_13 sig e (some v) q = on_15 sig e v q (run (length tree) sig tree 0 (vcons v vnil) 0 []) refl

    go : (o : Option Signature) → read_signature ss ≡ o → FirstOf (run_refusals ss tree bs) number × ((number ≡ 0 → ⊥) → a ≡ zeros)
    go none e =
        let x = h.result_is ∙ ap (λ o. run_signature o tree bs) e in
        (inl (unlawful_of ss e, ap (λ z. z.0) x), λ f. ap (λ z. z.1) x)
    go (some sig) e = on_13 sig e (read_booking sig bs) refl

pub demand_1 : Demand1
demand_1 = record { part = part_first; empty = empty_first; enter = enter_first; withdraw = withdraw_first; set_default = set_first; gap = gap_first; compile = compile_first; decide = decide_first; run = run_first }
