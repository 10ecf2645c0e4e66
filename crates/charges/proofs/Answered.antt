-- A call that is not refused answers each booking as its single run, keeps what stands behind plan, and changes nothing when it is made again.
use mathlib.Core.Path.{◌≡◌, refl, ap, sym, subst, ◌∙◌}
use mathlib.Core.Logic.{inl, inr}
use mathlib.Core.List.{List, [], ◌∷◌, ◌++◌, map}
use mathlib.Core.Option.{some}
use mathlib.Core.Bool.{Bool, true, false, cond}
use Prim.Native.Nat.{ℕ, zero, suc, ◌≤◌, ◌<◌}
use native.Mathlib.Omega.{arith}
use lib.Dec.{eqb}
use lib.ListN.{length, get_or, length-map}
use Rattle.signature.specs.Lawful.{SignatureWords, LawfulBooking}
use Rattle.signature.specs.Lists.{All, none_left, also}
use Rattle.signature.specs.Read.{read_booking, read_signature}
use Rattle.signature.specs.Signature.{Signature}
use Rattle.signature.specs.Value.{Value}
use Rattle.signature.proofs.ListFacts.{all_map, all_imp}
use Rattle.signature.proofs.SignatureBack.{is_signature}
use Rattle.signature.proofs.Tests.{eqb_eq, eqb_ne, eqb_self}
use Rattle.signature.proofs.Values.{lawful_booking}
use Rattle.tree.specs.Leaf.{Treed}
use Rattle.tree.specs.Run.{run_words}
use Rattle.tree.specs.RunCall.{RunCall, run_at}
use Rattle.tree.specs.Tree.{Tree}
use Rattle.tree.specs.Words.{layout}
use Rattle.tree.proofs.Laws as tree_laws
use Rattle.charges.specs.Charge.{Charge, record_words, list_words, Recordable, ChargeWords, read_charges, word_of}
use Rattle.charges.specs.Laws.{AnsweredAs, Each, each_none, each_also, Replanned}
use Rattle.charges.specs.Limits.{record_length}
use Rattle.charges.specs.Replan.{new_answer, first_refused, answered, differing, Outcome, replan_list, replan_signature, ReplanCall}
use Rattle.charges.proofs.Refusals.{Answered, Ends, outcome, not_refused, single_run}
use Rattle.charges.proofs.Words.{word_first, word_later, list_long, read_words, words_read}

-- the number of a list is 0 where that of each of its charges is
module _ (sig : Signature) (tree : List ℕ) where
  each_passes : (cs : List Charge) → first_refused sig tree cs ≡ 0 → All (λ c. (new_answer sig tree c).0 ≡ 0) cs
  each_passes [] e = none_left
  each_passes (c ∷ cs) e = go (eqb (new_answer sig tree c).0 0) refl (each_passes cs)
    where
      go : (b : Bool) → eqb (new_answer sig tree c).0 0 ≡ b → (first_refused sig tree cs ≡ 0 → All (λ d. (new_answer sig tree d).0 ≡ 0) cs) → All (λ d. (new_answer sig tree d).0 ≡ 0) (c ∷ cs)
      go true q f = also c (eqb_eq (new_answer sig tree c).0 0 q) (f (rw q at e))
      go false q f = absurd (eqb_ne (new_answer sig tree c).0 0 q (rw q at e))

  all_pass : {cs : List Charge} → All (λ c. (new_answer sig tree c).0 ≡ 0) cs → first_refused sig tree cs ≡ 0
  all_pass none_left = refl
  all_pass (also c e es) = rw e (all_pass es)

  -- the charges of the list afterwards
  abbrev afterwards : List Charge → List Charge
  afterwards cs = map (answered sig tree) cs

  -- the tree says of a charge that is answered again what it said
  pass_again : {cs : List Charge} → All (λ c. (new_answer sig tree c).0 ≡ 0) cs → All (λ c. (new_answer sig tree c).0 ≡ 0) (afterwards cs)
  pass_again ps = all_map (answered sig tree) (λ c e. e) ps

  same_again : (cs : List Charge) → afterwards (afterwards cs) ≡ afterwards cs
  same_again [] = refl
  same_again (c ∷ cs) = ap (λ ds. answered sig tree c ∷ ds) (same_again cs)

  still_recordable : {cs : List Charge} → All Recordable cs → All Recordable (afterwards cs)
  still_recordable rs = all_map (answered sig tree) (λ c r. r) rs

  still_words : {before : List ℕ} {cs : List Charge} → ChargeWords before cs → ChargeWords (list_words (afterwards cs)) (afterwards cs)
  still_words {cs = cs} h = record { few = omega (arith, length-map cs (answered sig tree), h.few); recordable = still_recordable h.recordable; words_are = refl }

  -- only the first two words of a record change
  same_record : (c : Charge) (j : ℕ) → 2 ≤ j → get_or (record_words (answered sig tree c)) j 0 ≡ get_or (record_words c) j 0
  same_record c zero l = absurd (omega arith)
  same_record c (suc zero) l = absurd (omega arith)
  same_record c (suc (suc j)) l = refl

  same_words : {cs : List Charge} → All Recordable cs → (k j : ℕ) → 2 ≤ j → j < record_length → word_of (list_words (afterwards cs)) k j ≡ word_of (list_words cs) k j
  same_words none_left k j l m = refl
  same_words (also c {xs = cs} r rs) zero j l m = word_first (answered sig tree c) r (list_words (afterwards cs)) j m ∙ same_record c j l ∙ sym (word_first c r (list_words cs) j m)
  same_words (also c {xs = cs} r rs) (suc k) j l m = word_later (answered sig tree c) r (list_words (afterwards cs)) k j ∙ same_words rs k j l m ∙ sym (word_later c r (list_words cs) k j)

  as_long : {cs : List Charge} → All Recordable cs → length (list_words (afterwards cs)) ≡ length (list_words cs)
  as_long {cs} rs = omega (arith, list_long rs, list_long (still_recordable rs), length-map cs (answered sig tree))

no_difference : (cs : List Charge) → differing cs cs ≡ 0
no_difference [] = refl
no_difference (c ∷ cs) = let z : ◌≡◌ {A = ℕ} (cond (eqb c.plan c.plan) 0 1) 0 = rw (eqb_self c.plan) in omega (arith, z, no_difference cs)

-- a call that has no refusal
module _ (ss tree before : List ℕ) (sig : Signature) (cs : List Charge) where
  passes : read_signature ss ≡ some sig → read_charges before ≡ some cs → All (λ c. (new_answer sig tree c).0 ≡ 0) cs → {number changed : ℕ} {after : List ℕ} → ReplanCall ss tree before number changed after → (number ≡ 0) × (changed ≡ differing cs (afterwards sig tree cs)) × (after ≡ list_words (afterwards sig tree cs))
  passes lawful read ps {number} {changed} {after} h =
      let e : ◌≡◌ {A = Outcome} (number, changed, after) (0, differing cs (afterwards sig tree cs), list_words (afterwards sig tree cs)) = h.result_is ∙ ap (λ o. replan_signature o tree before) lawful ∙ ap (replan_list sig tree before) read ∙ rw (all_pass sig tree ps) in
      (ap (λ t. t.0) e, ap (λ t. t.1) e, ap (λ t. t.2) e)

-- as the single runs answer
each_single : (ss tree : List ℕ) (sig : Signature) → read_signature ss ≡ some sig → {cs : List Charge} → All (λ c. (new_answer sig tree c).0 ≡ 0) cs → Each (AnsweredAs ss tree) cs (afterwards sig tree cs)
each_single ss tree sig lawful none_left = each_none
each_single ss tree sig lawful (also c e es) = each_also (record { answer = (new_answer sig tree c).1; runs = subst (λ n. RunCall ss tree c.booking n (new_answer sig tree c).1) e (single_run ss tree sig lawful c); rule_is = refl; plan_is = refl; booking_is = refl }) (each_single ss tree sig lawful es)

module _ (ss tree before : List ℕ) where
  pub single : (changed : ℕ) (after : List ℕ) → ReplanCall ss tree before 0 changed after → Replanned ss tree before changed after
  single changed after h =
      let a : Answered ss tree before 0 changed after = not_refused ss tree before changed after h in
      let w : ChargeWords before a.charges = read_words before a.charges a.read in
      record {
        old = a.charges;
        new = afterwards a.sig tree a.charges;
        were = w;
        are = subst (λ ws. ChargeWords ws (afterwards a.sig tree a.charges)) (sym a.after_is) (still_words a.sig tree w);
        each = each_single ss tree a.sig a.lawful (each_passes a.sig tree a.charges a.none_refused);
        count = a.changed_is;
      }

  pub kept : (number changed : ℕ) (after : List ℕ) → ReplanCall ss tree before number changed after → (length after ≡ length before) × ((k j : ℕ) → 2 ≤ j → j < record_length → word_of after k j ≡ word_of before k j)
  kept number changed after h = go (outcome ss tree before number changed after h)
    where
      go : Ends ss tree before number changed after → (length after ≡ length before) × ((k j : ℕ) → 2 ≤ j → j < record_length → word_of after k j ≡ word_of before k j)
      go (inl r) = (ap length r.after_is, λ k j l m. ap (λ ws. word_of ws k j) r.after_is)
      go (inr a) =
          let w : ChargeWords before a.charges = read_words before a.charges a.read in
          (ap length a.after_is ∙ as_long a.sig tree w.recordable ∙ sym (ap length w.words_are), λ k j l m. ap (λ ws. word_of ws k j) a.after_is ∙ same_words a.sig tree w.recordable k j l m ∙ sym (ap (λ ws. word_of ws k j) w.words_are))

  pub again : (changed : ℕ) (after : List ℕ) → ReplanCall ss tree before 0 changed after → (number more : ℕ) (last : List ℕ) → ReplanCall ss tree after number more last → (number ≡ 0) × (more ≡ 0) × (last ≡ after)
  again changed after h number more last g =
      let a : Answered ss tree before 0 changed after = not_refused ss tree before changed after h in
      let new : List Charge = afterwards a.sig tree a.charges in
      let same : afterwards a.sig tree new ≡ new = same_again a.sig tree a.charges in
      let w : ChargeWords (list_words new) new = still_words a.sig tree (read_words before a.charges a.read) in
      let (n, m, l) = passes ss tree after a.sig new a.lawful (ap read_charges a.after_is ∙ words_read (list_words new) new w) (pass_again a.sig tree (each_passes a.sig tree a.charges a.none_refused)) g in
      (n, m ∙ ap (differing new) same ∙ no_difference new, l ∙ ap list_words same ∙ sym a.after_is)

-- on a compiled tree
module _ (ss behind : List ℕ) (sig : Signature) (t : Tree) (dft : ℕ) (lawful : read_signature ss ≡ some sig) (h : Treed dft sig (0 ∷ []) 0 t) where
  compiled_passes : (c : Charge) → (v : Value) × LawfulBooking sig c.booking v → (new_answer sig (layout t 0 ++ behind) c).0 ≡ 0
  compiled_passes c (v, b) =
      let e : read_booking sig c.booking ≡ some v = lawful_booking sig c.booking v b in
      let (a, q) = (tree_laws.laws).never_broken dft sig (ss, lawful) t h behind c.booking v e in
      let w : new_answer sig (layout t 0 ++ behind) c ≡ run_at (run_words sig (layout t 0 ++ behind) c.booking) = rw e in
      ap (λ r. r.0) (w ∙ ap run_at q)

pub compiled : (ss before behind : List ℕ) (sig : Signature) (cs : List Charge) (t : Tree) (dft : ℕ) → SignatureWords ss sig → ChargeWords before cs → All (λ c. (v : Value) × LawfulBooking sig c.booking v) cs → Treed dft sig (0 ∷ []) 0 t → (number changed : ℕ) (after : List ℕ) → ReplanCall ss (layout t 0 ++ behind) before number changed after → number ≡ 0
compiled ss before behind sig cs t dft s w bs h number changed after c =
    let lawful : read_signature ss ≡ some sig = is_signature ss sig s in
    (passes ss (layout t 0 ++ behind) before sig cs lawful (words_read before cs w) (all_imp (compiled_passes ss behind sig t dft lawful h) bs) c).0
