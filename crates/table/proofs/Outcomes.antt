-- Every call has an outcome; under an unlawful signature it is 1.
use mathlib.Core.Path.{◌≡◌, refl, sym, ap, ◌∙◌, subst}
use mathlib.Core.List.{List, ◌∷◌, ◌++◌, []}
use mathlib.Core.Option.{some, Option, none}
use mathlib.Core.Bool.{Bool, true, false, ◌&&◌}
use Prim.Native.Nat.{ℕ, ◌≤◌, ◌<◌}
use native.Mathlib.Omega.{arith}
use lib.Dec.{eqb}
use lib.ListN.{length, drop}
use Rattle.signature.specs.Lists.{In, any, in_here, in_there, All, none_left, also}
use Rattle.signature.specs.Read.{read_signature}
use Rattle.signature.specs.Signature.{Signature}
use Rattle.signature.proofs.Tests.{true≢false, eqb_eq, eqb_ne}
use Rattle.row.specs.Overlap.{shares}
use Rattle.row.proofs.Exists.{shares_exists, exists_shares}
use Rattle.table.specs.Limits.{limits}
use Rattle.table.specs.Calls.{Start, refused, begin, start, on_sound, on_signature, Entered, Enter, enter_start, long_table, long_witness, enter_number, enter_table, Shows, withdraw_table, withdraw_number, set_table, set_number}
use Rattle.table.specs.ListsOfCalls.{ListCall, Calls, no_call, enter, then_enter, withdraw, then_withdraw, set_default, then_set}
use Rattle.table.specs.Refusals.{sharer, entry_refusal}
use Rattle.table.specs.Rule.{Rule, Rises, rises_nil, rises_cons}
use Rattle.table.specs.Sound.{sound}
use Rattle.table.proofs.Reckoning.{in_above, twelve_shared}
use Rattle.table.proofs.SoundFacts.{sound_valid}

-- what refusals 1 to 3 leave
abbrev Begun : List ℕ → Bool → List ℕ → Start → Type 0
Begun ss long table (refused m) = m ≤ 3
Begun ss long table (begin sig rs) = (read_signature ss ≡ some sig) × (sound limits sig table ≡ some rs) × (long ≡ true)

begun : (ss : List ℕ) (long : Bool) (table : List ℕ) → Begun ss long table (start limits ss long table)
begun ss long table = go (read_signature ss) refl long refl
  where
    last : (sig : Signature) (o : Option (List Rule)) → read_signature ss ≡ some sig → sound limits sig table ≡ o → long ≡ true → Begun ss long table (on_sound sig o)
    last sig none a b c = omega arith
    last sig (some rs) a b c = (a, b, c)

    go : (o : Option Signature) → read_signature ss ≡ o → (l : Bool) → long ≡ l → Begun ss long table (on_signature limits o l table)
    go none a l c = omega arith
    go (some sig) a true c = last sig (sound limits sig table) a refl c
    go (some sig) a false c = omega arith

-- the first rule that shares is the lowest, since the rules rise
pub record First (sig : Signature) (ws : List ℕ) (rs : List Rule) : Type 0 where
  pub rule : Rule
  pub held : In rule rs
  pub shares_it : shares sig ws rule.pattern ≡ true
  pub lowest : (s : Rule) → In s rs → s.number < rule.number → shares sig ws s.pattern ≡ false
  pub named : sharer sig ws rs ≡ rule.number

pub first_sharer : {m : ℕ} (sig : Signature) (ws : List ℕ) {rs : List Rule} → Rises m rs → any (λ r. shares sig ws r.pattern) rs ≡ true → First sig ws rs
first_sharer sig ws rises_nil e = true≢false (sym e)
first_sharer sig ws (rises_cons {r = r} {rs = rs} a b h) e = go (shares sig ws r.pattern) refl (first_sharer sig ws h)
  where
    none_lower : (s : Rule) → In s (r ∷ rs) → s.number < r.number → shares sig ws s.pattern ≡ false
    none_lower s in_here l = absurd (omega arith)
    none_lower s (in_there i) l = absurd (omega (arith, in_above s h i))

    later : shares sig ws r.pattern ≡ false → (t : First sig ws rs) → (s : Rule) → In s (r ∷ rs) → s.number < t.rule.number → shares sig ws s.pattern ≡ false
    later q t s in_here l = q
    later q t s (in_there i) l = t.lowest s i l

    go : (c : Bool) → shares sig ws r.pattern ≡ c → (any (λ s. shares sig ws s.pattern) rs ≡ true → First sig ws rs) → First sig ws (r ∷ rs)
    go true q f = record { rule = r; held = in_here; shares_it = q; lowest = none_lower; named = rw q }
    go false q f = let t = f (rw q at e) in record { rule = t.rule; held = in_there t.held; shares_it = t.shares_it; lowest = later q t; named = rw q t.named }

-- every entry has an outcome
pub record Outcome (ss : List ℕ) (n plan : ℕ) (ws before witness : List ℕ) : Type 0 where
  pub e : Entered
  pub after : List ℕ
  pub witness' : List ℕ
  pub meets : Enter limits ss n plan ws before witness e after witness'

pub begin_inj : (sig sig' : Signature) (rs rs' : List Rule) → begin sig rs ≡ begin sig' rs' → (sig ≡ sig') × (rs ≡ rs')
begin_inj sig sig' rs rs' p = (cc, cc)

pub refused_begin : {A : Type 0} (m : ℕ) (sig : Signature) (rs : List Rule) → refused m ≡ begin sig rs → A
refused_begin m sig rs p = absurd (let z : ◌≡◌ {A = ℕ} 0 1 = cc in omega arith)

pub enter_outcome : (ss : List ℕ) (n plan : ℕ) (ws before witness : List ℕ) → Outcome ss n plan ws before witness
enter_outcome ss n plan ws before witness = go (enter_start limits ss before witness) refl (begun ss (long_table limits before && long_witness witness) before)
  where
    plain : (st : Start) → enter_start limits ss before witness ≡ st → (enter_number limits st n ws ≡ 12 → ⊥) → Outcome ss n plan ws before witness
    plain st q f = record { e = record { number = enter_number limits st n ws; sharer = 0; shown = 0 }; after = enter_table limits st n plan ws before; witness' = witness; meets = record { number_is = ap (λ s. enter_number limits s n ws) (sym q); table_is = ap (λ s. enter_table limits s n plan ws before) (sym q); not_12 = λ g. (refl, refl, refl); on_12 = λ sig rs z y. absurd (f y) } }

    shown_one : (sig : Signature) (rs : List Rule) → enter_start limits ss before witness ≡ begin sig rs → (lawful : read_signature ss ≡ some sig) → entry_refusal limits sig n ws rs ≡ 12 → First sig ws rs → Outcome ss n plan ws before witness
    shown_one sig rs q lawful y t =
        let s = shares_exists sig (ss, lawful) ws t.rule.pattern t.shares_it in
        let x : Entered = record { number = 12; sharer = t.rule.number; shown = length s.words } in
        let w : List ℕ = s.words ++ drop (length s.words) witness in
        let there : Shows sig rs ws witness x w = record { rule = t.rule; held = t.held; named = refl; lowest = λ r i l z. true≢false (sym (exists_shares sig (ss, lawful) ws r.pattern z) ∙ t.lowest r i l); booking = s.words; binds = s.binds_us; binds' = s.binds_ws; taken = s.taken_us; taken' = s.taken_ws; length_is = refl; witness_is = refl } in
        record { e = x; after = enter_table limits (begin sig rs) n plan ws before; witness' = w; meets = record { number_is = sym (ap (λ u. enter_number limits u n ws) q ∙ y); table_is = ap (λ u. enter_table limits u n plan ws before) (sym q); not_12 = λ g. absurd (g refl); on_12 = λ sig' rs' z u. moved sig rs sig' rs' x w there (sym q ∙ z) } }
      where
        moved : (sig : Signature) (rs : List Rule) (sig' : Signature) (rs' : List Rule) (x : Entered) (w : List ℕ) → Shows sig rs ws witness x w → begin sig rs ≡ begin sig' rs' → Shows sig' rs' ws witness x w
        moved sig rs sig' rs' x w h z = let (a, b) = begin_inj sig sig' rs rs' z in subst (λ c. Shows sig' c ws witness x w) b (subst (λ c. Shows c rs ws witness x w) a h)

    go : (st : Start) → enter_start limits ss before witness ≡ st → Begun ss (long_table limits before && long_witness witness) before st → Outcome ss n plan ws before witness
    go (refused m) q l = plain (refused m) q (λ z. omega arith)
    go (begin sig rs) q (a, b, c) = on (eqb (entry_refusal limits sig n ws rs) 12) refl
      where
        on : (t : Bool) → eqb (entry_refusal limits sig n ws rs) 12 ≡ t → Outcome ss n plan ws before witness
        on true z =
            let y = eqb_eq (entry_refusal limits sig n ws rs) 12 z in
            shown_one sig rs q a y (first_sharer sig ws (sound_valid sig (ss, a) before rs b).0.rises (twelve_shared ss sig a n ws rs y))
        on false z = plain (begin sig rs) q (eqb_ne (entry_refusal limits sig n ws rs) 12 z)

-- and so every list of calls on every table
pub calls_outcome : (ss : List ℕ) (cs : List ListCall) (table : List ℕ) → (ns : List ℕ) × (last : List ℕ) × Calls limits ss table cs ns last
calls_outcome ss [] table = ([], table, no_call)
calls_outcome ss (enter n plan ws witness ∷ cs) table =
    let o = enter_outcome ss n plan ws table witness in
    let (ns, last, c) = calls_outcome ss cs o.after in
    (o.e.number ∷ ns, last, then_enter o.meets c)
calls_outcome ss (withdraw n ∷ cs) table =
    let st = start limits ss (long_table limits table) table in
    let (ns, last, c) = calls_outcome ss cs (withdraw_table limits st n table) in
    (withdraw_number st n ∷ ns, last, then_withdraw (record { number_is = refl; table_is = refl }) c)
calls_outcome ss (set_default plan ∷ cs) table =
    let st = start limits ss (long_table limits table) table in
    let (ns, last, c) = calls_outcome ss cs (set_table st plan table) in
    (set_number st ∷ ns, last, then_set (record { number_is = refl; table_is = refl }) c)

-- under an unlawful signature every call gives 1 and writes nothing
module _ (ss : List ℕ) (unlawful : read_signature ss ≡ none) where
  start_1 : (long : Bool) (table : List ℕ) → start limits ss long table ≡ refused 1
  start_1 long table = ap (λ o. on_signature limits o long table) unlawful

  pub unlawful_calls : {table last : List ℕ} {cs : List ListCall} {ns : List ℕ} → Calls limits ss table cs ns last → All (λ n. n ≡ 1) ns × (last ≡ table)
  unlawful_calls no_call = (none_left, refl)
  unlawful_calls (then_enter {n = n} {plan = plan} {ws = ws} {before = before} {witness = witness} {e = x} h c) =
      let (a, b) = unlawful_calls c in
      (also x.number (h.number_is ∙ ap (λ s. enter_number limits s n ws) (start_1 (long_table limits before && long_witness witness) before)) a, b ∙ h.table_is ∙ ap (λ s. enter_table limits s n plan ws before) (start_1 (long_table limits before && long_witness witness) before))
  unlawful_calls (then_withdraw {n = n} {number = number} {before = before} h c) =
      let (a, b) = unlawful_calls c in
      (also number (h.number_is ∙ ap (λ s. withdraw_number s n) (start_1 (long_table limits before) before)) a, b ∙ h.table_is ∙ ap (λ s. withdraw_table limits s n before) (start_1 (long_table limits before) before))
  unlawful_calls (then_set {plan = plan} {number = number} {before = before} h c) =
      let (a, b) = unlawful_calls c in
      (also number (h.number_is ∙ ap set_number (start_1 (long_table limits before) before)) a, b ∙ h.table_is ∙ ap (λ s. set_table s plan before) (start_1 (long_table limits before) before))
