-- Walking the tree of a matrix answers by the first line that fits.
use mathlib.Core.Path.{◌≡◌, refl, ◌∙◌, ap, ap₂, sym}
use mathlib.Core.List.{List, map, ◌++◌, ◌∷◌, []}
use mathlib.Core.Option.{Option, none, some}
use mathlib.Core.Bool.{cond, Bool, true, false, ◌&&◌}
use Prim.Native.Nat.{ℕ, ◌-◌, suc, ◌+◌, zero, ◌≤◌, ◌<◌}
use native.Mathlib.Nat.{add-zero, add_assoc}
use native.Mathlib.Omega.{arith}
use lib.Dec.{leb, eqb}
use lib.ListN.{get_or, length, get_or-append, length-append, get_elem?}
use lib.Seq.{get_or-append_seam}
use Rattle.signature.specs.Lawful.{OfKinds, of_kinds_nil, of_kinds_cons, OfKind, of_kind}
use Rattle.signature.specs.Limits.{level_base, last_level}
use Rattle.signature.specs.Lists.{All, none_left, also, memb, all, somes, first, any, keep}
use Rattle.signature.specs.Signature.{arguments_at, Signature, heads, arguments, is_number_kind, level_of}
use Rattle.signature.specs.Value.{Values, vnil, vcons, con, size, Value, sizes}
use Rattle.signature.proofs.Booleans.{and_assoc, not_false}
use Rattle.signature.proofs.Heads.{same_args, has_kind, args_same, level_bare}
use Rattle.signature.proofs.LawfulFacts.{SigFacts, dense}
use Rattle.signature.proofs.ListFacts.{Kept, kept, dropped, kept_bind, all_somes, all_map, all_imp, all_with}
use Rattle.signature.proofs.Members.{all_memb}
use Rattle.signature.proofs.Tests.{eqb_eq, true≢false, none≢some, some_inj}
use Rattle.row.specs.Row.{Row, named, free, Rows, rnil, rcons, open_rows}
use Rattle.row.specs.RowFits.{rows_fit, row_fits}
use Rattle.row.proofs.RowTheorem.{opens_fit}
use Rattle.tree.specs.Run.{vjoin, place_of}
use Rattle.tree.specs.Tree.{Tree, default, hit, test, skip, split, Trees, tnil, tcons, inserts, Line, insert, rappend, after, taken, refined, passed, is_end, branches, branch, children, compile}
use Rattle.tree.proofs.EndFacts.{FirstEnd, heads_end, one_interval, number_heads, split_branches, test_branches, split_branch, test_branch}

abbrev pub Hit : Type 0
Hit = ℕ × ℕ × List (ℕ × ℕ)

-- bindings by visit as bindings by place
abbrev pub placed : List ℕ → List (ℕ × ℕ) → List (ℕ × ℕ)
placed visits bs = map (λ b. (b.0, get_or visits b.1 0)) bs

-- a walk of a tree itself
abbrev mutual
  pub walk : Tree → Values → ℕ → List ℕ → Option Hit
  walk (default d) vs j visits = none
  walk (hit r p bs) vs j visits = some (r, p, placed visits bs)
  walk (test f ts) vnil j visits = none
  walk (test f ts) (vcons (con c us) rest) j visits = walk_nth ts (c - f) (vjoin us rest) (suc j) (visits ++ (j ∷ []))
  walk (split es ts) vnil j visits = none
  walk (split es ts) (vcons (con c us) rest) j visits = walk_nth ts (place_of (level_of c) es) (vjoin us rest) (suc j) (visits ++ (j ∷ []))
  walk (skip t) vnil j visits = none
  walk (skip t) (vcons v rest) j visits = walk t rest (j + size v) (visits ++ (j ∷ []))

  pub walk_nth : Trees → ℕ → Values → ℕ → List ℕ → Option Hit
  walk_nth tnil i vs j visits = none
  walk_nth (tcons t ts) zero vs j visits = walk t vs j visits
  walk_nth (tcons t ts) (suc i) vs j visits = walk_nth ts i vs j visits

-- what a row binds by itself, the first part standing at place j, added to bindings
abbrev mutual
  pub final : Row → Value → ℕ → List (ℕ × ℕ) → List (ℕ × ℕ)
  final (named xs c rs) (con d us) j σ = finals rs us (suc j) (inserts j xs σ)
  final (free xs cs) v j σ = inserts j xs σ

  pub finals : Rows → Values → ℕ → List (ℕ × ℕ) → List (ℕ × ℕ)
  finals rnil vs j σ = σ
  finals (rcons r rs) vnil j σ = σ
  finals (rcons r rs) (vcons v vs) j σ = finals rs vs (j + size v) (final r v j σ)

abbrev pub outcome : List ℕ → Values → ℕ → Line → Option Hit
outcome visits vs j l = cond (rows_fit l.cells vs) (some (l.rule, l.plan, finals l.cells vs j (placed visits l.binds))) none

abbrev pub or_then : Option Hit → Option Hit → Option Hit
or_then none o = o
or_then (some h) o = some h

-- the first line that fits
abbrev pub first_fit : List ℕ → Values → ℕ → List Line → Option Hit
first_fit visits vs j [] = none
first_fit visits vs j (l ∷ ls) = or_then (outcome visits vs j l) (first_fit visits vs j ls)

-- placed bindings
placed_insert : (visits : List ℕ) (x t : ℕ) (bs : List (ℕ × ℕ)) → placed visits (insert (x, t) bs) ≡ insert (x, get_or visits t 0) (placed visits bs)
placed_insert visits x t [] = refl
placed_insert visits x t (b ∷ bs) = go (leb x b.0) refl (placed_insert visits x t bs)
  where
    go : (c : Bool) → leb x b.0 ≡ c → placed visits (insert (x, t) bs) ≡ insert (x, get_or visits t 0) (placed visits bs) → placed visits (insert (x, t) (b ∷ bs)) ≡ insert (x, get_or visits t 0) (placed visits (b ∷ bs))
    go true e h = rw e
    go false e h = rw (e, h)

placed_inserts : (visits : List ℕ) (t : ℕ) (xs : List ℕ) (bs : List (ℕ × ℕ)) → placed visits (inserts t xs bs) ≡ inserts (get_or visits t 0) xs (placed visits bs)
placed_inserts visits t [] bs = refl
placed_inserts visits t (x ∷ xs) bs = placed_insert visits x t (inserts t xs bs) ∙ ap (insert (x, get_or visits t 0)) (placed_inserts visits t xs bs)

placed_more : (visits : List ℕ) (j : ℕ) (bs : List (ℕ × ℕ)) → All (λ b. b.1 < length visits) bs → placed (visits ++ (j ∷ [])) bs ≡ placed visits bs
placed_more visits j [] none_left = refl
placed_more visits j (b ∷ bs) (also x l h) = ap₂ (λ n cs. (b.0, n) ∷ cs) (get_or-append visits (j ∷ []) 0 b.1 l) (placed_more visits j bs h)

-- joined parts
mutual
  pub sizes_join : (us vs : Values) → sizes (vjoin us vs) ≡ sizes us + sizes vs
  sizes_join vnil vs = omega arith
  sizes_join (vcons u us) vs = omega (arith, sizes_join us vs)

module _ (sig : Signature) where
  mutual
    pub data Rowed : ℕ → Row → Type 0 where
      rowed_named : {k c : ℕ} {xs js : List ℕ} {rs : Rows} → arguments_at sig k c ≡ some js → Roweds js rs → Rowed k (named xs c rs)
      rowed_free : {k : ℕ} {xs cs : List ℕ} → Rowed k (free xs cs)

    pub data Roweds : List ℕ → Rows → Type 0 where
      roweds_nil : Roweds [] rnil
      roweds_cons : {k : ℕ} {ks : List ℕ} {r : Row} {rs : Rows} → Rowed k r → Roweds ks rs → Roweds (k ∷ ks) (rcons r rs)

  pub roweds_join : {ks js : List ℕ} {rs ss : Rows} → Roweds ks rs → Roweds js ss → Roweds (ks ++ js) (rappend rs ss)
  roweds_join roweds_nil q = q
  roweds_join (roweds_cons r p) q = roweds_cons r (roweds_join p q)

  pub kindeds_join : {ks js : List ℕ} {us vs : Values} → OfKinds sig ks us → OfKinds sig js vs → OfKinds sig (ks ++ js) (vjoin us vs)
  kindeds_join of_kinds_nil q = q
  kindeds_join (of_kinds_cons h p) q = of_kinds_cons h (kindeds_join p q)

  pub opens_rowed : (ks : List ℕ) → Roweds ks (open_rows sig ks)
  opens_rowed [] = roweds_nil
  opens_rowed (k ∷ ks) = roweds_cons rowed_free (opens_rowed ks)

  join_fit : {ks : List ℕ} {rs : Rows} {us : Values} → Roweds ks rs → OfKinds sig ks us → (ss : Rows) (vs : Values) → rows_fit (rappend rs ss) (vjoin us vs) ≡ (rows_fit rs us && rows_fit ss vs)
  join_fit roweds_nil of_kinds_nil ss vs = refl
  join_fit (roweds_cons {r = r} {rs = rs} p q) (of_kinds_cons {v = v} {vs = us} h g) ss vs = ap (λ b. row_fits r v && b) (join_fit q g ss vs) ∙ and_assoc (row_fits r v) (rows_fit rs us) (rows_fit ss vs)

  join_final : {ks : List ℕ} {rs : Rows} {us : Values} → Roweds ks rs → OfKinds sig ks us → (ss : Rows) (vs : Values) (j : ℕ) (σ : List (ℕ × ℕ)) → finals (rappend rs ss) (vjoin us vs) j σ ≡ finals ss vs (j + sizes us) (finals rs us j σ)
  join_final roweds_nil of_kinds_nil ss vs j σ = rw (add-zero j)
  join_final (roweds_cons {r = r} {rs = rs} p q) (of_kinds_cons {v = v} {vs = us} h g) ss vs j σ = join_final q g ss vs (j + size v) (final r v j σ) ∙ rw (add_assoc j (size v) (sizes us))

  open_final : {ks : List ℕ} {us : Values} → OfKinds sig ks us → (j : ℕ) (σ : List (ℕ × ℕ)) → finals (open_rows sig ks) us j σ ≡ σ
  open_final of_kinds_nil j σ = refl
  open_final (of_kinds_cons {v = v} h g) j σ = open_final g (j + size v) σ

  -- a line for columns of these kinds, t visits made
  pub record Shaped (ks : List ℕ) (t : ℕ) (l : Line) : Type 0 where
    pub cells : Roweds ks l.cells
    pub made : All (λ b. b.1 < t) l.binds

insert_made : (t u : ℕ) (x : ℕ) {bs : List (ℕ × ℕ)} → u < t → All (λ b. b.1 < t) bs → All (λ b. b.1 < t) (insert (x, u) bs)
insert_made t u x h none_left = also (x, u) h none_left
insert_made t u x h (also b {xs = bs} l p) = go (leb x b.0) (insert_made t u x h p)
  where
    go : (c : Bool) → All (λ d. d.1 < t) (insert (x, u) bs) → All (λ d. d.1 < t) (cond c ((x, u) ∷ (b ∷ bs)) (b ∷ insert (x, u) bs))
    go true q = also (x, u) h (also b l p)
    go false q = also b l q

inserts_made : (t u : ℕ) (xs : List ℕ) {bs : List (ℕ × ℕ)} → u < t → All (λ b. b.1 < t) bs → All (λ b. b.1 < t) (inserts u xs bs)
inserts_made t u [] h p = p
inserts_made t u (x ∷ xs) h p = insert_made t u x h (inserts_made t u xs h p)

made_more : (t : ℕ) {bs : List (ℕ × ℕ)} → All (λ b. b.1 < t) bs → All (λ b. b.1 < suc t) bs
made_more t none_left = none_left
made_more t (also b l p) = also b (omega arith) (made_more t p)

abbrev pub outcome? : List ℕ → Values → ℕ → Option Line → Option Hit
outcome? visits vs j none = none
outcome? visits vs j (some l) = outcome visits vs j l

module _ (sig : Signature) where
  -- a line after a visit
  module _ (visits : List ℕ) (j : ℕ) (bs : List (ℕ × ℕ)) (made : All (λ b. b.1 < length visits) bs) where
    placed_after : (xs : List ℕ) → placed (visits ++ (j ∷ [])) (inserts (length visits) xs bs) ≡ inserts j xs (placed visits bs)
    placed_after xs = placed_inserts (visits ++ (j ∷ [])) (length visits) xs bs ∙ ap₂ (λ n σ. inserts n xs σ) (get_or-append_seam visits j [] 0) (placed_more visits j bs made)

    pub taken_outcome : (r p k c : ℕ) (rest : Values) {js ks : List ℕ} {us : Values} {rs : Rows} → Roweds sig (k ∷ ks) rs → arguments_at sig k c ≡ some js → OfKinds sig js us → outcome? (visits ++ (j ∷ [])) (vjoin us rest) (suc j) (after (length visits) (taken sig js c) (record { rule = r; plan = p; binds = bs; cells = rs })) ≡ outcome visits (vcons (con c us) rest) j (record { rule = r; plan = p; binds = bs; cells = rs })
    taken_outcome r p k c rest {js} {ks} {us} (roweds_cons {rs = ss} (rowed_named {c = d} {xs = xs} {js = is} {rs = qs} e a) b) e' h = go (eqb d c) refl
      where
        go : (t : Bool) → eqb d c ≡ t → outcome? (visits ++ (j ∷ [])) (vjoin us rest) (suc j) (after (length visits) (taken sig js c) (record { rule = r; plan = p; binds = bs; cells = rcons (named xs d qs) ss })) ≡ outcome visits (vcons (con c us) rest) j (record { rule = r; plan = p; binds = bs; cells = rcons (named xs d qs) ss })
        go true q =
            let h' : OfKinds sig is us = rw (same_args sig k d c e e' (eqb_eq d c q)) at h in
            let m : suc j + sizes us ≡ j + suc (sizes us) = omega arith in
            rw (q, join_fit sig a h' ss rest, placed_after xs, join_final sig a h' ss rest (suc j) (inserts j xs (placed visits bs)), m)
        go false q = rw q
    taken_outcome r p k c rest {js} {ks} {us} (roweds_cons {rs = ss} (rowed_free {xs = xs} {cs = cs}) b) e' h = go (memb c cs) refl
      where
        go : (t : Bool) → memb c cs ≡ t → outcome? (visits ++ (j ∷ [])) (vjoin us rest) (suc j) (after (length visits) (taken sig js c) (record { rule = r; plan = p; binds = bs; cells = rcons (free xs cs) ss })) ≡ outcome visits (vcons (con c us) rest) j (record { rule = r; plan = p; binds = bs; cells = rcons (free xs cs) ss })
        go true q =
            let m : suc j + sizes us ≡ j + suc (sizes us) = omega arith in
            rw (q, join_fit sig (opens_rowed sig js) h ss rest, opens_fit sig h, placed_after xs, join_final sig (opens_rowed sig js) h ss rest (suc j) (inserts j xs (placed visits bs)), open_final sig h (suc j) (inserts j xs (placed visits bs)), m)
        go false q = rw q

    pub passed_outcome : (r p k : ℕ) (v : Value) (rest : Values) {ks : List ℕ} {rs : Rows} → Roweds sig (k ∷ ks) rs → OfKind sig k v → refined sig k rs ≡ false → outcome? (visits ++ (j ∷ [])) rest (j + size v) (after (length visits) passed (record { rule = r; plan = p; binds = bs; cells = rs })) ≡ outcome visits (vcons v rest) j (record { rule = r; plan = p; binds = bs; cells = rs })
    passed_outcome r p k v rest (roweds_cons (rowed_named e a) b) h q = true≢false q
    passed_outcome r p k v rest (roweds_cons (rowed_free {xs = xs} {cs = cs}) b) (of_kind {c = c} {ks = js} e h) q = rw (placed_after xs, all_memb (λ x. memb x cs) c (heads sig k) (not_false (all (λ x. memb x cs) (heads sig k)) q) (has_kind sig k c js e))

-- lists of lines
first_somes : (visits visits' : List ℕ) (vs vs' : Values) (j j' : ℕ) (step : Line → Option Line) {ls : List Line} → All (λ l. outcome? visits' vs' j' (step l) ≡ outcome visits vs j l) ls → first_fit visits' vs' j' (somes (map step ls)) ≡ first_fit visits vs j ls
first_somes visits visits' vs vs' j j' step none_left = refl
first_somes visits visits' vs vs' j j' step (also l {xs = ls} e p) = somes_first (step l) (map step ls) ∙ ap₂ or_then e (first_somes visits visits' vs vs' j j' step p)
  where
    somes_first : (o : Option Line) (os : List (Option Line)) → first_fit visits' vs' j' (somes (o ∷ os)) ≡ or_then (outcome? visits' vs' j' o) (first_fit visits' vs' j' (somes os))
    somes_first none os = refl
    somes_first (some m) os = refl

module _ (sig : Signature) where
  -- the lines after a visit are in shape
  pub taken_rowed : (k c : ℕ) {js ks : List ℕ} {rs : Rows} → arguments_at sig k c ≡ some js → Roweds sig (k ∷ ks) rs → Kept (λ r. Roweds sig (js ++ ks) r.1) (taken sig js c rs)
  taken_rowed k c {js} {ks} e (roweds_cons {rs = ss} (rowed_named {c = d} {xs = xs} {js = is} {rs = qs} e' a) b) = go (eqb d c) refl
    where
      go : (t : Bool) → eqb d c ≡ t → Kept (λ r. Roweds sig (js ++ ks) r.1) (taken sig js c (rcons (named xs d qs) ss))
      go true q = rw q (kept (xs, rappend qs ss) (roweds_join sig (rw (sym (same_args sig k d c e' e (eqb_eq d c q))) at a) b))
      go false q = rw q dropped
  taken_rowed k c {js} {ks} e (roweds_cons {rs = ss} (rowed_free {xs = xs} {cs = cs}) b) = go (memb c cs) refl
    where
      go : (t : Bool) → memb c cs ≡ t → Kept (λ r. Roweds sig (js ++ ks) r.1) (taken sig js c (rcons (free xs cs) ss))
      go true q = rw q (kept (xs, rappend (open_rows sig js) ss) (roweds_join sig (opens_rowed sig js) b))
      go false q = rw q dropped

  pub passed_rowed : (k : ℕ) {ks : List ℕ} {rs : Rows} → Roweds sig (k ∷ ks) rs → Kept (λ r. Roweds sig ks r.1) (passed rs)
  passed_rowed k (roweds_cons (rowed_named e a) b) = dropped
  passed_rowed k (roweds_cons {rs = ss} (rowed_free {xs = xs}) b) = kept (xs, ss) b

  pub after_shaped : (t : ℕ) {ks js : List ℕ} (step : Rows → Option (List ℕ × Rows)) (l : Line) → Shaped sig ks t l → Kept (λ r. Roweds sig js r.1) (step l.cells) → Kept (Shaped sig js (suc t)) (after t step l)
  after_shaped t step l h p = kept_bind _ (λ r q. kept (record { rule = l.rule; plan = l.plan; binds = inserts t r.0 l.binds; cells = r.1 }) (record { cells = q; made = inserts_made (suc t) t r.0 (omega arith) (made_more t h.made) })) p

walk_children : (child : ℕ → Tree) (cs : List ℕ) (i c : ℕ) (vs : Values) (j : ℕ) (visits : List ℕ) → get_elem? cs i ≡ some c → walk_nth (children child cs) i vs j visits ≡ walk (child c) vs j visits
walk_children child [] i c vs j visits e = none≢some e
walk_children child (d ∷ ds) zero c vs j visits e = ap (λ x. walk (child x) vs j visits) (some_inj d c e)
walk_children child (d ∷ ds) (suc i) c vs j visits e = walk_children child ds i c vs j visits e

module _ (sig : Signature) where
  nil_outcome : {rs : Rows} → Roweds sig [] rs → (r p j : ℕ) (σ : List (ℕ × ℕ)) → cond {A = Option Hit} (rows_fit rs vnil) (some (r, p, finals rs vnil j σ)) none ≡ some (r, p, σ)
  nil_outcome roweds_nil r p j σ = refl

-- one visit more
pub more : (visits : List ℕ) (j : ℕ) → suc (length visits) ≡ length (visits ++ (j ∷ []))
more visits j = omega (arith, length-append visits (j ∷ []))

module _ (dft : ℕ) (sig : Signature) where
  abbrev Walks : ℕ → Type 0
  Walks n = (ks : List ℕ) (ls : List Line) (vs : Values) (j : ℕ) (visits : List ℕ) → OfKinds sig ks vs → sizes vs < n → All (Shaped sig ks (length visits)) ls → walk (compile dft n sig ks ls (length visits)) vs j visits ≡ first_fit visits vs j ls

  next_walks : (n : ℕ) → Walks n → (i : ℕ) {ks : List ℕ} (ls : List Line) (vs : Values) (j : ℕ) (visits : List ℕ) → OfKinds sig ks vs → sizes vs < n → All (Shaped sig ks (suc (length visits))) ls → walk (compile dft n sig ks ls (suc (length visits))) vs j (visits ++ (i ∷ [])) ≡ first_fit (visits ++ (i ∷ [])) vs j ls
  next_walks n f i {ks} ls vs j visits h l s = rw (more visits i) (f ks ls vs j (visits ++ (i ∷ [])) h l (rw (more visits i) at s))

module _ (dft : ℕ) (sig : Signature) where
  -- the child for the head d
  abbrev Next : ℕ → List ℕ → List Line → ℕ → ℕ → Tree
  Next n ks ls t d = compile dft n sig (arguments sig d ++ ks) (somes (map (after t (taken sig (arguments sig d) d)) ls)) (suc t)

  module _ (facts : SigFacts sig) where
    child_walks : (n : ℕ) → Walks dft sig n → (k c : ℕ) {js ks : List ℕ} (ls : List Line) (us rest : Values) (j : ℕ) (visits : List ℕ) → arguments_at sig k c ≡ some js → OfKinds sig js us → OfKinds sig ks rest → sizes us + sizes rest < n → All (Shaped sig (k ∷ ks) (length visits)) ls → walk (Next n ks ls (length visits) c) (vjoin us rest) (suc j) (visits ++ (j ∷ [])) ≡ first_fit visits (vcons (con c us) rest) j ls
    child_walks n f k c {js} {ks} ls us rest j visits e h g l s =
        rw (args_same sig k c js e) (next_walks dft sig n f j (somes (map (after (length visits) (taken sig js c)) ls)) (vjoin us rest) (suc j) visits (kindeds_join sig h g) (omega (arith, sizes_join us rest)) (all_somes (all_map (after (length visits) (taken sig js c)) (λ a q. after_shaped sig (length visits) (taken sig js c) a q (taken_rowed sig k c e q.cells)) s)))
        ∙ first_somes visits (visits ++ (j ∷ [])) (vcons (con c us) rest) (vjoin us rest) j (suc j) (after (length visits) (taken sig js c)) (all_imp (λ a q. taken_outcome sig visits j a.binds q.made a.rule a.plan k c rest q.cells e h) s)

    -- a level's child is that of the first end not below it
    next_level : (n k c : ℕ) {js : List ℕ} (ks : List ℕ) (ls : List Line) (t : ℕ) → is_number_kind sig k ≡ true → arguments_at sig k c ≡ some js → (r : FirstEnd (is_end ls) (keep (is_end ls) (heads sig k)) level_base c level_base) → Next n ks ls t r.end ≡ Next n ks ls t c
    next_level n k c ks ls t q e r =
        let low : level_base ≤ c = r.low in
        let bare : arguments sig c ≡ [] = level_bare sig facts.plain c low in
        let bare' : arguments sig r.end ≡ [] = level_bare sig facts.plain r.end (omega (arith, r.above)) in
        rw (bare, bare') (ap (λ ms. compile dft n sig ks (somes ms) (suc t)) (sym (one_interval sig [] t ls c r.end r.above (λ v a b. r.none_between v a (omega arith) b))))

    test_walks : (n : ℕ) → Walks dft sig n → (k c : ℕ) {js ks : List ℕ} (ls : List Line) (us rest : Values) (j : ℕ) (visits : List ℕ) → arguments_at sig k c ≡ some js → OfKinds sig js us → OfKinds sig ks rest → sizes us + sizes rest < n → All (Shaped sig (k ∷ ks) (length visits)) ls → walk (branch sig k (branches sig k ls) (children (Next n ks ls (length visits)) (branches sig k ls))) (vcons (con c us) rest) j visits ≡ first_fit visits (vcons (con c us) rest) j ls
    test_walks n f k c {js} {ks} ls us rest j visits e h g l s = go (is_number_kind sig k) refl
      where
        kids : List ℕ → Trees
        kids es = children (Next n ks ls (length visits)) es

        go : (b : Bool) → is_number_kind sig k ≡ b → walk (branch sig k (branches sig k ls) (kids (branches sig k ls))) (vcons (con c us) rest) j visits ≡ first_fit visits (vcons (con c us) rest) j ls
        go false q =
            ap (λ es. walk (branch sig k es (kids es)) (vcons (con c us) rest) j visits) (test_branches sig k ls q)
            ∙ ap (λ t. walk t (vcons (con c us) rest) j visits) (test_branch sig k (heads sig k) (kids (heads sig k)) q)
            ∙ walk_children (Next n ks ls (length visits)) (heads sig k) (c - first (heads sig k)) c (vjoin us rest) (suc j) (visits ++ (j ∷ [])) (dense sig facts k c js e)
            ∙ child_walks n f k c ls us rest j visits e h g l s
        go true q =
            let es = keep (is_end ls) (heads sig k) in
            let r = heads_end (is_end ls) level_base last_level (heads sig k) (number_heads sig k q) refl c (has_kind sig k c js e) in
            ap (λ es. walk (branch sig k es (kids es)) (vcons (con c us) rest) j visits) (split_branches sig k ls q)
            ∙ ap (λ t. walk t (vcons (con c us) rest) j visits) (split_branch sig k es (kids es) q)
            ∙ walk_children (Next n ks ls (length visits)) es (place_of (level_of c) (map level_of es)) r.end (vjoin us rest) (suc j) (visits ++ (j ∷ [])) r.at
            ∙ ap (λ t. walk t (vjoin us rest) (suc j) (visits ++ (j ∷ []))) (next_level n k c ks ls (length visits) q e r)
            ∙ child_walks n f k c ls us rest j visits e h g l s

    skip_walks : (n : ℕ) → Walks dft sig n → (k : ℕ) {ks : List ℕ} (ls : List Line) (v : Value) (rest : Values) (j : ℕ) (visits : List ℕ) → OfKind sig k v → OfKinds sig ks rest → sizes rest < n → All (Shaped sig (k ∷ ks) (length visits)) ls → any (λ a. refined sig k a.cells) ls ≡ false → walk (skip (compile dft n sig ks (somes (map (after (length visits) passed) ls)) (suc (length visits)))) (vcons v rest) j visits ≡ first_fit visits (vcons v rest) j ls
    skip_walks n f k {ks} ls v rest j visits h g l s q =
        next_walks dft sig n f j (somes (map (after (length visits) passed) ls)) rest (j + size v) visits g l (all_somes (all_map (after (length visits) passed) (λ a r. after_shaped sig (length visits) passed a r (passed_rowed sig k r.cells)) s))
        ∙ first_somes visits (visits ++ (j ∷ [])) (vcons v rest) rest j (j + size v) (after (length visits) passed) (all_with (λ a. refined sig k a.cells) (λ a r z. passed_outcome sig visits j a.binds r.made a.rule a.plan k v rest r.cells h z) s q)

    pub compile_walks : (n : ℕ) → Walks dft sig n
    compile_walks zero ks ls vs j visits h l s = absurd (omega arith)
    compile_walks (suc n) ks [] vs j visits h l s = refl
    compile_walks (suc n) ks (m ∷ ls) vnil j visits of_kinds_nil l (also x s p) = rw (nil_outcome sig s.cells x.rule x.plan j (placed visits x.binds))
    compile_walks (suc n) ks (m ∷ ls) (vcons (con c us) rest) j visits (of_kinds_cons {k = k} {ks = js} (of_kind {ks = is} e h) g) l s = go (λ ks' ls' vs' j' visits'. compile_walks n ks' ls' vs' j' visits') (any (λ a. refined sig k a.cells) (m ∷ ls)) refl
      where
        go : Walks dft sig n → (b : Bool) → any (λ a. refined sig k a.cells) (m ∷ ls) ≡ b → walk (compile dft (suc n) sig (k ∷ js) (m ∷ ls) (length visits)) (vcons (con c us) rest) j visits ≡ first_fit visits (vcons (con c us) rest) j (m ∷ ls)
        go f true q = rw q (test_walks n f k c (m ∷ ls) us rest j visits e h g (omega arith) s)
        go f false q = rw q (skip_walks n f k (m ∷ ls) (con c us) rest j visits (of_kind e h) g (omega arith) s q)
