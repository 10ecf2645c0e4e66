-- The link that a test follows, by the table of the signature.
use mathlib.Core.Path.{◌≡◌, refl, sym, ap, ◌∙◌}
use mathlib.Core.Logic.{◌⊎◌, inl, inr}
use mathlib.Core.List.{List, [], ◌∷◌}
use mathlib.Core.Option.{none, some}
use mathlib.Core.Bool.{Bool, true, false, ◌&&◌}
use Prim.Native.Nat.{ℕ, suc, ◌+◌, ◌-◌, ◌≤◌, ◌<◌}
use native.Mathlib.Omega.{arith}
use lib.Dec.{eqb, leb, ltb}
use lib.ListN.{length, drop, take, get_or, get_elem?, length-drop}
use Rattle.std.specs.Prelude.{Some, None}
use Rattle.signature.specs.Decoded.{Known, kind_of, first_of, count_of, constructors_of, unkinded}
use Rattle.signature.specs.Limits.{kind_limit, level_base, last_level}
use Rattle.signature.specs.Lists.{◌>>=◌, require, first, memb, split}
use Rattle.signature.specs.Signature.{Signature, Constructor, heads, arguments_at, is_level, level_of, is_number_kind}
use Rattle.signature.proofs.Heads.{Consecutive, consecutive_nil, consecutive_cons, consecutive_of, has_kind, constructor_of, constructor_arguments, level_is}
use Rattle.signature.proofs.KnownFacts.{at_some, words_of, constructors, few_constructors, head_is, plain_kind}
use Rattle.signature.proofs.LawfulFacts.{kinds_kind}
use Rattle.signature.proofs.ListFacts.{at_getD, at_out, split_some, split_none}
use Rattle.signature.proofs.SignatureBack.{is_kinds}
use Rattle.signature.proofs.Tests.{bind_some, require_some, some_inj, le_of, same_some, true≢false, eqb_self, eqb_eq, eqb_no, leb_yes, leb_no, ltb_yes, ltb_no}
use Rattle.tree.specs.Run.{rise_to, place_of}
use Rattle.nodes.specs.Parts.{HeadByTable}
use Rattle.nodes.specs.Step.{link_at, link_to, split_to, leads}

same_kinds : {table : List ℕ} (g : Known table) → g.decoded.n ≡ (words_of g).n
same_kinds g = same_some g.decoded.n (words_of g).n _ g.decoded.kinds_are (is_kinds (words_of g).rises)

-- the first head of a kind is its least
least_first : {f : ℕ} {xs : List ℕ} (c : ℕ) → Consecutive f xs → memb c xs ≡ true → (f ≤ c) × (first xs ≡ f)
least_first c consecutive_nil e = true≢false (sym e)
least_first c (consecutive_cons {f = f} {xs = xs} r) e = (go (eqb c f) refl (λ m. (least_first c r m).0), refl)
  where
    go : (b : Bool) → eqb c f ≡ b → (memb c xs ≡ true → suc f ≤ c) → f ≤ c
    go true q h = omega (arith, eqb_eq c f q)
    go false q h = omega (arith, h (rw q at e))

-- a word of a booking is a level, or a constructor of some kind
pub stands : {table : List ℕ} (g : Known table) (k c : ℕ) (js : List ℕ) → arguments_at g.sig k c ≡ some js → HeadByTable table c
stands {table} g k c js e l = go (head_is g k c js e)
  where
    go : ((c < length g.sig) × (is_number_kind g.sig k ≡ false) × (kind_of table c ≡ k)) ⊎ ((is_level c ≡ true) × (is_number_kind g.sig k ≡ true) × (js ≡ [])) → (c < constructors_of table) × (kind_of table c < kind_limit)
    go (inl (a, n, q)) = (omega (arith, constructors g), omega (arith, small_kind))
      where
        small_kind : k < kind_limit
        small_kind =
            let (d, p, r, z) = constructor_of g.sig k c js n e in
            omega (arith, eqb_eq d.kind k r, kinds_kind g.sig g.decoded.n c d g.decoded.kinds_are p, same_kinds g, (words_of g).few_kinds)
    go (inr (v, n, q)) = absurd (omega (arith, (level_is c v).0))

-- what the table says of the kind of a constructor
pub record Head {table : List ℕ} (g : Known table) (c : ℕ) : Type 0 where
  pub head : Constructor
  pub there : get_elem? g.sig c ≡ some head
  pub few : kind_of table c < kind_limit
  pub first_is : first_of table (kind_of table c) ≡ first (heads g.sig head.kind)
  pub count_is : count_of table (kind_of table c) ≡ length (heads g.sig head.kind)
  pub low : first_of table (kind_of table c) ≤ c

pub head_of : {table : List ℕ} (g : Known table) (c : ℕ) → c < level_base → HeadByTable table c → Head g c
head_of {table} g c b h =
    let l : c < length g.sig = omega (arith, (h b).0, constructors g) in
    let (d, e) = at_some g.sig c l in
    go d e d.number refl l
  where
    go : (d : Constructor) → get_elem? g.sig c ≡ some d → (n : Bool) → d.number ≡ n → c < length g.sig → Head g c
    go d e true n l = absurd (let z : kind_of table c ≡ unkinded = g.decoded.kind c d e ∙ rw n in omega (arith, (h b).1))
    go d e false n l =
        let kind : kind_of table c ≡ d.kind = g.decoded.kind c d e ∙ rw n in
        let k : d.kind < g.decoded.n = kinds_kind g.sig g.decoded.n c d g.decoded.kinds_are e in
        let f : first_of table (kind_of table c) ≡ first (heads g.sig d.kind) = ap (first_of table) kind ∙ g.decoded.first_head d.kind k in
        let m : memb c (heads g.sig d.kind) ≡ true = has_kind g.sig d.kind c d.args (constructor_arguments g.sig d.kind c d (plain_kind g c d e n) e (eqb_self d.kind)) in
        let (x, r) = consecutive_of g.sig d.kind g.decoded.n g.decoded.kinds_are in
        let (low, q) = least_first c r m in
        record {
          head = d;
          there = e;
          few = (h b).1;
          first_is = f;
          count_is = ap (count_of table) kind ∙ g.decoded.head_count d.kind k;
          low = omega (arith, f, q, low);
        }

-- the link at an index
module _ (t : List ℕ) (i j : ℕ) where
  pub no_link : length t ≤ j → None ≡ leads (link_at t i j)
  no_link m = rw (at_out t j m)

  module _ (m : j < length t) where
    pub link_low : get_or t j 0 ≤ i → None ≡ leads (link_at t i j)
    link_low q = rw (at_getD t j m, ltb_no i (get_or t j 0) q)

    module _ (q : i < get_or t j 0) where
      pub link_far : length t < get_or t j 0 - i → None ≡ leads (link_at t i j)
      link_far o = rw (at_getD t j m, ltb_yes i (get_or t j 0) q, leb_no (get_or t j 0 - i) (length t) o)

      pub link_on : get_or t j 0 - i ≤ length t → Some (get_or t j 0 - i) ≡ leads (link_at t i j)
      link_on o = rw (at_getD t j m, ltb_yes i (get_or t j 0) q, leb_yes (get_or t j 0 - i) (length t) o)

-- a node 2
level_out : {table : List ℕ} (g : Known table) (c : ℕ) → level_base ≤ c → get_elem? g.sig c ≡ none
level_out g c l = at_out g.sig c (omega (arith, few_constructors g))

module _ {table : List ℕ} (g : Known table) (t : List ℕ) (i c : ℕ) where
  pub at_level : level_base ≤ c → None ≡ leads (link_to g.sig t i c)
  at_level l = rw (level_out g c l)

  module _ (l : c < level_base) (s : HeadByTable table c) where
    no_words : (d : Constructor) (t : List ℕ) → get_elem? g.sig c ≡ some d → length t < 3 → link_to g.sig t i c ≡ none
    no_words d [] e h = rw e
    no_words d (x ∷ []) e h = rw e
    no_words d (x ∷ (y ∷ [])) e h = rw e
    no_words d (x ∷ (y ∷ (z ∷ ws))) e h = absurd (omega arith)

    pub link_short : length t < 3 → None ≡ leads (link_to g.sig t i c)
    link_short h = let o = head_of g c l s in rw (no_words o.head t o.there h)

    module _ (h : 3 ≤ length t) where
      compared : (d : Constructor) → get_elem? g.sig c ≡ some d → link_to g.sig t i c ≡ (require (eqb (get_or t 1 0) (first (heads g.sig d.kind)) && eqb (get_or t 2 0) (length (heads g.sig d.kind))) >>= λ u. link_at t i (3 + (c - get_or t 1 0)))
      compared d e = rw (e, at_getD t 1 (omega arith), at_getD t 2 (omega arith))

      module _ (k f : ℕ) (ek : k ≡ kind_of table c) (ef : f ≡ first_of table k) where
        f_is : (o : Head g c) → first (heads g.sig o.head.kind) ≡ f
        f_is o = sym (ef ∙ ap (first_of table) ek ∙ o.first_is)

        pub first_low : f ≤ c
        first_low = omega (arith, ef ∙ ap (first_of table) ek, (head_of g c l s).low)

        pub wrong_first : (get_or t 1 0 ≡ f → ⊥) → None ≡ leads (link_to g.sig t i c)
        wrong_first e = let o = head_of g c l s in rw (compared o.head o.there, f_is o, eqb_no (get_or t 1 0) f e)

        module _ (a : get_or t 1 0 ≡ f) (n : ℕ) (en : n ≡ count_of table k) where
          n_is : (o : Head g c) → length (heads g.sig o.head.kind) ≡ n
          n_is o = sym (en ∙ ap (count_of table) ek ∙ o.count_is)

          pub wrong_count : (get_or t 2 0 ≡ n → ⊥) → None ≡ leads (link_to g.sig t i c)
          wrong_count e = let o = head_of g c l s in rw (compared o.head o.there, f_is o, a, eqb_self f, n_is o, eqb_no (get_or t 2 0) n e)

          pub linked : get_or t 2 0 ≡ n → link_to g.sig t i c ≡ link_at t i (3 + (c - f))
          linked b = let o = head_of g c l s in rw (compared o.head o.there, f_is o, a, eqb_self f, n_is o, b, eqb_self n)

-- a node 4
pub ends_part : (t : List ℕ) (k : ℕ) → take (2 + k - 2) (drop 2 t) ≡ take k (drop 2 t)
ends_part t k = let q : 2 + k - 2 ≡ k = omega arith in rw q

module _ (t : List ℕ) (i c : ℕ) where
  pub below_level : c < level_base → None ≡ leads (split_to t i c)
  below_level l = rw (leb_no level_base c l)

  module _ (low : level_base ≤ c) where
    pub above_level : level_base + last_level < c → None ≡ leads (split_to t i c)
    above_level l = rw (leb_yes level_base c low, leb_no c (level_base + last_level) l)

    module _ (high : c ≤ level_base + last_level) where
      pub split_short : length t < 2 → None ≡ leads (split_to t i c)
      split_short l = rw (leb_yes level_base c low, leb_yes c (level_base + last_level) high) (ap leads (sym (go t l)))
        where
          go : (t : List ℕ) → length t < 2 → (get_elem? t 1 >>= λ n. split n (drop 2 t) >>= λ r. require (rise_to last_level 0 r.0) >>= λ u. link_at t i (2 + n + place_of (level_of c) r.0)) ≡ none
          go [] h = refl
          go (x ∷ []) h = refl
          go (x ∷ (y ∷ ws)) h = absurd (omega arith)

      module _ (two : 2 ≤ length t) (k : ℕ) (ek : k ≡ get_or t 1 0) where
        ends_at : split_to t i c ≡ (split k (drop 2 t) >>= λ r. require (rise_to last_level 0 r.0) >>= λ u. link_at t i (2 + k + place_of (level_of c) r.0))
        ends_at = rw (leb_yes level_base c low, leb_yes c (level_base + last_level) high, at_getD t 1 (omega arith), ← ek)

        pub ends_short : length t - 2 < k → None ≡ leads (split_to t i c)
        ends_short l = rw (ends_at, split_none k (drop 2 t) (simp length-drop (omega arith)))

        module _ (room : k ≤ length t - 2) (es : List ℕ) (are : es ≡ take k (drop 2 t)) where
          ends_are : split_to t i c ≡ (require (rise_to last_level 0 es) >>= λ u. link_at t i (2 + k + place_of (level_of c) es))
          ends_are = rw (ends_at, split_some k (drop 2 t) (simp length-drop (omega arith)), ← are)

          pub ends_wrong : rise_to last_level 0 es ≡ false → None ≡ leads (split_to t i c)
          ends_wrong q = rw (ends_are, q)

          pub ends_right : rise_to last_level 0 es ≡ true → split_to t i c ≡ link_at t i (2 + k + place_of (level_of c) es)
          ends_right q = rw (ends_are, q)

-- a link leads on
link_at_above : (t : List ℕ) (i j d : ℕ) → link_at t i j ≡ some d → 0 < d
link_at_above t i j d e =
    let (link, p₁, e₁) = bind_some (get_elem? t j) _ d e in
    let (x₂, p₂, e₂) = bind_some (require (ltb i link)) _ d e₁ in
    let (x₃, p₃, e₃) = bind_some (require (leb (link - i) (length t))) _ d e₂ in
    omega (arith, le_of (suc i) link (require_some (ltb i link) x₂ p₂), some_inj (link - i) d e₃)

pub link_above : (sig : Signature) (t : List ℕ) (i c d : ℕ) → link_to sig t i c ≡ some d → 0 < d
link_above sig t i c d e =
    let (x₁, p₁, e₁) = bind_some (get_elem? sig c) _ d e in
    let (x₂, p₂, e₂) = bind_some (get_elem? t 1) _ d e₁ in
    let (x₃, p₃, e₃) = bind_some (get_elem? t 2) _ d e₂ in
    let (x₄, p₄, e₄) = bind_some (require (eqb x₂ (first (heads sig x₁.kind)) && eqb x₃ (length (heads sig x₁.kind)))) _ d e₃ in
    link_at_above t i (3 + (c - x₂)) d e₄

pub split_above : (t : List ℕ) (i c d : ℕ) → split_to t i c ≡ some d → 0 < d
split_above t i c d e =
    let (x₁, p₁, e₁) = bind_some (require (is_level c)) _ d e in
    let (n, p₂, e₂) = bind_some (get_elem? t 1) _ d e₁ in
    let (r, p₃, e₃) = bind_some (split n (drop 2 t)) _ d e₂ in
    let (x₄, p₄, e₄) = bind_some (require (rise_to last_level 0 r.0)) _ d e₃ in
    link_at_above t i (2 + n + place_of (level_of c) r.0) d e₄
