-- The rows of a constructor: the row that is begun, the arguments behind it, and on the minus side the row of the other heads.
use mathlib.Core.Path.{◌≡◌, refl, ap, ap₂, ◌∙◌, sym, subst}
use mathlib.Core.List.{List, map, [], ◌∷◌, ◌++◌, append-nil}
use mathlib.Core.Option.{some}
use mathlib.Core.Bool.{Bool, true, false, not, cond}
use Prim.Native.Nat.{ℕ, suc, ◌+◌, ◌-◌, ◌≤◌, ◌<◌}
use native.Mathlib.Omega.{arith}
use lib.Dec.{eqb, leb}
use lib.ListN.{length, length-append}
use Rattle.signature.specs.Decoded.{first_of, decoded_length}
use Rattle.signature.specs.Limits.{kind_limit, heads_limit, level_base}
use Rattle.signature.specs.Lists.{keep}
use Rattle.sets.specs.Set.{bit, set_of, Within}
use Rattle.signature.specs.Signature.{Signature, heads, arguments, arguments_at}
use Rattle.signature.proofs.Booleans.{and_left, and_right}
use Rattle.signature.proofs.Heads.{args_same}
use Rattle.signature.proofs.KnownFacts.{words_of, is_constructor, long}
use Rattle.signature.proofs.Tests.{le_of, true≢false}
use Rattle.pattern.specs.Pattern.{Pattern, head, and, or, wild, absurd_pat, neg, var, range, pattern_code, Patterns, patterns_code}
use Rattle.pattern.specs.Ranged.{ranged, all_ranged}
use Rattle.pattern.specs.Weight.{product_plus, sum_minus, light_all_plus, light_all_minus}
use Rattle.pattern.specs.WellFormed.{WellFormed, AllWellFormed, well_head}
use Rattle.pattern.proofs.Opened.{shape}
use Rattle.cell.specs.Cell.{kind_tag, cell_code}
use Rattle.cell.specs.Coded.{kinds_of, row_code}
use Rattle.cell.specs.RowList.{from, entries}
use Rattle.sets.proofs.ListSets.{all_but, only_one, set_nil, within_keep}
use Rattle.cell.proofs.Walk.{each_append}
use Rattle.row.specs.Row.{Rows, named, other_than, args_plus, args_minus}
use Rattle.rowlist.specs.Grow.{words_list, appends}
use Rattle.rowlist.specs.Next.{GivenOthers, others_code}
use Rattle.rowlist.specs.Product.{Product}
use Rattle.rowlist.specs.Sides.{rows_of}
use Rattle.rowlist.proofs.Kinded.{known_head, kinds_same}
use Rattle.rowlist.proofs.Typing.{args_there}
use Rattle.builder.specs.Arguments.{GivenArgs, MadeArgs, HasFirst, few_begun, lights_of, words_of_rows, arg_words, open_words, behind}
use Rattle.builder.specs.Build.{light_of, making_of, GivenAs, Made}
use Rattle.builder.specs.declared.build.Making.TheVariants.{Head}
use Rattle.builder.proofs.Behind.{list_words}
use Rattle.builder.proofs.Building.{head_number, own_given, other_step}
use Rattle.builder.proofs.Parts.{first_part, step_is}
use Rattle.builder.proofs.Ranges.{allowing_list}

-- a pattern whose first word is a constructor
pub record HeadOf (sig : Signature) (k : ℕ) (p : Pattern) (b : Bool) (c : ℕ) : Type 0 where
  pub ps : Patterns
  pub p_is : p ≡ head c ps
  pub inside : arguments_at sig k c ≡ some (arguments sig c)
  pub wells : AllWellFormed sig (arguments sig c) ps
  pub light : lights_of b ps ≡ true
  pub ranges : all_ranged ps ≡ true
  pub constructor : c < level_base
  pub few : few_begun b 1 ps

light_head : (b : Bool) (c : ℕ) (ps : Patterns) → light_of b (head c ps) ≡ true → (lights_of b ps ≡ true) × few_begun b 1 ps
light_head true c ps l = (and_right (leb (product_plus ps) 64) (light_all_plus ps) l, omega (arith, le_of (product_plus ps) 64 (and_left (leb (product_plus ps) 64) (light_all_plus ps) l)))
light_head false c ps l = (and_right (leb (suc (sum_minus ps)) 64) (light_all_minus ps) l, omega (arith, le_of (suc (sum_minus ps)) 64 (and_left (leb (suc (sum_minus ps)) 64) (light_all_minus ps) l)))

head_of : (sig : Signature) (k : ℕ) (p : Pattern) (b : Bool) (c : ℕ) → WellFormed sig k p → light_of b p ≡ true → ranged p ≡ true → making_of (shape p) b ≡ Head c → HeadOf sig k p b c
head_of sig k (head d ps) b c (well_head {ks = ks} i e h) l r w =
    subst (HeadOf sig k (head d ps) b) (ap head_number w) (
    let q = args_same sig k d ks e in
    let y = light_head b d ps l in
    record { ps = ps; p_is = refl; inside = e ∙ ap some (sym q); wells = subst (λ (js : List ℕ). AllWellFormed sig js ps) (sym q) h; light = y.0; ranges = r; constructor = omega (arith, i); few = y.1 })
head_of sig k (and p q) true c h l r w = other_step w (λ z. omega (arith, z))
head_of sig k (and p q) false c h l r w = other_step w (λ z. omega (arith, z))
head_of sig k (or p q) true c h l r w = other_step w (λ z. omega (arith, z))
head_of sig k (or p q) false c h l r w = other_step w (λ z. omega (arith, z))
head_of sig k wild true c h l r w = other_step w (λ z. omega (arith, z))
head_of sig k wild false c h l r w = other_step w (λ z. omega (arith, z))
head_of sig k absurd_pat true c h l r w = other_step w (λ z. omega (arith, z))
head_of sig k absurd_pat false c h l r w = other_step w (λ z. omega (arith, z))
head_of sig k (neg p) b c h l r w = other_step w (λ z. omega (arith, z))
head_of sig k (var x) true c h l r w = other_step w (λ z. omega (arith, z))
head_of sig k (var x) false c h l r w = other_step w (λ z. omega (arith, z))
head_of sig k (range low high) b c h l r w = other_step w (λ z. omega (arith, z))

has_first : (b : Bool) (v : List ℕ) (vs : List (List ℕ)) → HasFirst b (v ∷ vs)
has_first true v vs = tt
has_first false v vs = tt

-- the words of its rows
module _ (sig : Signature) (k c : ℕ) where
  abbrev pub begin : List ℕ
  begin = cell_code c (set_of 0 []) (set_of ((kinds_of sig).first k) (c ∷ []))

  named_words : (rss : List Rows) → appends begin (arg_words sig (arguments sig c) rss) ≡ words_of_rows sig k (map (named [] c) rss)
  named_words [] = refl
  named_words (rs ∷ rss) = ap (λ (l : List (List ℕ)). row_code (kinds_of sig) (named [] c rs) k ∷ l) (named_words rss)

  pub named_list : (rss : List Rows) → words_list (appends begin (arg_words sig (arguments sig c) rss)) ≡ entries (kinds_of sig) k (map (named [] c) rss)
  named_list rss = ap words_list (named_words rss) ∙ list_words (kinds_of sig) k (map (named [] c) rss)

pub other_list : (sig : Signature) (k c rest : ℕ) → Within ((kinds_of sig).first k) (heads sig k) → rest ≡ set_of ((kinds_of sig).first k) (keep (λ d. not (eqb c d)) (heads sig k)) → others_code (kind_tag + k) rest ≡ entries (kinds_of sig) k (other_than sig k c)
other_list sig k c rest w e = rw e (allowing_list sig k (keep (λ d. not (eqb c d)) (heads sig k)) (within_keep _ (λ d. not (eqb c d)) (heads sig k) w))

-- what the calls ask and give
module _ {t : List ℕ} {tag full c own : ℕ} {w : List ℕ} {b : Bool} {n m : ℕ} (g : GivenAs (Head c) t tag full own w b n m) where
  abbrev sig : Signature
  sig = g.pat.known.sig

  view : HeadOf g.pat.known.sig g.pat.k g.pat.p b c
  view = head_of g.pat.known.sig g.pat.k g.pat.p b c g.pat.well g.pat.light g.pat.ranges (step_is g.pat g.word)

  first_is : first_of t (tag - kind_tag) ≡ (kinds_of sig).first g.pat.k
  first_is = let z : tag - kind_tag ≡ g.pat.k = omega (arith, g.pat.opened.tag_is) in ap (first_of t) z ∙ g.pat.known.decoded.first_head g.pat.k g.pat.there

  size_is : length (pattern_code g.pat.p) ≡ 1 + length (patterns_code view.ps)
  size_is = ap (λ (z : Pattern). length (pattern_code z)) view.p_is ∙ omega arith

  pub head_place : (length t ≡ decoded_length) × (kind_tag ≤ tag) × (tag < kind_tag + kind_limit) × (first_of t (tag - kind_tag) ≤ c) × (c < first_of t (tag - kind_tag) + heads_limit)
  head_place =
      let h = known_head g.pat.known g.pat.k c _ view.constructor view.inside in (
        long g.pat.known,
        omega (arith, g.pat.opened.tag_is),
        omega (arith, g.pat.opened.tag_is, g.pat.there, kinds_same g.pat.known, (words_of g.pat.known).few_kinds),
        omega (arith, first_is, h.low),
        omega (arith, first_is, h.high),
      )

  pub head_room : 5 ≤ n
  head_room = omega (arith, g.pat.room, size_is)

  module _ (i x used : ℕ) (o : List ℕ) (at : i ≡ c - first_of t (tag - kind_tag)) (e : (j : ℕ) → bit x j ≡ cond (eqb j i) 1 0) (l : Product (3 ∷ cell_code c 0 x) used o) (same : length o ≡ n) where
    begin_is : begin sig g.pat.k c ≡ cell_code c 0 x
    begin_is = ap₂ (λ (a d : ℕ). cell_code c a d) (set_nil 0) (sym (only_one ((kinds_of sig).first g.pat.k) c i x (at ∙ ap (λ (f : ℕ). c - f) first_is) e))

    pub args_given : (m' : ℕ) → m' ≡ m → GivenArgs t c 0 (from w own) b used o m'
    args_given m' q = record {
      known = g.pat.known;
      head = is_constructor g.pat.known g.pat.k c _ view.constructor view.inside;
      ks = arguments sig c;
      kinds = refl;
      ps = view.ps;
      rest = g.pat.rest;
      code_is = first_part w c (patterns_code view.ps) g.pat.rest own (own_given (λ z. omega (arith, z)) g) (g.pat.code_is ∙ ap (λ (z : Pattern). pattern_code z ++ g.pat.rest) view.p_is);
      well = view.wells;
      light = view.light;
      ranges = view.ranges;
      there = args_there g.pat.known g.pat.k c _ view.inside;
      begun = begin sig g.pat.k c ∷ [];
      list = subst (λ (v : List ℕ). Product (words_list (v ∷ [])) used o) (sym begin_is) l;
      filled = (omega arith, tt);
      a = 1;
      small = omega (arith, l.size);
      short = (omega arith, tt);
      few = view.few;
      count = omega arith;
      first = has_first b (begin sig g.pat.k c) [];
      room = omega (arith, size_is, g.pat.room, same);
      work_room = omega (arith, size_is, g.pat.work_room, q);
    }

    module _ (m' used' read : ℕ) (q : m' ≡ m) (o' : List ℕ) (f : (a : GivenArgs t c 0 (from w own) b used o m') → MadeArgs a.known.sig b a.ks a.ps a.begun (a.a + length (patterns_code a.ps)) used' read o') where
      made_args : MadeArgs sig b (arguments sig c) view.ps (begin sig g.pat.k c ∷ []) (1 + length (patterns_code view.ps)) used' read o'
      unfolding args_given
      made_args = f (args_given m' q)

      pub head_read : read + own ≤ length w
      head_read = omega (arith, own_given (λ z. omega (arith, z)) g, made_args.read_is, size_is, simp length-append at (ap length g.pat.code_is))

      rows_are : (d : Bool) → rows_of sig g.pat.k d g.pat.p ≡ rows_of sig g.pat.k d (head c view.ps)
      rows_are d = ap (rows_of sig g.pat.k d) view.p_is

      -- plus: nothing else
      plus_list : (d : Bool) → d ≡ true → words_list (behind d sig (arguments sig c) view.ps (begin sig g.pat.k c ∷ [])) ≡ entries (kinds_of sig) g.pat.k (rows_of sig g.pat.k d (head c view.ps))
      plus_list true z = ap words_list (append-nil (appends (begin sig g.pat.k c) (arg_words sig (arguments sig c) (args_plus sig (arguments sig c) view.ps)))) ∙ named_list sig g.pat.k c (args_plus sig (arguments sig c) view.ps)
      plus_list false z = true≢false (sym z)

      pub plus_made : b ≡ true → Made (kinds_of g.pat.known.sig) g.pat.known.sig g.pat.k b g.pat.p used' (read + own) o'
      plus_made z = record {
        read_is = omega (arith, own_given (λ z. omega (arith, z)) g, made_args.read_is, size_is);
        list = subst (λ (l : List ℕ). Product l used' o') (plus_list b z ∙ ap (entries (kinds_of sig) g.pat.k) (sym (rows_are b))) made_args.list;
      }

      -- minus: the row that is open throughout goes, and the other heads come
      minus_behind : (d : Bool) → d ≡ false → behind d sig (arguments sig c) view.ps (begin sig g.pat.k c ∷ []) ≡ (begin sig g.pat.k c ++ open_words sig (arguments sig c)) ∷ appends (begin sig g.pat.k c) (arg_words sig (arguments sig c) (args_minus sig (arguments sig c) view.ps))
      minus_behind true z = true≢false z
      minus_behind false z = refl

      pub others_given : b ≡ false → (m'' : ℕ) → m'' ≡ m → GivenOthers used' o' m''
      others_given z m'' y = record {
        v = begin sig g.pat.k c ++ open_words sig (arguments sig c);
        vs = appends (begin sig g.pat.k c) (arg_words sig (arguments sig c) (args_minus sig (arguments sig c) view.ps));
        list = subst (λ (l : List (List ℕ)). Product (words_list l) used' o') (minus_behind b z) made_args.list;
        cell = omega arith;
        room = omega (arith, made_args.small, size_is, g.pat.work_room, y);
      }

      minus_rows : (d : Bool) → d ≡ false → rows_of sig g.pat.k d (head c view.ps) ≡ other_than sig g.pat.k c ++ map (named [] c) (args_minus sig (arguments sig c) view.ps)
      minus_rows true z = true≢false z
      minus_rows false z = refl

      pub minus_made : (z : b ≡ false) (rest r m'' : ℕ) (o'' : List ℕ) → m'' ≡ m → ((j : ℕ) → bit rest j ≡ cond (eqb j i) 0 (bit full j))
          → ((y : GivenOthers used' o' m'') → Product (others_code tag rest ++ words_list y.vs) r o'') → Made (kinds_of g.pat.known.sig) g.pat.known.sig g.pat.k b g.pat.p r (read + own) o''
      unfolding others_given
      minus_made z rest r m'' o'' y h p =
          let K = kinds_of sig in
          let k = g.pat.k in
          let R = map (named [] c) (args_minus sig (arguments sig c) view.ps) in
          let d : i ≡ c - K.first k = at ∙ ap (λ (j : ℕ). c - j) first_is in
          let low : K.first k ≤ c = (known_head g.pat.known k c _ view.constructor view.inside).low in
          let set : rest ≡ set_of (K.first k) (keep (λ d. not (eqb c d)) (heads sig k)) = all_but (K.first k) c (heads sig k) full rest g.pat.opened.within low g.pat.opened.full_is (λ j. h j ∙ ap (λ (i : ℕ). cond (eqb j i) 0 (bit full j)) d) in
          let one : others_code tag rest ≡ entries K k (other_than sig k c) = ap (λ (a : ℕ). others_code a rest) g.pat.opened.tag_is ∙ other_list sig k c rest g.pat.opened.within set in
          let all : others_code tag rest ++ words_list (others_given z m'' y).vs ≡ entries K k (rows_of sig k b g.pat.p) =
          ap₂ (λ (a b : List ℕ). a ++ b) one (named_list sig k c (args_minus sig (arguments sig c) view.ps))
          ∙ sym (each_append (λ r. row_code K r k) (other_than sig k c) R)
          ∙ ap (entries K k) (sym (rows_are b ∙ minus_rows b z)) in
          record {
            read_is = omega (arith, own_given (λ z. omega (arith, z)) g, made_args.read_is, size_is);
            list = subst (λ (l : List ℕ). Product l r o'') all (p (others_given z m'' y));
          }
