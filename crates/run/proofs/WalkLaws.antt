-- The walk: the run from here on is the whole run.
use mathlib.Core.Path.{◌≡◌, refl, sym, ap, ◌∙◌, subst}
use mathlib.Core.List.{List, [], ◌∷◌, append-nil}
use mathlib.Core.Option.{some}
use Prim.Native.Nat.{ℕ, ◌+◌, ◌-◌, ◌≤◌, ◌<◌}
use native.Mathlib.Numerals.{add-one}
use native.Mathlib.Omega.{arith}
use borrow.Author.Rules.{part_to_end}
use lib.ListN.{length, drop, take, set}
use lib.Seq.{drop-drop, take-suc-set}
use Rattle.signature.specs.Lawful.{OfKinds, of_kinds_nil, of_kinds_cons}
use Rattle.signature.specs.Limits.{booking_limit}
use Rattle.signature.specs.Value.{Values, vnil, vcons, code, codes}
use Rattle.signature.proofs.Values.{booking_lawful}
use Rattle.tree.specs.Answer.{no_rule}
use Rattle.tree.specs.RunCall.{refusal, run_at}
use Rattle.nodes.specs.Parts.{Parts}
use Rattle.nodes.specs.Step.{step_at}
use Rattle.nodes.specs.declared.node.Step.{Step}
use Rattle.nodes.specs.declared.node.Step.TheVariants.{Default, Hit, On, Broken}
use Rattle.run.specs.Hit.{hit_at}
use Rattle.run.specs.Parts.{Booked}
use Rattle.run.proofs.StepLaw.{run_from, Leads, More, step_law}

-- the node whose words are t is next, with the words b left
pub record Here {table book : List ℕ} (k : Booked table book) (tree visits : List ℕ) (n : ℕ) (t : List ℕ) (node : ℕ) (b : List ℕ) (place : ℕ) : Type 0 where
  pub kinds : List ℕ
  pub values : Values
  pub kinded : OfKinds k.known.sig kinds values
  pub words : b ≡ codes values
  pub rest : t ≡ drop node tree
  pub goes : run_from k.known.sig tree 0 (vcons k.value vnil) 0 [] ≡ run_from k.known.sig tree node values place (take n visits)

module _ {table book : List ℕ} (k : Booked table book) where
  pub few_words : length book ≤ booking_limit
  few_words = (booking_lawful k.known.sig book k.value k.read).at_most

  pub here_first : (tree visits : List ℕ) → Here k tree visits 0 tree 0 book 0
  here_first tree visits =
      let h = booking_lawful k.known.sig book k.value k.read in
      record { kinds = 0 ∷ []; values = vcons k.value vnil; kinded = of_kinds_cons h.kind_0 of_kinds_nil; words = sym (append-nil (code k.value) ∙ h.is_code); rest = refl; goes = refl }

module _ {table book : List ℕ} {k : Booked table book} {tree visits : List ℕ} {n : ℕ} {t : List ℕ} {node : ℕ} {b : List ℕ} {place : ℕ} (h : Here k tree visits n t node b place) where
  abbrev pub parts_of : Parts table b
  parts_of = record { known = k.known; kinds = h.kinds; values = h.values; kinded = h.kinded; words = h.words }

  module _ (inside : node + length t ≡ length tree) (s : Step) (e : (p : Parts table b) → s ≡ step_at p.known.sig t node p.values) where
    step_is : s ≡ step_at k.known.sig (drop node tree) node h.values
    step_is = e parts_of ∙ ap (λ w. step_at k.known.sig w node h.values) h.rest

    leads : (u : Step) → s ≡ u → Leads k.known.sig tree node h.values place (take n visits) (run_from k.known.sig tree node h.values place (take n visits)) u
    leads u q = subst (Leads k.known.sig tree node h.values place (take n visits) (run_from k.known.sig tree node h.values place (take n visits))) (sym step_is ∙ q) (step_law k.known.sig tree node h.values place (take n visits) h.kinded (omega arith))

    pub broken_here : s ≡ Broken → refusal 15 ≡ run_at (run_from k.known.sig tree 0 (vcons k.value vnil) 0 [])
    broken_here q = sym (ap run_at (h.goes ∙ leads Broken q))

    pub default_here : (p : ℕ) → s ≡ Default p → run_at (some (no_rule p)) ≡ run_at (run_from k.known.sig tree 0 (vcons k.value vnil) 0 [])
    default_here p q = sym (ap run_at (h.goes ∙ leads (Default p) q))

    pub hit_here : s ≡ Hit → run_at (hit_at t (take n visits)) ≡ run_at (run_from k.known.sig tree 0 (vcons k.value vnil) 0 [])
    hit_here q = ap (λ w. run_at (hit_at w (take n visits))) h.rest ∙ sym (ap run_at (h.goes ∙ leads Hit q))

    module _ (d m : ℕ) (q : s ≡ On d m) where
      more : More k.known.sig tree node h.values place (take n visits) (run_from k.known.sig tree node h.values place (take n visits)) d m
      more = leads (On d m) q

      pub ahead : (1 ≤ d) × (d ≤ length t) × (1 ≤ m) × (m ≤ length b)
      ahead = (more.forward, omega (arith, more.inside), more.some_word, omega (arith, more.left, ap length h.words))

      pub here_next : n < length visits → Here k tree (set visits n place) (n + 1) (take (length t - d) (drop d t)) (node + d) (take (length b - m) (drop m b)) (place + m)
      here_next l = record {
        kinds = more.kinds;
        values = more.values;
        kinded = more.kinded;
        words = part_to_end b m ∙ ap (drop m) h.words ∙ sym more.words;
        rest = part_to_end t d ∙ ap (drop d) h.rest ∙ drop-drop d node tree;
        goes = h.goes ∙ more.goes ∙ rw (add-one n, take-suc-set visits n place l);
      }
