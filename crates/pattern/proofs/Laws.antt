-- The laws of patterns hold.
use mathlib.Core.Logic.{◌⊎◌, inl, inr}
use Prim.Native.Nat.{ℕ}
use native.Mathlib.Omega.{arith}
use Rattle.signature.specs.Value.{Value}
use Rattle.pattern.specs.Decide.{Out}
use Rattle.pattern.specs.Laws.{Laws}
use Rattle.pattern.specs.Match.{Binds, Fits, Fails}
use Rattle.pattern.specs.Pattern.{Pattern}
use Rattle.pattern.specs.Places.{unbound}
use Rattle.pattern.proofs.Covering.{fit_bound, fail_bound}
use Rattle.pattern.proofs.Decided.{Says, says_fits, says_fails, decide_says, decide_fits, decide_fails, fits_decide, fails_decide}
use Rattle.pattern.proofs.Exclusive.{exclusive}
use Rattle.pattern.proofs.Once.{fit_once, fail_once, once_fits, places_of, places_only, same_places}
use Rattle.pattern.proofs.PatternBack.{pattern_words, words_pattern, pattern_read, pattern_was}
use Rattle.pattern.proofs.RangedLaw.{wrong_is_some}
use Rattle.pattern.proofs.StandsLaw.{light_is_each, heavy_is_some}
use Rattle.pattern.proofs.Unique.{same_fits}

which : {p : Pattern} {v : Value} {i : ℕ} {o : Out} → Says p v i o → ((σ : Binds) × Fits p v i σ) ⊎ ((σ : Binds) × Fails p v i σ)
which (says_fits {σ = σ} f) = inl (σ, f)
which (says_fails {σ = σ} f) = inr (σ, f)

pub laws : Laws
laws = record {
  pattern = λ sig ws p. (pattern_words sig ws p, words_pattern sig ws p);
  pattern_read = λ sig d k p rest h l. pattern_read sig h d rest l;
  pattern_was = λ sig d k ws p rest e. pattern_was sig d k ws (p, rest) e;
  not_both = λ p v i σ τ f g. exclusive p f g;
  one_of = λ sig k p v i h g. which (decide_says sig p h v g i);
  decide_fits = λ sig k p v i h g. (decide_fits sig p i h g, λ f. fits_decide sig p h g f.1);
  decide_fails = λ sig k p v i h g. (decide_fails sig p i h g, λ f. fails_decide sig p h g f.1);
  covering = λ p v i σ l f x. omega (arith, fit_once p l f x, fit_bound p l f x);
  covering_minus = λ p v i σ l f x. omega (arith, fail_once p l f x, fail_bound p l f x);
  one_way = λ sig k p v i σ τ l n h f g. same_fits sig p l n h f g;
  places = λ p v i σ l f. places_of σ (once_fits p l f);
  places_only = places_only;
  one_list = λ sig k p v i σ τ l n h f g. same_places σ τ unbound (once_fits p l f) (once_fits p l g) (same_fits sig p l n h f g);
  light = λ sig k p w. light_is_each sig p w;
  heavy = λ sig k p w. heavy_is_some sig p w;
  wrong_range = λ sig k p w. wrong_is_some sig p w;
}
