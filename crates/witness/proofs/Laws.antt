-- The laws of a shown booking hold.
use mathlib.Core.Path.{◌≡◌, ap₂, sym, ◌∙◌, refl}
use mathlib.Core.List.{List}
use Prim.Native.Nat.{ℕ, ◌≤◌}
use native.Mathlib.Omega.{arith}
use Rattle.std.specs.Prelude.{Option as CodeOption, None, Some}
use Rattle.signature.specs.Read.{Signed}
use Rattle.signature.specs.Signature.{Signature}
use Rattle.signature.proofs.LawfulFacts.{sig_facts}
use Rattle.signature.proofs.Values.{lawful_booking}
use Rattle.pattern.specs.Pattern.{Pattern}
use Rattle.pattern.specs.WellFormed.{PatternWords}
use Rattle.pattern.proofs.PatternBack.{words_pattern}
use Rattle.row.specs.Overlap.{shared_by, Shared, SharesBooking}
use Rattle.row.proofs.Exists.{overlap_booking, exists_shares}
use Rattle.witness.specs.Laws.{Laws}
use Rattle.witness.specs.Lists.{Shown}

some_shown : (sig : Signature) (p q : Pattern) (res : CodeOption ℕ) (o o' : List ℕ) → Shown (Shared sig p q) (λ s. s.words) res o o' → Shared sig p q → (n : ℕ) × (1 ≤ n) × (res ≡ Some n)
some_shown sig p q None o o' h s = absurd ((h.none_shared refl).0 s)
some_shown sig p q (Some n) o o' h s = let (z, c, l) = h.one_shared n refl in (n, omega (arith, c, z.lawful.some_words), refl)

module _ (sig : Signature) (signed : Signed sig) (us ws : List ℕ) (p q : Pattern) (a : PatternWords sig us p) (b : PatternWords sig ws q) where
  to_words : Shared sig p q → SharesBooking sig us ws
  to_words s =
      let l = lawful_booking sig s.words s.value s.lawful in
      record { words = s.words; binds_us = s.binds_p; binds_ws = s.binds_q; taken_us = (p, s.value, words_pattern sig us p a, l, s.fits_p); taken_ws = (q, s.value, words_pattern sig ws q b, l, s.fits_q) }

  of_words : SharesBooking sig us ws → Shared sig p q
  of_words s = overlap_booking sig (sig_facts sig signed) us ws p q a b (sym (ap₂ (shared_by sig) (words_pattern sig us p a) (words_pattern sig ws q b)) ∙ exists_shares sig signed us ws s)

  words_shown : (res : CodeOption ℕ) (o o' : List ℕ) → Shown (Shared sig p q) (λ s. s.words) res o o' → Shown (SharesBooking sig us ws) (λ s. s.words) res o o'
  unfolding to_words
  words_shown res o o' h = record {
    none_shared = λ z. (λ s. (h.none_shared z).0 (of_words s), (h.none_shared z).1);
    one_shared = λ n z. let (s, c, l) = h.one_shared n z in (to_words s, c, l);
  }

pub laws : Laws
laws = record {
  exact = λ sig p q res o o' h. (λ z. (h.one_shared z.0 z.2).0, some_shown sig p q res o o' h);
  words_shown = words_shown;
}
