-- One refusal after the other.
use mathlib.Core.Path.{◌≡◌, refl, sym, ap, subst, ◌∙◌}
use mathlib.Core.List.{List}
use mathlib.Core.Option.{Option, none, some}
use mathlib.Core.Bool.{Bool, true, false, cond}
use Prim.Native.Nat.{ℕ}
use native.Mathlib.Omega.{arith}
use Rattle.signature.specs.Decoded.{Known}
use Rattle.signature.specs.Lists.{is_some}
use Rattle.signature.specs.Signature.{Signature}
use Rattle.signature.proofs.Tests.{true≢false}
use Rattle.pattern.specs.Given.{Patterned}
use Rattle.pattern.specs.Linear.{linear_plus}
use Rattle.pattern.specs.Pattern.{Pattern}
use Rattle.pattern.specs.Ranged.{ranged}
use Rattle.pattern.specs.Read.{read_pattern}
use Rattle.reading.specs.Ranges.{Readable}
use Rattle.weighing.specs.Weighing.{weighed}
use Rattle.pattern.specs.Weight.{weight_plus, light_plus}
use Rattle.pattern.proofs.PatternBack.{pattern_words}
use Rattle.row.specs.Overlap.{ambiguous_plus}
use Rattle.builder.specs.Build.{GivenWhole}
use Rattle.admission.specs.Admission.{GivenWords, admission_by, admission_of}
use Rattle.std.specs.Prelude.{Ok, Err, Option as CodeOption, None, Some}

not_read : (sig : Signature) (o : Option Pattern) → is_some o ≡ false → admission_by sig o ≡ Err 7
not_read sig none h = refl
not_read sig (some p) h = true≢false h

was_read : (o : Option Pattern) → is_some o ≡ true → (p : Pattern) × (o ≡ some p)
was_read none h = true≢false (sym h)
was_read (some p) h = (p, refl)

-- what the weighing says of a pattern
abbrev Says : Pattern → CodeOption ℕ → Type 0
Says p (Some w) = (light_plus p ≡ true) × (w ≡ weight_plus p)
Says p None = light_plus p ≡ false

says : (p : Pattern) → Says p (weighed p)
says p = go (light_plus p) refl
  where
    go : (b : Bool) → light_plus p ≡ b → Says p (cond b (Some (weight_plus p)) None)
    go true e = (e, refl)
    go false e = e

module _ {t ws : List ℕ} {n m : ℕ} (g : GivenWords t ws n m) where
  module _ (b : Bool) (is : (k : Known t) → b ≡ is_some (read_pattern k.sig ws)) where
    pub malformed : b ≡ false → Err 7 ≡ admission_of g.known.sig ws
    malformed e = sym (not_read g.known.sig (read_pattern g.known.sig ws) (sym (is g.known) ∙ e))

    module _ (e : b ≡ true) where
      the_pattern : (p : Pattern) × (read_pattern g.known.sig ws ≡ some p)
      the_pattern = was_read (read_pattern g.known.sig ws) (sym (is g.known) ∙ e)

      pub patterned : Patterned t ws
      patterned = record { known = g.known; pattern = the_pattern.0; read = the_pattern.1 }

      pub readable : Readable ws
      readable = record { sig = g.known.sig; pattern = the_pattern.0; read = the_pattern.1 }

      module _ (u : Bool) (u_is : (q : Readable ws) → u ≡ ranged q.pattern) where
        ranged_so : ranged the_pattern.0 ≡ u
        unfolding readable
        ranged_so = sym (u_is readable)

        pub wrong_range : u ≡ false → Err 18 ≡ admission_of g.known.sig ws
        wrong_range h = let z = ranged_so ∙ h in sym (ap (admission_by g.known.sig) the_pattern.1 ∙ (rw z))

        module _ (v : u ≡ true) (l : Bool) (l_is : (q : Patterned t ws) → l ≡ linear_plus q.pattern) where
          linear_so : linear_plus the_pattern.0 ≡ l
          unfolding patterned
          linear_so = sym (l_is patterned)

          pub not_linear : l ≡ false → Err 8 ≡ admission_of g.known.sig ws
          not_linear h =
              let s = ranged_so ∙ v in
              let z = linear_so ∙ h in
              sym (ap (admission_by g.known.sig) the_pattern.1 ∙ (rw (s, z)))

          module _ (y : l ≡ true) (r : CodeOption ℕ) (r_is : (q : Patterned t ws) → r ≡ weighed q.pattern) where
            weighed_so : Says the_pattern.0 r
            unfolding patterned
            weighed_so = subst (Says the_pattern.0) (sym (r_is patterned)) (says the_pattern.0)

            pub too_heavy : r ≡ None → Err 9 ≡ admission_of g.known.sig ws
            too_heavy h =
                let s = ranged_so ∙ v in
                let x = linear_so ∙ y in
                let z : light_plus the_pattern.0 ≡ false = subst (Says the_pattern.0) h weighed_so in
                sym (ap (admission_by g.known.sig) the_pattern.1 ∙ (rw (s, x, z)))

            module _ (w : ℕ) (light : r ≡ Some w) where
              light_so : (light_plus the_pattern.0 ≡ true) × (w ≡ weight_plus the_pattern.0)
              light_so = subst (Says the_pattern.0) light weighed_so

              pub whole_given : GivenWhole t ws n m
              whole_given =
                  let q = pattern_words g.known.sig ws the_pattern.0 the_pattern.1 in
                  record { known = g.known; p = the_pattern.0; words = q; light = light_so.0; ranges = ranged_so ∙ v; room = omega (arith, q.at_most, g.room); work_room = omega (arith, q.at_most, g.work_room) }

              module _ (a : Bool) (a_is : (q : GivenWhole t ws n m) → a ≡ ambiguous_plus q.known.sig 0 q.p) where
                ambiguous_so : ambiguous_plus g.known.sig 0 the_pattern.0 ≡ a
                unfolding whole_given
                ambiguous_so = sym (a_is whole_given)

                pub is_ambiguous : a ≡ true → Err 10 ≡ admission_of g.known.sig ws
                is_ambiguous h =
                    let s = ranged_so ∙ v in
                    let x = linear_so ∙ y in
                    let z = ambiguous_so ∙ h in
                    sym (ap (admission_by g.known.sig) the_pattern.1 ∙ (rw (s, x, light_so.0, z)))

                pub passes : a ≡ false → Ok w ≡ admission_of g.known.sig ws
                passes h =
                    let s = ranged_so ∙ v in
                    let x = linear_so ∙ y in
                    let z = ambiguous_so ∙ h in
                    sym (ap (admission_by g.known.sig) the_pattern.1 ∙ (rw (s, x, light_so.0, z)) ∙ ap Ok (sym light_so.1))
