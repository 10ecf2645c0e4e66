-- Words with no "or", and no "and" behind a "not", are of a pattern that is not ambiguous.
use mathlib.Core.Path.{◌≡◌, refl, sym, ap, ◌∙◌}
use mathlib.Core.List.{List, [], ◌∷◌, ◌++◌}
use mathlib.Core.Bool.{Bool, true, false, not, ◌||◌}
use Prim.Native.Nat.{ℕ}
use Rattle.signature.specs.Signature.{Signature, arguments}
use Rattle.signature.proofs.Booleans.{and_false, not_true, or_left, or_right}
use Rattle.signature.proofs.Tests.{true≢false}
use Rattle.pattern.specs.Pattern.{Pattern, head, and, or, wild, absurd_pat, neg, var, range, Patterns, pnil, pcons, pattern_code, patterns_code}
use Rattle.pattern.specs.Read.{form}
use Rattle.row.specs.Overlap.{ambiguous_plus, ambiguous_minus, any_plus, any_minus}
use Rattle.builder.specs.Build.{GivenWhole}
use Rattle.ambiguity.specs.Ambiguity.{doubles, negates, may_double_at, may_double}

-- what doubles nowhere behind a "not" doubles nowhere
fewer : (b : Bool) (ws : List ℕ) → may_double true ws ≡ false → may_double b ws ≡ false
fewer b [] h = refl
fewer b (w ∷ ws) h =
    let e : (doubles true (form w) || doubles false (form w)) ≡ false = or_left (doubles true (form w) || doubles false (form w)) (may_double true ws) h in
    rw (or_left (doubles true (form w)) (doubles false (form w)) e, or_right (doubles true (form w)) (doubles false (form w)) e, and_false b) (fewer (b || negates (form w)) ws (or_right (doubles true (form w) || doubles false (form w)) (may_double true ws) h))

next : (b : Bool) (w : ℕ) (ws : List ℕ) → may_double b (w ∷ ws) ≡ false → may_double b ws ≡ false
next b w ws h = go b (negates (form w)) (or_right (may_double_at b (form w)) (may_double (b || negates (form w)) ws) h)
  where
    go : (a c : Bool) → may_double (a || c) ws ≡ false → may_double a ws ≡ false
    go true c e = e
    go false true e = fewer false ws e
    go false false e = e

front : (b : Bool) (us ws : List ℕ) → may_double b (us ++ ws) ≡ false → may_double b us ≡ false
front b [] ws h = refl
front b (u ∷ us) ws h = rw (or_left (may_double_at b (form u)) (may_double (b || negates (form u)) (us ++ ws)) h) (front (b || negates (form u)) us ws (or_right (may_double_at b (form u)) (may_double (b || negates (form u)) (us ++ ws)) h))

back : (b : Bool) (us ws : List ℕ) → may_double b (us ++ ws) ≡ false → may_double b ws ≡ false
back b [] ws h = h
back b (u ∷ us) ws h = back b us ws (next b u (us ++ ws) h)

neither : (a b : Bool) → a ≡ false → b ≡ false → (a || b) ≡ false
neither a b d e = rw (d, e)

module _ (sig : Signature) where
  mutual
    plus : (k : ℕ) (p : Pattern) → may_double false (pattern_code p) ≡ false → ambiguous_plus sig k p ≡ false
    plus k (head c ps) h = plus_each (arguments sig c) ps (next false c (patterns_code ps) h)
    plus k (and p q) h = neither (ambiguous_plus sig k p) (ambiguous_plus sig k q) (plus k p (front false (pattern_code p) (pattern_code q) h)) (plus k q (back false (pattern_code p) (pattern_code q) h))
    plus k (or p q) h = true≢false h
    plus k wild h = refl
    plus k absurd_pat h = refl
    plus k (neg p) h = minus k p h
    plus k (var x) h = refl
    plus k (range low high) h = refl

    minus : (k : ℕ) (p : Pattern) → may_double true (pattern_code p) ≡ false → ambiguous_minus sig k p ≡ false
    minus k (head c ps) h = minus_each (arguments sig c) ps (next true c (patterns_code ps) h)
    minus k (and p q) h = true≢false h
    minus k (or p q) h = true≢false h
    minus k wild h = refl
    minus k absurd_pat h = refl
    minus k (neg p) h = plus k p (fewer false (pattern_code p) h)
    minus k (var x) h = refl
    minus k (range low high) h = refl

    plus_each : (ks : List ℕ) (ps : Patterns) → may_double false (patterns_code ps) ≡ false → any_plus sig ks ps ≡ false
    plus_each ks pnil h = refl
    plus_each [] (pcons p ps) h = refl
    plus_each (k ∷ ks) (pcons p ps) h = neither (ambiguous_plus sig k p) (any_plus sig ks ps) (plus k p (front false (pattern_code p) (patterns_code ps) h)) (plus_each ks ps (back false (pattern_code p) (patterns_code ps) h))

    minus_each : (ks : List ℕ) (ps : Patterns) → may_double true (patterns_code ps) ≡ false → any_minus sig ks ps ≡ false
    minus_each ks pnil h = refl
    minus_each [] (pcons p ps) h = refl
    minus_each (k ∷ ks) (pcons p ps) h = neither (ambiguous_minus sig k p) (any_minus sig ks ps) (minus k p (front true (pattern_code p) (patterns_code ps) h)) (minus_each ks ps (back true (pattern_code p) (patterns_code ps) h))

pub is_plain : {t ws : List ℕ} {n m : ℕ} (g : GivenWhole t ws n m) (r : Bool) → r ≡ may_double false ws → not r ≡ true → false ≡ ambiguous_plus g.known.sig 0 g.p
is_plain g r d e = sym (plus g.known.sig 0 g.p (ap (may_double false) g.words.is_code ∙ sym d ∙ not_true r e))
