use mathlib.Core.Path.{sym, ap, ◌∙◌}
use native.Mathlib.Omega.{arith}
use lib.ListN.{length-take, length-drop}
use Rattle.signature.proofs.KnownFacts.{long}
use Rattle.pattern.specs.Decide.{decide, is_fit}
use Rattle.pattern.specs.Word.{form_of, own_words}
use Rattle.pattern.proofs.Opened.{own_in}
use Rattle.matching.proofs.FitSteps.{wild_fits, absurd_fails, var_fits, answer, not_answer, first_answers, second_answers, all_stop, all_go, range_answer}
use Rattle.matching.proofs.GivenSteps.{opens, starts, word_there, value_there, pattern_long, value_long, never, not_of, and_of, or_of, first_of, second_of, head_known, head_no, head_of, none_left, uncons, range_there}
use Rattle.matching.proofs.takes.+all_fit_fits_two_fit.Goals as goal

pub all_fit-returns-then-n-eq0 : goal.all_fit-returns-then-n-eq0
all_fit-returns-then-n-eq0 t c = λ g i. sym (ap is_fit (none_left g i c.if-n-eq0.true))

pub all_fit-fits-requires : goal.all_fit-fits-requires
all_fit-fits-requires t c = (omega arith, (uncons c.requires c.if-n-eq0.false).one)

pub all_fit-returns-then-not-fits : goal.all_fit-returns-then-not-fits
all_fit-returns-then-not-fits t c = λ g i. let u = uncons g c.if-n-eq0.false in all_stop u _ i (c.fits.ensures u.one i) c.if-not-fits.true-raw

pub all_fit-span-i-requires : goal.all_fit-span-i-requires
all_fit-span-i-requires t c = opens (uncons c.requires c.if-n-eq0.false).one

pub all_fit-span-j-requires : goal.all_fit-span-j-requires
all_fit-span-j-requires t c = starts (uncons c.requires c.if-n-eq0.false).one

pub all_fit-offset_bounds-p-i : goal.all_fit-offset_bounds-p-i
all_fit-offset_bounds-p-i t c = let u = uncons c.requires c.if-n-eq0.false in omega (arith, (pattern_long u.one _ (c.span-i.ensures (opens u.one))).1, c.well_formed)

pub all_fit-slice_bounds-all_fit-count : goal.all_fit-slice_bounds-all_fit-count
all_fit-slice_bounds-all_fit-count t c = let u = uncons c.requires c.if-n-eq0.false in omega (arith, (pattern_long u.one _ (c.span-i.ensures (opens u.one))).1)

pub all_fit-slice_bounds-all_fit-start : goal.all_fit-slice_bounds-all_fit-start
all_fit-slice_bounds-all_fit-start t c = let u = uncons c.requires c.if-n-eq0.false in omega (arith, (pattern_long u.one _ (c.span-i.ensures (opens u.one))).1)

pub all_fit-offset_bounds-b-j : goal.all_fit-offset_bounds-b-j
all_fit-offset_bounds-b-j t c = let u = uncons c.requires c.if-n-eq0.false in omega (arith, (value_long u.one _ (c.span-j.ensures (starts u.one))).1, c.well_formed)

pub all_fit-slice_bounds-all_fit-count-2 : goal.all_fit-slice_bounds-all_fit-count-2
all_fit-slice_bounds-all_fit-count-2 t c = let u = uncons c.requires c.if-n-eq0.false in omega (arith, (value_long u.one _ (c.span-j.ensures (starts u.one))).1)

pub all_fit-slice_bounds-all_fit-start-2 : goal.all_fit-slice_bounds-all_fit-start-2
all_fit-slice_bounds-all_fit-start-2 t c = let u = uncons c.requires c.if-n-eq0.false in omega (arith, (value_long u.one _ (c.span-j.ensures (starts u.one))).1)

pub all_fit-overflow_sub-n : goal.all_fit-overflow_sub-n
all_fit-overflow_sub-n t c = omega (arith, c.if-n-eq0.false)

pub all_fit-all_fit-requires : goal.all_fit-all_fit-requires
all_fit-all_fit-requires t c = let u = uncons c.requires c.if-n-eq0.false in let n = pattern_long u.one _ (c.span-i.ensures (opens u.one)) in (simp (length-take, length-drop) (omega (arith, n.0, n.1)), (u.more _ _ (c.span-i.ensures (opens u.one)) (c.span-j.ensures (starts u.one))).0)

pub all_fit-returns : goal.all_fit-returns
all_fit-returns t c = λ g i. let u = uncons g c.if-n-eq0.false in let ei = c.span-i.ensures (opens u.one) in let ej = c.span-j.ensures (starts u.one) in all_go u _ _ i _ _ ei ej (c.fits.ensures u.one i) c.if-not-fits.false-raw (c.all_fit.ensures (u.more _ _ ei ej).0 _)

pub fits-bounds-p-0 : goal.fits-bounds-p-0
fits-bounds-p-0 t c = word_there c.requires

pub fits-bounds-b-0 : goal.fits-bounds-b-0
fits-bounds-b-0 t c = omega (arith, value_there c.requires)

pub fits-returns-then-b-c : goal.fits-returns-then-b-c
fits-returns-then-b-c t c = λ g i. sym (ap is_fit (head_no g c.in-Head.c (sym c.classify-w.ensures ∙ ap form_of c.in-Head.is) c.if-b-c.true i))

pub fits-overflow_cast-c : goal.fits-overflow_cast-c
fits-overflow_cast-c t c = omega (arith, head_known c.requires c.in-Head.c (sym c.classify-w.ensures ∙ ap form_of c.in-Head.is))

pub fits-arity_of-n-requires : goal.fits-arity_of-n-requires
fits-arity_of-n-requires t c = (long c.requires.known, head_known c.requires c.in-Head.c (sym c.classify-w.ensures ∙ ap form_of c.in-Head.is))

pub fits-offset_bounds-p-own : goal.fits-offset_bounds-p-own
fits-offset_bounds-p-own t c = omega (arith, c.own_words-own.ensures, own_in (opens c.requires) (form_of c.classify-w.result) c.classify-w.ensures, c.well_formed)

pub fits-slice_bounds-all_fit-count : goal.fits-slice_bounds-all_fit-count
fits-slice_bounds-all_fit-count t c = omega (arith, c.own_words-own.ensures, own_in (opens c.requires) (form_of c.classify-w.result) c.classify-w.ensures, c.well_formed)

pub fits-slice_bounds-all_fit-start : goal.fits-slice_bounds-all_fit-start
fits-slice_bounds-all_fit-start t c = omega (arith, c.own_words-own.ensures, own_in (opens c.requires) (form_of c.classify-w.result) c.classify-w.ensures, c.well_formed)

pub fits-slice_bounds-all_fit-count-in-Head : goal.fits-slice_bounds-all_fit-count-in-Head
fits-slice_bounds-all_fit-count-in-Head t c = omega (arith, value_there c.requires)

pub fits-slice_bounds-all_fit-start-in-Head : goal.fits-slice_bounds-all_fit-start-in-Head
fits-slice_bounds-all_fit-start-in-Head t c = omega (arith, value_there c.requires)

pub fits-all_fit-requires : goal.fits-all_fit-requires
fits-all_fit-requires t c = rw (c.own_words-own.ensures ∙ ap (λ x. own_words (form_of x)) c.in-Head.is) (simp length-take (omega (arith, word_there c.requires)), (head_of c.requires c.in-Head.c (sym c.classify-w.ensures ∙ ap form_of c.in-Head.is) _ c.arity_of-n.ensures c.if-b-c.false).0)

pub fits-offset_bounds-p-own-in-And : goal.fits-offset_bounds-p-own-in-And
fits-offset_bounds-p-own-in-And t c = omega (arith, c.own_words-own.ensures, own_in (opens c.requires) (form_of c.classify-w.result) c.classify-w.ensures, c.well_formed)

pub fits-slice_bounds-two_fit-count : goal.fits-slice_bounds-two_fit-count
fits-slice_bounds-two_fit-count t c = omega (arith, c.own_words-own.ensures, own_in (opens c.requires) (form_of c.classify-w.result) c.classify-w.ensures, c.well_formed)

pub fits-slice_bounds-two_fit-start : goal.fits-slice_bounds-two_fit-start
fits-slice_bounds-two_fit-start t c = omega (arith, c.own_words-own.ensures, own_in (opens c.requires) (form_of c.classify-w.result) c.classify-w.ensures, c.well_formed)

pub fits-two_fit-requires : goal.fits-two_fit-requires
fits-two_fit-requires t c = rw (c.own_words-own.ensures ∙ ap (λ x. own_words (form_of x)) c.in-And.is) (simp length-take (omega (arith, word_there c.requires)), (and_of c.requires (sym c.classify-w.ensures ∙ ap form_of c.in-And.is)).0)

pub fits-offset_bounds-p-own-in-Or : goal.fits-offset_bounds-p-own-in-Or
fits-offset_bounds-p-own-in-Or t c = omega (arith, c.own_words-own.ensures, own_in (opens c.requires) (form_of c.classify-w.result) c.classify-w.ensures, c.well_formed)

pub fits-slice_bounds-two_fit-count-in-Or : goal.fits-slice_bounds-two_fit-count-in-Or
fits-slice_bounds-two_fit-count-in-Or t c = omega (arith, c.own_words-own.ensures, own_in (opens c.requires) (form_of c.classify-w.result) c.classify-w.ensures, c.well_formed)

pub fits-slice_bounds-two_fit-start-in-Or : goal.fits-slice_bounds-two_fit-start-in-Or
fits-slice_bounds-two_fit-start-in-Or t c = omega (arith, c.own_words-own.ensures, own_in (opens c.requires) (form_of c.classify-w.result) c.classify-w.ensures, c.well_formed)

pub fits-two_fit-requires-in-Or : goal.fits-two_fit-requires-in-Or
fits-two_fit-requires-in-Or t c = rw (c.own_words-own.ensures ∙ ap (λ x. own_words (form_of x)) c.in-Or.is) (simp length-take (omega (arith, word_there c.requires)), (or_of c.requires (sym c.classify-w.ensures ∙ ap form_of c.in-Or.is)).0)

pub fits-offset_bounds-p-own-in-Not : goal.fits-offset_bounds-p-own-in-Not
fits-offset_bounds-p-own-in-Not t c = omega (arith, c.own_words-own.ensures, own_in (opens c.requires) (form_of c.classify-w.result) c.classify-w.ensures, c.well_formed)

pub fits-slice_bounds-fits-count : goal.fits-slice_bounds-fits-count
fits-slice_bounds-fits-count t c = omega (arith, c.own_words-own.ensures, own_in (opens c.requires) (form_of c.classify-w.result) c.classify-w.ensures, c.well_formed)

pub fits-slice_bounds-fits-start : goal.fits-slice_bounds-fits-start
fits-slice_bounds-fits-start t c = omega (arith, c.own_words-own.ensures, own_in (opens c.requires) (form_of c.classify-w.result) c.classify-w.ensures, c.well_formed)

pub fits-fits-requires : goal.fits-fits-requires
fits-fits-requires t c = rw (c.own_words-own.ensures ∙ ap (λ x. own_words (form_of x)) c.in-Not.is) (simp length-take (omega (arith, word_there c.requires)), (not_of c.requires (sym c.classify-w.ensures ∙ ap form_of c.in-Not.is)).0)

pub fits-bounds-p-1 : goal.fits-bounds-p-1
fits-bounds-p-1 t c = omega (arith, range_there c.requires (sym c.classify-w.ensures ∙ ap form_of c.in-Range.is))

pub fits-bounds-p-2 : goal.fits-bounds-p-2
fits-bounds-p-2 t c = omega (arith, range_there c.requires (sym c.classify-w.ensures ∙ ap form_of c.in-Range.is))

pub fits-bounds-b-0-in-Range : goal.fits-bounds-b-0-in-Range
fits-bounds-b-0-in-Range t c = omega (arith, value_there c.requires)

pub fits-returns-else-b-c : goal.fits-returns-else-b-c
fits-returns-else-b-c t c = λ g i. let h = head_of g c.in-Head.c (sym c.classify-w.ensures ∙ ap form_of c.in-Head.is) _ c.arity_of-n.ensures c.if-b-c.false in answer _ _ _ (h.1 i) ((rw (c.own_words-own.ensures ∙ ap (λ x. own_words (form_of x)) c.in-Head.is) at c.all_fit.ensures) h.0 _)

pub fits-returns-in-And : goal.fits-returns-in-And
fits-returns-in-And t c = λ g i. let h = and_of g (sym c.classify-w.ensures ∙ ap form_of c.in-And.is) in answer _ _ _ (h.1 i) ((rw (c.own_words-own.ensures ∙ ap (λ x. own_words (form_of x)) c.in-And.is) at c.two_fit.ensures) h.0 i)

pub fits-returns-in-Or : goal.fits-returns-in-Or
fits-returns-in-Or t c = λ g i. let h = or_of g (sym c.classify-w.ensures ∙ ap form_of c.in-Or.is) in answer _ _ _ (h.1 i) ((rw (c.own_words-own.ensures ∙ ap (λ x. own_words (form_of x)) c.in-Or.is) at c.two_fit-in-Or.ensures) h.0 i)

pub fits-returns-in-Wild : goal.fits-returns-in-Wild
fits-returns-in-Wild t c = λ g i. sym (ap is_fit (wild_fits g i (sym c.classify-w.ensures ∙ ap form_of c.in-Wild.is)))

pub fits-returns-in-Absurd : goal.fits-returns-in-Absurd
fits-returns-in-Absurd t c = λ g i. sym (ap is_fit (absurd_fails g i (sym c.classify-w.ensures ∙ ap form_of c.in-Absurd.is)))

pub fits-returns-in-Not : goal.fits-returns-in-Not
fits-returns-in-Not t c = λ g i. let h = not_of g (sym c.classify-w.ensures ∙ ap form_of c.in-Not.is) in not_answer (decide h.0.pattern h.0.value i) _ _ (h.1 i) ((rw (c.own_words-own.ensures ∙ ap (λ x. own_words (form_of x)) c.in-Not.is) at c.fits.ensures) h.0 i)

pub fits-returns-in-Var : goal.fits-returns-in-Var
fits-returns-in-Var t c = λ g i. sym (ap is_fit (var_fits g i _ (sym c.classify-w.ensures ∙ ap form_of c.in-Var.is)))

pub fits-returns-in-Range : goal.fits-returns-in-Range
fits-returns-in-Range t c = λ g i. range_answer g (sym c.classify-w.ensures ∙ ap form_of c.in-Range.is) i _ c.within.ensures

pub fits-returns-in-Other : goal.fits-returns-in-Other
fits-returns-in-Other t c = λ g i. never g (sym c.classify-w.ensures ∙ ap form_of c.in-Other.is)

pub two_fit-fits-first-requires : goal.two_fit-fits-first-requires
two_fit-fits-first-requires t c = (omega arith, first_of c.requires)

pub two_fit-returns-then-first-both : goal.two_fit-returns-then-first-both
two_fit-returns-then-first-both t c = λ g i. first_answers c.args.both _ _ (decide g.second g.value i) (c.fits-first.ensures (first_of g) i) c.if-first-both.true

pub two_fit-span-n-requires : goal.two_fit-span-n-requires
two_fit-span-n-requires t c = opens (first_of c.requires)

pub two_fit-offset_bounds-p-n : goal.two_fit-offset_bounds-p-n
two_fit-offset_bounds-p-n t c = let o = first_of c.requires in omega (arith, (pattern_long o _ (c.span-n.ensures (opens o))).1, c.well_formed)

pub two_fit-slice_bounds-fits-count : goal.two_fit-slice_bounds-fits-count
two_fit-slice_bounds-fits-count t c = let o = first_of c.requires in omega (arith, (pattern_long o _ (c.span-n.ensures (opens o))).1)

pub two_fit-slice_bounds-fits-start : goal.two_fit-slice_bounds-fits-start
two_fit-slice_bounds-fits-start t c = let o = first_of c.requires in omega (arith, (pattern_long o _ (c.span-n.ensures (opens o))).1)

pub two_fit-fits-requires : goal.two_fit-fits-requires
two_fit-fits-requires t c = let o = first_of c.requires in let n = pattern_long o _ (c.span-n.ensures (opens o)) in (simp (length-take, length-drop) (omega (arith, n.0, n.1)), second_of c.requires _ (c.span-n.ensures (opens o)))

pub two_fit-returns : goal.two_fit-returns
two_fit-returns t c = λ g i. second_answers c.args.both _ _ (decide g.first g.value i) _ (c.fits-first.ensures (first_of g) i) c.if-first-both.false (c.fits.ensures (second_of g _ (c.span-n.ensures (opens (first_of g)))) i)
