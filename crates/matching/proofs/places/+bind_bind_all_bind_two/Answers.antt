use mathlib.Core.Path.{sym, ap, ◌∙◌}
use native.Mathlib.Omega.{arith}
use lib.ListN.{length-take, length-drop, length-set}
use Rattle.signature.proofs.KnownFacts.{long}
use Rattle.pattern.specs.Decide.{decide}
use Rattle.pattern.specs.Word.{form_of, own_words}
use Rattle.pattern.proofs.Opened.{own_in}
use Rattle.matching.specs.Bound.{bound}
use Rattle.matching.proofs.BindSteps.{nothing_put, range_binds, put, not_put, var_put, two_first, two_second, two_both, all_first, all_rest, all_both}
use Rattle.matching.proofs.FitSteps.{wild_fits, absurd_fails, var_fits}
use Rattle.matching.proofs.GivenSteps.{opens, starts, word_there, value_there, pattern_long, value_long, never, var_known, not_of, and_of, or_of, first_of, second_of, head_known, head_no, head_of, none_left, uncons}
use Rattle.matching.proofs.places.+bind_bind_all_bind_two.Goals.{bind_all-then-all_fit, bind_all-else-all_fit}
use Rattle.matching.proofs.places.+bind_bind_all_bind_two.Goals as goal

pub bind-bounds-p-0 : goal.bind-bounds-p-0
bind-bounds-p-0 t c = word_there c.requires.0

pub bind-bounds-b-0 : goal.bind-bounds-b-0
bind-bounds-b-0 t c = omega (arith, value_there c.requires.0)

pub bind-returns-then-b-c : goal.bind-returns-then-b-c
bind-returns-then-b-c t c = λ g. nothing_put _ _ (ap bound (head_no g c.in-Head.c (sym c.classify-w.ensures ∙ ap form_of c.in-Head.is) c.if-b-c.true c.args.at))

pub bind-overflow_cast-c : goal.bind-overflow_cast-c
bind-overflow_cast-c t c = omega (arith, head_known c.requires.0 c.in-Head.c (sym c.classify-w.ensures ∙ ap form_of c.in-Head.is))

pub bind-arity_of-n-requires : goal.bind-arity_of-n-requires
bind-arity_of-n-requires t c = (long c.requires.0.known, head_known c.requires.0 c.in-Head.c (sym c.classify-w.ensures ∙ ap form_of c.in-Head.is))

pub bind-offset_bounds-p-own : goal.bind-offset_bounds-p-own
bind-offset_bounds-p-own t c = omega (arith, c.own_words-own.ensures, own_in (opens c.requires.0) (form_of c.classify-w.result) c.classify-w.ensures, c.well_formed)

pub bind-slice_bounds-bind_all-count : goal.bind-slice_bounds-bind_all-count
bind-slice_bounds-bind_all-count t c = omega (arith, c.own_words-own.ensures, own_in (opens c.requires.0) (form_of c.classify-w.result) c.classify-w.ensures, c.well_formed)

pub bind-slice_bounds-bind_all-start : goal.bind-slice_bounds-bind_all-start
bind-slice_bounds-bind_all-start t c = omega (arith, c.own_words-own.ensures, own_in (opens c.requires.0) (form_of c.classify-w.result) c.classify-w.ensures, c.well_formed)

pub bind-slice_bounds-bind_all-count-in-Head : goal.bind-slice_bounds-bind_all-count-in-Head
bind-slice_bounds-bind_all-count-in-Head t c = omega (arith, value_there c.requires.0)

pub bind-slice_bounds-bind_all-start-in-Head : goal.bind-slice_bounds-bind_all-start-in-Head
bind-slice_bounds-bind_all-start-in-Head t c = omega (arith, value_there c.requires.0)

pub bind-overflow_add-at : goal.bind-overflow_add-at
bind-overflow_add-at t c = omega (arith, value_there c.requires.0, c.requires.1)

pub bind-bind_all-requires : goal.bind-bind_all-requires
bind-bind_all-requires t c = rw (c.own_words-own.ensures ∙ ap (λ x. own_words (form_of x)) c.in-Head.is) (simp length-take (omega (arith, word_there c.requires.0)), ((head_of c.requires.0 c.in-Head.c (sym c.classify-w.ensures ∙ ap form_of c.in-Head.is) _ c.arity_of-n.ensures c.if-b-c.false).0, simp (length-take, length-drop) (omega (arith, c.requires.1, value_there c.requires.0)), c.requires.2))

pub bind-offset_bounds-p-own-in-And : goal.bind-offset_bounds-p-own-in-And
bind-offset_bounds-p-own-in-And t c = omega (arith, c.own_words-own.ensures, own_in (opens c.requires.0) (form_of c.classify-w.result) c.classify-w.ensures, c.well_formed)

pub bind-slice_bounds-bind_two-count : goal.bind-slice_bounds-bind_two-count
bind-slice_bounds-bind_two-count t c = omega (arith, c.own_words-own.ensures, own_in (opens c.requires.0) (form_of c.classify-w.result) c.classify-w.ensures, c.well_formed)

pub bind-slice_bounds-bind_two-start : goal.bind-slice_bounds-bind_two-start
bind-slice_bounds-bind_two-start t c = omega (arith, c.own_words-own.ensures, own_in (opens c.requires.0) (form_of c.classify-w.result) c.classify-w.ensures, c.well_formed)

pub bind-bind_two-requires : goal.bind-bind_two-requires
bind-bind_two-requires t c = rw (c.own_words-own.ensures ∙ ap (λ x. own_words (form_of x)) c.in-And.is) (simp length-take (omega (arith, word_there c.requires.0)), ((and_of c.requires.0 (sym c.classify-w.ensures ∙ ap form_of c.in-And.is)).0, c.requires.1, c.requires.2))

pub bind-offset_bounds-p-own-in-Or : goal.bind-offset_bounds-p-own-in-Or
bind-offset_bounds-p-own-in-Or t c = omega (arith, c.own_words-own.ensures, own_in (opens c.requires.0) (form_of c.classify-w.result) c.classify-w.ensures, c.well_formed)

pub bind-slice_bounds-bind_two-count-in-Or : goal.bind-slice_bounds-bind_two-count-in-Or
bind-slice_bounds-bind_two-count-in-Or t c = omega (arith, c.own_words-own.ensures, own_in (opens c.requires.0) (form_of c.classify-w.result) c.classify-w.ensures, c.well_formed)

pub bind-slice_bounds-bind_two-start-in-Or : goal.bind-slice_bounds-bind_two-start-in-Or
bind-slice_bounds-bind_two-start-in-Or t c = omega (arith, c.own_words-own.ensures, own_in (opens c.requires.0) (form_of c.classify-w.result) c.classify-w.ensures, c.well_formed)

pub bind-bind_two-requires-in-Or : goal.bind-bind_two-requires-in-Or
bind-bind_two-requires-in-Or t c = rw (c.own_words-own.ensures ∙ ap (λ x. own_words (form_of x)) c.in-Or.is) (simp length-take (omega (arith, word_there c.requires.0)), ((or_of c.requires.0 (sym c.classify-w.ensures ∙ ap form_of c.in-Or.is)).0, c.requires.1, c.requires.2))

pub bind-offset_bounds-p-own-in-Not : goal.bind-offset_bounds-p-own-in-Not
bind-offset_bounds-p-own-in-Not t c = omega (arith, c.own_words-own.ensures, own_in (opens c.requires.0) (form_of c.classify-w.result) c.classify-w.ensures, c.well_formed)

pub bind-slice_bounds-bind-count : goal.bind-slice_bounds-bind-count
bind-slice_bounds-bind-count t c = omega (arith, c.own_words-own.ensures, own_in (opens c.requires.0) (form_of c.classify-w.result) c.classify-w.ensures, c.well_formed)

pub bind-slice_bounds-bind-start : goal.bind-slice_bounds-bind-start
bind-slice_bounds-bind-start t c = omega (arith, c.own_words-own.ensures, own_in (opens c.requires.0) (form_of c.classify-w.result) c.classify-w.ensures, c.well_formed)

pub bind-bind-requires : goal.bind-bind-requires
bind-bind-requires t c = rw (c.own_words-own.ensures ∙ ap (λ x. own_words (form_of x)) c.in-Not.is) (simp length-take (omega (arith, word_there c.requires.0)), ((not_of c.requires.0 (sym c.classify-w.ensures ∙ ap form_of c.in-Not.is)).0, c.requires.1, c.requires.2))

pub bind-overflow_cast-i : goal.bind-overflow_cast-i
bind-overflow_cast-i t c = omega (arith, var_known c.requires.0 c.in-Var.x (sym c.classify-w.ensures ∙ ap form_of c.in-Var.is))

pub bind-offset_bounds-out-i : goal.bind-offset_bounds-out-i
bind-offset_bounds-out-i t c = omega (arith, var_known c.requires.0 c.in-Var.x (sym c.classify-w.ensures ∙ ap form_of c.in-Var.is))

pub bind-bounds-out-i : goal.bind-bounds-out-i
bind-bounds-out-i t c = omega (arith, var_known c.requires.0 c.in-Var.x (sym c.classify-w.ensures ∙ ap form_of c.in-Var.is), c.requires.2)

pub bind-shape_of-out-else-b-c : goal.bind-shape_of-out-else-b-c
bind-shape_of-out-else-b-c t c = c.bind_all.auto.out

pub bind-returns-else-b-c : goal.bind-returns-else-b-c
bind-returns-else-b-c t c = λ g. let h = head_of g c.in-Head.c (sym c.classify-w.ensures ∙ ap form_of c.in-Head.is) _ c.arity_of-n.ensures c.if-b-c.false in put _ _ _ _ (h.1 c.args.at) ((rw (c.own_words-own.ensures ∙ ap (λ x. own_words (form_of x)) c.in-Head.is) at c.bind_all.ensures) h.0)

pub bind-shape_of-out-in-And : goal.bind-shape_of-out-in-And
bind-shape_of-out-in-And t c = c.bind_two.auto.out

pub bind-returns-in-And : goal.bind-returns-in-And
bind-returns-in-And t c = λ g. let h = and_of g (sym c.classify-w.ensures ∙ ap form_of c.in-And.is) in put _ _ _ _ (h.1 c.args.at) ((rw (c.own_words-own.ensures ∙ ap (λ x. own_words (form_of x)) c.in-And.is) at c.bind_two.ensures) h.0)

pub bind-shape_of-out-in-Or : goal.bind-shape_of-out-in-Or
bind-shape_of-out-in-Or t c = c.bind_two-in-Or.auto.out

pub bind-returns-in-Or : goal.bind-returns-in-Or
bind-returns-in-Or t c = λ g. let h = or_of g (sym c.classify-w.ensures ∙ ap form_of c.in-Or.is) in put _ _ _ _ (h.1 c.args.at) ((rw (c.own_words-own.ensures ∙ ap (λ x. own_words (form_of x)) c.in-Or.is) at c.bind_two-in-Or.ensures) h.0)

pub bind-returns-in-Wild : goal.bind-returns-in-Wild
bind-returns-in-Wild t c = λ g. nothing_put _ _ (ap bound (wild_fits g c.args.at (sym c.classify-w.ensures ∙ ap form_of c.in-Wild.is)))

pub bind-returns-in-Absurd : goal.bind-returns-in-Absurd
bind-returns-in-Absurd t c = λ g. nothing_put _ _ (ap bound (absurd_fails g c.args.at (sym c.classify-w.ensures ∙ ap form_of c.in-Absurd.is)))

pub bind-shape_of-out-in-Not : goal.bind-shape_of-out-in-Not
bind-shape_of-out-in-Not t c = c.bind.auto.out

pub bind-returns-in-Not : goal.bind-returns-in-Not
bind-returns-in-Not t c = λ g. let h = not_of g (sym c.classify-w.ensures ∙ ap form_of c.in-Not.is) in not_put (decide h.0.pattern h.0.value c.args.at) _ _ _ (h.1 c.args.at) ((rw (c.own_words-own.ensures ∙ ap (λ x. own_words (form_of x)) c.in-Not.is) at c.bind.ensures) h.0)

pub bind-shape_of-out-in-Var : goal.bind-shape_of-out-in-Var
bind-shape_of-out-in-Var t c = length-set c.args.out.now c.in-Var.x c.args.at

pub bind-returns-in-Var : goal.bind-returns-in-Var
bind-returns-in-Var t c = λ g. var_put _ c.in-Var.x c.args.at _ (var_fits g c.args.at c.in-Var.x (sym c.classify-w.ensures ∙ ap form_of c.in-Var.is))

pub bind-returns-in-Range : goal.bind-returns-in-Range
bind-returns-in-Range t c = λ g. nothing_put _ _ (range_binds g c.args.at (sym c.classify-w.ensures ∙ ap form_of c.in-Range.is))

pub bind-returns-in-Other : goal.bind-returns-in-Other
bind-returns-in-Other t c = λ g. never g (sym c.classify-w.ensures ∙ ap form_of c.in-Other.is)

pub bind_all-returns-then-n-eq0 : goal.bind_all-returns-then-n-eq0
bind_all-returns-then-n-eq0 t c = λ g. nothing_put _ _ (ap bound (none_left g c.args.at c.if-n-eq0.true))

pub bind_all-fits-requires : goal.bind_all-fits-requires
bind_all-fits-requires t c = (uncons c.requires.0 c.if-n-eq0.false).one

pub bind_all-bind-requires : goal.bind_all-bind-requires
bind_all-bind-requires t c = let u = uncons c.requires.0 c.if-n-eq0.false in (omega arith, (u.one, c.requires.1, c.requires.2))

pub bind_all-shape_of-out-then-not-fits : goal.bind_all-shape_of-out-then-not-fits
bind_all-shape_of-out-then-not-fits t c = c.bind.auto.out

pub bind_all-returns-then-not-fits : goal.bind_all-returns-then-not-fits
bind_all-returns-then-not-fits t c = λ g. let u = uncons g c.if-n-eq0.false in all_first u _ c.args.at _ (c.fits.ensures u.one _) _ c.if-not-fits.true-raw (c.bind.ensures u.one)

pub bind_all-span-i-requires : goal.bind_all-span-i-requires
bind_all-span-i-requires t c = opens (uncons c.requires.0 c.if-n-eq0.false).one

pub bind_all-span-j-requires : goal.bind_all-span-j-requires
bind_all-span-j-requires t c = starts (uncons c.requires.0 c.if-n-eq0.false).one

pub bind_all-offset_bounds-p-i : goal.bind_all-offset_bounds-p-i
bind_all-offset_bounds-p-i t c = let o = (uncons c.requires.0 c.if-n-eq0.false).one in omega (arith, (pattern_long o _ (c.span-i.ensures (opens o))).1, c.well_formed)

pub bind_all-slice_bounds-all_fit-count : goal.bind_all-slice_bounds-all_fit-count
bind_all-slice_bounds-all_fit-count t c = let o = (uncons c.requires.0 c.if-n-eq0.false).one in omega (arith, (pattern_long o _ (c.span-i.ensures (opens o))).1)

pub bind_all-slice_bounds-all_fit-start : goal.bind_all-slice_bounds-all_fit-start
bind_all-slice_bounds-all_fit-start t c = let o = (uncons c.requires.0 c.if-n-eq0.false).one in omega (arith, (pattern_long o _ (c.span-i.ensures (opens o))).1)

pub bind_all-offset_bounds-b-j : goal.bind_all-offset_bounds-b-j
bind_all-offset_bounds-b-j t c = let o = (uncons c.requires.0 c.if-n-eq0.false).one in omega (arith, (value_long o _ (c.span-j.ensures (starts o))).1, c.well_formed)

pub bind_all-slice_bounds-all_fit-count-2 : goal.bind_all-slice_bounds-all_fit-count-2
bind_all-slice_bounds-all_fit-count-2 t c = let o = (uncons c.requires.0 c.if-n-eq0.false).one in omega (arith, (value_long o _ (c.span-j.ensures (starts o))).1)

pub bind_all-slice_bounds-all_fit-start-2 : goal.bind_all-slice_bounds-all_fit-start-2
bind_all-slice_bounds-all_fit-start-2 t c = let o = (uncons c.requires.0 c.if-n-eq0.false).one in omega (arith, (value_long o _ (c.span-j.ensures (starts o))).1)

pub bind_all-overflow_sub-n : goal.bind_all-overflow_sub-n
bind_all-overflow_sub-n t c = omega (arith, c.if-n-eq0.false)

pub bind_all-all_fit-requires : goal.bind_all-all_fit-requires
bind_all-all_fit-requires t c = let u = uncons c.requires.0 c.if-n-eq0.false in (u.more _ _ (c.span-i.ensures (opens u.one)) (c.span-j.ensures (starts u.one))).0

pub bind_all-bind-requires-then-all_fit : goal.bind_all-bind-requires-then-all_fit
bind_all-bind-requires-then-all_fit t c = let u = uncons c.requires.0 c.if-n-eq0.false in (omega arith, (u.one, c.requires.1, c.requires.2))

pub bind_all-slice_bounds-bind_all-count : goal.bind_all-slice_bounds-bind_all-count
bind_all-slice_bounds-bind_all-count t c = let o = (uncons c.requires.0 c.if-n-eq0.false).one in omega (arith, (pattern_long o _ (c.span-i.ensures (opens o))).1)

pub bind_all-slice_bounds-bind_all-start : goal.bind_all-slice_bounds-bind_all-start
bind_all-slice_bounds-bind_all-start t c = let o = (uncons c.requires.0 c.if-n-eq0.false).one in omega (arith, (pattern_long o _ (c.span-i.ensures (opens o))).1)

pub bind_all-overflow_cast-j : goal.bind_all-overflow_cast-j
bind_all-overflow_cast-j t c = let o = (uncons c.requires.0 c.if-n-eq0.false).one in omega (arith, (value_long o _ (c.span-j.ensures (starts o))).1, c.requires.1)

pub bind_all-overflow_add-at : goal.bind_all-overflow_add-at
bind_all-overflow_add-at t c = let o = (uncons c.requires.0 c.if-n-eq0.false).one in omega (arith, (value_long o _ (c.span-j.ensures (starts o))).1, c.requires.1)

pub bind_all-offset_bounds-p-i-2 : goal.bind_all-offset_bounds-p-i-2
bind_all-offset_bounds-p-i-2 t c = let o = (uncons c.requires.0 c.if-n-eq0.false).one in omega (arith, (pattern_long o _ (c.span-i.ensures (opens o))).1, c.well_formed)

pub bind_all-offset_bounds-b-j-2 : goal.bind_all-offset_bounds-b-j-2
bind_all-offset_bounds-b-j-2 t c = let o = (uncons c.requires.0 c.if-n-eq0.false).one in omega (arith, (value_long o _ (c.span-j.ensures (starts o))).1, c.well_formed)

pub bind_all-slice_bounds-bind_all-count-2 : goal.bind_all-slice_bounds-bind_all-count-2
bind_all-slice_bounds-bind_all-count-2 t c = let o = (uncons c.requires.0 c.if-n-eq0.false).one in omega (arith, (value_long o _ (c.span-j.ensures (starts o))).1, c.well_formed)

pub bind_all-slice_bounds-bind_all-start-2 : goal.bind_all-slice_bounds-bind_all-start-2
bind_all-slice_bounds-bind_all-start-2 t c = let o = (uncons c.requires.0 c.if-n-eq0.false).one in omega (arith, (value_long o _ (c.span-j.ensures (starts o))).1, c.well_formed)

pub bind_all-bind_all-requires : goal.bind_all-bind_all-requires
bind_all-bind_all-requires t c = let u = uncons c.requires.0 c.if-n-eq0.false in let ei = c.span-i.ensures (opens u.one) in let ej = c.span-j.ensures (starts u.one) in (simp (length-take, length-drop) (omega (arith, (pattern_long u.one _ ei).0, (pattern_long u.one _ ei).1)), ((u.more _ _ ei ej).0, simp (length-take, length-drop) (omega (arith, c.requires.1, (value_long u.one _ ej).1)), c.if-all_fit.auto.out ∙ c.requires.2))

pub bind_all-shape_of-out : goal.bind_all-shape_of-out
bind_all-shape_of-out t c = c.bind_all.auto.out ∙ c.if-all_fit.auto.out

pub bind_all-returns : goal.bind_all-returns
bind_all-returns t c = λ g.
    let u = uncons g c.if-n-eq0.false in
    let ei = c.span-i.ensures (opens u.one) in
    let ej = c.span-j.ensures (starts u.one) in
    let rest = c.bind_all.ensures (u.more _ _ ei ej).0 in
    let all = c.all_fit.ensures (u.more _ _ ei ej).0 in
    elim c.if-all_fit.branch [
      | bind_all-then-all_fit w ↦ all_both u _ c.args.at _ (c.fits.ensures u.one _) _ _ ei ej c.if-not-fits.false-raw _ (all _) _ _ w.if-all_fit.true (w.out-is ∙ w.bind-then-all_fit.ensures u.one) rest
      | bind_all-else-all_fit w ↦ all_rest u _ c.args.at _ (c.fits.ensures u.one _) _ _ ei ej c.if-not-fits.false-raw _ (all _) _ w.if-all_fit.false (rw w.out-is at rest)
    ]

pub bind_two-fits-first-requires : goal.bind_two-fits-first-requires
bind_two-fits-first-requires t c = first_of c.requires.0

pub bind_two-bind-requires : goal.bind_two-bind-requires
bind_two-bind-requires t c = (omega arith, (first_of c.requires.0, c.requires.1, c.requires.2))

pub bind_two-shape_of-out-then-first-both : goal.bind_two-shape_of-out-then-first-both
bind_two-shape_of-out-then-first-both t c = c.bind.auto.out

pub bind_two-returns-then-first-both : goal.bind_two-returns-then-first-both
bind_two-returns-then-first-both t c = λ g. two_first g c.args.both _ c.args.at _ (c.fits-first.ensures (first_of g) _) _ c.if-first-both.true (c.bind.ensures (first_of g))

pub bind_two-span-n-requires : goal.bind_two-span-n-requires
bind_two-span-n-requires t c = opens (first_of c.requires.0)

pub bind_two-offset_bounds-p-n : goal.bind_two-offset_bounds-p-n
bind_two-offset_bounds-p-n t c = let o = first_of c.requires.0 in omega (arith, (pattern_long o _ (c.span-n.ensures (opens o))).1, c.well_formed)

pub bind_two-slice_bounds-fits-count : goal.bind_two-slice_bounds-fits-count
bind_two-slice_bounds-fits-count t c = let o = first_of c.requires.0 in omega (arith, (pattern_long o _ (c.span-n.ensures (opens o))).1)

pub bind_two-slice_bounds-fits-start : goal.bind_two-slice_bounds-fits-start
bind_two-slice_bounds-fits-start t c = let o = first_of c.requires.0 in omega (arith, (pattern_long o _ (c.span-n.ensures (opens o))).1)

pub bind_two-fits-second-requires : goal.bind_two-fits-second-requires
bind_two-fits-second-requires t c = second_of c.requires.0 _ (c.span-n.ensures (opens (first_of c.requires.0)))

pub bind_two-offset_bounds-p-n-then-second-both : goal.bind_two-offset_bounds-p-n-then-second-both
bind_two-offset_bounds-p-n-then-second-both t c = let o = first_of c.requires.0 in omega (arith, (pattern_long o _ (c.span-n.ensures (opens o))).1, c.well_formed)

pub bind_two-slice_bounds-bind-count : goal.bind_two-slice_bounds-bind-count
bind_two-slice_bounds-bind-count t c = let o = first_of c.requires.0 in omega (arith, (pattern_long o _ (c.span-n.ensures (opens o))).1)

pub bind_two-slice_bounds-bind-start : goal.bind_two-slice_bounds-bind-start
bind_two-slice_bounds-bind-start t c = let o = first_of c.requires.0 in omega (arith, (pattern_long o _ (c.span-n.ensures (opens o))).1)

pub bind_two-bind-requires-then-second-both : goal.bind_two-bind-requires-then-second-both
bind_two-bind-requires-then-second-both t c = let o = first_of c.requires.0 in let e = c.span-n.ensures (opens o) in (simp (length-take, length-drop) (omega (arith, (pattern_long o _ e).0, (pattern_long o _ e).1)), (second_of c.requires.0 _ e, c.requires.1, c.requires.2))

pub bind_two-shape_of-out-then-second-both : goal.bind_two-shape_of-out-then-second-both
bind_two-shape_of-out-then-second-both t c = c.bind-then-second-both.auto.out

pub bind_two-returns-then-second-both : goal.bind_two-returns-then-second-both
bind_two-returns-then-second-both t c = λ g. let s = second_of g _ (c.span-n.ensures (opens (first_of g))) in two_second g c.args.both _ c.args.at _ (c.fits-first.ensures (first_of g) _) _ _ c.if-first-both.false (c.fits-second.ensures s _) c.if-second-both.true (c.bind-then-second-both.ensures s)

pub bind_two-bind-requires-2 : goal.bind_two-bind-requires-2
bind_two-bind-requires-2 t c = (omega arith, (first_of c.requires.0, c.requires.1, c.requires.2))

pub bind_two-offset_bounds-p-n-2 : goal.bind_two-offset_bounds-p-n-2
bind_two-offset_bounds-p-n-2 t c = let o = first_of c.requires.0 in omega (arith, (pattern_long o _ (c.span-n.ensures (opens o))).1, c.well_formed)

pub bind_two-slice_bounds-bind-count-2 : goal.bind_two-slice_bounds-bind-count-2
bind_two-slice_bounds-bind-count-2 t c = let o = first_of c.requires.0 in omega (arith, (pattern_long o _ (c.span-n.ensures (opens o))).1)

pub bind_two-slice_bounds-bind-start-2 : goal.bind_two-slice_bounds-bind-start-2
bind_two-slice_bounds-bind-start-2 t c = let o = first_of c.requires.0 in omega (arith, (pattern_long o _ (c.span-n.ensures (opens o))).1)

pub bind_two-bind-requires-3 : goal.bind_two-bind-requires-3
bind_two-bind-requires-3 t c = let o = first_of c.requires.0 in let e = c.span-n.ensures (opens o) in (simp (length-take, length-drop) (omega (arith, (pattern_long o _ e).0, (pattern_long o _ e).1)), (second_of c.requires.0 _ e, c.requires.1, c.bind-2.auto.out ∙ c.requires.2))

pub bind_two-shape_of-out : goal.bind_two-shape_of-out
bind_two-shape_of-out t c = c.bind-3.auto.out ∙ c.bind-2.auto.out

pub bind_two-returns : goal.bind_two-returns
bind_two-returns t c = λ g. let s = second_of g _ (c.span-n.ensures (opens (first_of g))) in two_both g c.args.both _ c.args.at _ (c.fits-first.ensures (first_of g) _) _ _ _ c.if-first-both.false (c.fits-second.ensures s _) c.if-second-both.false (c.bind-2.ensures (first_of g)) (c.bind-3.ensures s)
