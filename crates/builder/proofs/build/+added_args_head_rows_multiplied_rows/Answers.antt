use mathlib.Core.Path.{refl, ◌∙◌, ap}
use native.Mathlib.Omega.{arith}
use lib.ListN.{length-take, length-drop, get_or}
use Rattle.cell.proofs.Walk.{back_length}
use Rattle.builder.proofs.Building.{own_given, one_word}
use Rattle.builder.proofs.Parts.{some_word, add_first, add_bounds, add_second, add_read, add_made, mult_first, mult_bounds, mult_second, mult_read, mult_at, mult_lists, mult_made, stepped, neg_given, neg_made, one_given, one_made, none_given, none_made, range_given, range_made}
use Prim.Native.Nat.{◌+◌}
use Rattle.sets.specs.Heads.{number_of}
use Rattle.signature.proofs.KnownFacts.{long, few_constructors, few_arguments}
use Rattle.builder.proofs.ArgSteps.{args_end, args_count}
use Rattle.builder.proofs.ArgCalls.{arg_kind, few_of_kind, begun_fits, arg_given, arg_read}
use Rattle.builder.proofs.ArgTurn.{next_given, rest_given, args_made, args_read}
use Rattle.builder.proofs.HeadRows.{head_place, head_room, args_given, head_read, plus_made, others_given, minus_made}
use Rattle.pattern.proofs.ReadSteps.{variable_small}
use Rattle.pattern.specs.Word.{form_of, own_words}
use Rattle.builder.proofs.build.+added_args_head_rows_multiplied_rows.Goals as goal

pub added-offset_bounds-p-own : goal.added-offset_bounds-p-own
added-offset_bounds-p-own t c = omega (arith, own_given (λ z. omega (arith, z)) c.requires, some_word c.requires.pat)

pub added-slice_bounds-rows-count : goal.added-slice_bounds-rows-count
added-slice_bounds-rows-count t c = omega (arith, own_given (λ z. omega (arith, z)) c.requires, some_word c.requires.pat)

pub added-slice_bounds-rows-start : goal.added-slice_bounds-rows-start
added-slice_bounds-rows-start t c = omega (arith, own_given (λ z. omega (arith, z)) c.requires, some_word c.requires.pat)

pub added-rows-a-requires : goal.added-rows-a-requires
added-rows-a-requires t c = (simp (length-take, length-drop) (omega (arith, own_given (λ z. omega (arith, z)) c.requires, some_word c.requires.pat)), add_first c.requires.pat c.requires.word _ (own_given (λ z. omega (arith, z)) c.requires))

pub added-overflow_add-from : goal.added-overflow_add-from
added-overflow_add-from t c = omega (arith, (add_bounds c.requires.pat c.requires.word _ (own_given (λ z. omega (arith, z)) c.requires) c.rows-a.result.used c.rows-a.result.read c.rows-a.new.out c.rows-a.ensures).0)

pub added-offset_bounds-p-from : goal.added-offset_bounds-p-from
added-offset_bounds-p-from t c = omega (arith, (add_bounds c.requires.pat c.requires.word _ (own_given (λ z. omega (arith, z)) c.requires) c.rows-a.result.used c.rows-a.result.read c.rows-a.new.out c.rows-a.ensures).0)

pub added-slice_bounds-rows-count-2 : goal.added-slice_bounds-rows-count-2
added-slice_bounds-rows-count-2 t c = omega (arith, (add_bounds c.requires.pat c.requires.word _ (own_given (λ z. omega (arith, z)) c.requires) c.rows-a.result.used c.rows-a.result.read c.rows-a.new.out c.rows-a.ensures).0)

pub added-slice_bounds-rows-start-2 : goal.added-slice_bounds-rows-start-2
added-slice_bounds-rows-start-2 t c = omega (arith, (add_bounds c.requires.pat c.requires.word _ (own_given (λ z. omega (arith, z)) c.requires) c.rows-a.result.used c.rows-a.result.read c.rows-a.new.out c.rows-a.ensures).0)

pub added-offset_bounds-out-at : goal.added-offset_bounds-out-at
added-offset_bounds-out-at t c = omega (arith, (add_bounds c.requires.pat c.requires.word _ (own_given (λ z. omega (arith, z)) c.requires) c.rows-a.result.used c.rows-a.result.read c.rows-a.new.out c.rows-a.ensures).1, c.rows-a.auto.out)

pub added-slice_bounds-rows-count-3 : goal.added-slice_bounds-rows-count-3
added-slice_bounds-rows-count-3 t c = omega (arith, (add_bounds c.requires.pat c.requires.word _ (own_given (λ z. omega (arith, z)) c.requires) c.rows-a.result.used c.rows-a.result.read c.rows-a.new.out c.rows-a.ensures).1)

pub added-slice_bounds-rows-start-3 : goal.added-slice_bounds-rows-start-3
added-slice_bounds-rows-start-3 t c = omega (arith, (add_bounds c.requires.pat c.requires.word _ (own_given (λ z. omega (arith, z)) c.requires) c.rows-a.result.used c.rows-a.result.read c.rows-a.new.out c.rows-a.ensures).1)

pub added-rows-b-requires : goal.added-rows-b-requires
added-rows-b-requires t c = (simp (length-take, length-drop) (omega (arith, own_given (λ z. omega (arith, z)) c.requires, some_word c.requires.pat, (add_bounds c.requires.pat c.requires.word _ (own_given (λ z. omega (arith, z)) c.requires) c.rows-a.result.used c.rows-a.result.read c.rows-a.new.out c.rows-a.ensures).0)), add_second c.requires.pat c.requires.word _ (own_given (λ z. omega (arith, z)) c.requires) c.rows-a.result.used c.rows-a.result.read c.rows-a.new.out c.rows-a.ensures _ _ c.rows-a.auto.out c.rows-a.auto.work refl)

pub added-overflow_add-used : goal.added-overflow_add-used
added-overflow_add-used t c = omega (arith, (add_read c.requires.pat c.requires.word _ (own_given (λ z. omega (arith, z)) c.requires) c.rows-a.result.used c.rows-a.result.read c.rows-a.new.out c.rows-a.ensures _ _ c.rows-b.result.used c.rows-b.result.read c.rows-a.auto.out c.rows-a.auto.work refl c.rows-b.new.out c.rows-b.ensures c.rows-b.auto.out).1, c.rows-a.auto.out)

pub added-overflow_add-read : goal.added-overflow_add-read
added-overflow_add-read t c = omega (arith, (add_read c.requires.pat c.requires.word _ (own_given (λ z. omega (arith, z)) c.requires) c.rows-a.result.used c.rows-a.result.read c.rows-a.new.out c.rows-a.ensures _ _ c.rows-b.result.used c.rows-b.result.read c.rows-a.auto.out c.rows-a.auto.work refl c.rows-b.new.out c.rows-b.ensures c.rows-b.auto.out).0)

pub added-shape_of-out : goal.added-shape_of-out
added-shape_of-out t c = back_length c.rows-a.new.out c.rows-b.new.out c.rows-a.result.used (omega (arith, (add_bounds c.requires.pat c.requires.word _ (own_given (λ z. omega (arith, z)) c.requires) c.rows-a.result.used c.rows-a.result.read c.rows-a.new.out c.rows-a.ensures).1)) c.rows-b.auto.out ∙ c.rows-a.auto.out

pub added-shape_of-work : goal.added-shape_of-work
added-shape_of-work t c = c.rows-b.auto.work ∙ c.rows-a.auto.work

pub added-returns : goal.added-returns
added-returns t c = λ g. add_made g.pat g.word _ (own_given (λ z. omega (arith, z)) g) c.rows-a.result.used c.rows-a.result.read c.rows-a.new.out c.rows-a.ensures _ _ c.rows-b.result.used c.rows-b.result.read c.rows-a.auto.out c.rows-a.auto.work refl c.rows-b.new.out c.rows-b.ensures c.rows-b.auto.out

pub args-arity_of-arity-requires : goal.args-arity_of-arity-requires
args-arity_of-arity-requires t c = (long c.requires.known, omega (arith, c.requires.head, few_constructors c.requires.known))

pub args-returns-then-j-arity : goal.args-returns-then-j-arity
args-returns-then-j-arity t c = λ g. args_end g (omega (arith, c.if-j-arity.true, c.arity_of-arity.ensures))

pub args-argument_of-k-requires : goal.args-argument_of-k-requires
args-argument_of-k-requires t c = (long c.requires.known, omega (arith, c.requires.head, few_constructors c.requires.known), omega (arith, c.if-j-arity.false, c.arity_of-arity.ensures, args_count c.requires, few_arguments c.requires.known c.args.c c.requires.head))

pub args-full_of-set-requires : goal.args-full_of-set-requires
args-full_of-set-requires t c = (long c.requires.known, arg_kind c.requires (omega (arith, c.if-j-arity.false, c.arity_of-arity.ensures)) c.argument_of-k.result c.argument_of-k.ensures, few_of_kind c.requires (omega (arith, c.if-j-arity.false, c.arity_of-arity.ensures)) c.argument_of-k.result c.argument_of-k.ensures)

pub args-overflow_add-at : goal.args-overflow_add-at
args-overflow_add-at t c = omega (arith, (begun_fits c.requires (omega (arith, c.if-j-arity.false, c.arity_of-arity.ensures)) c.argument_of-k.result c.argument_of-k.ensures).0)

pub args-copy-requires : goal.args-copy-requires
args-copy-requires t c = ((begun_fits c.requires (omega (arith, c.if-j-arity.false, c.arity_of-arity.ensures)) c.argument_of-k.result c.argument_of-k.ensures).0, omega (arith, (begun_fits c.requires (omega (arith, c.if-j-arity.false, c.arity_of-arity.ensures)) c.argument_of-k.result c.argument_of-k.ensures).1))

pub args-offset_bounds-work-at : goal.args-offset_bounds-work-at
args-offset_bounds-work-at t c = omega (arith, (begun_fits c.requires (omega (arith, c.if-j-arity.false, c.arity_of-arity.ensures)) c.argument_of-k.result c.argument_of-k.ensures).1, c.copy.auto.out)

pub args-slice_bounds-rows-count : goal.args-slice_bounds-rows-count
args-slice_bounds-rows-count t c = omega (arith, (begun_fits c.requires (omega (arith, c.if-j-arity.false, c.arity_of-arity.ensures)) c.argument_of-k.result c.argument_of-k.ensures).1, c.copy.auto.out)

pub args-slice_bounds-rows-start : goal.args-slice_bounds-rows-start
args-slice_bounds-rows-start t c = omega (arith, (begun_fits c.requires (omega (arith, c.if-j-arity.false, c.arity_of-arity.ensures)) c.argument_of-k.result c.argument_of-k.ensures).1, c.copy.auto.out)

pub args-rows-a-requires : goal.args-rows-a-requires
args-rows-a-requires t c = (omega arith, arg_given c.requires (omega (arith, c.if-j-arity.false, c.arity_of-arity.ensures)) c.argument_of-k.result c.argument_of-k.ensures (number_of c.full_of-set.result) c.full_of-set.ensures _ _ (simp (length-take, length-drop) (omega (arith, c.copy.auto.out))) refl)

pub args-next_rows-n-requires : goal.args-next_rows-n-requires
args-next_rows-n-requires t c = next_given c.requires (omega (arith, c.if-j-arity.false, c.arity_of-arity.ensures)) c.argument_of-k.result c.argument_of-k.ensures (number_of c.full_of-set.result) c.full_of-set.ensures _ _ c.rows-a.result.used c.rows-a.result.read (simp (length-take, length-drop) (omega (arith, c.copy.auto.out))) refl c.rows-a.new.out c.rows-a.ensures c.copy.new.out c.copy.ensures c.copy.auto.out _ c.rows-a.auto.work

pub args-offset_bounds-p-from : goal.args-offset_bounds-p-from
args-offset_bounds-p-from t c = omega (arith, (arg_read c.requires (omega (arith, c.if-j-arity.false, c.arity_of-arity.ensures)) c.argument_of-k.result c.argument_of-k.ensures (number_of c.full_of-set.result) c.full_of-set.ensures _ _ c.rows-a.result.used c.rows-a.result.read (simp (length-take, length-drop) (omega (arith, c.copy.auto.out))) refl c.rows-a.new.out c.rows-a.ensures).0)

pub args-slice_bounds-args-count : goal.args-slice_bounds-args-count
args-slice_bounds-args-count t c = (arg_read c.requires (omega (arith, c.if-j-arity.false, c.arity_of-arity.ensures)) c.argument_of-k.result c.argument_of-k.ensures (number_of c.full_of-set.result) c.full_of-set.ensures _ _ c.rows-a.result.used c.rows-a.result.read (simp (length-take, length-drop) (omega (arith, c.copy.auto.out))) refl c.rows-a.new.out c.rows-a.ensures).0

pub args-slice_bounds-args-start : goal.args-slice_bounds-args-start
args-slice_bounds-args-start t c = omega (arith, (arg_read c.requires (omega (arith, c.if-j-arity.false, c.arity_of-arity.ensures)) c.argument_of-k.result c.argument_of-k.ensures (number_of c.full_of-set.result) c.full_of-set.ensures _ _ c.rows-a.result.used c.rows-a.result.read (simp (length-take, length-drop) (omega (arith, c.copy.auto.out))) refl c.rows-a.new.out c.rows-a.ensures).0)

pub args-args-b-requires : goal.args-args-b-requires
args-args-b-requires t c = (simp (length-take, length-drop) (omega (arith, (arg_read c.requires (omega (arith, c.if-j-arity.false, c.arity_of-arity.ensures)) c.argument_of-k.result c.argument_of-k.ensures (number_of c.full_of-set.result) c.full_of-set.ensures _ _ c.rows-a.result.used c.rows-a.result.read (simp (length-take, length-drop) (omega (arith, c.copy.auto.out))) refl c.rows-a.new.out c.rows-a.ensures).0, (arg_read c.requires (omega (arith, c.if-j-arity.false, c.arity_of-arity.ensures)) c.argument_of-k.result c.argument_of-k.ensures (number_of c.full_of-set.result) c.full_of-set.ensures _ _ c.rows-a.result.used c.rows-a.result.read (simp (length-take, length-drop) (omega (arith, c.copy.auto.out))) refl c.rows-a.new.out c.rows-a.ensures).1)), rest_given c.requires (omega (arith, c.if-j-arity.false, c.arity_of-arity.ensures)) c.argument_of-k.result c.argument_of-k.ensures (number_of c.full_of-set.result) c.full_of-set.ensures _ _ c.rows-a.result.used c.rows-a.result.read (simp (length-take, length-drop) (omega (arith, c.copy.auto.out))) refl c.rows-a.new.out c.rows-a.ensures c.copy.new.out c.copy.ensures c.copy.auto.out _ c.next_rows-n.result c.rows-a.auto.work c.next_rows-n.new.out (c.next_rows-n.auto.out ∙ c.rows-a.auto.work) c.next_rows-n.ensures _ (back_length c.copy.new.out c.rows-a.new.out (c.args.used + 1) (omega (arith, (begun_fits c.requires (omega (arith, c.if-j-arity.false, c.arity_of-arity.ensures)) c.argument_of-k.result c.argument_of-k.ensures).1, c.copy.auto.out)) c.rows-a.auto.out ∙ c.copy.auto.out))

pub args-overflow_add-read : goal.args-overflow_add-read
args-overflow_add-read t c = omega (arith, args_read c.requires (omega (arith, c.if-j-arity.false, c.arity_of-arity.ensures)) c.argument_of-k.result c.argument_of-k.ensures (number_of c.full_of-set.result) c.full_of-set.ensures _ _ c.rows-a.result.used c.rows-a.result.read (simp (length-take, length-drop) (omega (arith, c.copy.auto.out))) refl c.rows-a.new.out c.rows-a.ensures c.copy.new.out c.copy.ensures c.copy.auto.out _ c.next_rows-n.result c.rows-a.auto.work c.next_rows-n.new.out (c.next_rows-n.auto.out ∙ c.rows-a.auto.work) c.next_rows-n.ensures _ c.args-b.result.used c.args-b.result.read (back_length c.copy.new.out c.rows-a.new.out (c.args.used + 1) (omega (arith, (begun_fits c.requires (omega (arith, c.if-j-arity.false, c.arity_of-arity.ensures)) c.argument_of-k.result c.argument_of-k.ensures).1, c.copy.auto.out)) c.rows-a.auto.out ∙ c.copy.auto.out) c.args-b.new.out c.args-b.ensures)

pub args-returns : goal.args-returns
args-returns t c = λ g. args_made g (omega (arith, c.if-j-arity.false, c.arity_of-arity.ensures)) c.argument_of-k.result c.argument_of-k.ensures (number_of c.full_of-set.result) c.full_of-set.ensures _ _ c.rows-a.result.used c.rows-a.result.read (simp (length-take, length-drop) (omega (arith, c.copy.auto.out))) refl c.rows-a.new.out c.rows-a.ensures c.copy.new.out c.copy.ensures c.copy.auto.out _ c.next_rows-n.result c.rows-a.auto.work c.next_rows-n.new.out (c.next_rows-n.auto.out ∙ c.rows-a.auto.work) c.next_rows-n.ensures _ c.args-b.result.used c.args-b.result.read (back_length c.copy.new.out c.rows-a.new.out (c.args.used + 1) (omega (arith, (begun_fits g (omega (arith, c.if-j-arity.false, c.arity_of-arity.ensures)) c.argument_of-k.result c.argument_of-k.ensures).1, c.copy.auto.out)) c.rows-a.auto.out ∙ c.copy.auto.out) c.args-b.new.out c.args-b.ensures

pub head_rows-place_of-i-requires : goal.head_rows-place_of-i-requires
head_rows-place_of-i-requires t c = head_place c.requires

pub head_rows-only-requires : goal.head_rows-only-requires
head_rows-only-requires t c = omega (arith, c.place_of-i.ensures.1)

pub head_rows-one-begun-requires : goal.head_rows-one-begun-requires
head_rows-one-begun-requires t c = (head_room c.requires, omega (arith, c.ranges.head.fits))

pub head_rows-offset_bounds-p-own : goal.head_rows-offset_bounds-p-own
head_rows-offset_bounds-p-own t c = omega (arith, own_given (λ z. omega (arith, z)) c.requires, some_word c.requires.pat)

pub head_rows-slice_bounds-args-count : goal.head_rows-slice_bounds-args-count
head_rows-slice_bounds-args-count t c = omega (arith, own_given (λ z. omega (arith, z)) c.requires, some_word c.requires.pat)

pub head_rows-slice_bounds-args-start : goal.head_rows-slice_bounds-args-start
head_rows-slice_bounds-args-start t c = omega (arith, own_given (λ z. omega (arith, z)) c.requires, some_word c.requires.pat)

pub head_rows-args-a-requires : goal.head_rows-args-a-requires
head_rows-args-a-requires t c = (simp (length-take, length-drop) (omega (arith, own_given (λ z. omega (arith, z)) c.requires, some_word c.requires.pat)), args_given c.requires c.place_of-i.result _ c.one-begun.result c.one-begun.new.out c.place_of-i.ensures.0 c.only.ensures c.one-begun.ensures c.one-begun.auto.out _ refl)

pub head_rows-overflow_add-read : goal.head_rows-overflow_add-read
head_rows-overflow_add-read t c = omega (arith, head_read c.requires c.place_of-i.result _ c.one-begun.result c.one-begun.new.out c.place_of-i.ensures.0 c.only.ensures c.one-begun.ensures c.one-begun.auto.out _ c.args-a.result.used c.args-a.result.read refl c.args-a.new.out c.args-a.ensures)

pub head_rows-returns-then-plus : goal.head_rows-returns-then-plus
head_rows-returns-then-plus t c = λ g. plus_made g c.place_of-i.result _ c.one-begun.result c.one-begun.new.out c.place_of-i.ensures.0 c.only.ensures c.one-begun.ensures c.one-begun.auto.out _ c.args-a.result.used c.args-a.result.read refl c.args-a.new.out c.args-a.ensures c.if-plus.true

pub head_rows-others-used-requires : goal.head_rows-others-used-requires
head_rows-others-used-requires t c = others_given c.requires c.place_of-i.result _ c.one-begun.result c.one-begun.new.out c.place_of-i.ensures.0 c.only.ensures c.one-begun.ensures c.one-begun.auto.out _ c.args-a.result.used c.args-a.result.read refl c.args-a.new.out c.args-a.ensures c.if-plus.false _ c.args-a.auto.work

pub head_rows-returns : goal.head_rows-returns
head_rows-returns t c = λ g. minus_made g c.place_of-i.result _ c.one-begun.result c.one-begun.new.out c.place_of-i.ensures.0 c.only.ensures c.one-begun.ensures c.one-begun.auto.out _ c.args-a.result.used c.args-a.result.read refl c.args-a.new.out c.args-a.ensures c.if-plus.false (number_of c.without.result) c.others-used.result _ c.others-used.new.out c.args-a.auto.work c.without.ensures c.others-used.ensures

pub multiplied-offset_bounds-p-own : goal.multiplied-offset_bounds-p-own
multiplied-offset_bounds-p-own t c = omega (arith, own_given (λ z. omega (arith, z)) c.requires, some_word c.requires.pat)

pub multiplied-slice_bounds-rows-count : goal.multiplied-slice_bounds-rows-count
multiplied-slice_bounds-rows-count t c = omega (arith, own_given (λ z. omega (arith, z)) c.requires, some_word c.requires.pat)

pub multiplied-slice_bounds-rows-start : goal.multiplied-slice_bounds-rows-start
multiplied-slice_bounds-rows-start t c = omega (arith, own_given (λ z. omega (arith, z)) c.requires, some_word c.requires.pat)

pub multiplied-rows-a-requires : goal.multiplied-rows-a-requires
multiplied-rows-a-requires t c = (simp (length-take, length-drop) (omega (arith, own_given (λ z. omega (arith, z)) c.requires, some_word c.requires.pat)), mult_first c.requires.pat c.requires.word _ (own_given (λ z. omega (arith, z)) c.requires))

pub multiplied-overflow_add-from : goal.multiplied-overflow_add-from
multiplied-overflow_add-from t c = omega (arith, (mult_bounds c.requires.pat c.requires.word _ (own_given (λ z. omega (arith, z)) c.requires) c.rows-a.result.used c.rows-a.result.read c.rows-a.new.out c.rows-a.ensures).0)

pub multiplied-overflow_add-at : goal.multiplied-overflow_add-at
multiplied-overflow_add-at t c = omega (arith, (mult_bounds c.requires.pat c.requires.word _ (own_given (λ z. omega (arith, z)) c.requires) c.rows-a.result.used c.rows-a.result.read c.rows-a.new.out c.rows-a.ensures).1, c.rows-a.auto.out)

pub multiplied-offset_bounds-p-from : goal.multiplied-offset_bounds-p-from
multiplied-offset_bounds-p-from t c = omega (arith, (mult_bounds c.requires.pat c.requires.word _ (own_given (λ z. omega (arith, z)) c.requires) c.rows-a.result.used c.rows-a.result.read c.rows-a.new.out c.rows-a.ensures).0)

pub multiplied-slice_bounds-rows-count-2 : goal.multiplied-slice_bounds-rows-count-2
multiplied-slice_bounds-rows-count-2 t c = omega (arith, (mult_bounds c.requires.pat c.requires.word _ (own_given (λ z. omega (arith, z)) c.requires) c.rows-a.result.used c.rows-a.result.read c.rows-a.new.out c.rows-a.ensures).0)

pub multiplied-slice_bounds-rows-start-2 : goal.multiplied-slice_bounds-rows-start-2
multiplied-slice_bounds-rows-start-2 t c = omega (arith, (mult_bounds c.requires.pat c.requires.word _ (own_given (λ z. omega (arith, z)) c.requires) c.rows-a.result.used c.rows-a.result.read c.rows-a.new.out c.rows-a.ensures).0)

pub multiplied-offset_bounds-work-at : goal.multiplied-offset_bounds-work-at
multiplied-offset_bounds-work-at t c = omega (arith, (mult_bounds c.requires.pat c.requires.word _ (own_given (λ z. omega (arith, z)) c.requires) c.rows-a.result.used c.rows-a.result.read c.rows-a.new.out c.rows-a.ensures).1, c.rows-a.auto.out)

pub multiplied-slice_bounds-rows-count-3 : goal.multiplied-slice_bounds-rows-count-3
multiplied-slice_bounds-rows-count-3 t c = omega (arith, (mult_bounds c.requires.pat c.requires.word _ (own_given (λ z. omega (arith, z)) c.requires) c.rows-a.result.used c.rows-a.result.read c.rows-a.new.out c.rows-a.ensures).1)

pub multiplied-slice_bounds-rows-start-3 : goal.multiplied-slice_bounds-rows-start-3
multiplied-slice_bounds-rows-start-3 t c = omega (arith, (mult_bounds c.requires.pat c.requires.word _ (own_given (λ z. omega (arith, z)) c.requires) c.rows-a.result.used c.rows-a.result.read c.rows-a.new.out c.rows-a.ensures).1)

pub multiplied-rows-b-requires : goal.multiplied-rows-b-requires
multiplied-rows-b-requires t c = (simp (length-take, length-drop) (omega (arith, own_given (λ z. omega (arith, z)) c.requires, some_word c.requires.pat, (mult_bounds c.requires.pat c.requires.word _ (own_given (λ z. omega (arith, z)) c.requires) c.rows-a.result.used c.rows-a.result.read c.rows-a.new.out c.rows-a.ensures).0)), mult_second c.requires.pat c.requires.word _ (own_given (λ z. omega (arith, z)) c.requires) c.rows-a.result.used c.rows-a.result.read c.rows-a.new.out c.rows-a.ensures _ _ c.rows-a.auto.out c.rows-a.auto.work refl)

pub multiplied-times-used-requires : goal.multiplied-times-used-requires
multiplied-times-used-requires t c = record { at_in_bounds = mult_at c.requires.pat c.requires.word _ (own_given (λ z. omega (arith, z)) c.requires) c.rows-a.result.used c.rows-a.result.read c.rows-a.new.out c.rows-a.ensures _ _ c.rows-b.result.used c.rows-b.result.read c.rows-a.auto.out c.rows-a.auto.work refl c.rows-b.new.out c.rows-b.ensures c.rows-b.auto.out; given_product = mult_lists c.requires.pat c.requires.word _ (own_given (λ z. omega (arith, z)) c.requires) c.rows-a.result.used c.rows-a.result.read c.rows-a.new.out c.rows-a.ensures _ _ c.rows-b.result.used c.rows-b.result.read c.rows-a.auto.out c.rows-a.auto.work refl c.rows-b.new.out c.rows-b.ensures c.rows-b.auto.out c.rows-b.new.work (c.rows-b.auto.work ∙ c.rows-a.auto.work) }

pub multiplied-overflow_add-read : goal.multiplied-overflow_add-read
multiplied-overflow_add-read t c = omega (arith, mult_read c.requires.pat c.requires.word _ (own_given (λ z. omega (arith, z)) c.requires) c.rows-a.result.used c.rows-a.result.read c.rows-a.new.out c.rows-a.ensures _ _ c.rows-b.result.used c.rows-b.result.read c.rows-a.auto.out c.rows-a.auto.work refl c.rows-b.new.out c.rows-b.ensures c.rows-b.auto.out)

pub multiplied-shape_of-out : goal.multiplied-shape_of-out
multiplied-shape_of-out t c = c.times-used.auto.out ∙ (c.rows-b.auto.work ∙ c.rows-a.auto.work)

pub multiplied-shape_of-work : goal.multiplied-shape_of-work
multiplied-shape_of-work t c = back_length c.rows-a.new.out c.rows-b.new.out (c.rows-a.result.used + 1) (mult_bounds c.requires.pat c.requires.word _ (own_given (λ z. omega (arith, z)) c.requires) c.rows-a.result.used c.rows-a.result.read c.rows-a.new.out c.rows-a.ensures).1 c.rows-b.auto.out ∙ c.rows-a.auto.out

pub multiplied-returns : goal.multiplied-returns
multiplied-returns t c = λ g. mult_made g.pat g.word _ (own_given (λ z. omega (arith, z)) g) c.rows-a.result.used c.rows-a.result.read c.rows-a.new.out c.rows-a.ensures _ _ c.rows-b.result.used c.rows-b.result.read c.rows-a.auto.out c.rows-a.auto.work refl c.rows-b.new.out c.rows-b.ensures c.rows-b.auto.out c.rows-b.new.work _ c.times-used.result (c.rows-b.auto.work ∙ c.rows-a.auto.work) c.times-used.ensures

pub rows-bounds-p-0 : goal.rows-bounds-p-0
rows-bounds-p-0 t c = some_word c.requires

pub rows-making_of-s-requires : goal.rows-making_of-s-requires
rows-making_of-s-requires t c = variable_small (get_or c.args.p.now 0 0) _ c.classify-w.ensures

pub rows-head_rows-requires : goal.rows-head_rows-requires
rows-head_rows-requires t c = (omega arith, record { pat = c.requires; word = stepped c.args.p.now c.args.plus c.classify-w.ensures c.making_of-s.ensures c.in-Head.is; own_is = c.own_words-own.ensures ∙ ap own_words c.classify-w.ensures })

pub rows-multiplied-requires : goal.rows-multiplied-requires
rows-multiplied-requires t c = (omega arith, record { pat = c.requires; word = stepped c.args.p.now c.args.plus c.classify-w.ensures c.making_of-s.ensures c.in-Multiply.is; own_is = c.own_words-own.ensures ∙ ap own_words c.classify-w.ensures })

pub rows-added-requires : goal.rows-added-requires
rows-added-requires t c = (omega arith, record { pat = c.requires; word = stepped c.args.p.now c.args.plus c.classify-w.ensures c.making_of-s.ensures c.in-Add.is; own_is = c.own_words-own.ensures ∙ ap own_words c.classify-w.ensures })

pub rows-one-used-requires : goal.rows-one-used-requires
rows-one-used-requires t c = one_given c.requires _ (stepped c.args.p.now c.args.plus c.classify-w.ensures c.making_of-s.ensures c.in-One.is)

pub rows-nothing-used-requires : goal.rows-nothing-used-requires
rows-nothing-used-requires t c = none_given c.requires (stepped c.args.p.now c.args.plus c.classify-w.ensures c.making_of-s.ensures c.in-Nothing.is)

pub rows-offset_bounds-p-own : goal.rows-offset_bounds-p-own
rows-offset_bounds-p-own t c = omega (arith, one_word (form_of c.classify-w.result) c.args.plus c.making_of-s.ensures c.in-Swap.is (λ z. omega (arith, z)) c.own_words-own.ensures, some_word c.requires)

pub rows-slice_bounds-rows-count : goal.rows-slice_bounds-rows-count
rows-slice_bounds-rows-count t c = omega (arith, one_word (form_of c.classify-w.result) c.args.plus c.making_of-s.ensures c.in-Swap.is (λ z. omega (arith, z)) c.own_words-own.ensures, some_word c.requires)

pub rows-slice_bounds-rows-start : goal.rows-slice_bounds-rows-start
rows-slice_bounds-rows-start t c = omega (arith, one_word (form_of c.classify-w.result) c.args.plus c.making_of-s.ensures c.in-Swap.is (λ z. omega (arith, z)) c.own_words-own.ensures, some_word c.requires)

pub rows-rows-a-requires : goal.rows-rows-a-requires
rows-rows-a-requires t c = (simp (length-take, length-drop) (omega (arith, one_word (form_of c.classify-w.result) c.args.plus c.making_of-s.ensures c.in-Swap.is (λ z. omega (arith, z)) c.own_words-own.ensures, some_word c.requires)), neg_given c.requires (stepped c.args.p.now c.args.plus c.classify-w.ensures c.making_of-s.ensures c.in-Swap.is) _ (one_word (form_of c.classify-w.result) c.args.plus c.making_of-s.ensures c.in-Swap.is (λ z. omega (arith, z)) c.own_words-own.ensures))

pub rows-overflow_add-read : goal.rows-overflow_add-read
rows-overflow_add-read t c = omega (arith, (neg_made c.requires (stepped c.args.p.now c.args.plus c.classify-w.ensures c.making_of-s.ensures c.in-Swap.is) _ (one_word (form_of c.classify-w.result) c.args.plus c.making_of-s.ensures c.in-Swap.is (λ z. omega (arith, z)) c.own_words-own.ensures) c.rows-a.result.used c.rows-a.result.read c.rows-a.new.out c.rows-a.ensures).1)

pub rows-range_rows-used-requires : goal.rows-range_rows-used-requires
rows-range_rows-used-requires t c = range_given c.requires (stepped c.args.p.now c.args.plus c.classify-w.ensures c.making_of-s.ensures c.in-Range.is)

pub rows-returns-in-Head : goal.rows-returns-in-Head
rows-returns-in-Head t c = λ g. c.head_rows.ensures (record { pat = g; word = stepped c.args.p.now c.args.plus c.classify-w.ensures c.making_of-s.ensures c.in-Head.is; own_is = c.own_words-own.ensures ∙ ap own_words c.classify-w.ensures })

pub rows-returns-in-Multiply : goal.rows-returns-in-Multiply
rows-returns-in-Multiply t c = λ g. c.multiplied.ensures (record { pat = g; word = stepped c.args.p.now c.args.plus c.classify-w.ensures c.making_of-s.ensures c.in-Multiply.is; own_is = c.own_words-own.ensures ∙ ap own_words c.classify-w.ensures })

pub rows-returns-in-Add : goal.rows-returns-in-Add
rows-returns-in-Add t c = λ g. c.added.ensures (record { pat = g; word = stepped c.args.p.now c.args.plus c.classify-w.ensures c.making_of-s.ensures c.in-Add.is; own_is = c.own_words-own.ensures ∙ ap own_words c.classify-w.ensures })

pub rows-shape_of-out-in-One : goal.rows-shape_of-out-in-One
rows-shape_of-out-in-One t c = c.one-used.auto.out

pub rows-returns-in-One : goal.rows-returns-in-One
rows-returns-in-One t c = λ g. one_made g _ (stepped c.args.p.now c.args.plus c.classify-w.ensures c.making_of-s.ensures c.in-One.is) c.one-used.result _ c.one-used.new.out (one_word (form_of c.classify-w.result) c.args.plus c.making_of-s.ensures c.in-One.is (λ z. omega (arith, z)) c.own_words-own.ensures) c.one-used.ensures

pub rows-shape_of-out-in-Nothing : goal.rows-shape_of-out-in-Nothing
rows-shape_of-out-in-Nothing t c = c.nothing-used.auto.out

pub rows-returns-in-Nothing : goal.rows-returns-in-Nothing
rows-returns-in-Nothing t c = λ g. none_made g (stepped c.args.p.now c.args.plus c.classify-w.ensures c.making_of-s.ensures c.in-Nothing.is) c.nothing-used.result _ c.nothing-used.new.out (one_word (form_of c.classify-w.result) c.args.plus c.making_of-s.ensures c.in-Nothing.is (λ z. omega (arith, z)) c.own_words-own.ensures) c.nothing-used.ensures

pub rows-shape_of-out-in-Swap : goal.rows-shape_of-out-in-Swap
rows-shape_of-out-in-Swap t c = c.rows-a.auto.out

pub rows-shape_of-work-in-Swap : goal.rows-shape_of-work-in-Swap
rows-shape_of-work-in-Swap t c = c.rows-a.auto.work

pub rows-returns-in-Swap : goal.rows-returns-in-Swap
rows-returns-in-Swap t c = λ g. (neg_made g (stepped c.args.p.now c.args.plus c.classify-w.ensures c.making_of-s.ensures c.in-Swap.is) _ (one_word (form_of c.classify-w.result) c.args.plus c.making_of-s.ensures c.in-Swap.is (λ z. omega (arith, z)) c.own_words-own.ensures) c.rows-a.result.used c.rows-a.result.read c.rows-a.new.out c.rows-a.ensures).0

pub rows-shape_of-out-in-Range : goal.rows-shape_of-out-in-Range
rows-shape_of-out-in-Range t c = c.range_rows-used.auto.out

pub rows-returns-in-Range : goal.rows-returns-in-Range
rows-returns-in-Range t c = λ g. range_made g (stepped c.args.p.now c.args.plus c.classify-w.ensures c.making_of-s.ensures c.in-Range.is) c.range_rows-used.result _ c.range_rows-used.new.out (c.own_words-own.ensures ∙ ap own_words c.classify-w.ensures) c.range_rows-used.ensures
