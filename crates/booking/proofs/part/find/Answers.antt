use mathlib.Core.Path.{sym, ap, ◌∙◌}
use borrow.Author.Tests.{not-true, not-false}
use Rattle.booking.proofs.PartLaws.{Of, decoded_of, refused_1, refused_13, refused_16, here, found_here}
use Rattle.booking.proofs.part.find.Goals.{Else-not-decode}
use Rattle.booking.proofs.part.find.Goals as goal

decoded : (c : Else-not-decode) → Of c.args.ss.now c.decode.new.t
decoded c = decoded_of _ _ (sym (not-false _ c.if-not-decode.false-raw) ∙ c.decode.ensures.answer) c.decode.ensures.table

pub returns-then-not-decode : goal.returns-then-not-decode
returns-then-not-decode c = let a = c.args in let z = refused_1 a.ss.now a.b.now a.place (sym (not-true _ c.if-not-decode.true-raw) ∙ c.decode.ensures.answer) in (ap (λ z. z.0) z, ap (λ z. z.1) z)

pub lawful-requires : goal.lawful-requires
lawful-requires c = (decoded (goal.at.lawful-requires c).Else-not-decode).known

pub returns-then-not-lawful : goal.returns-then-not-lawful
returns-then-not-lawful c = let o = decoded (goal.at.returns-then-not-lawful c).Else-not-decode in let a = c.args in let z = refused_13 o a.b.now a.place (sym (not-true _ c.if-not-lawful.true-raw) ∙ c.lawful.ensures o.known) in (ap (λ z. z.0) z, ap (λ z. z.1) z)

pub returns-then-b-place : goal.returns-then-b-place
returns-then-b-place c =
    let o = decoded (goal.at.returns-then-b-place c).Else-not-decode in
    let a = c.args in
    let z = refused_16 o a.b.now a.place (sym (not-false _ c.if-not-lawful.false-raw) ∙ c.lawful.ensures o.known) c.if-b-place.true in
    (ap (λ z. z.0) z, ap (λ z. z.1) z)

pub span-requires : goal.span-requires
span-requires c =
    let o = decoded (goal.at.span-requires c).Else-not-decode in
    (here o c.args.b.now c.args.place (sym (not-false _ c.if-not-lawful.false-raw) ∙ c.lawful.ensures o.known) c.if-b-place.false).starts

pub returns : goal.returns
returns c =
    let o = decoded (goal.at.returns c).Else-not-decode in
    let h = here o c.args.b.now c.args.place (sym (not-false _ c.if-not-lawful.false-raw) ∙ c.lawful.ensures o.known) c.if-b-place.false in
    found_here h c.span.result (c.span.ensures h.starts)
