-- The call decide, refusal by refusal.
use mathlib.Core.Path.{◌≡◌, sym, ap, ◌∙◌}
use mathlib.Core.List.{List}
use mathlib.Core.Option.{Option, none, some}
use mathlib.Core.Bool.{true, false}
use Prim.Native.Nat.{ℕ}
use Rattle.signature.specs.Lists.{is_some}
use Rattle.signature.specs.Read.{read_booking}
use Rattle.signature.specs.Value.{Value}
use Rattle.booking.proofs.PartLaws.{there, missing}
use Rattle.tree.specs.RunCall.{refusal}
use Rattle.table.specs.Limits.{limits}
use Rattle.table.specs.Calls.{DecideCall, start, long_table, decide_from, decide_booking}
use Rattle.table.specs.Decide.{direct}
use Rattle.table.specs.Rule.{default_of}
use Rattle.run.specs.Outcome.{answer_of}
use Rattle.std.specs.Prelude.{Result}
use Rattle.signature.specs.Refusal.{number_in}
use Rattle.signature.specs.declared.refusals.Refusal.{Refusal}
use Rattle.run.specs.declared.Answer.{Answer}
use Rattle.opening.specs.Open.{OpenedAs, Ruled}
use Rattle.deciding.specs.Decide.{Judging}

module _ (ss table bs t : List ℕ) (q : ℕ) (open_so : OpenedAs ss table q t) where
  pub turned_down : (q ≡ 0 → ⊥) → DecideCall limits ss table bs q (refusal q).1
  turned_down f = record { result_is = sym (ap (λ x. decide_from (default_of table) x bs) (open_so.turned_down f)) }

  module _ (e : q ≡ 0) where
    abbrev pub force : Ruled t table
    force = (open_so.begun e).0

    from_start : (x : Option Value) → read_booking force.known.sig bs ≡ x → decide_from (default_of table) (start limits ss (long_table limits table) table) bs ≡ decide_booking (default_of table) force.known.sig force.rs x
    from_start x q = ap (λ z. decide_from (default_of table) z bs) (open_so.begun e).1 ∙ ap (decide_booking (default_of table) force.known.sig force.rs) q

    pub refused_13 : false ≡ is_some (read_booking force.known.sig bs) → DecideCall limits ss table bs 13 (refusal 13).1
    refused_13 l = record { result_is = sym (from_start none (missing (read_booking force.known.sig bs) l)) }

    module _ (l : true ≡ is_some (read_booking force.known.sig bs)) where
      pub judging : Judging t table bs
      judging = let (v, q) = there (read_booking force.known.sig bs) l in record { force = force; value = v; booked = q }

      pub answered : (r : Answer) → ((g : Judging t table bs) → answer_of r ≡ direct (default_of table) g.force.known.sig g.force.rs g.value) → DecideCall limits ss table bs 0 (answer_of r)
      unfolding judging
      answered r f = record { result_is = ap (λ a. (0, a)) (f judging) ∙ sym (from_start (some judging.value) judging.booked) }
