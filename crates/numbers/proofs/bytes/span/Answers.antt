use mathlib.Core.Path.{◌≡◌}
use lib.Dec.{eqb}
use Rattle.std.proofs.Common.{rules, tests}
use Rattle.std.proofs.lemmas.Iterator.{YieldsList-from_slice}
use Rattle.std.proofs.lemmas.Iterator.Search.{position_from_yields_List}
use Rattle.std.specs.Prelude.{position}
use Rattle.numbers.proofs.Spans.{before_position}
use Rattle.numbers.proofs.bytes.span.Goals as goal

pub returns : goal.returns
returns c =
    let found : c.position.result ≡ position (λ b. eqb b c.args.c) c.args.s.now = position_from_yields_List (λ b. eqb b c.args.c) _ _ c.position.result c.position.ensures.ran (YieldsList-from_slice _ c.iter.ensures.rest) (λ x b q k. search (rules, tests)) in
    before_position c.args.c c.args.s.now c.position.result c.unwrap_or.result found c.unwrap_or.ensures
