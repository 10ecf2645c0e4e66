use mathlib.Core.Path.{◌≡◌}
use lib.Dec.{leb}
use Rattle.std.proofs.Common.{rules, tests}
use Rattle.std.proofs.lemmas.Iterator.{YieldsList-from_slice}
use Rattle.std.proofs.lemmas.Iterator.Search.{position_from_yields_List}
use Rattle.std.specs.Prelude.{position}
use Rattle.nodes.proofs.EndLaws.{place_found}
use Rattle.nodes.proofs.node.place.Goals as goal

pub returns : goal.returns
returns c =
    let found : c.position.result ≡ position (λ e. leb c.args.v e) c.args.es.now = position_from_yields_List (λ e. leb c.args.v e) _ _ c.position.result c.position.ensures.ran (YieldsList-from_slice _ c.iter.ensures.rest) (λ x b q k. search (rules, tests)) in
    place_found c.args.v c.args.es.now c.position.result c.unwrap_or.result found c.unwrap_or.ensures
