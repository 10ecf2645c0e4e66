use mathlib.Core.Path.{◌∙◌}
use Rattle.numbers.proofs.Spans.{key_starts}
use Rattle.numbers.proofs.bytes.starts.Goals as goal

pub returns : goal.returns
returns c = c.starts_with.ensures.value ∙ key_starts c.args.key.now c.args.s.now
