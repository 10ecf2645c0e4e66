use mathlib.Core.Path.{sym}
use native.Mathlib.Omega.{arith}
use borrow.Author.Rules.{rules}
use Rattle.pattern.proofs.Forms.{form_head, form_and, form_or, form_wild, form_absurd, form_not, form_range, form_other}
use Rattle.pattern.proofs.token.classify.Goals as goal

pub returns-in-256 : goal.returns-in-256
returns-in-256 c = sym (form_and c.args.w (omega arith))

pub returns-in-257 : goal.returns-in-257
returns-in-257 c = sym (form_or c.args.w (omega arith))

pub returns-in-258 : goal.returns-in-258
returns-in-258 c = sym (form_wild c.args.w (omega arith))

pub returns-in-259 : goal.returns-in-259
returns-in-259 c = sym (form_absurd c.args.w (omega arith))

pub returns-in-260 : goal.returns-in-260
returns-in-260 c = sym (form_not c.args.w (omega arith))

pub returns-in-280 : goal.returns-in-280
returns-in-280 c = sym (form_range c.args.w (omega arith))

pub returns-in-0-to-255 : goal.returns-in-0-to-255
returns-in-0-to-255 c = sym (form_head c.args.w (search rules))

pub returns-in_default : goal.returns-in_default
returns-in_default c = sym (form_other c.args.w (search rules) (search rules))
