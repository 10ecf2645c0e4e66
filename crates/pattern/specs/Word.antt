-- What the code's word of a pattern is, and how many patterns follow it.
use Rattle.std.specs.Prelude.{List, ℕ, ◌<◌}
use Rattle.signature.specs.Decoded.{arity_of, argument_of}
use Rattle.signature.specs.Limits.{constructor_limit}
use Rattle.pattern.specs.Limits.{variable_count}
use Rattle.pattern.specs.Read.{Form, is_head, is_var, is_and, is_or, is_wild, is_absurd, is_not, is_range, is_other}
use Rattle.pattern.specs.declared.token.Word.{Word}
use Rattle.pattern.specs.declared.token.Word.TheVariants.{Head, And, Or, Wild, Absurd, Not, Var, Range, Other}

abbrev pub form_of : Word → Form
form_of (Head c) = is_head c
form_of And = is_and
form_of Or = is_or
form_of Wild = is_wild
form_of Absurd = is_absurd
form_of Not = is_not
form_of (Var x) = is_var x
form_of Range = is_range
form_of Other = is_other

-- how many words of its own a pattern has before its parts
abbrev pub own_words : Form → ℕ
own_words (is_head c) = 1
own_words (is_var x) = 1
own_words is_and = 1
own_words is_or = 1
own_words is_wild = 1
own_words is_absurd = 1
own_words is_not = 1
own_words is_range = 3
own_words is_other = 1

-- t is the table of a signature
abbrev pub part_count : List ℕ → Form → ℕ
part_count t (is_head c) = arity_of t c
part_count t (is_var x) = 0
part_count t is_and = 2
part_count t is_or = 2
part_count t is_wild = 0
part_count t is_absurd = 0
part_count t is_not = 1
part_count t is_range = 0
part_count t is_other = 0

-- the kind of the j-th pattern behind a word that begins a pattern of kind k
abbrev pub kind_behind : List ℕ → Form → ℕ → ℕ → ℕ
kind_behind t (is_head c) k j = argument_of t c j
kind_behind t (is_var x) k j = k
kind_behind t is_and k j = k
kind_behind t is_or k j = k
kind_behind t is_wild k j = k
kind_behind t is_absurd k j = k
kind_behind t is_not k j = k
kind_behind t is_range k j = k
kind_behind t is_other k j = k

-- a constructor's number is one that a table has a row for
abbrev pub head_small : Form → Type 0
head_small (is_head c) = c < constructor_limit
head_small (is_var x) = Unit {0}
head_small is_and = Unit {0}
head_small is_or = Unit {0}
head_small is_wild = Unit {0}
head_small is_absurd = Unit {0}
head_small is_not = Unit {0}
head_small is_range = Unit {0}
head_small is_other = Unit {0}

-- a variable is one of the 16
abbrev pub var_small : Form → Type 0
var_small (is_head c) = Unit {0}
var_small (is_var x) = x < variable_count
var_small is_and = Unit {0}
var_small is_or = Unit {0}
var_small is_wild = Unit {0}
var_small is_absurd = Unit {0}
var_small is_not = Unit {0}
var_small is_range = Unit {0}
var_small is_other = Unit {0}
