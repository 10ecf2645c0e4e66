-- How many numbers a log's text has room for.
use Rattle.std.specs.Prelude.{ℕ, ◌+◌, ◌-◌, ◌/◌, length}
use Rattle.text.specs.Limits.{text_limit}
use Rattle.day_log.specs.Format.{key_log}

-- "only 32,768 bytes bound the list": behind log= and before the newline, a digit each and a space between
abbrev pub log_room : ℕ
log_room = (text_limit - (length key_log + 1) + 1) / 2
