-- The worked cases hold: antt computes them.
use mathlib.Core.Path.{refl}
use Rattle.day_log.specs.Cases.{Cases}
use Rattle.day_log.specs.Format.{read_log}
use Rattle.day_log.specs.Log.{often}
use Rattle.day_log.specs.Report.{rules_in, count_line, report}

pub cases : Cases
unfolding read_log often rules_in count_line report
cases = record { report = refl; empty_log = refl; default_only = refl; rule_999 = refl; rule_1000 = refl; format_first = refl; no_newline = refl; line_behind = refl; one_space = refl; space_last = refl; other_key = refl; too_large = refl; no_text = refl; entries_4096 = refl; entries_4097 = refl; longest = refl }
