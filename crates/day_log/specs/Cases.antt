-- 02, job 5: what is printed for logs, and for texts that are refused. The function `cases` promises them.
use Rattle.std.specs.Prelude.{◌≡◌, replicate}
use Rattle.text.specs.Cases.{bytes}
use Rattle.day_log.specs.Limits.{report_limit}
use Rattle.day_log.specs.Log.{log_refusal}
use Rattle.day_log.specs.Report.{tally_printed}

pub record Cases : Type 0 where
  -- rules rising, whatever their order in the log, the default as rule 0; 9 and 0 stand last and are counted
  pub report : tally_printed (bytes "log=7 40 7 9 0\n")
      ≡ bytes "rule=0 count=1\nrule=7 count=2\nrule=9 count=1\nrule=40 count=1\ntotal=5\n"
  -- "which may be empty"
  pub empty_log : tally_printed (bytes "log=\n") ≡ bytes "total=0\n"
  -- "the default as rule 0", which is part of the total
  pub default_only : tally_printed (bytes "log=0 0\n") ≡ bytes "rule=0 count=2\ntotal=2\n"
  -- the last rule, and one above it
  pub rule_999 : tally_printed (bytes "log=999\n") ≡ bytes "rule=999 count=1\ntotal=1\n"
  pub rule_1000 : tally_printed (bytes "log=999 1000\n") ≡ bytes "refused=19\n"
  -- 17 comes first, over the whole text
  pub format_first : tally_printed (bytes "log=1000 01\n") ≡ bytes "refused=17\n"
  pub no_newline : tally_printed (bytes "log=7") ≡ bytes "refused=17\n"
  pub line_behind : tally_printed (bytes "log=7\nlog=7\n") ≡ bytes "refused=17\n"
  pub one_space : tally_printed (bytes "log= \n") ≡ bytes "refused=17\n"
  pub space_last : tally_printed (bytes "log=7 \n") ≡ bytes "refused=17\n"
  pub other_key : tally_printed (bytes "book=7\n") ≡ bytes "refused=17\n"
  pub too_large : tally_printed (bytes "log=65536\n") ≡ bytes "refused=17\n"
  pub no_text : tally_printed (bytes "") ≡ bytes "refused=17\n"
  -- 4,096 entries, and one more
  pub entries_4096 : log_refusal (replicate 4096 7) ≡ 0
  pub entries_4097 : log_refusal (replicate 4097 7) ≡ 19
  -- the longest report
  pub longest : report_limit ≡ 17245
