-- The laws of the words of a table hold.
use Rattle.store.specs.Laws.{Laws}
use Rattle.store.proofs.FindFacts.{count_is}
use Rattle.store.proofs.LaidFacts.{laid_holds, holds_laid, one_list, is_laid, not_laid, sound_laid, sound_holds, stored_holds}
use Rattle.store.proofs.Walk.{words_at, rule_at, pattern_part, walk_start, walk_step, walk_end}

pub laws : Laws
laws = record {
  laid_holds = λ table rs. (laid_holds table rs, λ h. holds_laid h);
  one_list = one_list;
  is_laid = is_laid;
  not_laid = not_laid;
  sound_laid = sound_laid;
  sound_holds = sound_holds;
  stored_holds = stored_holds;
  count_is = λ table rs h. count_is h;
  words_at = λ table before r after h. words_at before r after h;
  rule_at = λ table before r after h. rule_at before r after h;
  pattern_part = pattern_part;
  walk_start = walk_start;
  walk_step = λ table rs before after i at h w l. walk_step rs before after i at h w l;
  walk_end = λ rs before after i at w l. walk_end w l;
}
