-- The laws of the list of open charges hold.
use Rattle.charges.specs.Laws.{Laws}
use Rattle.charges.proofs.Answered.{single, kept, again, compiled}
use Rattle.charges.proofs.Malformed.{malformed}
use Rattle.charges.proofs.Refusals.{refused, runs}
use Rattle.charges.proofs.Words.{read_words, words_read}

pub laws : Laws
laws = record {
  words = λ ws cs. (read_words ws cs, words_read ws cs);
  malformed = malformed;
  refused = refused;
  runs = runs;
  single = single;
  kept = kept;
  again = again;
  compiled = compiled;
}
