-- The lines of a text that keeps the format stand one behind the other. The function `laws` promises it.
use Rattle.std.specs.Prelude.{◌≡◌, List, [], ◌∷◌, true, false, ℕ, ◌≤◌, length, drop}
use Rattle.std.proofs.Math.Option.{some}
use Rattle.signature.specs.Lists.{is_some}
use Rattle.table.specs.Rule.{Rule}
use Rattle.text.specs.Format.{Text, read_text, after_key, key_sig, key_rule, key_book}
use Rattle.text.specs.Lawful.{ListOk, RuleOk}
use Rattle.lines.specs.Lines.{list_line, rule_lines, rest_text}

-- the signature's line, and the bytes behind it
pub record SigFirst (bytes : List ℕ) (t : Text) : Type 0 where
  pub used : ℕ
  pub line : list_line key_sig bytes ≡ some (t.sig_words, used)
  pub within : used ≤ length bytes
  pub words : ListOk t.sig_words
  pub rest : rest_text (drop used bytes) ≡ some (t.rules, t.book_words)

-- rule= is next: the lines of the first rule, and the bytes behind them
pub record RuleNext (bytes : List ℕ) (q : Rule) (qs : List Rule) (book : List ℕ) : Type 0 where
  pub key : is_some (after_key key_rule bytes) ≡ true
  pub used : ℕ
  pub lines : rule_lines bytes ≡ some (q, used)
  pub forward : 1 ≤ used
  pub within : used ≤ length bytes
  pub words : RuleOk q
  pub rest : rest_text (drop used bytes) ≡ some (qs, book)

-- book= is next, and last
pub record BookLast (bytes book : List ℕ) : Type 0 where
  pub key : is_some (after_key key_rule bytes) ≡ false
  pub line : list_line key_book bytes ≡ some (book, length bytes)
  pub words : ListOk book

pub record Laws : Type 0 where
  pub sig_first : (bytes : List ℕ) (t : Text) → read_text bytes ≡ some t → SigFirst bytes t
  pub rule_next : (bytes : List ℕ) (q : Rule) (qs : List Rule) (book : List ℕ) → rest_text bytes ≡ some (q ∷ qs, book) → RuleNext bytes q qs book
  pub book_last : (bytes book : List ℕ) → rest_text bytes ≡ some ([], book) → BookLast bytes book
