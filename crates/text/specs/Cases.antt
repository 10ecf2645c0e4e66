-- What the text program prints for T, and for texts that are refused. The function `cases` promises them.
use Rattle.std.specs.Prelude.{◌≡◌, List, [] as []ᴸ, ◌∷◌ as ◌∷ᴸ◌, ℕ}
use Prim.Native.Char.{code}
use Prim.Native.String.{String, [], ◌∷◌}
use Rattle.text.specs.Print.{printed}

-- the bytes of a text: a character below 128 is the byte of its code, and the texts here have no other
abbrev pub bytes : String → List ℕ
bytes [] = []ᴸ
bytes (c ∷ s) = code c ∷ᴸ bytes s

pub record Cases : Type 0 where
  -- T with book=0 1 5: rule=7, plan=40, bind=0:2 on three lines
  pub rule_7 : printed (bytes "sig=6 0 2 1 2 1 0 1 0 1 0 2 0 2 0\nrule=7\nplan=40\npat=0 1 261\nrule=9\nplan=41\npat=0 260 1 5\nbook=0 1 5\n")
      ≡ bytes "rule=7\nplan=40\nbind=0:2\n"
  -- "without bindings the third is bind= alone"
  pub rule_9 : printed (bytes "sig=6 0 2 1 2 1 0 1 0 1 0 2 0 2 0\nrule=7\nplan=40\npat=0 1 261\nrule=9\nplan=41\npat=0 260 1 5\nbook=0 2 5\n")
      ≡ bytes "rule=9\nplan=41\nbind=\n"
  -- the default
  pub default : printed (bytes "sig=6 0 2 1 2 1 0 1 0 1 0 2 0 2 0\nrule=7\nplan=40\npat=0 1 261\nrule=9\nplan=41\npat=0 260 1 5\nbook=0 3 4\n")
      ≡ bytes "rule=0\nplan=1\nbind=\n"
  -- no rules
  pub no_rules : printed (bytes "sig=6 0 2 1 2 1 0 1 0 1 0 2 0 2 0\nbook=0 1 5\n")
      ≡ bytes "rule=0\nplan=1\nbind=\n"
  -- a third rule that shares a booking with rule 7
  pub shared : printed (bytes "sig=6 0 2 1 2 1 0 1 0 1 0 2 0 2 0\nrule=7\nplan=40\npat=0 1 261\nrule=9\nplan=41\npat=0 260 1 5\nrule=8\nplan=1\npat=0 258 4\nbook=0 1 5\n")
      ≡ bytes "refused=12\n"
  -- rule=0
  pub number_0 : printed (bytes "sig=6 0 2 1 2 1 0 1 0 1 0 2 0 2 0\nrule=0\nplan=1\npat=258\nbook=0 1 5\n")
      ≡ bytes "refused=4\n"
  -- one constructor less than said
  pub unlawful_signature : printed (bytes "sig=7 0 2 1 2 1 0 1 0 1 0 2 0 2 0\nrule=7\nplan=40\npat=0 1 261\nbook=0 1 5\n")
      ≡ bytes "refused=1\n"
  -- a booking cut short
  pub unlawful_booking : printed (bytes "sig=6 0 2 1 2 1 0 1 0 1 0 2 0 2 0\nrule=7\nplan=40\npat=0 1 261\nbook=0 1\n")
      ≡ bytes "refused=13\n"
  -- an entry is refused before the booking
  pub entry_before_booking : printed (bytes "sig=6 0 2 1 2 1 0 1 0 1 0 2 0 2 0\nrule=0\nplan=1\npat=258\nbook=0 1\n")
      ≡ bytes "refused=4\n"
  -- the last line does not end in a newline
  pub no_newline : printed (bytes "sig=6 0 2 1 2 1 0 1 0 1 0 2 0 2 0\nrule=7\nplan=40\npat=0 1 261\nbook=0 1 5")
      ≡ bytes "refused=17\n"
  -- a leading zero; the format is checked before all else
  pub leading_zero : printed (bytes "sig=7 0 2 1 2 1 0 1 0 1 0 2 0 2 0\nrule=7\nplan=040\npat=0 1 261\nbook=0 1 5\n")
      ≡ bytes "refused=17\n"
  -- two spaces
  pub two_spaces : printed (bytes "sig=6 0 2 1 2 1 0 1 0 1 0 2 0 2 0\nrule=7\nplan=40\npat=0  1 261\nbook=0 1 5\n")
      ≡ bytes "refused=17\n"
  -- another key than the one due
  pub other_key : printed (bytes "sig=6 0 2 1 2 1 0 1 0 1 0 2 0 2 0\nrule=7\nPlan=40\npat=0 1 261\nbook=0 1 5\n")
      ≡ bytes "refused=17\n"
  -- 65,536
  pub too_large : printed (bytes "sig=6 0 2 1 2 1 0 1 0 1 0 2 0 2 0\nrule=7\nplan=65536\npat=0 1 261\nbook=0 1 5\n")
      ≡ bytes "refused=17\n"
  -- book= is not last
  pub book_not_last : printed (bytes "sig=6 0 2 1 2 1 0 1 0 1 0 2 0 2 0\nbook=0 1 5\nrule=7\nplan=40\npat=0 1 261\n")
      ≡ bytes "refused=17\n"
  -- no book=
  pub no_book : printed (bytes "sig=6 0 2 1 2 1 0 1 0 1 0 2 0 2 0\nrule=7\nplan=40\npat=0 1 261\n")
      ≡ bytes "refused=17\n"
  -- the empty text
  pub no_text : printed (bytes "")
      ≡ bytes "refused=17\n"
