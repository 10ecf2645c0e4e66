-- 20: a list of open charges is read record by record.
use mathlib.Core.Path.{◌≡◌, refl, sym, ap, ◌∙◌}
use mathlib.Core.List.{List, [], ◌∷◌, ◌++◌}
use mathlib.Core.Option.{Option, some}
use mathlib.Core.Bool.{Bool, true, false, ◌&&◌}
use Prim.Native.Nat.{ℕ, zero, suc, ◌+◌, ◌*◌, ◌-◌, min, ◌≤◌, ◌<◌}
use native.Mathlib.Omega.{arith}
use lib.Dec.{eqb, leb}
use lib.ListN.{length, get_or, take, drop, length-drop, length-append}
use lib.Seq.{take_at, drop_at}
use borrow.Author.Rules.{part_to_end}
use Rattle.signature.specs.Lists.{◌>>=◌, require, all, is_some}
use Rattle.signature.proofs.Members.{some_when, some_both}
use Rattle.signature.proofs.Tests.{leb_yes, leb_no}
use Rattle.charges.specs.Charge.{read_record, read_records, read_charges}
use Rattle.charges.specs.Limits.{charge_limit, record_length, booking_at, booking_room}

module _ (ws : List ℕ) where
  abbrev words : ℕ
  words = get_or ws 2 0

  tested : is_some (read_record ws) ≡ (leb 1 words && (leb words booking_room && all (λ w. eqb w 0) (drop (booking_at + words) ws)))
  tested = some_when (leb 1 words && (leb words booking_room && all (λ w. eqb w 0) (drop (booking_at + words) ws))) _

  pub no_booking : words ≡ 0 → false ≡ is_some (read_record ws)
  no_booking e = sym (tested ∙ rw (leb_no 1 words (omega arith)))

  module _ (more : words ≡ 0 → ⊥) where
    pub too_long : booking_room < words → false ≡ is_some (read_record ws)
    too_long l = sym (tested ∙ rw (leb_yes 1 words (omega arith), leb_no words booking_room l))

    pub zeros_behind : words ≤ booking_room → all (λ w. eqb w 0) (take (length ws - (booking_at + words)) (drop (booking_at + words) ws)) ≡ is_some (read_record ws)
    zeros_behind l = ap (all (λ w. eqb w 0)) (part_to_end ws (booking_at + words)) ∙ sym (tested ∙ rw (leb_yes 1 words (omega arith), leb_yes words booking_room l))

all_read : {A B C : Type 0} (b : Bool) (o : Option A) (p : Option B) (f : A → B → C) → is_some (require b >>= λ u. o >>= λ x. p >>= λ y. some (f x y)) ≡ (b && (is_some o && is_some p))
all_read false o p f = refl
all_read true o p f = some_both o p f

none_left : (n : ℕ) (ws : List ℕ) → length ws ≤ 0 → is_some (read_records n ws) ≡ true
none_left zero [] l = refl
none_left zero (w ∷ ws) l = absurd (omega arith)
none_left (suc n) [] l = refl
none_left (suc n) (w ∷ ws) l = absurd (omega arith)

over : (ws : List ℕ) → 0 < length ws → is_some (read_records 0 ws) ≡ false
over [] l = absurd (omega arith)
over (w ∷ ws) l = refl

next : (n : ℕ) (ws : List ℕ) → 0 < length ws → is_some (read_records (suc n) ws) ≡ (leb record_length (length ws) && (is_some (read_record (take record_length ws)) && is_some (read_records n (drop record_length ws))))
next n [] l = absurd (omega arith)
next n (w ∷ ws) l = all_read (leb record_length (length (w ∷ ws))) (read_record (take record_length (w ∷ ws))) (read_records n (drop record_length (w ∷ ws))) ◌∷◌

and_false : (a b : Bool) → (a && (b && false)) ≡ false
and_false false b = refl
and_false true false = refl
and_false true true = refl

-- more words than n records have
over_records : (n : ℕ) (ws : List ℕ) → record_length * n < length ws → is_some (read_records n ws) ≡ false
over_records zero ws l = over ws (omega arith)
over_records (suc n) ws l = next n ws (omega arith) ∙ rw (over_records n (drop record_length ws) (omega (arith, length-drop record_length ws))) (and_false _ _)

pub too_long_list : (ws : List ℕ) → record_length * charge_limit < length ws → false ≡ is_some (read_charges ws)
unfolding read_charges
too_long_list ws l = sym (over_records charge_limit ws l)

-- some records of a list are read, and there is room for so many more in what is left
pub record Reading (list left : List ℕ) : Type 0 where
  pub room : ℕ
  pub fits : length left ≤ record_length * room
  pub so_far : is_some (read_charges list) ≡ is_some (read_records room left)

pub reading_start : (list : List ℕ) → length list ≤ record_length * charge_limit → Reading list list
unfolding read_charges
reading_start list l = record { room = charge_limit; fits = l; so_far = refl }

module _ {list left : List ℕ} (g : Reading list left) where
  pub all_read_well : length left ≤ 0 → true ≡ is_some (read_charges list)
  all_read_well l = sym (g.so_far ∙ none_left g.room left l)

  module _ (more : 0 < length left) where
    from_here : (m : ℕ) × (length left ≤ record_length * suc m) × (is_some (read_charges list) ≡ (leb record_length (length left) && (is_some (read_record (take record_length left)) && is_some (read_records m (drop record_length left)))))
    from_here = go g.room g.fits g.so_far
      where
        go : (m : ℕ) → length left ≤ record_length * m → is_some (read_charges list) ≡ is_some (read_records m left) → (m : ℕ) × (length left ≤ record_length * suc m) × (is_some (read_charges list) ≡ (leb record_length (length left) && (is_some (read_record (take record_length left)) && is_some (read_records m (drop record_length left)))))
        go zero l e = absurd (omega arith)
        go (suc m) l e = (m, l, e ∙ next m left more)

    -- a record of what is left, short only at its end
    module _ (first rest : List ℕ) (cut : left ≡ first ++ rest) (long : length first ≡ min record_length (length left)) where
      pub cut_short : length first < record_length → false ≡ is_some (read_charges list)
      cut_short l = sym (from_here.2 ∙ rw (leb_no record_length (length left) (omega (arith, long))))

      module _ (whole : record_length ≤ length first) where
        front : take record_length left ≡ first
        front = ap (take record_length) cut ∙ take_at first rest record_length (omega (arith, long))

        behind : drop record_length left ≡ rest
        behind = ap (drop record_length) cut ∙ drop_at first rest record_length (omega (arith, long))

        read_from_here : is_some (read_charges list) ≡ (is_some (read_record first) && is_some (read_records from_here.0 rest))
        read_from_here = from_here.2 ∙ rw (leb_yes record_length (length left) (omega (arith, long)), front, behind)

        pub bad_record : false ≡ is_some (read_record first) → false ≡ is_some (read_charges list)
        bad_record e = sym (read_from_here ∙ rw (← e))

        pub next_record : true ≡ is_some (read_record first) → Reading list rest
        next_record e = record { room = from_here.0; fits = omega (arith, from_here.1, long, ap length cut, length-append first rest); so_far = read_from_here ∙ rw (← e) }
