-- 01, the text program: what it prints.
use Rattle.std.specs.Prelude.{List, ◌∷◌, [], ◌++◌, cond, ℕ, zero, suc, ◌/◌, ◌+◌, ◌%◌, ltb, eqb}
use Rattle.std.proofs.Math.Option.{Option, none, some}
use Rattle.signature.specs.Read.{read_booking, read_signature}
use Rattle.signature.specs.Signature.{Signature}
use Rattle.signature.specs.Value.{Value}
use Rattle.tree.specs.Answer.{Answer}
use Rattle.pattern.specs.Limits.{unbound_place}
use Rattle.table.specs.Limits.{limits, emptied_default}
use Rattle.table.specs.Decide.{direct}
use Rattle.table.specs.ListsOfCalls.{ListCall, enter}
use Rattle.table.specs.Refusals.{entry_refusal}
use Rattle.table.specs.Rule.{Rule, add_rule}
use Rattle.text.specs.Format.{key_rule, key_plan, Text, read_text}
use Rattle.text.specs.Limits.{digit_limit}

-- bind=
abbrev pub key_bind : List ℕ
key_bind = 98 ∷ 105 ∷ 110 ∷ 100 ∷ 61 ∷ []

-- refused=
abbrev pub key_refused : List ℕ
key_refused = 114 ∷ 101 ∷ 102 ∷ 117 ∷ 115 ∷ 101 ∷ 100 ∷ 61 ∷ []

-- a number's digits, f of them at most, before other bytes
abbrev pub digits : ℕ → ℕ → List ℕ → List ℕ
digits zero n behind = behind
digits (suc f) n behind =
    let more = digits f (n / 10) ((48 + n % 10) ∷ behind) in
    cond (ltb n 10) ((48 + n) ∷ behind) more

-- a number in decimal
abbrev pub decimal : ℕ → List ℕ
decimal n = digits digit_limit n []

-- a line: key, bytes, newline
abbrev pub line : List ℕ → List ℕ → List ℕ
line key bs = key ++ (bs ++ (10 ∷ []))

-- "variable:place, variables rising, space between pairs"; 65,535 is unbound
abbrev pub pairs_text : ℕ → List ℕ → List (List ℕ)
pairs_text x [] = []
pairs_text x (p ∷ ps) = cond (eqb p unbound_place) (pairs_text (suc x) ps) ((decimal x ++ (58 ∷ decimal p)) ∷ pairs_text (suc x) ps)

-- "space between"
abbrev pub spaced : List (List ℕ) → List ℕ
spaced [] = []
spaced (f ∷ []) = f
spaced (f ∷ (g ∷ gs)) = f ++ (32 ∷ spaced (g ∷ gs))

-- "the first refusal n prints refused=n only"
abbrev pub print_refused : ℕ → List ℕ
print_refused n = line key_refused (decimal n)

-- "prints rule=7, plan=40, bind=0:2 .. on three lines; without bindings the third is bind= alone"
abbrev pub print_answer : Answer → List ℕ
print_answer a = line key_rule (decimal a.rule) ++ (line key_plan (decimal a.plan) ++ line key_bind (spaced (pairs_text 0 a.places)))

-- "Rules enter in order; the first refusal n": the rules in force, or that number
pub data EnteredAll : Type 0 where
  stopped : ℕ → EnteredAll
  entered : List Rule → EnteredAll

-- the rules of the text entered behind those that are in
abbrev pub enter_all : Signature → List Rule → List Rule → EnteredAll
enter_all sig [] rs = entered rs
enter_all sig (q ∷ qs) rs =
    let next = enter_all sig qs (add_rule q rs) in
    let n = entry_refusal limits sig q.number q.pattern rs in
    cond (eqb n 0) next (stopped n)

-- 13, or the answer: "The booking is decided directly from the table."; 02, job 3: "the text program prints the new plan", which is that of an emptied table
abbrev pub print_decided : Signature → List Rule → Option Value → List ℕ
print_decided sig rs none = print_refused 13
print_decided sig rs (some v) = print_answer (direct emptied_default sig rs v)

-- what is printed when the rules are in, or one was refused
abbrev pub print_entered : Signature → List ℕ → EnteredAll → List ℕ
print_entered sig bs (stopped n) = print_refused n
print_entered sig bs (entered rs) = print_decided sig rs (read_booking sig bs)

-- 1: "1, 13 and 17 print the same way."
abbrev pub print_text : Option Signature → Text → List ℕ
print_text none t = print_refused 1
print_text (some sig) t = print_entered sig t.book_words (enter_all sig t.rules [])

-- 17: "Format is checked first, over the whole text."
abbrev pub print_read : Option Text → List ℕ
print_read none = print_refused 17
print_read (some t) = print_text (read_signature t.sig_words) t

-- what the program prints for these bytes
abbrev pub printed : List ℕ → List ℕ
printed bytes = print_read (read_text bytes)

-- the entries of a text's rules, as calls
abbrev pub entries : List ℕ → List Rule → List ListCall
entries witness [] = []
entries witness (r ∷ rs) = enter r.number r.plan r.pattern witness ∷ entries witness rs

-- the first number that is not 0
abbrev pub first_refusal : List ℕ → ℕ
first_refusal [] = 0
first_refusal (n ∷ ns) = cond (eqb n 0) (first_refusal ns) n
