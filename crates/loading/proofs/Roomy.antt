-- Whether there is room: what tells it, and what it tells.
use mathlib.Core.Path.{◌≡◌, sym, ap, ap₂, ◌∙◌}
use mathlib.Core.Bool.{Bool, true, false, ◌&&◌}
use Prim.Native.Nat.{ℕ, ◌+◌, ◌≤◌, ◌<◌}
use native.Mathlib.Omega.{arith}
use lib.Dec.{leb}
use Rattle.signature.proofs.Booleans.{and_left, and_right, and_false}
use Rattle.signature.proofs.Tests.{true≢false, leb_yes, leb_no, le_of}
use Rattle.table.specs.Limits.{limits}
use Rattle.builder.specs.Build.{words_room}
use Rattle.loading.specs.Add.{lists_room, TooSmall, has_room}

module _ (l used n m : ℕ) where
  pub rows_short : n < used + 1 + words_room l → false ≡ has_room l used n m
  rows_short h = sym (ap (λ b. b && leb (words_room l) m) (leb_no (used + 1 + words_room l) n h))

  pub work_short : m < words_room l → false ≡ has_room l used n m
  work_short h = sym (ap (λ b. leb (used + 1 + words_room l) n && b) (leb_no (words_room l) m h) ∙ and_false (leb (used + 1 + words_room l) n))

  pub both_long : used + 1 + words_room l ≤ n → words_room l ≤ m → true ≡ has_room l used n m
  both_long h k = sym (ap₂ ◌&&◌ (leb_yes (used + 1 + words_room l) n h) (leb_yes (words_room l) m k))

  module _ {b : Bool} (told : b ≡ has_room l used n m) where
    pub room_there : b ≡ true → (used + 1 + words_room l ≤ n) × (words_room l ≤ m)
    room_there e =
        let x = leb (used + 1 + words_room l) n in
        let y = leb (words_room l) m in
        (le_of (used + 1 + words_room l) n (and_left x y (sym told ∙ e)), le_of (words_room l) m (and_right x y (sym told ∙ e)))

    pub room_missing : used ≤ lists_room limits.weight limits.rules → b ≡ false → TooSmall n m
    room_missing s e h k = true≢false (both_long (omega (arith, s, h)) (omega (arith, k)) ∙ sym told ∙ e)
