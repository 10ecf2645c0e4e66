-- 02, job 6: the limits of the list of open charges.
use Rattle.std.specs.Prelude.{ℕ, ◌-◌}

-- "up to 48 records"
abbrev pub charge_limit : ℕ
charge_limit = 48

-- "of 64 words"
abbrev pub record_length : ℕ
record_length = 64

-- "rule, plan, booking length": so many words stand before the booking
abbrev pub booking_at : ℕ
booking_at = 3

-- "up to 61 booking words"
abbrev pub booking_room : ℕ
booking_room = record_length - booking_at
