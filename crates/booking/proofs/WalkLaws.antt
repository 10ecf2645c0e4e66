-- The walk reads what a booking is read by.
use mathlib.Core.Path.{◌≡◌, refl, sym, ap, ◌∙◌}
use mathlib.Core.List.{List, [], ◌∷◌, ◌++◌, map}
use mathlib.Core.Option.{Option, some, none}
use mathlib.Core.Bool.{Bool, true, false}
use Prim.Native.Nat.{ℕ, zero, suc, ◌≤◌, ◌<◌}
use lib.ListN.{length}
use Rattle.signature.specs.Limits.{booking_limit, depth_limit}
use Rattle.signature.specs.Lists.{◌>>=◌, is_some, whole}
use Rattle.signature.specs.Read.{read_booking, read_value, read_values}
use Rattle.signature.specs.Signature.{Signature, arguments_at}
use Rattle.signature.specs.Value.{Value, Values, con, vcons}
use Rattle.booking.specs.Walk.{Due, walk_at, walk_word, walk, first_due, ended}
use Rattle.signature.proofs.Tests.{leb_yes, leb_no}

bind_assoc : {A B C : Type 0} (m : Option A) (f : A → Option B) (g : B → Option C) → ((m >>= f) >>= g) ≡ (m >>= λ a. f a >>= g)
bind_assoc none f g = refl
bind_assoc (some a) f g = refl

-- a value read, with the words behind it
abbrev made : ℕ → Values × List ℕ → Option (Value × List ℕ)
made w r = some (con w r.0, r.1)

abbrev joined : Value → Values × List ℕ → Option (Values × List ℕ)
joined v s = some (vcons v s.0, s.1)

-- nothing is left of the words behind what is due
abbrev all_read : Option (List ℕ) → Bool
all_read none = false
all_read (some []) = true
all_read (some (w ∷ ws)) = false

module _ (sig : Signature) where
  -- the words behind all the values that are due
  read_due : List Due → List ℕ → Option (List ℕ)
  read_due [] ws = some ws
  read_due (x ∷ xs) ws = read_value sig x.1 x.0 ws >>= λ r. read_due xs r.1

  -- arguments first
  due_append : (d : ℕ) (ks : List ℕ) (xs : List Due) (ws : List ℕ) → read_due (map (λ k. (k, d)) ks ++ xs) ws ≡ (read_values (λ j us. read_value sig d j us) ks ws >>= λ r. read_due xs r.1)
  unfolding read_due
  due_append d [] xs ws = refl
  due_append d (k ∷ ks) xs ws = go (read_value sig d k ws) (λ us. due_append d ks xs us)
    where
      go : (o : Option (Value × List ℕ)) → ((us : List ℕ) → read_due (map (λ k. (k, d)) ks ++ xs) us ≡ (read_values (λ j us. read_value sig d j us) ks us >>= λ r. read_due xs r.1))
          → (o >>= λ r. read_due (map (λ k. (k, d)) ks ++ xs) r.1)
          ≡ ((o >>= λ r. read_values (λ j us. read_value sig d j us) ks r.1 >>= joined r.0) >>= λ r. read_due xs r.1)
      go none f = refl
      go (some r) f = f r.1 ∙ sym (bind_assoc (read_values (λ j us. read_value sig d j us) ks r.1) (joined r.0) (λ s. read_due xs s.1))

  read_nothing : (d k : ℕ) → read_value sig d k [] ≡ none
  read_nothing zero k = refl
  read_nothing (suc d) k = refl

  -- a word of the walk
  due_word : (k d : ℕ) (xs : List Due) (w : ℕ) (ws : List ℕ) → (read_value sig d k (w ∷ ws) >>= λ r. read_due xs r.1) ≡ (walk_at sig k d w xs >>= λ ys. read_due ys ws)
  unfolding read_due
  due_word k zero xs w ws = refl
  due_word k (suc d) xs w ws = on (arguments_at sig k w)
    where
      on : (o : Option (List ℕ))
          → ((o >>= λ ks. read_values (λ j us. read_value sig d j us) ks ws >>= made w) >>= λ r. read_due xs r.1)
          ≡ ((o >>= λ ks. some (map (λ j. (j, d)) ks ++ xs)) >>= λ ys. read_due ys ws)
      on none = refl
      on (some ks) = bind_assoc (read_values (λ j us. read_value sig d j us) ks ws) (made w) (λ r. read_due xs r.1) ∙ sym (due_append d ks xs ws)

  walk_reads : (xs : List Due) (ws : List ℕ) → ended (walk sig xs ws) ≡ all_read (read_due xs ws)
  unfolding read_due
  walk_reads [] [] = refl
  walk_reads (x ∷ xs) [] = rw (read_nothing x.1 x.0)
  walk_reads [] (w ∷ ws) = refl
  walk_reads (x ∷ xs) (w ∷ ws) = go (walk_word sig (x ∷ xs) w) (λ ys. walk_reads ys ws) ∙ ap all_read (sym (due_word x.0 x.1 xs w ws))
    where
      go : (o : Option (List Due)) → ((ys : List Due) → ended (walk sig ys ws) ≡ all_read (read_due ys ws)) → ended (o >>= λ ys. walk sig ys ws) ≡ all_read (o >>= λ ys. read_due ys ws)
      go none f = refl
      go (some ys) f = f ys

  -- the one value that a booking is
  read_first : (ws : List ℕ) → all_read (read_due first_due ws) ≡ is_some (read_value sig depth_limit 0 ws >>= whole)
  unfolding read_due
  read_first ws = go (read_value sig depth_limit 0 ws)
    where
      go : (o : Option (Value × List ℕ)) → all_read (o >>= λ r. some r.1) ≡ is_some (o >>= whole)
      go none = refl
      go (some (v, [])) = refl
      go (some (v, w ∷ ws)) = refl

  pub walk_lawful : (ws : List ℕ) → length ws ≤ booking_limit → ended (walk sig first_due ws) ≡ is_some (read_booking sig ws)
  walk_lawful ws h = walk_reads first_due ws ∙ read_first ws ∙ rw (leb_yes (length ws) booking_limit h)

  pub too_long : (ws : List ℕ) → booking_limit < length ws → false ≡ is_some (read_booking sig ws)
  too_long ws h = rw (leb_no (length ws) booking_limit h)
