-- What is answered where a list is stored, and where there is no room for it.
-- Assumes nothing.
use Prim.Native.Nat.{ℕ, ◌≤◌, ◌<◌}
use mathlib.Core.Path.{◌≡◌}
use mathlib.Core.List.{List}
use lib.ListN.{length}
use borrow.Author.Tests.{lt-ltb, le-ltb}
use Rattle.rules.specs.Tokens.{Token}
use Rattle.rules.specs.Listing.{pack, room}
use Rattle.rules.specs.Answers.{NoRoom, refused, filled, stored}

module _ (ts : List Token) (number : ℕ) (list : List ℕ) (n : ℕ) (e : n ≡ length ts) where
  pub stored-not : room list < length ts → refused NoRoom n list ≡ stored ts number list
  unfolding stored
  stored-not h = rw (lt-ltb (room list) (length ts) h, e)

  pub stored_all : (list' : List ℕ) → length ts ≤ room list → list' ≡ filled (pack ts) list → record { number = number; value = n; buffer = list' } ≡ stored ts number list
  unfolding stored
  stored_all list' h f = rw (le-ltb (room list) (length ts) h, e, f)
