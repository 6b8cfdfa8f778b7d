-- The bytes passed are tag bytes, and what is left is to be hashed on from here.
use Rattle.std.proofs.Common.{◌≡◌, ℕ, ◌<◌, ◌≤◌, true, get_or, drop}
use Rattle.rules.specs.Dollars.{tag_byte}
use Rattle.ahead.specs.Slots.{hash_from}
use Rattle.ahead.proofs.hash_at.Given as goal

abbrev pub invariant-loop-j : goal.invariant-loop-j
invariant-loop-j l =
    ((k : ℕ) → k < l.j → l.at ≤ k → tag_byte (get_or l.text k 0) ≡ true)
    × (hash_from l.a l.b l.h (drop l.j l.text) ≡ hash_from l.first l.second l.first (drop l.at l.text))
