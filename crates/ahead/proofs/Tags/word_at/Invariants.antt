-- The bits so far stand for the offsets from k on.
use Rattle.std.proofs.Common.{◌≡◌, ℕ, ◌+◌, ◌-◌, ◌^◌, ◌<◌, ◌≤◌, true}
use Rattle.ahead.specs.Marks.{Lone, bit}
use Rattle.ahead.proofs.Tags.word_at.Given as goal

abbrev pub invariant-loop-k : goal.invariant-loop-k
invariant-loop-k l = (l.k ≤ 64) × (l.word < 2 ^ (64 - l.k)) × ((j : ℕ) → bit l.word j ≡ true → Lone l.self.text.now (l.at + l.k + j))
