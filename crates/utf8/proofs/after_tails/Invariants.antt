use Rattle.std.proofs.Common.{◌≡◌, ◌+◌, ◌-◌, ◌≤◌, length}
use Rattle.utf8.specs.Units.{after}
use Rattle.utf8.proofs.after_tails.Given as goal

-- at most N tails are passed, and what is left of N is passed from there on
abbrev pub invariant-loop-end : goal.invariant-loop-end
invariant-loop-end g l =
    (l.k ≤ l.end) × (l.end ≤ length l.s) × (l.end - l.k ≤ g.row.N) × (after (g.row.N - (l.end - l.k)) l.s l.end ≡ after g.row.N l.s l.k)

abbrev pub decreases-loop-end : goal.decreases-loop-end
decreases-loop-end g l = l.k + g.row.N - l.end
