-- The edges that are left of a block.
use Rattle.std.specs.Prelude.{ℕ, ◌+◌, ◌≤◌, ◌≡◌, List, length, drop}
use Rattle.rules.specs.Tokens.{lexeme, after_dot_at}
use Rattle.lexer.specs.Ends.{ends_at}
use Rattle.blocks.specs.Sets.{set}
use Rattle.blocks.specs.Edges.{edge_after}
use Rattle.edges.specs.declared.Next.{Next}
use Rattle.edges.specs.declared.Rest.{Rest}

-- The bits are the edges after `start` among the 64 offsets from the base on, and eight bytes more are there.
abbrev pub Block : List ℕ → ℕ → Rest → Type 0
Block s start r = (r.base ≤ start) × (r.base + 72 ≤ length s) × (r.bits ≡ set 64 (edge_after s start) r.base)

-- Where there are any bits.
abbrev pub Left : List ℕ → ℕ → Rest → Type 0
Left s start r = (r.bits ≡ 0 → ⊥) → Block s start r

-- The token at `start`, and the edges that are left after it.
abbrev pub Taken : List ℕ → ℕ → Next → Type 0
Taken s start n = (n.token ≡ ends_at start (lexeme (after_dot_at s start) (drop start s))) × Left s n.token.end n.rest
