-- What a step answers, case by case. Assumes nothing.
use Prim.Native.Nat.{ℕ, ◌+◌, ◌≤◌, ◌<◌}
use native.Mathlib.Decide.{dec_lt}
use native.Mathlib.Omega.{arith}
use mathlib.Core.Path.{◌≡◌}
use mathlib.Core.List.{List}
use borrow.Author.Tests.{lt-ltb, le-ltb}
use lib.ListN.{length, drop}
use Rattle.rules.specs.Limits.{max_query_size}
use Rattle.rules.specs.Tokens.{after_dot_at, lexeme, token_at}
use Rattle.rules.specs.Answers.{Done, TooLong, Beyond, refused_step, step}
use Rattle.rules.proofs.Edges.{step_fits}
use Rattle.rules.proofs.RuleBytes.{at_end_lem}

module _ (s : List ℕ) (i : ℕ) where
  pub step_too_long : max_query_size < length s → step s i ≡ refused_step TooLong i
  unfolding step
  step_too_long h = rw (lt-ltb max_query_size (length s) h)

  module _ (l : length s ≤ max_query_size) where
    pub step-beyond : length s < i → step s i ≡ refused_step Beyond i
    unfolding step
    step-beyond h = rw (le-ltb max_query_size (length s) l, lt-ltb (length s) i h)

    pub step_done : i ≤ length s → step s i ≡ record { number = Done; value = (token_at s i).end; token = token_at s i; cursor = (token_at s i).end }
    unfolding step
    step_done h = rw (le-ltb max_query_size (length s) l, le-ltb (length s) i h)

  -- the token ends in the text
  pub step_ends : i ≤ length s → i + (lexeme (after_dot_at s i) (drop i s)).size ≤ length s
  unfolding token_at
  step_ends h = go (dec_lt i (length s))
    where
      go : Dec (i < length s) → i + (lexeme (after_dot_at s i) (drop i s)).size ≤ length s
      go (yes k) = (step_fits s i k).2
      go (no k) = rw (at_end_lem (after_dot_at s i) s i (omega arith)) (omega arith)
