-- A refusal for its reason, or the token there.
use Rattle.std.proofs.Common.{ℕ, ◌≤◌, length, sym, ap, ◌∙◌, arith}
use Rattle.rules.specs.Answers.{Done, Stepped}
use Rattle.rules.specs.Limits.{max_query_size}
use Rattle.rules.specs.Tokens.{token, token_at}
use Rattle.rules.proofs.Stepping.{step_too_long, step-beyond, step_done, step_ends}
use Rattle.lexer.specs.declared.token.Lexed.{Lexed}
use Rattle.steps.proofs.step.Goals as goal

pub returns-then-text-max_query_size : goal.returns-then-text-max_query_size
returns-then-text-max_query_size c = sym (step_too_long c.args.text.now c.args.cursor (omega (arith, c.max_query_size.ensures)))

pub returns-then-cursor-text : goal.returns-then-cursor-text
returns-then-cursor-text c = sym (step-beyond c.args.text.now c.args.cursor (omega (arith, c.max_query_size.ensures)) c.if-cursor-text.true)

-- the token ends in the text
pub overflow_cast-result-2 : goal.overflow_cast-result-2
unfolding token_at
overflow_cast-result-2 c =
    let f : length c.args.text.now ≤ max_query_size = omega (arith, c.max_query_size.ensures) in
    omega (arith, ap (λ (l : Lexed). l.end) c.next_token-l.ensures, step_ends c.args.text.now c.args.cursor c.if-cursor-text.false)

answer : ℕ → Lexed → Stepped
answer at l = record { number = Done; value = l.end; token = token l.kind at l.end; cursor = l.end }

pub returns : goal.returns
unfolding token_at answer
returns c = ap (answer c.args.cursor) c.next_token-l.ensures ∙ sym (step_done c.args.text.now c.args.cursor (omega (arith, c.max_query_size.ensures)) c.if-cursor-text.false)
