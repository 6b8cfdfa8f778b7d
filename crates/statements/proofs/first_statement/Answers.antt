use Rattle.std.proofs.Common.{arith, sym, ap, ◌∙◌}
use Rattle.rules.specs.Answers.{Done}
use Rattle.rules.specs.Statements.{Statement}
use Rattle.rules.proofs.Statements.{first_too_long, first_done}
use Rattle.statements.proofs.Walks.{found_done, found_first}
use Rattle.statements.proofs.first_statement.Goals as goal

pub returns-then-size-max_query_size : goal.returns-then-size-max_query_size
returns-then-size-max_query_size c = sym (first_too_long _ (omega (arith, c.max_query_size.ensures)))

pub loop-at-init : goal.loop-at-init
loop-at-init c = let e = c.read_some-at.ensures in (e.inside, e.same ∙ found_first _, e.still)

pub returns : goal.returns
returns c =
    let s = c.args.text.now in
    let v = c.loop-at.invariant in
    ap (λ (x : Statement). record { number = Done; statement = x }) (sym (found_done s c.loop-at.at c.loop-at-test.false v.2) ∙ v.1) ∙ sym (first_done s (omega (arith, c.max_query_size.ensures)))
