use Rattle.std.proofs.Common.{rules, arith, ◌∷◌, sym, ap, ◌∙◌}
use Rattle.lexer.specs.declared.token.Lexed.{Lexed}
use Rattle.lists.specs.Choices.{chosen}
use Rattle.lists.specs.Picks.{records_of}
use Rattle.lists.proofs.Choosing.{next_fits, chosen_keep, chosen-drop}
use Rattle.lists.proofs.Picking.{pick_none}
use Rattle.lists.proofs.picks.pick_chosen.Goals as goal

pub returns-then-keeps : goal.returns-then-keeps
returns-then-keeps c =
    let r : Lexed = record { kind = c.read_on-token.result.kind; end = c.read_on-token.new.at.cursor } in
    let k = chosen_keep c.args.of.choice c.args.of.text.now c.loop-at.at.cursor r c.read_on-token.ensures.lexed c.args.of.inside c.loop-at-test.true (sym c.keeps.ensures ∙ c.if-keeps.true) in
    record {
      plan = c.read_on-token.ensures.plan ∙ c.loop-at.invariant.0;
      first = ap records_of (sym c.loop-at.invariant.1 ∙ k) ∙ ap (λ t. t ∷ records_of (chosen c.args.of.choice c.args.of.text.now r.end)) (sym c.read_on-token.ensures.token);
      ready = c.read_on-token.ensures.ready;
    }

pub loop-at-smaller : goal.loop-at-smaller
loop-at-smaller c =
    let r : Lexed = record { kind = c.read_on-token.result.kind; end = c.read_on-token.new.at.cursor } in
    let m = next_fits c.args.of.choice c.args.of.text.now c.loop-at.at.cursor r c.read_on-token.ensures.lexed c.args.of.inside c.loop-at-test.true in
    omega (arith, m)

pub loop-at-preserved : goal.loop-at-preserved
loop-at-preserved c =
    let r : Lexed = record { kind = c.read_on-token.result.kind; end = c.read_on-token.new.at.cursor } in
    let k = chosen-drop c.args.of.choice c.args.of.text.now c.loop-at.at.cursor r c.read_on-token.ensures.lexed c.args.of.inside c.loop-at-test.true (sym c.keeps.ensures ∙ c.if-keeps.false) in
    (c.read_on-token.ensures.plan ∙ c.loop-at.invariant.0, sym k ∙ c.loop-at.invariant.1, c.read_on-token.ensures.ready, search rules)

pub returns : goal.returns
returns c =
    record {
      plan = c.loop-at.invariant.0;
      first = ap records_of (sym c.loop-at.invariant.1 ∙ pick_none c.args.of.choice c.args.of.text.now c.loop-at.at.cursor c.loop-at-test.false);
      ready = c.loop-at.invariant.2;
    }
