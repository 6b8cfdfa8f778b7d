-- What agrees with a listing that is stored is the definition's list.
use Rattle.std.proofs.Common.{rules, ◌≡◌, ◌==◌, true, length, take, Ok, refl}
use Rattle.rules.proofs.Tests.{eqb-true, and_left, and_right}
use Rattle.replay.proofs.Listed.{agreed}
use Rattle.replay.proofs.cases.agrees.Goals as goal

pub returns-in-Ok : goal.returns-in-Ok
returns-in-Ok c e =
    let starts : c.starts_with.result ≡ true = and_right (c.in-Ok.stored == c.args.tokens) c.starts_with.result e in
    let front : take (length c.args.list.now) c.tokenize.new.list ≡ c.args.list.now = search rules in
    agreed c.args.text.now _ _ c.args.list.now (Ok c.in-Ok.stored) _ c.args.tokens c.new.ensures.0 c.in-Ok.ensures refl (eqb-true (and_left _ _ e)) c.requires front
