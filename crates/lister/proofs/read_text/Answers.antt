-- Each read goes on where the one before it stopped.
use Rattle.std.proofs.Common.{rules, subst}
use Rattle.std.specs.Io.KnownBytes.{Consumes}
use Rattle.std.proofs.KnownBytes.{Consumes-trans}
use Rattle.lister.proofs.Reading.{read_on}
use Rattle.lister.proofs.read_text.Goals as goal

pub loop-n-preserved : goal.loop-n-preserved
loop-n-preserved g c =
    let l = c.loop-n in
    let r = c.in_ok-more in
    let on = read_on l.n r.more l.text c.read_some.new.part l.invariant.within r.ensures.bound in
    record {
      within = search rules;
      bytes = subst (Consumes _ _) on (Consumes-trans _ _ _ _ _ l.invariant.bytes r.ensures.bytes.0);
    }
