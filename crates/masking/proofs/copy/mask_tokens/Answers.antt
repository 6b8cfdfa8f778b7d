-- Masking begins with the text, goes on from where it was, and ends with the text's end.
use Rattle.masking.proofs.Copying.{filled-room, copied_none, copied_all}
use Rattle.masking.proofs.copy.mask_tokens.Goals as goal

pub loop-at-init : goal.loop-at-init
loop-at-init c =
    let e = c.mask_some-at.ensures in
    let s = c.args.text.now in
    let first = c.args.copy.now in
    let room = filled-room s first c.requires.1 in
    (e.inside, e.len, e.masks first room (copied_none s first room c.requires.1))

pub returns : goal.returns
returns c =
    copied_all c.args.text.now c.args.copy.now (filled-room c.args.text.now c.args.copy.now c.requires.1) c.loop-at.copy c.loop-at.at c.loop-at-test.false c.loop-at.invariant.2
