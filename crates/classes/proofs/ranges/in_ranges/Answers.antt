-- The bounds that are at most c stand first, by the laws of strides, and the parity of their number answers. Assumes nothing.
use Rattle.std.proofs.Common.{sym, ◌+◌, ◌-◌}
use Rattle.rules.proofs.Ranges.{odd, parity}
use Rattle.classes.specs.declared.tables.TheConstants.{STRIDES}
use Rattle.classes.specs.Strides.{place, bounds}
use Rattle.classes.proofs.Strides.{begins, ends, begun, none_reached, reached}
use Rattle.classes.proofs.ranges.in_ranges.Goals as goal

pub returns-then-c-index : goal.returns-then-c-index
unfolding odd
returns-then-c-index c =
    let a = c.args in
    sym (parity (bounds STRIDES a.index.now) a.c 0 (none_reached STRIDES a.index.now c.requires c.if-c-index.true))

pub pass-k-requires : goal.pass-k-requires
pass-k-requires c =
    let i = c.go_on-i in
    (begins _ _ c.requires i.result i.ensures.within, ends _ _ c.requires i.result i.ensures.within)

pub overflow_sub-result : goal.overflow_sub-result
overflow_sub-result c = begun _ _ c.requires c.go_on-i.result c.pass-k.result c.go_on-i.ensures c.pass-k.ensures

pub returns : goal.returns
unfolding odd
returns c =
    let index = c.args.index.now in
    let i = c.go_on-i in
    let k = c.pass-k in
    sym (parity (bounds STRIDES index) c.args.c (i.result + 1 + (k.result - place index 0)) (reached STRIDES index c.requires i.result k.result i.ensures k.ensures))
