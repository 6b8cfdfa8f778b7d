-- An edge more at each turn. Assumes nothing.
use Rattle.std.proofs.Common.{◌≡◌, ◌*◌, sym, ap, ◌∙◌, arith, drop, ◌+◌, []}
use Rattle.std.proofs.lemmas.List.{drop_all}
use Rattle.std.specs.Int.Bits.{bit_and, bit_or, bit_xor, xor_assoc, xor_comm, xor_zero_r, and_le_r}
use Rattle.runs.specs.Lanes.{ones, raised}
use Rattle.runs.proofs.Lanes.{raised_next}
use Rattle.runs.proofs.Edges.{edge_ascii}
use Rattle.runs.proofs.others.Goals as goal

pub loop-edge-init : goal.loop-edge-init
unfolding ones
loop-edge-init c = xor_comm 0x8080_8080_8080_8080 _

pub raised-outside-requires : goal.raised-outside-requires
unfolding ones
raised-outside-requires c = (and_le_r c.args.x 0x7F7F_7F7F_7F7F_7F7F, edge_ascii c.args.class.edges c.args.class.ascii c.loop-edge.edge-index)

pub loop-edge-preserved : goal.loop-edge-preserved
loop-edge-preserved c =
    let y = bit_and c.args.x 0x7F7F_7F7F_7F7F_7F7F in
    let es = c.args.class.edges in
    let i = c.loop-edge.edge-index in
    let n = raised_next 8 y es i (omega (arith, c.args.class.eight)) in
    let a = xor_assoc c.loop-edge.outside c.raised-outside.result (raised 8 (drop (i + 1) es) y) in
    cc

pub returns : goal.returns
unfolding ones raised
returns c =
    let es = c.args.class.edges in
    let d : drop c.loop-edge.edge-index es ≡ [] = drop_all c.loop-edge.edge-index es (omega (arith, c.args.class.eight)) in
    let w : c.loop-edge.outside ≡ bit_xor (raised 8 es (bit_and c.args.x 0x7F7F_7F7F_7F7F_7F7F)) (0x80 * ones 8) = sym (xor_zero_r _) ∙ (rw d at c.loop-edge.invariant) in
    ap (λ w. bit_and (bit_or w c.args.x) 0x8080_8080_8080_8080) w
