-- Nothing wraps.
use Rattle.std.proofs.Common.{arith}
use Rattle.ahead.proofs.Slots.{mixed_fits}
use Rattle.ahead.proofs.mix.Goals as goal

pub overflow_mul-result : goal.overflow_mul-result
overflow_mul-result c = omega (arith, mixed_fits c.args.k c.args.h c.args.b (omega arith) (omega arith) (omega arith))
