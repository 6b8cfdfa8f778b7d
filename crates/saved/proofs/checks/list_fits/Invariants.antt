-- The walk reached the end of the tokens before, and knows whether all of them fit.
use Rattle.std.proofs.Common.{◌-◌, ◌*◌, drop}
use Rattle.rules.specs.Limits.{token_bytes}
use Rattle.rules.specs.Listing.{unpack}
use Rattle.rules.proofs.Chains.{Reached}
use Rattle.saved.proofs.checks.list_fits.Given as goal

abbrev pub invariant-loop-i : goal.invariant-loop-i
invariant-loop-i l = Reached l.size (unpack l.tokens l.list) l.end l.fits (unpack (l.tokens - l.i) (drop (l.i * token_bytes) l.list))
