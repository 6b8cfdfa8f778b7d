use Rattle.std.proofs.Common.{arith, ◌*◌, ◌≤◌, length, [], ◌∷◌, refl}
use Rattle.rules.specs.Kinds.{EndOfStream}
use Rattle.rules.specs.Limits.{token_bytes}
use Rattle.rules.specs.Tokens.{token}
use Rattle.rules.specs.Answers.{TooLong, too_long_list}
use Rattle.lists.proofs.Packing.{Filled, filled_none, filled_more, filled_all}
use Rattle.lists.proofs.Storing.{stored-not, stored_all}
use Rattle.lists.proofs.listing.store_too_long.Goals as goal

pub returns-then-list-token_bytes-lt2 : goal.returns-then-list-token_bytes-lt2
returns-then-list-token_bytes-lt2 c = stored-not too_long_list TooLong c.args.list.now 2 refl (rw c.token_bytes.ensures at c.if-list-token_bytes-lt2.true)

pub returns : goal.returns
returns c =
    let l = rw c.token_bytes.ensures at c.if-list-token_bytes-lt2.false in
    let fits : length too_long_list * token_bytes ≤ length c.args.list.now = omega (arith, l) in
    let first : Filled too_long_list c.args.list.now c.put_token-at.new.list c.put_token-at.result (token EndOfStream 0 0 ∷ []) =
    filled_more too_long_list _ _ 0 fits _ _ (filled_none too_long_list _) _ _ c.put_token-at.ensures.0 c.put_token-at.ensures.1 in
    let both = filled_more _ _ _ _ fits _ _ first _ _ c.put_token.ensures.0 c.put_token.ensures.1 in
    stored_all too_long_list TooLong _ 2 refl _ l (filled_all _ _ _ _ fits both)
