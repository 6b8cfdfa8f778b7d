-- The part that is written, in its place, is the list with the four bytes set.
use Rattle.std.proofs.Common.{rules, arith, ◌≡◌, ◌+◌, ◌-◌, ◌++◌, refl, sym, ap, ap₂, ◌∙◌, take, drop, List, ℕ}
use Rattle.std.proofs.lemmas.List.{take-append-drop}
use Rattle.std.proofs.lemmas.List.Edits.{sets-eq}
use Rattle.std.proofs.lemmas.Slice.{take-put_mid, drop-put_mid}
use borrow.Rule.Slice.PartMut.{put_mid}
use Rattle.rules.specs.Listing.{bytes_of32}
use Rattle.lists.proofs.packed.put_u32.Goals as goal

pub returns : goal.returns
returns c =
    let l = c.args.list.now in
    let i = c.args.at in
    let bs = bytes_of32 c.args.x in
    let b : c.copy_from_slice.new.self ≡ bs = search rules in
    let k : i + 4 - i ≡ 4 = omega arith in
    let seam : (take i l ++ bs) ++ drop (i + 4) l ≡ put_mid i 4 l bs =
    sym (ap₂ (λ (x y : List ℕ). x ++ y) (take-put_mid i 4 l bs (i + 4) refl (omega arith)) (drop-put_mid i 4 l bs (i + 4) (omega arith) (omega arith) refl)) ∙ take-append-drop (i + 4) (put_mid i 4 l bs) in
    (refl, ap (λ (ys : List ℕ). put_mid i (i + 4 - i) l ys) b ∙ ap (λ (k : ℕ). put_mid i k l bs) k ∙ sym seam ∙ sym (sets-eq bs l i (omega arith)))
