-- A part of the text is filled by a read.
use Rattle.std.proofs.Common.{◌≡◌, ℕ, ◌+◌, ◌-◌, ◌≤◌, List, ◌++◌, length, take, drop, sym, ap, ◌∙◌, le_refl, drop_at, length-take-le}
use Rattle.std.proofs.lemmas.Slice.{take-put_mid_below}
use borrow.Rule.Slice.PartMut.{put_mid, post_of}
use lib.Seq.{take-add, take-append-le}

module _ (n more : ℕ) (text part : List ℕ) (within : n ≤ length text) (fits : more ≤ length part) where
  -- the text after the read
  abbrev filled : List ℕ
  filled = put_mid n (length text - n) text part

  filled_part : take more (drop n filled) ≡ take more part
  filled_part =
      let after = post_of n (length text - n) text in
      ap (take more) (drop_at (take n text) (part ++ after) n (length-take-le n text within)) ∙ take-append-le more part after fits

  -- what was read before stays, and what the read gave follows it
  pub read_on : take n text ++ take more part ≡ take (n + more) filled
  read_on =
      ap (λ l. l ++ take more part) (sym (take-put_mid_below _ _ _ _ _ (le_refl _) within))
      ∙ ap (λ l. take n filled ++ l) (sym filled_part)
      ∙ sym (take-add n more filled)
