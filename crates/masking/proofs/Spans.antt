-- A token's bytes, read in the text. Assumes nothing.
use Prim.Native.Nat.{ℕ, ◌+◌, ◌-◌, ◌<◌}
use native.Mathlib.Omega.{arith}
use mathlib.Core.Path.{◌≡◌, sym, ap, ◌∙◌}
use mathlib.Core.List.{List}
use mathlib.Core.Bool.{cond}
use lib.Dec.{leb}
use lib.ListN.{length, get_or, take, drop, length-take, length-drop}
use lib.Seq.{get_or-take, get_or-drop, drop-drop}
use Rattle.std.proofs.lemmas.List.{drop-take}
use Rattle.rules.specs.Masking.{quote_width}
use Rattle.masking.specs.Spans.{bytes_of, Span}

module _ (s : List ℕ) (start end : ℕ) (span : Span s start end) where
  pub span_length : length (bytes_of s start end) ≡ end - start
  span_length = simp (length-take, length-drop) (omega arith)

  pub span_at : (j i : ℕ) → i ≡ start + j → i < end → get_or (bytes_of s start end) j 0 ≡ get_or s i 0
  span_at j i e h = get_or-take (end - start) (drop start s) j 0 (omega arith) ∙ get_or-drop start s j 0 ∙ ap (λ (n : ℕ). get_or s n 0) (sym e)

  pub span_quote : quote_width (bytes_of s start end) ≡ quote_width (drop start s)
  unfolding quote_width
  span_quote = ap (λ (n : ℕ). cond (leb 0x80 n) 3 1) (get_or-take (end - start) (drop start s) 0 0 (omega arith))

  -- the bytes after its first
  pub span_rest : drop 1 (bytes_of s start end) ≡ take (end - (start + 1)) (drop (start + 1) s)
  span_rest =
      let n : end - start ≡ 1 + (end - (start + 1)) = omega arith in
      ap (λ (m : ℕ). drop 1 (take m (drop start s))) n
      ∙ drop-take 1 (end - (start + 1)) (drop start s)
      ∙ ap (take (end - (start + 1))) (drop-drop 1 start s)

pub first_byte : (s : List ℕ) (i : ℕ) → get_or (drop i s) 0 0 ≡ get_or s i 0
first_byte s i = let n : i + 0 ≡ i = omega arith in get_or-drop i s 0 0 ∙ ap (λ (m : ℕ). get_or s m 0) n
