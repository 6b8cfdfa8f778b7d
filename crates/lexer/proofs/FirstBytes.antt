-- The token at an offset, by what its first byte tells. Assumes nothing.
use Prim.Native.Nat.{ℕ, ◌+◌, ◌-◌, ◌≤◌, ◌<◌}
use native.Mathlib.Omega.{arith}
use mathlib.Core.Path.{◌≡◌, sym, ap, ◌∙◌}
use mathlib.Core.List.{List}
use mathlib.Core.Bool.{Bool}
use lib.ListN.{length, get_or, drop}
use Rattle.rules.specs.Utf8.{chars}
use Rattle.rules.specs.Classes.{white_space}
use Rattle.rules.specs.Kinds.{NoToken, Whitespace, Comment, Number, BareWord}
use Rattle.rules.specs.Lexeme.{run}
use Rattle.rules.specs.Numbers.{number}
use Rattle.rules.specs.Operators.{single}
use Rattle.rules.specs.Words.{word_character}
use Rattle.rules.specs.Tokens.{lexeme, after_dot_at}
use Rattle.rules.proofs.RuleBytes.{by_spaces, by_numeral, by_letters}
use Rattle.lexer.specs.declared.token.Lexed.{Lexed}
use Rattle.lexer.specs.Ends.{ends_at}
use Rattle.lexer.specs.FirstBytes.{first_byte_kind, Operates}
use Rattle.lexer.proofs.Ends.{lexed_is}
use Rattle.lexer.proofs.FirstByteKinds.{lead_word, lead-space, lead-number, lead_no_comment, lead_operates, lead_alone, lead-longer}
use Rattle.lexer.proofs.Decided.{told_alone}

-- any other kind than the first ones is an operator's
pub beyond : (a : ℕ) → (first_byte_kind a ≡ NoToken → ⊥) → (first_byte_kind a ≡ Whitespace → ⊥) → (first_byte_kind a ≡ Number → ⊥) → (first_byte_kind a ≡ BareWord → ⊥) → BareWord < first_byte_kind a
beyond a n w m b = next BareWord b (next Number m (next Comment (lead_no_comment a) (next Whitespace w (next NoToken n (omega arith)))))
  where
    next : (k : ℕ) → (first_byte_kind a ≡ k → ⊥) → k ≤ first_byte_kind a → k + 1 ≤ first_byte_kind a
    next k x l = omega (arith, x)

module _ (s : List ℕ) (i : ℕ) (h : i < length s) where
  abbrev a : ℕ
  a = get_or s i 0

  abbrev d : Bool
  d = after_dot_at s i

  abbrev there : Lexed
  there = ends_at i (lexeme d (drop i s))

  pub as_word : first_byte_kind a ≡ BareWord → (end : ℕ) → end ≡ i + run word_character (chars (drop i s)) → record { kind = BareWord; end = end } ≡ there
  as_word k end e = let w = lead_word a k in lexed_is i (by_letters d s i h w.0 w.1) end e

  pub as_space : first_byte_kind a ≡ Whitespace → (end : ℕ) → end ≡ i + run white_space (chars (drop i s)) → record { kind = Whitespace; end = end } ≡ there
  as_space k end e = let w = lead-space a k in lexed_is i (by_spaces d s i h w.0 w.1) end e

  pub as_number : first_byte_kind a ≡ Number → ends_at i (number d (chars (drop i s))) ≡ there
  as_number k = let w = lead-number a k in ap (ends_at i) (sym (by_numeral d s i h w.0 w.1))

  pub as_single : BareWord < first_byte_kind a → (k : ℕ) → k ≡ first_byte_kind a → k < 0x80 → record { kind = k; end = i + 1 } ≡ there
  as_single b k e l =
      let t = lead_alone a b (omega arith) in
      told_alone d s i h (lead_operates a b) t.0 k (t.1 ∙ sym e)

-- what a longer operator's reader asks
pub as_longer : (a k : ℕ) → k ≡ first_byte_kind a → 0x80 ≤ k → Operates a × (single a ≡ k - 0x80)
as_longer a k e l = (lead_operates a (omega arith), lead-longer a (omega arith) ∙ ap (λ (n : ℕ). n - 0x80) (sym e))
