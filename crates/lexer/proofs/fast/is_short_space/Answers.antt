-- The run ends after one byte, at a byte of ASCII that is no white space or at a character that is none.
use Rattle.std.proofs.Common.{◌≡◌, ℕ, ◌+◌, ◌<◌, ◌≤◌, List, true, false, Option, Some, None, IfSome, is_some, length, get_or, drop, refl, sym, ◌∙◌, arith, ltb}
use borrow.Author.Tests.{not-true, lt-ltb}
use Rattle.rules.specs.Utf8.{chars, char_at}
use Rattle.rules.specs.Classes.{white_space}
use Rattle.rules.specs.Lexeme.{run}
use Rattle.rules.proofs.Tests.{both, clash}
use Rattle.lexer.specs.Ends.{Unruled}
use Rattle.lexer.proofs.Runs.{byte_more, byte_stop, char_stop}
use Rattle.lexer.proofs.fast.is_short_space.Goals as goal

-- the first byte, and a run that ends after it
one : (s : List ℕ) (i : ℕ) → (i + 4 ≤ length s) × (get_or s i 0 < 0x80) × (white_space (get_or s i 0) ≡ true) → run white_space (chars (drop (i + 1) s)) ≡ 0 → 1 ≡ run white_space (chars (drop i s))
one s i r z = omega (arith, byte_more white_space s i (omega arith) true (sym (both (ltb (get_or s i 0) 0x80) (white_space (get_or s i 0)) (lt-ltb (get_or s i 0) 0x80 r.1) r.2)) refl)

-- a character that no rule starts at is no white space
no_space : (s : List ℕ) (i : ℕ) (o : Option ℕ) → IfSome o (λ n. Unruled s i n) → is_some o ≡ true → white_space (char_at (drop i s)).code ≡ false
no_space s i (Some n) u e = u.space
no_space s i None u e = clash e refl

pub returns-then-b-lt128 : goal.returns-then-b-lt128
returns-then-b-lt128 c = λ e.
    one c.args.text.now c.args.start c.requires
    (byte_stop white_space c.args.text.now (c.args.start + 1) (omega arith) _ c.is_ascii_space.ensures c.if-b-lt128.true (not-true _ e))

pub returns : goal.returns
returns c = λ e.
    one c.args.text.now c.args.start c.requires
    (char_stop white_space c.args.text.now (c.args.start + 1) (omega arith) (no_space _ _ _ c.other_len.ensures (sym c.is_some.ensures ∙ e)))
