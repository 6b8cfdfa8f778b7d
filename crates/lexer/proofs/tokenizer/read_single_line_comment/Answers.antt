-- Bytes that are no line feed are skipped, up to the first one or to the end.
use Rattle.std.proofs.Common.{◌≡◌, ◌≢◌, ℕ, ◌+◌, List, [], ◌∷◌, length, drop, ap, ◌∙◌, arith, rules, tests}
use Rattle.std.specs.Option.{unwrap_or}
use Rattle.std.proofs.lemmas.Iterator.{YieldsList-from_slice, IsFirst-from_position, index_from_first}
use Rattle.rules.specs.Utf8.{chars}
use Rattle.rules.specs.Characters.{line_feed}
use Rattle.rules.specs.Lexeme.{run}
use Rattle.rules.specs.Spaces.{not_line_feed}
use Rattle.lexer.proofs.Ends.{rest}
use Rattle.lexer.proofs.Runs.{run_end, ascii_stop, line_more, line_over}
use Rattle.lexer.proofs.tokenizer.read_single_line_comment.Goals as goal

-- the run, byte by byte
abbrev run_of : List ℕ → ℕ
run_of s = run not_line_feed (chars s)

hit : (x : ℕ) (s : List ℕ) → x ≡ line_feed → run_of (x ∷ s) ≡ 0
hit x s e = ascii_stop not_line_feed (x ∷ s) 0 (omega arith) (omega (arith, e)) (ap not_line_feed e)

miss : (x : ℕ) (s : List ℕ) → x ≢ line_feed → run_of (x ∷ s) ≡ run_of s + 1
miss x s n = omega (arith, line_more (x ∷ s) 0 (omega arith) n)

pub returns : goal.returns
returns c =
    let s = c.args.text.now in
    let i = c.skip_to-from.result in
    let found = IsFirst-from_position _ _ c.position.result (λ b. b ≡ line_feed) (λ b. b ≢ line_feed) c.position.ensures.ran (YieldsList-from_slice (drop i s) (c.iter.ensures.rest ∙ rest s i)) (λ x q k. search (rules, tests)) (λ x q k. search (rules, tests)) in
    let n = index_from_first run_of (λ b. b ≡ line_feed) (λ b. b ≢ line_feed) (run_end not_line_feed [] 0 (omega arith)) hit miss (drop i s) c.position.result found in
    omega (arith, line_over s c.args.at i c.skip_to-from.ensures, n, c.unwrap_or.ensures, ap (λ t. unwrap_or c.position.result (length t)) (rest s i))
