-- One run of digits, or two with a dot between them.
use Rattle.std.proofs.Common.{◌≡◌, ℕ, ◌<◌, false, Option, Some, None, IfSome, get_or, drop, ap, ◌∙◌, arith}
use borrow.Author.Tests.{ne_eqb}
use Rattle.rules.specs.Utf8.{chars}
use Rattle.rules.specs.Characters.{dot}
use Rattle.rules.specs.Kinds.{Number}
use Rattle.rules.specs.Numbers.{number}
use Rattle.rules.specs.Words.{word_character}
use Rattle.rules.specs.Tokens.{after_dot_at}
use Rattle.lexer.specs.declared.token.Lexed.{Lexed}
use Rattle.lexer.specs.Ends.{ends_at}
use Rattle.lexer.proofs.FastNumbers.{told_whole, told-fraction}
use Rattle.lexer.proofs.fast.fast_number.Goals as goal

-- the number up to `end`, by what the byte there tells
ended : (o : Option Lexed) (b end : ℕ) (l : Lexed) → IfSome o (λ r. (r ≡ record { kind = Number; end = end }) × (b < 0x80) × (word_character b ≡ false)) → (b < 0x80 → word_character b ≡ false → record { kind = Number; end = end } ≡ l) → IfSome o (λ r. r ≡ l)
ended (Some r) b end l e f = e.0 ∙ f e.1 e.2
ended None b end l e f = e

pub returns-then-text-j-ne46 : goal.returns-then-text-j-ne46
returns-then-text-j-ne46 c =
    let s = c.args.text.now in
    let i = c.args.start in
    let j = c.skip_digits-j.result in
    ended _ (get_or s j 0) j _ c.number_if_ended.ensures
    (λ l w. told_whole s i j c.requires.0 c.requires.1 (omega arith) l w c.skip_digits-j.ensures (ne_eqb _ dot c.if-text-j-ne46.true) (after_dot_at s i))

pub returns : goal.returns
returns c =
    let s = c.args.text.now in
    let i = c.args.start in
    let j = c.skip_digits-j.result in
    let m = c.skip_digits-i.result in
    ended _ (get_or s m 0) m _ c.number_if_ended-2.ensures
    (λ l w.
    told-fraction s i m c.requires.0 c.requires.1 (omega arith) l w j c.skip_digits-j.ensures (omega arith) c.if-text-j-ne46.false c.skip_digits-i.ensures
    ∙ ap (λ d. ends_at i (number d (chars (drop i s)))) c.if-after_dot.ensures)
