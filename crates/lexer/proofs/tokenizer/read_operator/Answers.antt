-- Three bytes, two or one.
use Rattle.std.proofs.Common.{◌≡◌, ℕ, ◌+◌, ◌<◌, List, [], ◌∷◌, length, get_or, drop, refl, sym, ap, ap₂, ◌∙◌}
use Rattle.rules.specs.Utf8.{Char, chars}
use Rattle.rules.specs.Lexeme.{is}
use Rattle.rules.specs.Operators.{spaceship, pair, operator}
use Rattle.rules.proofs.Decoding.{chars_ascii}
use Rattle.rules.proofs.OperatorBytes.{operator_ship, operator-pair, operator-single}
use Rattle.lexer.specs.Ends.{operator_at}
use Rattle.lexer.proofs.Ends.{lexed_is}
use Rattle.lexer.proofs.tokenizer.read_operator.Goals as goal

-- the character that a byte of ASCII is
abbrev head : ℕ → Char
head a = record { code = a; bytes = a ∷ [] }

reads : (s : List ℕ) (i : ℕ) → i < length s → get_or s i 0 < 0x80 → operator_at (chars (drop i s)) ≡ operator (head (get_or s i 0)) (chars (drop (i + 1) s))
reads s i h l = ap operator_at (chars_ascii s i h l)

pub returns-then-is_spaceship : goal.returns-then-is_spaceship
returns-then-is_spaceship c =
    let s = c.args.text.now in
    let i = c.args.start in
    let ship = ap₂ (spaceship (get_or s i 0)) (sym c.byte_at-b.ensures) (sym c.byte_at-c.ensures) ∙ sym c.if-is_spaceship.ensures in
    c.new.ensures ∙ lexed_is i (reads s i c.requires.0 c.requires.1 ∙ operator_ship s i (head (get_or s i 0)) refl ship) _ refl

pub returns-in-Some : goal.returns-in-Some
returns-in-Some c =
    let s = c.args.text.now in
    let i = c.args.start in
    let ship = ap₂ (spaceship (get_or s i 0)) (sym c.byte_at-b.ensures) (sym c.byte_at-c.ensures) ∙ sym c.if-is_spaceship.ensures in
    c.new-in-Some.ensures
    ∙ lexed_is i (reads s i c.requires.0 c.requires.1 ∙ operator-pair s i (head (get_or s i 0)) refl ship _ (c.in-Some.ensures.0 ∙ ap (pair (get_or s i 0)) c.byte_at-b.ensures) c.in-Some.ensures.1) _ refl

pub returns-in-None : goal.returns-in-None
returns-in-None c =
    let s = c.args.text.now in
    let i = c.args.start in
    let ship = ap₂ (spaceship (get_or s i 0)) (sym c.byte_at-b.ensures) (sym c.byte_at-c.ensures) ∙ sym c.if-is_spaceship.ensures in
    c.new-in-None.ensures
    ∙ lexed_is i (reads s i c.requires.0 c.requires.1 ∙ operator-single s i (head (get_or s i 0)) refl ship _ (sym c.in-None.ensures ∙ ap (pair (get_or s i 0)) c.byte_at-b.ensures) refl ∙ ap (λ k. is k 1) c.requires.2) _ refl
