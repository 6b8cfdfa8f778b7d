-- A comment, or an operator.
use Rattle.std.proofs.Common.{◌≡◌, ◌+◌, List, false, true, get_or, drop, refl, sym, ap, ◌∙◌, arith}
use Rattle.std.proofs.lemmas.Bool.Decides.{nat_tests}
use Rattle.rules.specs.Utf8.{Char, chars}
use Rattle.rules.specs.Characters.{double_quote, dollar, quote, star, dash, slash, back_quote}
use Rattle.rules.specs.Kinds.{Comment, ErrorMultilineCommentIsNotClosed}
use Rattle.rules.specs.Lexeme.{two}
use Rattle.rules.specs.Spaces.{comment_body}
use Rattle.rules.specs.Tokens.{after_dot_at}
use Rattle.rules.proofs.Decoding.{chars_ascii}
use Rattle.rules.proofs.RuleBytes.{by_dashes, by_slash, by_others}
use Rattle.lexer.specs.Ends.{ends_at, operator_at}
use Rattle.lexer.specs.FirstBytes.{bodies}
use Rattle.lexer.proofs.Ends.{lexed_is, opened_by}
use Rattle.lexer.proofs.Matches.{not-among}
use Rattle.lexer.proofs.tokenizer.read_longer.Goals as goal
use Rattle.lexer.proofs.tokenizer.read_longer.Goals.{in_default-via-in-45+in_default, in_default-via-in-47+in_default, in_default-via-in_default}

pub returns-in-45-eq45 : goal.returns-in-45-eq45
returns-in-45-eq45 c =
    let s = c.args.text.now in
    let i = c.args.start in
    let p : two (get_or s i 0) (get_or s (i + 1) 0) dash dash ≡ true = grind (arith, nat_tests) in
    c.new.ensures ∙ lexed_is i (by_dashes (after_dot_at s i) s i c.requires.0 c.requires.1.ascii p) _ c.read_single_line_comment.ensures

pub returns-in-47-eq42 : goal.returns-in-47-eq42
returns-in-47-eq42 c =
    let s = c.args.text.now in
    let i = c.args.start in
    let p : two (get_or s i 0) (get_or s (i + 1) 0) slash star ≡ true = grind (arith, nat_tests) in
    c.read_multi_line_comment.ensures
    ∙ opened_by i 2 (comment_body 0 false (chars (drop (i + 2) s))) Comment ErrorMultilineCommentIsNotClosed
    ∙ ap (ends_at i) (sym (by_slash (after_dot_at s i) s i c.requires.0 c.requires.1.ascii p))

pub returns-in_default : goal.returns-in_default
returns-in_default c =
    let s = c.args.text.now in
    let i = c.args.start in
    let o = c.requires.1 in
    let n = not-among bodies (get_or s i 0) o.body in
    let x : two (get_or s i 0) (get_or s (i + 1) 0) dash dash ≡ false = elim c.in_default.branch [ in_default-via-in-45+in_default w ↦ grind (arith, nat_tests) | in_default-via-in-47+in_default w ↦ grind (arith, nat_tests) | in_default-via-in_default w ↦ grind (arith, nat_tests) ] in
    let y : two (get_or s i 0) (get_or s (i + 1) 0) slash star ≡ false = elim c.in_default.branch [ in_default-via-in-45+in_default w ↦ grind (arith, nat_tests) | in_default-via-in-47+in_default w ↦ grind (arith, nat_tests) | in_default-via-in_default w ↦ grind (arith, nat_tests) ] in
    c.read_operator.ensures ∙ ap (λ (cs : List Char). ends_at i (operator_at cs)) (chars_ascii s i c.requires.0 o.ascii)
    ∙ ap (ends_at i) (sym (by_others (after_dot_at s i) s i c.requires.0 o.ascii o.space x y o.word (n quote refl) (n double_quote refl) (n back_quote refl) (n dollar refl)))
