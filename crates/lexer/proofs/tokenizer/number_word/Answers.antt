-- The number stops, or goes on as a word or as an error.
use Rattle.std.proofs.Common.{true, false, refl, ◌∙◌, ap}
use Rattle.lexer.specs.declared.token.Lexed.{Lexed}
use Rattle.lexer.proofs.Numbers.{stops, goes}
use Rattle.lexer.proofs.tokenizer.number_word.Goals as goal
use Rattle.lexer.proofs.tokenizer.number_word.Goals.{then-is_word, else-is_word}

pub returns-then-not-starts_suffix : goal.returns-then-not-starts_suffix
returns-then-not-starts_suffix c = c.new.ensures ∙ stops c.args.text.now c.args.start c.args.at c.requires c.if-not-starts_suffix.ensures refl

pub returns : goal.returns
returns c =
    let told = goes c.args.text.now c.args.start c.args.at c.requires c.if-not-starts_suffix.ensures refl _ c.read_word-end.ensures c.is_word.ensures in
    c.new-2.ensures
    ∙ elim c.if-is_word.branch [
      | then-is_word w ↦ ap {B = Lexed} (λ k. record { kind = k; end = c.read_word-end.result }) w.kind-is ∙ told true w.if-is_word.true
      | else-is_word w ↦ ap {B = Lexed} (λ k. record { kind = k; end = c.read_word-end.result }) w.kind-is ∙ told false w.if-is_word.false
    ]
