-- Each byte, which is ASCII, is a character.
use Rattle.std.proofs.Common.{◌≡◌, ℕ, zero, suc, ◌+◌, ◌-◌, ◌<◌, ◌≤◌, ◌&&◌, List, ◌∷◌, length, get_or, take, drop, sym, ap, ◌∙◌, arith, rules, tests, ltb, add-one, drop-cons}
use Rattle.std.specs.List.{list_all}
use Rattle.std.proofs.lemmas.Iterator.{YieldsList-from_slice}
use Rattle.std.proofs.lemmas.Iterator.Search.{all_from_yields_List}
use borrow.Author.Tests.{lt-ltb}
use Rattle.rules.specs.Utf8.{chars}
use Rattle.rules.specs.Numbers.{number_word, all_chars}
use Rattle.rules.proofs.NumberBytes.{all_end, all_byte}
use Rattle.lexer.proofs.tokenizer.is_word.Goals as goal

all-chars : (s : List ℕ) (e n i : ℕ) → i + n ≡ e → e ≤ length s → ((k : ℕ) → i ≤ k → k < e → get_or s k 0 < 0x80) → list_all (λ b. ltb b 0x80 && number_word b) (take n (drop i s)) ≡ all_chars number_word (take (e - i) (chars (drop i s)))
all-chars s e zero i q u a = sym (all_end number_word s i e (omega arith))
all-chars s e (suc n) i q u a =
    ap (λ t. list_all (λ b. ltb b 0x80 && number_word b) (take (suc n) t)) (drop-cons s i 0 (omega arith) ∙ ap (λ m. get_or s i 0 ∷ drop m s) (sym (add-one i)))
    ∙ ap (λ t. (t && number_word (get_or s i 0)) && list_all (λ b. ltb b 0x80 && number_word b) (take n (drop (i + 1) s))) (lt-ltb _ _ (a i (omega arith) (omega arith)))
    ∙ ap (λ t. number_word (get_or s i 0) && t) (all-chars s e n (i + 1) (omega arith) u (λ k p. a k (omega arith)))
    ∙ sym (all_byte number_word s i e (omega arith) u (a i (omega arith) (omega arith)))

pub returns : goal.returns
returns c =
    let s = c.args.text.now in
    let i = c.args.start in
    let n = c.args.end - i in
    all_from_yields_List (λ b. ltb b 0x80 && number_word b) _ _ _ c.all.ensures.ran (YieldsList-from_slice (take n (drop i s)) cc) (λ x b q k. search (rules, tests))
    ∙ all-chars s c.args.end n i (omega (arith, c.requires.from)) c.requires.upto c.requires.ascii
