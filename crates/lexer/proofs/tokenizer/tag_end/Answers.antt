-- Tag bytes are skipped, up to the first other byte or to the end.
use Rattle.std.proofs.Common.{◌≡◌, ℕ, ◌+◌, ◌-◌, ◌<◌, ◌≤◌, true, false, Option, Some, None, MatchOption, List, length, get_or, drop, subst, sym, ap, ◌∙◌, arith, rules, tests, length-drop}
use Rattle.std.specs.List.{AllWithin, HoldsAt}
use Rattle.std.specs.Option.{unwrap_or}
use Rattle.std.proofs.lemmas.Iterator.{YieldsList-from_slice, IsFirst-from_position}
use native.Mathlib.Decide.{dec_lt}
use lib.ListN.{get_or-eq_default}
use lib.Seq.{get_or-drop}
use Rattle.rules.specs.Dollars.{tag_byte}
use Rattle.runs.specs.Classes.{Skips}
use Rattle.lexer.specs.Words.{ascii_word}
use Rattle.lexer.specs.HereDocs.{TagEnd}
use Rattle.lexer.proofs.Classes.{tag_word}
use Rattle.lexer.proofs.Ends.{rest}
use Rattle.lexer.proofs.tokenizer.tag_end.Goals as goal

-- what is skipped, and the first byte from i on that is none of a tag's
module _ (s : List ℕ) (at i : ℕ) (r : Skips ascii_word s at i) where
  pass : (k : ℕ) → at ≤ k → k < i → tag_byte (get_or s k 0) ≡ true
  pass k a b = sym (tag_word (get_or s k 0)) ∙ r.pass k a b

  -- a byte from i on, by its place there
  there : (k : ℕ) → i ≤ k → get_or (drop i s) (k - i) 0 ≡ get_or s k 0
  there k a = get_or-drop i s (k - i) 0 ∙ ap (λ n. get_or s n 0) (omega arith)

  tags : (n : ℕ) → AllWithin (λ b. tag_byte b ≡ true) (drop i s) 0 n → (k : ℕ) → k < i + n → at ≤ k → tag_byte (get_or s k 0) ≡ true
  tags n a k l b = go (dec_lt k i)
    where
      go : Dec (k < i) → tag_byte (get_or s k 0) ≡ true
      go (yes h) = pass k b h
      go (no h) = ap tag_byte (sym (there k (omega arith))) ∙ a (k - i) 0 (omega arith) (omega arith)

  ends : (o : Option ℕ) → MatchOption o (AllWithin (λ b. tag_byte b ≡ true) (drop i s) 0 (length (drop i s))) (λ n. (n < length (drop i s)) × HoldsAt (λ b. tag_byte b ≡ false) (drop i s) n × AllWithin (λ b. tag_byte b ≡ true) (drop i s) 0 n) → TagEnd s at (i + unwrap_or o (length (drop i s)))
  ends (Some n) m =
      record {
        from = omega (arith, r.from);
        upto = omega (arith, m.0, length-drop i s);
        tags = tags n m.2;
        over = ap tag_byte (sym (get_or-drop i s n 0)) ∙ m.1 0;
      }
  ends None m =
      record {
        from = omega (arith, r.from);
        upto = omega (arith, r.upto, length-drop i s);
        tags = tags (length (drop i s)) m;
        over = ap tag_byte (get_or-eq_default s 0 (omega (arith, length-drop i s)));
      }

pub returns : goal.returns
returns c =
    let s = c.args.text.now in
    let i = c.skip_words-from.result in
    let found = IsFirst-from_position _ _ c.position.result (λ b. tag_byte b ≡ false) (λ b. tag_byte b ≡ true) c.position.ensures.ran (YieldsList-from_slice (drop i s) (c.iter.ensures.rest ∙ rest s i)) (λ x q k. search (rules, tests)) (λ x q k. search (rules, tests)) in
    subst (λ n. TagEnd s c.args.at (i + n)) (sym (c.unwrap_or.ensures ∙ ap (λ t. unwrap_or c.position.result (length t)) (rest s i))) (ends s c.args.at i c.skip_words-from.ensures _ found)
