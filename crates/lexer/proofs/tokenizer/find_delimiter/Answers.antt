-- What is gone over has no delimiter's beginning. Assumes nothing.
use Rattle.std.proofs.Common.{◌≡◌, ℕ, List, ◌+◌, ◌≤◌, ◌<◌, sym, ap, ◌∙◌, [], ◌∷◌, false, not, eqb, length, get_or, drop, arith, Option, Some, None}
use borrow.Author.Tests.{eq-eqb}
use Rattle.rules.specs.Utf8.{chars}
use Rattle.rules.specs.Characters.{dollar}
use Rattle.rules.specs.Dollars.{begins}
use Rattle.rules.proofs.Tests.{clash, both}
use Rattle.rules.proofs.HereDocs.{begins_fits, find_at, find_over, no_dollar}
use Rattle.runs.specs.Classes.{inside, Skips, Unpaired}
use Rattle.lexer.specs.HereDocs.{Delimiter, found_end}
use Rattle.lexer.proofs.Edges.{inside_one}
use Rattle.lexer.proofs.HereDocs.{searched, search_on, search_over, pairs_over}
use Rattle.lexer.proofs.tokenizer.find_delimiter.Goals as goal
use Rattle.lexer.proofs.tokenizer.find_delimiter.Goals.{else-text-i-eq36-via-then-text-i-eq36+else-matches, else-text-i-eq36-via-else-text-i-eq36}

-- the search from where the pairs and then the skip end
skipped :
    (d s : List ℕ) (g : Delimiter d) → 1 < length d → (i j k : ℕ) (a b : List ℕ)
    → a ≡ dollar ∷ (dollar + 1) ∷ 0 ∷ 0 ∷ 0 ∷ 0 ∷ 0 ∷ 0 ∷ []
    → b ≡ get_or d 1 0 ∷ (get_or d 1 0 + 1) ∷ 0 ∷ 0 ∷ 0 ∷ 0 ∷ 0 ∷ 0 ∷ []
    → Unpaired (inside a) (inside b) s i j → Skips (λ x. not (eqb x dollar)) s j k → searched d s k ≡ searched d s i
skipped d s g l i j k a b ea eb u r =
    search_over d g.0 s j k r
    ∙ pairs_over d g l s i j u.from u.upto
    (λ n m h x y.
    let e = ap (λ (es : List ℕ). inside es (get_or s n 0)) ea ∙ inside_one dollar (omega arith) (get_or s n 0) ∙ eq-eqb (get_or s n 0) dollar x in
    let f = ap (λ (es : List ℕ). inside es (get_or s (n + 1) 0)) eb ∙ inside_one (get_or d 1 0) (g.1 1 l).1 (get_or s (n + 1) 0) ∙ eq-eqb (get_or s (n + 1) 0) (get_or d 1 0) y in
    clash (both _ _ e f) (u.none n m h))

-- the text's end
ended : (d s : List ℕ) (at i : ℕ) → length s ≤ i → searched d s i ≡ searched d s at → None ≡ searched d s at
ended d s at i h e = sym (ap (found_end i (length d)) (find_over d s i h)) ∙ e

pub only-requires-in-loop-i : goal.only-requires-in-loop-i
only-requires-in-loop-i c = (c.requires.0.1 1 c.requires.1).1

pub overflow_add-result : goal.overflow_add-result
overflow_add-result c =
    let u = begins_fits c.args.delimiter.now c.requires.0.1 c.args.text.now c.skip_to-i.result (omega (arith, c.if-i-text.false, c.skip_to-i.ensures.upto)) (sym c.matches.ensures ∙ c.if-matches.true) in
    omega arith

pub returns-then-matches : goal.returns-then-matches
returns-then-matches c =
    let d = c.args.delimiter.now in
    let s = c.args.text.now in
    let i = c.skip_to-i.result in
    let b = sym c.matches.ensures ∙ c.if-matches.true in
    sym (ap (found_end i (length d)) (find_at d c.requires.0.0 s i (omega (arith, c.if-i-text.false, c.skip_to-i.ensures.upto)) b) ∙ ap {B = Option ℕ} Some (omega arith))
    ∙ skipped d s c.requires.0 c.requires.1 c.loop-i.i c.skip_pairs-i.result i _ _ c.only.ensures c.only-in-loop-i.ensures c.skip_pairs-i.ensures c.skip_to-i.ensures
    ∙ c.loop-i.invariant

pub loop-i-preserved : goal.loop-i-preserved
loop-i-preserved c =
    let d = c.args.delimiter.now in
    let s = c.args.text.now in
    let i = c.skip_to-i.result in
    let h : i < length s = omega (arith, c.if-i-text.false, c.skip_to-i.ensures.upto) in
    let absent : begins d (chars (drop i s)) ≡ false = elim c.else-text-i-eq36.branch [
      | else-text-i-eq36-via-then-text-i-eq36+else-matches w ↦ sym w.matches.ensures ∙ w.if-matches.false
      | else-text-i-eq36-via-else-text-i-eq36 w ↦ no_dollar d c.requires.0.0 s i h w.if-text-i-eq36.false
    ] in
    search_on d c.requires.0.0 s i h absent
    ∙ skipped d s c.requires.0 c.requires.1 c.loop-i.i c.skip_pairs-i.result i _ _ c.only.ensures c.only-in-loop-i.ensures c.skip_pairs-i.ensures c.skip_to-i.ensures
    ∙ c.loop-i.invariant

pub returns-after-loop-i : goal.returns-after-loop-i
returns-after-loop-i c = ended c.args.delimiter.now c.args.text.now c.args.at c.loop-i.i c.loop-i-test.false c.loop-i.invariant

pub returns-then-i-text : goal.returns-then-i-text
returns-then-i-text c =
    let d = c.args.delimiter.now in
    let s = c.args.text.now in
    ended d s c.args.at c.skip_to-i.result (omega (arith, c.if-i-text.true))
    (skipped d s c.requires.0 c.requires.1 c.loop-i.i c.skip_pairs-i.result c.skip_to-i.result _ _ c.only.ensures c.only-in-loop-i.ensures c.skip_pairs-i.ensures c.skip_to-i.ensures ∙ c.loop-i.invariant)
