-- Past the blocks, the first byte that is none of ASCII ends the pass, or the text's end.
use Rattle.std.proofs.Common.{ℕ, zero, suc, ◌+◌, ◌-◌, ◌<◌, ◌≤◌, Option, Some, None, MatchOption, List, length, drop, subst, sym, ap, ◌∙◌, arith, rules, tests, length-drop}
use Rattle.std.specs.List.{AllWithin, HoldsAt}
use Rattle.std.specs.Option.{unwrap_or}
use Rattle.std.proofs.lemmas.Iterator.{YieldsList-from_slice, IsFirst-from_position}
use lib.Seq.{get_or-drop, take_all}
use Rattle.utf8.specs.Units.{Passes}
use Rattle.utf8.proofs.Passing.{pass_byte}
use Rattle.utf8.proofs.ascii_end.Goals as goal

module _ (s : List ℕ) (j k : ℕ) (p : Passes s j k) where
  on : (n : ℕ) → n ≤ length (drop k s) → AllWithin (λ b. b < 0x80) (drop k s) 0 n → Passes s j (k + n)
  on zero h a = subst (Passes s j) (omega arith) p
  on (suc n) h a =
      subst (Passes s j) (omega arith)
      (pass_byte s j (k + n) (on n (omega arith) (λ q d l m. a q d l (omega arith))) (omega (arith, length-drop k s)) (rw (get_or-drop k s n 0) at (a n 0 (omega arith) (omega arith))))

  ends : (o : Option ℕ) → MatchOption o (AllWithin (λ b. b < 0x80) (drop k s) 0 (length (drop k s))) (λ n. (n < length (drop k s)) × HoldsAt (λ b. 0x80 ≤ b) (drop k s) n × AllWithin (λ b. b < 0x80) (drop k s) 0 n) → Passes s j (k + unwrap_or o (length (drop k s)))
  ends (Some n) m = on n (omega (arith, m.0)) m.2
  ends None m = on (length (drop k s)) (omega arith) m

pub returns : goal.returns
returns c =
    let s = c.args.s.now in
    let k = c.loop-k-2.k in
    let whole = take_all (length s - k) (drop k s) (omega (arith, length-drop k s)) in
    let found = IsFirst-from_position _ _ c.position.result (λ b. 0x80 ≤ b) (λ b. b < 0x80) c.position.ensures.ran (YieldsList-from_slice (drop k s) (c.iter.ensures.rest ∙ whole)) (λ x q k. search (rules, tests)) (λ x q k. search (rules, tests)) in
    subst (λ n. Passes s c.args.j (k + n)) (sym (c.unwrap_or.ensures ∙ ap (λ t. unwrap_or c.position.result (length t)) whole)) (ends s c.args.j k c.loop-k-2.invariant _ found)
