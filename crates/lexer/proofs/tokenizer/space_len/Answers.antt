-- The unit at hand is the first character.
use Rattle.std.proofs.Common.{◌≡◌, ◌≢◌, ℕ, Bool, true, false, MatchOption, List, drop, refl, sym, ap, ◌∙◌, subst, arith}
use Rattle.std.specs.Bool.{then_some}
use Rattle.rules.specs.Classes.{white_space}
use Rattle.rules.proofs.Tests.{clash}
use Rattle.rules.proofs.Tables.{white_space_none}
use Rattle.utf8.specs.declared.Unit.{Unit}
use Rattle.utf8.specs.declared.Unit.TheVariants as unit
use Rattle.utf8.specs.Units.{unit_at, unit_code, unit_len}
use Rattle.utf8.proofs.Units.{char_unit}
use Rattle.lexer.specs.Steps.{Step}
use Rattle.lexer.proofs.Runs.{step_taken, step_left}
use Rattle.lexer.proofs.tokenizer.space_len.Goals as goal

module _ (s : List ℕ) (i : ℕ) where
  -- a unit that is a character has bytes
  some : (u : Unit) → unit_at (drop i s) ≡ u → white_space (unit_code u) ≡ true → unit_len u ≢ 0
  some (unit.Char c n) e q = let w = (char_unit (drop i s) c n e).some in λ z. omega arith
  some (unit.Broken n) e q = clash q white_space_none
  some unit.End e q = clash q white_space_none

  module _ (u : Unit) (e : u ≡ unit_at (drop i s)) (k : ℕ) (p : k ≡ unit_code u) (n : ℕ) (l : n ≡ unit_len u) where
    told : (t : Bool) → t ≡ white_space k → MatchOption (then_some t n) (Step white_space s i 0) (λ n. (n ≢ 0) × Step white_space s i n)
    told true f = (λ z. some u (sym e) (ap white_space (sym p) ∙ sym f) (sym l ∙ z), step_taken white_space s i u e k p true f n l white_space_none refl)
    told false f = step_left white_space s i u e k p false f refl

pub returns : goal.returns
returns c =
    subst (λ o. MatchOption o (Step white_space c.args.text.now c.args.at 0) (λ n. (n ≢ 0) × Step white_space c.args.text.now c.args.at n)) (sym c.then_some.ensures)
    (told c.args.text.now c.args.at _ c.unit_at-u.ensures _ c.unit_code.ensures _ c.unit_len.ensures _ c.is_white_space.ensures)
