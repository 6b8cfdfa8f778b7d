-- Operators that a short look tells. Assumes nothing.
use Prim.Native.Nat.{ℕ, ◌+◌, ◌<◌}
use mathlib.Core.Path.{◌≡◌, refl, sym, ap, ◌∙◌}
use mathlib.Core.List.{List, [], ◌∷◌}
use mathlib.Core.Bool.{Bool, true, false, ◌||◌}
use lib.Dec.{eqb}
use lib.ListN.{length, get_or, drop}
use Rattle.rules.specs.Utf8.{Char, chars}
use Rattle.rules.specs.Characters.{double_quote, dollar, quote, star, dash, slash, less, equals, back_quote}
use Rattle.rules.specs.Lexeme.{two, is}
use Rattle.rules.specs.Operators.{single, pair, spaceship, operator}
use Rattle.rules.specs.Tokens.{lexeme}
use Rattle.rules.proofs.Tests.{clash}
use Rattle.rules.proofs.RuleBytes.{by_others}
use Rattle.rules.proofs.OperatorBytes.{operator-pair, operator-single}
use Rattle.lexer.specs.Ends.{ends_at}
use Rattle.lexer.specs.FirstBytes.{among, bodies, longer, Operates}
use Rattle.lexer.proofs.Ends.{lexed_is}
use Rattle.lexer.proofs.Matches.{not-among, pair_other}

pub neither : (x y : Bool) → (x || y) ≡ false → (x ≡ false) × (y ≡ false)
neither true y e = clash refl e
neither false y e = (refl, e)

pub none_of : (x y z : Bool) → ((x || y) || z) ≡ false → (x ≡ false) × (y ≡ false) × (z ≡ false)
none_of x y z e = let l = neither (x || y) z e in let k = neither x y l.0 in (k.0, k.1, l.1)

module _ (d : Bool) (s : List ℕ) (i : ℕ) (h : i < length s) (o : Operates (get_or s i 0)) where
  abbrev a : ℕ
  a = get_or s i 0

  abbrev b : ℕ
  b = get_or s (i + 1) 0

  abbrev head : Char
  head = record { code = a; bytes = a ∷ [] }

  module _ (ship : spaceship a b (get_or s (i + 2) 0) ≡ false) (dashes : two a b dash dash ≡ false) (opens : two a b slash star ≡ false) where
    operates : lexeme d (drop i s) ≡ operator head (chars (drop (i + 1) s))
    operates =
        let n = not-among bodies a o.body in
        by_others d s i h o.ascii o.space dashes opens o.word (n quote refl) (n double_quote refl) (n back_quote refl) (n dollar refl)

    pub told-pair : (p : ℕ) → p ≡ pair a b → (p ≡ 0 → ⊥) → record { kind = p; end = i + 2 } ≡ ends_at i (lexeme d (drop i s))
    told-pair p e n = lexed_is i (operates ∙ operator-pair s i head refl ship p e n) (i + 2) refl

    pub told-single : (p : ℕ) → p ≡ pair a b → p ≡ 0 → (k : ℕ) → single a ≡ k → record { kind = k; end = i + 1 } ≡ ends_at i (lexeme d (drop i s))
    told-single p e z k f = lexed_is i (operates ∙ operator-single s i head refl ship p e z ∙ ap (λ (k : ℕ). is k 1) f) (i + 1) refl

  -- a byte at which nothing longer starts
  pub told_alone : among longer a ≡ false → (k : ℕ) → single a ≡ k → record { kind = k; end = i + 1 } ≡ ends_at i (lexeme d (drop i s))
  told_alone m k f =
      let n = not-among longer a m in
      told-single (rw (n less refl, n equals refl)) (rw (n dash refl)) (rw (n slash refl)) 0 (sym (pair_other a b (neither (eqb a slash) _ m).1)) refl k f
