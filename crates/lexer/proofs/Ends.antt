-- What a reader answers, from what is known of the lexeme or of the part. Assumes nothing.
use Prim.Native.Nat.{ℕ, ◌+◌, ◌-◌, ◌≤◌, ◌<◌}
use mathlib.Core.Path.{◌≡◌, refl, sym, ap, ◌∙◌}
use native.Mathlib.Omega.{arith}
use mathlib.Core.List.{List}
use mathlib.Core.Bool.{Bool, true, false, cond}
use Rattle.std.proofs.Common.{Result, Ok, Err, if◌then◌else◌}
use lib.ListN.{length, take, drop, length-drop}
use lib.Seq.{take_all}
use Rattle.rules.specs.Lexeme.{Lexeme, is, Body, enclosed}
use Rattle.rules.specs.Numbers.{Figures}
use Rattle.rules.specs.Tokens.{Token, token, token_at, lexeme, after_dot_at}
use Rattle.rules.proofs.Edges.{step_fits}
use Rattle.lexer.specs.declared.token.Lexed.{Lexed}
use Rattle.lexer.specs.Ends.{ends_at, part_at}

pub part_well : (at : ℕ) {f : Figures} {n : ℕ} → f ≡ record { well = true; size = n } → (end : ℕ) → end ≡ at + n → Ok end ≡ part_at at f
part_well at e end p = ap {B = Result ℕ ℕ} Ok p ∙ sym (ap (part_at at) e)

pub part_wrong : (at : ℕ) {f : Figures} {n : ℕ} → f ≡ record { well = false; size = n } → (end : ℕ) → end ≡ at + n → Err end ≡ part_at at f
part_wrong at e end p = ap {B = Result ℕ ℕ} Err p ∙ sym (ap (part_at at) e)

-- and what a part answers of its figures
pub is_well : (at : ℕ) (f : Figures) (end : ℕ) → Ok end ≡ part_at at f → (f.well ≡ true) × (end ≡ at + f.size)
is_well at f end = go f.well refl
  where
    go : (w : Bool) → f.well ≡ w → Ok end ≡ (if w then Ok (at + f.size) else Err (at + f.size)) → (f.well ≡ true) × (end ≡ at + f.size)
    go true q e = (q, cc)
    go false q e = absurd (cc)

pub is_wrong : (at : ℕ) (f : Figures) (end : ℕ) → Err end ≡ part_at at f → (f.well ≡ false) × (end ≡ at + f.size)
is_wrong at f end = go f.well refl
  where
    go : (w : Bool) → f.well ≡ w → Err end ≡ (if w then Ok (at + f.size) else Err (at + f.size)) → (f.well ≡ false) × (end ≡ at + f.size)
    go true q e = absurd (cc)
    go false q e = (q, cc)

pub lexed_is : (at : ℕ) {l : Lexeme} {kind n : ℕ} → l ≡ is kind n → (end : ℕ) → end ≡ at + n → record { kind = kind; end = end } ≡ ends_at at l
lexed_is at {l} {kind} {n} e end p = ap {B = Lexed} (λ (m : ℕ). record { kind = kind; end = m }) p ∙ sym (ap (ends_at at) e)

-- an opening of n bytes before a body
pub opened_by : (at n : ℕ) (b : Body) (kind error : ℕ) → ends_at (at + n) (enclosed 0 b kind error) ≡ ends_at at (enclosed n b kind error)
opened_by at n b kind error = ap {B = Lexed} (λ (m : ℕ). record { kind = cond b.closed kind error; end = m }) (omega arith)

-- what `next_token` answers is the token there
pub next_is : (s : List ℕ) (at : ℕ) (r : Lexed) → r ≡ ends_at at (lexeme (after_dot_at s at) (drop at s)) → token_at s at ≡ token r.kind at r.end
unfolding token_at
next_is s at r e = ap (λ (x : Lexed). token x.kind at x.end) (sym e)

-- it has at least one byte, and lies in the text
pub next_lies : (s : List ℕ) (at : ℕ) (r : Lexed) → at < length s → r ≡ ends_at at (lexeme (after_dot_at s at) (drop at s)) → (at < r.end) × (r.end ≤ length s)
next_lies s at r h e = let f = step_fits s at h in let n = ap (λ (t : Token). t.end) (next_is s at r e) in (omega arith, omega arith)

-- what a slice from i on has
pub rest : (s : List ℕ) (i : ℕ) → take (length s - i) (drop i s) ≡ drop i s
rest s i = take_all (length s - i) (drop i s) (omega (arith, length-drop i s))
