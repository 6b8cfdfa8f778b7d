-- From one edge of a block to the next. Assumes nothing.
use Prim.Native.Nat.{ℕ, ◌+◌, ◌-◌, ◌*◌, ◌/◌, ◌%◌, ◌^◌, ◌≤◌, ◌<◌}
use native.Mathlib.Omega.{arith}
use native.Mathlib.Nat.{mod-eq_of_lt, zero-div}
use native.Mathlib.Decide.{dec_lt}
use mathlib.Core.Path.{◌≡◌, sym, ap, ◌∙◌, subst}
use mathlib.Core.List.{List}
use mathlib.Core.Bool.{Bool, true, false, ◌&&◌}
use lib.ListN.{length, get_or, drop}
use lib.Dec.{ltb}
use lib.Count.{count_trailing_zeros}
use lib.Bits.{bit_and}
use borrow.Author.Tests.{ltb-true, lt-ltb, le-ltb}
use Rattle.rules.specs.Tokens.{lexeme, after_dot_at}
use Rattle.rules.proofs.Tests.{and_both}
use Rattle.lexer.specs.Ends.{ends_at}
use Rattle.lexer.specs.declared.token.Lexed.{Lexed}
use Rattle.blocks.specs.Edges.{edge, edge_after}
use Rattle.blocks.proofs.Sets.{set-lt}
use Rattle.edges.specs.Leads.{lead, told}
use Rattle.edges.specs.declared.Rest.{Rest}
use Rattle.edges.specs.Left.{Block, Left}
use Rattle.edges.proofs.Firsts.{First, first, cleared}
use Rattle.edges.proofs.Drops.{kept}
use Rattle.edges.proofs.Tokens.{plain}

-- an offset that is not after another, and one that is after both
not_after : (s : List ℕ) (at q : ℕ) → q ≤ at → edge_after s at q ≡ false
not_after s at q h = ap (λ (t : Bool). t && edge s q) (le-ltb at q h)

is-after : (s : List ℕ) (at q : ℕ) → at < q → edge_after s at q ≡ edge s q
is-after s at q h = ap (λ (t : Bool). t && edge s q) (lt-ltb at q h)

module _ (s : List ℕ) (start : ℕ) (r : Rest) (n : r.bits ≡ 0 → ⊥) (b : Left s start r) where
  abbrev base : ℕ
  base = r.base

  abbrev bits : ℕ
  bits = r.bits

  abbrev block : Block s start r
  block = b n

  abbrev z : ℕ
  z = count_trailing_zeros 64 bits

  found : First (edge_after s start) 64 base z bits
  found = subst (λ (m : ℕ). First (edge_after s start) 64 base (count_trailing_zeros 64 m) m) (sym block.2) (first (edge_after s start) 64 base)

  pub before_end : z < 64
  before_end = go (dec_lt z 64)
    where
      go : Dec (z < 64) → z < 64
      go (yes h) = h
      go (no h) = let u = found.upto in absurd (n (found.full (omega arith)))

  pub end_in : base + z + 8 ≤ length s
  end_in = let h = before_end in let r = block.1 in omega arith

  here : (ltb start (base + z) ≡ true) × (edge s (base + z) ≡ true)
  here = and_both (ltb start (base + z)) (edge s (base + z)) (found.some before_end)

  pub end_after : start < base + z
  end_after = ltb-true start (base + z) here.0

  none : (q : ℕ) → start < q → q < base + z → edge s q ≡ false
  none q h l =
      let x : base + (q - base) ≡ q = let f = block.0 in omega arith in
      sym (is-after s start q h) ∙ subst (λ (k : ℕ). edge_after s start k ≡ false) x (found.none (q - base) (let f = block.0 in omega arith))

  pub token : ((k : ℕ) → get_or s k 0 < 256) → start < length s → told (lead (get_or s start 0)) (lead (get_or s (base + z) 0)) ≡ true
      → ◌≡◌ {A = Lexed} (record { kind = lead (get_or s start 0) % 64; end = base + z }) (ends_at start (lexeme (after_dot_at s start) (drop start s)))
  token fits h t = plain s start (base + z) fits h end_after end_in none here.1 t

  pub next : Left s (base + z) (record { base = base; bits = bit_and bits (bits - 1) })
  next x = (
    omega arith,
    block.1,
    ap (λ (m : ℕ). bit_and m (m - 1)) block.2
        ∙ cleared (edge_after s start) (edge_after s (base + z)) 64 base z before_end found.none (found.some before_end)
        (λ k h. not_after s (base + z) (base + k) (omega arith))
        (λ k h l. is-after s (base + z) (base + k) (omega arith) ∙ sym (is-after s start (base + k) (let e = end_after in omega arith))),
  )

-- after a token that was read
pub later : (s : List ℕ) (start : ℕ) (r : Rest) (end : ℕ) → r.base ≤ end → end - r.base < 63 → start < end → Left s start r
    → Left s end (record { base = r.base; bits = r.bits / 2 ^ (end - r.base + 1) * 2 ^ (end - r.base + 1) % 2 ^ 64 })
later s start r end h m l b x =
    let base = r.base in
    let d = 2 ^ (end - base + 1) in
    let n : r.bits ≡ 0 → ⊥ = λ z. x (ap (λ (b : ℕ). b / d * d % 2 ^ 64) z ∙ ap (λ (b : ℕ). b * d % 2 ^ 64) (zero-div d) ∙ omega arith) in
    let k = b n in
    let e =
    ap (λ (a : ℕ). a / d * d) k.2
    ∙ kept (edge_after s start) (edge_after s end) (end - base + 1) base (omega arith)
    (λ j q. not_after s end (base + j) (omega arith))
    (λ j q r. is-after s end (base + j) (omega arith) ∙ sym (is-after s start (base + j) (omega arith))) in
    (h, k.1, ap (λ (a : ℕ). a % 2 ^ 64) e ∙ mod-eq_of_lt (set-lt 64 (edge_after s end) base))
