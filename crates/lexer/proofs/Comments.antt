-- Nested comments, byte by byte.
-- Assumes nothing.
use Prim.Native.Nat.{ℕ, zero, suc, ◌+◌, ◌-◌, ◌≤◌, ◌<◌}
use native.Mathlib.Omega.{arith}
use native.Mathlib.Decide.{dec_lt}
use native.Mathlib.Nat.{add-zero}
use native.Mathlib.Numerals.{add-one}
use mathlib.Core.Path.{◌≡◌, refl, sym, ap, ◌∙◌}
use mathlib.Core.List.{List, ◌∷◌}
use mathlib.Core.Bool.{Bool, true, false, not, ◌&&◌}
use lib.ListN.{length, get_or, drop}
use lib.Seq.{get_or-drop}
use lib.Dec.{leb, eqb}
use borrow.Author.Tests.{ne_eqb, le-leb, leb-true}
use Rattle.rules.specs.Utf8.{Char, char_at, chars}
use Rattle.rules.specs.Characters.{star, slash}
use Rattle.rules.specs.Kinds.{Comment, ErrorMultilineCommentIsNotClosed}
use Rattle.rules.specs.Lexeme.{first, two, Body, further, enclosed}
use Rattle.rules.specs.Spaces.{comment_body}
use Rattle.rules.proofs.Tests.{eqb-true, and_left, and_right}
use Rattle.rules.proofs.Decoding.{within_text, chars_ascii, chars_end, code_high}
use Rattle.rules.proofs.Bytes.{byte_step, next_is}
use Rattle.rules.proofs.Comments.{comment_taken, comment_open, comment_less, comment_close, comment_other}
use Rattle.lexer.specs.declared.token.Lexed.{Lexed}
use Rattle.lexer.specs.Ends.{ends_at}
use Rattle.runs.specs.Classes.{Skips}
use Rattle.lexer.proofs.Runs.{ascii}
use Rattle.lexer.proofs.Skips.{over, neither}

abbrev pub lexed : ℕ → Body → Lexed
lexed j b = ends_at j (enclosed 0 b Comment ErrorMultilineCommentIsNotClosed)

-- The lexeme that a comment with `deeper` more open inside it is, from j on: each turn of the loop keeps it.
abbrev pub comment_at : List ℕ → ℕ → ℕ → Lexed
comment_at s j deeper = lexed j (comment_body deeper false (chars (drop j s)))

moved : (j n : ℕ) (b : Body) → lexed j (further n b) ≡ lexed (j + n) b
moved j n b = let e : j + (0 + (n + b.bytes)) ≡ (j + n) + (0 + b.bytes) = omega arith in rw e

module _ (s : List ℕ) (j : ℕ) where
  pub comment_end : (d : ℕ) → length s ≤ j → comment_at s j d ≡ record { kind = ErrorMultilineCommentIsNotClosed; end = j }
  unfolding comment_body
  comment_end d h = let e : j + 0 ≡ j = omega arith in rw (chars_end s j h) (rw e)

  abbrev pub pair : ℕ → ℕ → Bool
  pair a b = two (get_or s j 0) (get_or s (j + 1) 0) a b

  module _ (h : j < length s) where
    -- two bytes of ASCII are two characters
    pub pair_inside : (a b : ℕ) → 0 < b → pair a b ≡ true → j + 1 < length s
    pair_inside a b z e = let eb : get_or s (j + 1) 0 ≡ b = eqb-true (and_right (eqb (get_or s j 0) a) (eqb (get_or s (j + 1) 0) b) e) in within_text s (j + 1) (omega arith)

    pair-chars : (a b : ℕ) → a < 0x80 → 0 < b → b < 0x80 → pair a b ≡ true
        → chars (drop j s) ≡ ascii a ∷ ascii b ∷ chars (drop (j + 2) s)
    pair-chars a b l z m e =
        let ea : get_or s j 0 ≡ a = eqb-true (and_left (eqb (get_or s j 0) a) (eqb (get_or s (j + 1) 0) b) e) in
        let eb : get_or s (j + 1) 0 ≡ b = eqb-true (and_right (eqb (get_or s j 0) a) (eqb (get_or s (j + 1) 0) b) e) in
        let k : (j + 1) + 1 ≡ j + 2 = omega arith in
        chars_ascii s j h (omega arith)
        ∙ ap (λ (x : ℕ). ascii x ∷ chars (drop (j + 1) s)) ea
        ∙ ap (λ (l : List Char). ascii a ∷ l)
        (chars_ascii s (j + 1) (pair_inside a b z e) (omega arith)
        ∙ ap (λ (x : ℕ). ascii x ∷ chars (drop ((j + 1) + 1) s)) eb
        ∙ ap (λ (n : ℕ). ascii b ∷ chars (drop n s)) k)

    -- `*/` closes the outermost comment, or one inside it
    pub comment_done : pair star slash ≡ true → comment_at s j 0 ≡ record { kind = Comment; end = j + 2 }
    comment_done e =
        ap (λ (cs : List Char). lexed j (comment_body 0 false cs)) (pair-chars star slash (omega arith) (omega arith) (omega arith) e)
        ∙ ap (lexed j) (comment_close (ascii star) (ascii slash ∷ chars (drop (j + 2) s)) refl refl)

    -- a pair after which the comment goes on, with `d` more open inside it
    pair_moved : (b d : ℕ) (B : Body) → B ≡ further 1 (comment_body d true (ascii b ∷ chars (drop (j + 2) s))) → lexed j B ≡ comment_at s (j + 2) d
    pair_moved b d B e =
        let k : (j + 1) + 1 ≡ j + 2 = omega arith in
        let R = comment_body d false (chars (drop (j + 2) s)) in
        ap (lexed j) (e ∙ ap (further 1) (comment_taken (ascii b) (chars (drop (j + 2) s)) d))
        ∙ moved j 1 (further 1 R)
        ∙ moved (j + 1) 1 R
        ∙ ap (λ (n : ℕ). lexed n R) k

    pub comment_shallower : (d : ℕ) → 0 < d → pair star slash ≡ true → comment_at s j d ≡ comment_at s (j + 2) (d - 1)
    comment_shallower zero z e = absurd (omega arith)
    comment_shallower (suc d) z e =
        let n : suc d - 1 ≡ d = omega arith in
        rw n
        (pair_moved slash d (comment_body (suc d) false (chars (drop j s)))
        (ap (comment_body (suc d) false) (pair-chars star slash (omega arith) (omega arith) (omega arith) e)
        ∙ comment_less (ascii star) (ascii slash ∷ chars (drop (j + 2) s)) d refl refl))

    -- `/*` opens one
    pub comment_deeper : (d : ℕ) → pair slash star ≡ true → comment_at s j d ≡ comment_at s (j + 2) (d + 1)
    comment_deeper d e =
        rw (add-one d)
        (pair_moved star (suc d) (comment_body d false (chars (drop j s)))
        (ap (comment_body d false) (pair-chars slash star (omega arith) (omega arith) (omega arith) e)
        ∙ comment_open (ascii slash) (ascii star ∷ chars (drop (j + 2) s)) d refl))

    -- any other byte is passed, whether or not a character begins there
    pub comment_on : (d : ℕ) → pair star slash ≡ false → pair slash star ≡ false → comment_at s j d ≡ comment_at s (j + 1) d
    comment_on d x y = ap (lexed j) (go (dec_lt (get_or s j 0) 0x80)) ∙ moved j 1 (comment_body d false (chars (drop (j + 1) s)))
      where
        high : (a b c : ℕ) → a < 0x80 → leb 0x80 c ≡ true → (n : ℕ) → (eqb c a && eqb n b) ≡ false
        high a b c l q n = let m = leb-true 0x80 c q in rw (ne_eqb c a (λ e. omega arith))

        go : Dec (get_or s j 0 < 0x80) → comment_body d false (chars (drop j s)) ≡ further 1 (comment_body d false (chars (drop (j + 1) s)))
        go (yes l) =
            ap (comment_body d false) (chars_ascii s j h l)
            ∙ comment_other (ascii (get_or s j 0)) (chars (drop (j + 1) s)) d
            (ap (λ (t : Bool). eqb (get_or s j 0) slash && t) (next_is star (omega arith) (omega arith) s (j + 1)) ∙ y)
            (ap (λ (t : Bool). eqb (get_or s j 0) star && t) (next_is slash (omega arith) (omega arith) s (j + 1)) ∙ x)
        go (no l) =
            let e : get_or (drop j s) 0 0 ≡ get_or s j 0 = get_or-drop j s 0 0 ∙ ap (λ (n : ℕ). get_or s n 0) (add-zero j) in
            byte_step further (λ b. ap (λ (n : ℕ). record { closed = b.closed; bytes = n }) (omega arith))
            (λ m n b. ap (λ (k : ℕ). record { closed = b.closed; bytes = k }) (omega arith))
            (comment_body d false) (λ c. leb 0x80 c) refl
            (λ c cs q. comment_other c cs d (high slash star c.code (omega arith) q (first cs)) (high star slash c.code (omega arith) q (first cs)))
            s j h (le-leb 0x80 (char_at (drop j s)).code (code_high (drop j s) (omega arith)))

-- bytes that begin no pair are skipped
pub comment_over : (s : List ℕ) (i j d : ℕ) → Skips (λ x. not (eqb x star) && not (eqb x slash)) s i j → comment_at s j d ≡ comment_at s i d
comment_over s i j d r =
    over (λ k. comment_at s k d ≡ comment_at s i d) (λ x. not (eqb x star) && not (eqb x slash)) s i j
    (λ k h e w. let n = neither (get_or s k 0) star slash e in sym (comment_on s k h d (rw n.0) (rw n.1)) ∙ w) r refl
