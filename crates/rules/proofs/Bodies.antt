-- Bodies of quoted lexemes, byte by byte: what one byte, or a few, say of the rest of the body.
-- Assumes nothing.
use Prim.Native.Nat.{ℕ, ◌+◌, ◌%◌, ◌≤◌, ◌<◌}
use native.Mathlib.Omega.{arith}
use native.Mathlib.Nat.{add-zero}
use mathlib.Core.Path.{◌≡◌, refl, sym, ap, ◌∙◌}
use mathlib.Core.List.{List, [], ◌∷◌}
use mathlib.Core.Bool.{Bool, true, false, not, ◌&&◌, ◌||◌}
use lib.Dec.{eqb}
use lib.ListN.{length, get_or, drop}
use lib.Seq.{get_or-drop}
use borrow.Author.Tests.{le-leb, eq-eqb, ne_eqb, not-true}
use Rattle.rules.specs.Utf8.{Char, width, no_code, well_formed, code_of, char_of, char_at, chars}
use Rattle.rules.specs.Characters.{backslash}
use Rattle.rules.specs.Lexeme.{Body, further, closed_by, open_to}
use Rattle.rules.specs.Quotes.{quoted_body, up_to}
use Rattle.rules.proofs.Tests.{clash, eqb-true}
use Rattle.rules.proofs.Decoding.{Tail, Form, none, one, two, three, four, form_of, low_of, formed-three, three_other, width-formed, chars-at, chars_ascii, chars_end, some_left, within_text}
use Rattle.rules.proofs.Bytes.{byte_step, taken_step, code_like, next_is}
use Rattle.rules.proofs.Quotes.{quoted_taken, quoted_backslash, quoted_double, quoted_close, quoted_other, up_to_close}

further_none : (b : Body) → further 0 b ≡ b
further_none b = ap (λ (n : ℕ). record { closed = b.closed; bytes = n }) (omega arith)

further_more : (m n : ℕ) (b : Body) → further m (further n b) ≡ further (m + n) b
further_more m n b = ap (λ (n : ℕ). record { closed = b.closed; bytes = n }) (omega arith)

-- Rule 4, the ASCII quotes: the body that begins at an index.
abbrev quoted_from : ℕ → List ℕ → ℕ → Body
quoted_from q s i = quoted_body q false (chars (drop i s))

-- What the byte at an index says of it. A pair lies within the text.
pub record QuotedAt (q : ℕ) (s : List ℕ) (i : ℕ) : Type 0 where
  pub escape : get_or s i 0 ≡ backslash → i + 1 < length s → quoted_from q s i ≡ further 2 (quoted_from q s (i + 2))
  pub cut : get_or s i 0 ≡ backslash → i + 1 ≡ length s → quoted_from q s i ≡ open_to 1
  pub pair : get_or s i 0 ≡ q → get_or s (i + 1) 0 ≡ q → (quoted_from q s i ≡ further 2 (quoted_from q s (i + 2))) × (i + 1 < length s)
  pub shut : get_or s i 0 ≡ q → (get_or s (i + 1) 0 ≡ q → ⊥) → quoted_from q s i ≡ closed_by 1
  pub pass : (get_or s i 0 ≡ backslash → ⊥) → (get_or s i 0 ≡ q → ⊥) → quoted_from q s i ≡ further 1 (quoted_from q s (i + 1))

module _ (q : ℕ) (some : 0 < q) (small : q < 0x80) (other : q ≡ backslash → ⊥) (s : List ℕ) where
  stops : ℕ → Bool
  stops c = eqb c backslash || eqb c q

  calm : ℕ → Bool
  calm c = not (stops c)

  stops_not : (c : ℕ) → (c ≡ backslash → ⊥) → (c ≡ q → ⊥) → stops c ≡ false
  unfolding stops
  stops_not c b n = rw (ne_eqb c backslash b, ne_eqb c q n)

  calm_goes : (c : Char) (cs : List Char) → calm c.code ≡ true → quoted_body q false (c ∷ cs) ≡ further (width c) (quoted_body q false cs)
  unfolding stops calm
  calm_goes c cs e = go (eqb c.code backslash) (eqb c.code q) refl refl
    where
      go : (x y : Bool) → eqb c.code backslash ≡ x → eqb c.code q ≡ y → quoted_body q false (c ∷ cs) ≡ further (width c) (quoted_body q false cs)
      go true y ex ey = clash e (rw ex)
      go false true ex ey = clash e (rw (ex, ey))
      go false false ex ey = quoted_other q c cs ex ey

  calm_broken : calm no_code ≡ true
  unfolding calm
  calm_broken = ap not (stops_not no_code (λ e. omega arith) (λ e. omega arith))

  module _ (i : ℕ) (h : i < length s) where
    -- a byte after which the next character is taken
    over : quoted_from q s i ≡ further 1 (quoted_body q true (chars (drop (i + 1) s))) → i + 1 < length s → quoted_from q s i ≡ further 2 (quoted_from q s (i + 2))
    over e l =
        let t : (i + 1) + 1 ≡ i + 2 = omega arith in
        e
        ∙ ap (further 1) (taken_step further further_none further_more (quoted_body q false) calm calm_broken calm_goes s (i + 1) l (quoted_body q true) (quoted_taken q))
        ∙ further_more 1 1 (quoted_from q s ((i + 1) + 1))
        ∙ ap (λ (n : ℕ). further 2 (quoted_from q s n)) t

    takes : get_or s i 0 ≡ backslash → quoted_from q s i ≡ further 1 (quoted_body q true (chars (drop (i + 1) s)))
    takes b = ap (quoted_body q false) (chars_ascii s i h (omega arith)) ∙ quoted_backslash q _ (chars (drop (i + 1) s)) (eq-eqb (get_or s i 0) backslash b)

    -- a quote, by what comes next
    module _ (e : get_or s i 0 ≡ q) where
      one-quote : quoted_from q s i ≡ quoted_body q false (record { code = get_or s i 0; bytes = get_or s i 0 ∷ [] } ∷ chars (drop (i + 1) s))
      one-quote = ap (quoted_body q false) (chars_ascii s i h (omega arith))

      no_backslash : eqb (get_or s i 0) backslash ≡ false
      no_backslash = ne_eqb (get_or s i 0) backslash (λ b. other (sym e ∙ b))

      two_quotes : get_or s (i + 1) 0 ≡ q → quoted_from q s i ≡ further 1 (quoted_body q true (chars (drop (i + 1) s)))
      two_quotes f =
          one-quote
          ∙ quoted_double q _ (chars (drop (i + 1) s)) no_backslash (eq-eqb (get_or s i 0) q e) (next_is q some small s (i + 1) ∙ eq-eqb (get_or s (i + 1) 0) q f)

    cut_off : i + 1 ≡ length s → quoted_body q true (chars (drop (i + 1) s)) ≡ open_to 0
    unfolding quoted_body
    cut_off e = ap (quoted_body q true) (chars_end s (i + 1) (omega arith))

    pub quoted_at : QuotedAt q s i
    unfolding calm
    quoted_at =
        record {
          escape = λ b l. over (takes b) l;
          cut = λ b e. takes b ∙ ap (further 1) (cut_off e);
          pair = λ e f. let w = within_text s (i + 1) (omega arith) in (over (two_quotes e f) w, w);
          shut = λ e n. one-quote e ∙ quoted_close q _ (chars (drop (i + 1) s)) (no_backslash e) (eq-eqb (get_or s i 0) q e) (next_is q some small s (i + 1) ∙ ne_eqb (get_or s (i + 1) 0) q n);
          pass = λ b n.
              byte_step further further_none further_more (quoted_body q false) calm calm_broken calm_goes s i h
              (ap not (code_like stops (λ c l. stops_not c (λ e. omega arith) (λ e. omega arith)) (stops_not 0 (λ e. omega arith) (λ e. omega arith)) s i h ∙ stops_not (get_or s i 0) b n));
        }

-- Rule 4, the Unicode quotes: the character of the bytes E2 80 last, of which `last` is a tail.
abbrev curly : ℕ → ℕ
curly last = 0x2000 + last % 64

abbrev Curly : ℕ → ℕ → ℕ → ℕ → Type 0
Curly last a b c = (a ≡ 0xE2) × (b ≡ 0x80) × (c ≡ last)

module _ (t : List ℕ) (last : ℕ) (tail : Tail last) where
  curly_form : Curly last (get_or t 0 0) (get_or t 1 0) (get_or t 2 0) → well_formed t ≡ 3
  curly_form (a, b, c) =
      formed-three (get_or t 0 0) (get_or t 1 0) (get_or t 2 0) (get_or t 3 0) (omega arith) (omega arith)
      ∙ rw (three_other (get_or t 0 0) (get_or t 1 0) (get_or t 2 0) (omega arith) (omega arith) (λ e. omega arith), b, c, le-leb 0x80 last tail.0, le-leb last 0xBF tail.1)

  curly_code : Curly last (get_or t 0 0) (get_or t 1 0) (get_or t 2 0) → (char_at t).code ≡ curly last
  unfolding char_of code_of
  curly_code b = ap (λ (w : ℕ). (char_of w t).code) (curly_form b) ∙ omega arith

  curly_bytes : (char_at t).code ≡ curly last → Curly last (get_or t 0 0) (get_or t 1 0) (get_or t 2 0)
  unfolding char_of code_of
  curly_bytes e = go (form_of t) e
    where
      go : {w : ℕ} → Form (get_or t 0 0) (get_or t 1 0) (get_or t 2 0) (get_or t 3 0) w → (char_of w t).code ≡ curly last → Curly last (get_or t 0 0) (get_or t 1 0) (get_or t 2 0)
      go none e = absurd (omega arith)
      go (one a) e = absurd (omega arith)
      go (two a a2 b) e = absurd (omega arith)
      go (three a a2 b c) e =
          let fa : get_or t 0 0 % 16 + 0xE0 ≡ get_or t 0 0 = omega arith in
          let fb = low_of b in
          let fc = low_of c in
          let fl = low_of tail in
          (omega arith, omega arith, omega arith)
      go (four a a2 b c d) e = let fa : get_or t 0 0 % 8 + 0xF0 ≡ get_or t 0 0 = omega arith in let fb = low_of b in absurd (omega arith)

module _ (s : List ℕ) (i last : ℕ) (tail : Tail last) where
  curly_here : (char_at (drop i s)).code ≡ curly last → Curly last (get_or s i 0) (get_or s (i + 1) 0) (get_or s (i + 2) 0)
  curly_here e = simp (get_or-drop, add-zero) at (curly_bytes (drop i s) last tail e)

  curly_there : Curly last (get_or s i 0) (get_or s (i + 1) 0) (get_or s (i + 2) 0) → (char_at (drop i s)).code ≡ curly last
  curly_there b = curly_code (drop i s) last tail (simp (get_or-drop, add-zero) b)

  pub curly_at : eqb (char_at (drop i s)).code (curly last) ≡ (eqb (get_or s i 0) 0xE2 && eqb (get_or s (i + 1) 0) 0x80 && eqb (get_or s (i + 2) 0) last)
  curly_at = go (eqb (get_or s i 0) 0xE2) (eqb (get_or s (i + 1) 0) 0x80) (eqb (get_or s (i + 2) 0) last) refl refl refl
    where
      differ : ((char_at (drop i s)).code ≡ curly last → ⊥) → eqb (char_at (drop i s)).code (curly last) ≡ false
      differ n = ne_eqb (char_at (drop i s)).code (curly last) n

      go : (x y z : Bool) → eqb (get_or s i 0) 0xE2 ≡ x → eqb (get_or s (i + 1) 0) 0x80 ≡ y → eqb (get_or s (i + 2) 0) last ≡ z → eqb (char_at (drop i s)).code (curly last) ≡ (x && y && z)
      go true true true a b c = eq-eqb (char_at (drop i s)).code (curly last) (curly_there (eqb-true a, eqb-true b, eqb-true c))
      go true true false a b c = differ (λ e. clash (eq-eqb (get_or s (i + 2) 0) last (curly_here e).2) c)
      go true false z a b c = differ (λ e. clash (eq-eqb (get_or s (i + 1) 0) 0x80 (curly_here e).1) b)
      go false y z a b c = differ (λ e. clash (eq-eqb (get_or s i 0) 0xE2 (curly_here e).0) a)

  pub up_to_shut : eqb (char_at (drop i s)).code (curly last) ≡ true → (up_to (curly last) (chars (drop i s)) ≡ closed_by 3) × (i + 3 ≤ length s)
  up_to_shut t =
      let e : (char_at (drop i s)).code ≡ curly last = eqb-true t in
      let b = curly_here e in
      let w = within_text s (i + 2) (omega arith) in
      let n = width-formed (drop i s) 2 (some_left s i (omega arith)) (curly_form (drop i s) last tail (curly_bytes (drop i s) last tail e)) in
      (ap (up_to (curly last)) (chars-at s i (omega arith)) ∙ up_to_close _ _ (chars (drop (i + width (char_at (drop i s))) s)) e ∙ ap closed_by n, omega arith)

-- A body that goes on up to a code.
module _ (q : ℕ) (point : q < no_code) (s : List ℕ) (i : ℕ) (h : i < length s) where
  elsewhere : ℕ → Bool
  elsewhere c = not (eqb c q)

  up_to_goes : (c : Char) (cs : List Char) → elsewhere c.code ≡ true → up_to q (c ∷ cs) ≡ further (width c) (up_to q cs)
  unfolding elsewhere up_to
  up_to_goes c cs e = rw (not-true (eqb c.code q) e, up_to)

  pub up_to_pass : eqb (char_at (drop i s)).code q ≡ false → up_to q (chars (drop i s)) ≡ further 1 (up_to q (chars (drop (i + 1) s)))
  unfolding elsewhere
  up_to_pass e = byte_step further further_none further_more (up_to q) elsewhere (rw (ne_eqb no_code q (λ e. omega arith))) up_to_goes s i h (rw e)

pub up_to_empty : (q : ℕ) → up_to q [] ≡ open_to 0
unfolding up_to
up_to_empty q = refl
