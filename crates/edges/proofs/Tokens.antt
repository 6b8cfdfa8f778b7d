-- The token from edge to edge, where its first byte minds nothing of the byte after it. Assumes nothing.
use Prim.Native.Nat.{ℕ, zero, suc, ◌+◌, ◌-◌, ◌%◌, ◌≤◌, ◌<◌}
use native.Mathlib.Omega.{arith}
use native.Mathlib.Nat.{add-zero}
use native.Mathlib.Decide.{dec_lt}
use mathlib.Core.Path.{◌≡◌, refl, sym, ap, ap₂, ◌∙◌, subst}
use mathlib.Core.List.{List}
use mathlib.Core.Bool.{Bool, true, false, not, cond, ◌&&◌, ◌||◌, and-false}
use mathlib.Core.Logic.{◌⊎◌, inl, inr}
use lib.ListN.{length, get_or, drop}
use lib.Dec.{ltb, eqb}
use borrow.Author.Tests.{ltb-true, ltb-false, lt-ltb, not-true, eq-eqb}
use Rattle.rules.specs.Characters.{exclamation, dollar, star, dash, slash, colon, less, equals, greater, at, backslash, bar}
use Rattle.rules.specs.Utf8.{within}
use Rattle.rules.specs.Classes.{in_ranges, white_space, digit}
use Rattle.rules.specs.Tables.{white_space_table}
use Rattle.rules.specs.Kinds.{NoToken, Whitespace, Number, BareWord, DollarSign}
use Rattle.rules.specs.Lexeme.{two}
use Rattle.rules.specs.Operators.{pair, spaceship}
use Rattle.rules.specs.Words.{starts_word, word_character}
use Rattle.rules.specs.Dollars.{tag_byte}
use Rattle.rules.specs.Tokens.{lexeme, after_dot_at}
use Rattle.rules.proofs.Tests.{clash, and_both, both, or_cases, eqb-true}
use Rattle.rules.proofs.Tables.{agree_at, ascii_space}
use Rattle.rules.proofs.NumberBytes.{digit_ascii, radix_high}
use Rattle.rules.proofs.RuleBytes.{by_spaces, by_letters, by_numeral, by_dollar}
use Rattle.runs.specs.Classes.{past, inside, Skips}
use Rattle.lexer.specs.Ends.{ends_at}
use Rattle.lexer.specs.FirstBytes.{among, first_byte_kind}
use Rattle.lexer.specs.Words.{ascii_word}
use Rattle.lexer.specs.declared.token.Lexed.{Lexed}
use Rattle.lexer.proofs.Classes.{ascii_tag, below}
use Rattle.lexer.proofs.Edges.{inside_words}
use Rattle.lexer.proofs.Ends.{lexed_is}
use Rattle.lexer.proofs.FirstByteKinds.{lead_word, lead-space, lead-number, lead_operates, lead_alone, lead-longer}
use Rattle.lexer.proofs.FirstBytes.{beyond}
use Rattle.lexer.specs.HereDocs.{TagEnd}
use Rattle.lexer.proofs.HereDocs.{no_tag}
use Rattle.lexer.proofs.Matches.{not-among}
use Rattle.lexer.proofs.Runs.{run_over}
use Rattle.lexer.proofs.FastNumbers.{told_whole}
use Rattle.lexer.proofs.Decided.{told_alone, told-single}
use Rattle.blocks.specs.Edges.{word_edges, figure_edges, outside, cuts, edge}
use Rattle.edges.specs.Leads.{before_equals, before_greater, before_others, others, after, plain_kind, lead, told}
use Rattle.edges.proofs.Tells.{some_kind_lem, of_dollar, of_word, of_number, of_space, not-backslash, of_equals, of_greater, of_others, not_wide, not-letter, not-dot, not_tag, not-dollar, not-equals, not-greater, not_other, kind_of, kind_told, kind_small}

-- The two classes of a byte.
abbrev in_word : ℕ → Bool
in_word = inside word_edges

abbrev in_figure : ℕ → Bool
in_figure = inside figure_edges

-- a byte of both is a digit, and one of the second alone is white space
split : (x : ℕ) → ((in_word x && in_figure x) ≡ digit x) × ((not (in_word x) && in_figure x) ≡ (ltb x 0x80 && white_space x))
unfolding past white_space in_ranges white_space_table
split x = go (ltb x 0x80) refl
  where
    go : (t : Bool) → ltb x 0x80 ≡ t → (((t && past word_edges x) && (t && past figure_edges x)) ≡ digit x) × ((not (t && past word_edges x) && (t && past figure_edges x)) ≡ (t && white_space x))
    go true e =
        let l = ltb-true x 0x80 e in
        (agree_at (λ x. past word_edges x && past figure_edges x) digit 0x80 refl x l, agree_at (λ x. not (past word_edges x) && past figure_edges x) white_space 0x80 refl x l)
    go false e = (sym (radix_high false x (ltb-false x 0x80 e)), refl)

-- one of the first alone starts a word
starts : (x : ℕ) → in_word x ≡ true → in_figure x ≡ false → starts_word x ≡ true
unfolding past
starts x a b = go (ltb x 0x80) refl a b
  where
    go : (t : Bool) → ltb x 0x80 ≡ t → (t && past word_edges x) ≡ true → (t && past figure_edges x) ≡ false → starts_word x ≡ true
    go true e a b =
        by (or_cases (not (past word_edges x)) (past figure_edges x || starts_word x) (agree_at (λ x. not (past word_edges x) || (past figure_edges x || starts_word x)) (λ x. true) 0x80 refl x (ltb-true x 0x80 e)))
      where
        by : (not (past word_edges x) ≡ true) ⊎ ((past figure_edges x || starts_word x) ≡ true) → starts_word x ≡ true
        by (inl q) = clash a (not-true _ q)
        by (inr q) = sym (ap (λ (t : Bool). t || starts_word x) b) ∙ q
    go false e a b = clash a refl

-- what an edge, or none, tells of a byte, by the byte before
word_on : (w f b : Bool) → cuts (not w) (not f) false b ≡ false → w ≡ true
word_on true f b e = refl
word_on false true true e = sym e
word_on false true false e = sym e
word_on false false true e = sym e
word_on false false false e = sym e

word_off : (w f b : Bool) → cuts (not w) (not f) false b ≡ true → (w ≡ false) ⊎ (f ≡ false)
word_off false f b e = inl refl
word_off true false b e = inr refl
word_off true true true e = inl (sym e)
word_off true true false e = inl (sym e)

digit_on : (w f : Bool) → cuts (not w) (not f) false false ≡ false → (w && f) ≡ true
digit_on true true e = refl
digit_on true false e = sym e
digit_on false true e = sym e
digit_on false false e = sym e

digit_off : (w f : Bool) → cuts (not w) (not f) false false ≡ true → (w && f) ≡ false
digit_off true true e = sym e
digit_off true false e = refl
digit_off false true e = refl
digit_off false false e = refl

space_on : (w f : Bool) → cuts (not w) (not f) true false ≡ false → (not w && f) ≡ true
space_on true true e = sym e
space_on true false e = sym e
space_on false true e = refl
space_on false false e = sym e

space_off : (w f : Bool) → cuts (not w) (not f) true false ≡ true → (not w && f) ≡ false
space_off true true e = refl
space_off true false e = refl
space_off false true e = sym e
space_off false false e = refl

other_off : (w f : Bool) → cuts (not w) (not f) true true ≡ false → ⊥
other_off true true e = clash refl e
other_off true false e = clash refl e
other_off false true e = clash refl e
other_off false false e = clash refl e

-- an operator's byte and the one after it, where nothing longer begins with the two
module _ (a b : ℕ) (p : among before_equals a ≡ true → eqb b equals ≡ false) (q : among before_greater a ≡ true → eqb b greater ≡ false)
    (r : among before_others a ≡ true → among others b ≡ false) where
  off : (ks : List ℕ) (x y : ℕ) → (among ks a ≡ true → eqb b y ≡ false) → among ks x ≡ true → two a b x y ≡ false
  off ks x y f m = go (eqb a x) refl
    where
      go : (t : Bool) → eqb a x ≡ t → (t && eqb b y) ≡ false
      go true e = f (ap (among ks) (eqb-true e) ∙ m)
      go false e = refl

  other : (x y : ℕ) → among before_others x ≡ true → among others y ≡ true → two a b x y ≡ false
  other x y m n = off before_others x y (λ e. not-among others b (r e) y n) m

  no_pair : eqb a backslash ≡ false → pair a b ≡ 0
  unfolding pair
  no_pair e =
      simp (
        e,
        off before_equals exclamation equals p refl,
        off before_equals less equals p refl,
        off before_equals greater equals p refl,
        off before_equals equals equals p refl,
        off before_greater less greater q refl,
        off before_greater dash greater q refl,
        off before_greater equals greater q refl,
        other colon colon refl refl,
        other bar bar refl refl,
        other at at refl refl,
      )

  no_ship : (d : ℕ) → spaceship a b d ≡ false
  no_ship d = simp (off before_equals less equals p refl, off before_greater equals greater q refl)

module _ (s : List ℕ) (i e : ℕ) (fits : (k : ℕ) → get_or s k 0 < 256) (h : i < length s) (l : i < e) (room : e + 8 ≤ length s)
    (none : (q : ℕ) → i < q → q < e → edge s q ≡ false) (some : edge s e ≡ true) (t : told (lead (get_or s i 0)) (lead (get_or s e 0)) ≡ true) where
  abbrev a : ℕ
  a = get_or s i 0

  abbrev b : ℕ
  b = get_or s e 0

  -- a class that the byte before keeps where there is no edge goes on to the edge
  module _ (p : ℕ → Bool) (first : p a ≡ true) (on : (x y : ℕ) → p x ≡ true → cuts (not (in_word y)) (not (in_figure y)) (not (in_word x)) (not (in_figure x)) ≡ false → p y ≡ true) where
    along : (n : ℕ) → i + n < e → p (get_or s (i + n) 0) ≡ true
    along zero m = ap (λ (k : ℕ). p (get_or s k 0)) (add-zero i) ∙ first
    along (suc n) m =
        let q : i + suc n - 1 ≡ i + n = omega arith in
        on (get_or s (i + n) 0) (get_or s (i + suc n) 0) (along n (omega arith))
        (subst (λ (k : ℕ). cuts (outside word_edges s (i + suc n)) (outside figure_edges s (i + suc n)) (outside word_edges s k) (outside figure_edges s k) ≡ false) q (none (i + suc n) (omega arith) m))

    all : (k : ℕ) → i ≤ k → k < e → p (get_or s k 0) ≡ true
    all k m n = let q : i + (k - i) ≡ k = omega arith in subst (λ (k : ℕ). p (get_or s k 0) ≡ true) q (along (k - i) (omega arith))

    last : p (get_or s (e - 1) 0) ≡ true
    last = all (e - 1) (omega arith) (omega arith)

  abbrev Is : Type 0
  Is = ◌≡◌ {A = Lexed} (record { kind = lead a % 64; end = e }) (ends_at i (lexeme (after_dot_at s i) (drop i s)))

  -- of a kind that the byte tells
  named : (k : ℕ) → first_byte_kind a ≡ k → 0 < k → k < 128 → record { kind = k; end = e } ≡ ends_at i (lexeme (after_dot_at s i) (drop i s)) → Is
  named k f n m r = ap {B = Lexed} (λ (n : ℕ). record { kind = n; end = e }) (kind_of a (fits i) ∙ kind_told a (λ z. omega (arith, f)) ∙ omega (arith, f)) ∙ r

  -- a word
  word_step : (x y : ℕ) → in_word x ≡ true → cuts (not (in_word y)) (not (in_figure y)) (not (in_word x)) (not (in_figure x)) ≡ false → in_word y ≡ true
  word_step x y f c = word_on (in_word y) (in_figure y) (not (in_figure x)) (subst (λ (w : Bool). cuts (not (in_word y)) (not (in_figure y)) (not w) (not (in_figure x)) ≡ false) f c)

  word : first_byte_kind a ≡ BareWord → Is
  word k =
      let v = lead_word a k in
      let u = of_word a b (fits i) (fits e) t k in
      let bl = not_wide b (fits e) u.0 in
      let first : in_word a ≡ true = inside_words a ∙ both (ltb a 0x80) (word_character a) (lt-ltb a 0x80 v.0) (tagged v.0 v.1) in
      let stop : in_word b ≡ false = ends first u.1 in
      let r : Skips ascii_word s i e = record { from = omega arith; upto = omega arith; pass = λ k m n. sym (inside_words (get_or s k 0)) ∙ all in_word first word_step k m n; stop = λ x. sym (inside_words b) ∙ stop } in
      named BareWord k (omega arith) (omega arith) (lexed_is i (by_letters (after_dot_at s i) s i h v.0 v.1) e (run_over s i e word_character r (omega arith) bl))
    where
      tagged : a < 0x80 → starts_word a ≡ true → word_character a ≡ true
      tagged l q = ascii_tag a l ∙ agreed
        where
          agreed : tag_byte a ≡ true
          agreed = by (or_cases (not (starts_word a)) (tag_byte a) (agree_at (λ x. not (starts_word x) || tag_byte x) (λ x. true) 0x80 refl a l))
            where
              by : (not (starts_word a) ≡ true) ⊎ (tag_byte a ≡ true) → tag_byte a ≡ true
              by (inl x) = clash q (not-true _ x)
              by (inr x) = x

      ends : in_word a ≡ true → eqb (after b) 1 ≡ false → in_word b ≡ false
      ends first n1 =
          let c = subst (λ (w : Bool). cuts (outside word_edges s e) (outside figure_edges s e) (not w) (outside figure_edges s (e - 1)) ≡ true) (last in_word first word_step) some in
          by (word_off (in_word b) (in_figure b) (outside figure_edges s (e - 1)) c)
        where
          by : (in_word b ≡ false) ⊎ (in_figure b ≡ false) → in_word b ≡ false
          by (inl x) = x
          by (inr x) = go (in_word b) refl
            where
              go : (w : Bool) → in_word b ≡ w → w ≡ false
              go false q = refl
              go true q = clash (starts b q x) (not-letter b (fits e) n1)

  -- white space
  abbrev space_byte : ℕ → Bool
  space_byte x = not (in_word x) && in_figure x

  space-step : (x y : ℕ) → space_byte x ≡ true → cuts (not (in_word y)) (not (in_figure y)) (not (in_word x)) (not (in_figure x)) ≡ false → space_byte y ≡ true
  space-step x y f c =
      let w = and_both (not (in_word x)) (in_figure x) f in
      space_on (in_word y) (in_figure y) (subst (λ (u : Bool). cuts (not (in_word y)) (not (in_figure y)) true (not u) ≡ false) w.1 (subst (λ (u : Bool). cuts (not (in_word y)) (not (in_figure y)) u (not (in_figure x)) ≡ false) w.0 c))

  space : first_byte_kind a ≡ Whitespace → Is
  space k =
      let v = lead-space a k in
      let bl = not_wide b (fits e) (of_space a b (fits i) (fits e) t k) in
      let first : space_byte a ≡ true = (split a).1 ∙ both (ltb a 0x80) (white_space a) (lt-ltb a 0x80 v.0) v.1 in
      let w = and_both (not (in_word (get_or s (e - 1) 0))) (in_figure (get_or s (e - 1) 0)) (last space_byte first space-step) in
      let stop : space_byte b ≡ false = space_off (in_word b) (in_figure b) (subst (λ (u : Bool). cuts (not (in_word b)) (not (in_figure b)) true (not u) ≡ true) w.1 (subst (λ (u : Bool). cuts (not (in_word b)) (not (in_figure b)) u (not (in_figure (get_or s (e - 1) 0))) ≡ true) w.0 some)) in
      let r : Skips (λ b. ltb b 0x80 && white_space b) s i e = record { from = omega arith; upto = omega arith; pass = λ k m n. sym (split (get_or s k 0)).1 ∙ all space_byte first space-step k m n; stop = λ x. sym (split b).1 ∙ stop } in
      named Whitespace k (omega arith) (omega arith) (lexed_is i (by_spaces (after_dot_at s i) s i h v.0 v.1) e (run_over s i e white_space r (omega arith) bl))

  -- digits
  abbrev digit_byte : ℕ → Bool
  digit_byte x = in_word x && in_figure x

  digit-step : (x y : ℕ) → digit_byte x ≡ true → cuts (not (in_word y)) (not (in_figure y)) (not (in_word x)) (not (in_figure x)) ≡ false → digit_byte y ≡ true
  digit-step x y f c =
      let w = and_both (in_word x) (in_figure x) f in
      digit_on (in_word y) (in_figure y) (subst (λ (u : Bool). cuts (not (in_word y)) (not (in_figure y)) false (not u) ≡ false) w.1 (subst (λ (u : Bool). cuts (not (in_word y)) (not (in_figure y)) (not u) (not (in_figure x)) ≡ false) w.0 c))

  number : first_byte_kind a ≡ Number → Is
  number k =
      let v = lead-number a k in
      let u = of_number a b (fits i) (fits e) t k in
      let bl = not_wide b (fits e) u.0 in
      let first : digit_byte a ≡ true = (split a).0 ∙ v.1 in
      let w = and_both (in_word (get_or s (e - 1) 0)) (in_figure (get_or s (e - 1) 0)) (last digit_byte first digit-step) in
      let stop : digit_byte b ≡ false = digit_off (in_word b) (in_figure b) (subst (λ (u : Bool). cuts (not (in_word b)) (not (in_figure b)) false (not u) ≡ true) w.1 (subst (λ (u : Bool). cuts (not (in_word b)) (not (in_figure b)) (not u) (not (in_figure (get_or s (e - 1) 0))) ≡ true) w.0 some)) in
      let r : Skips digit s (i + 1) e = record { from = omega arith; upto = omega arith; pass = λ k m n. sym (split (get_or s k 0)).0 ∙ all digit_byte first digit-step k (omega arith) n; stop = λ x. sym (split b).0 ∙ stop } in
      named Number k (omega arith) (omega arith)
      (told_whole s i e h v.1 (omega arith) bl (no_word bl stop (not-letter b (fits e) u.1)) r (not-dot b (fits e) u.2) (after_dot_at s i)
      ∙ ap (ends_at i) (sym (by_numeral (after_dot_at s i) s i h (digit_ascii s i h v.1) v.1)))
    where
      no_word : b < 0x80 → digit_byte b ≡ false → starts_word b ≡ false → word_character b ≡ false
      no_word bl d n = below word_character b bl (inside_words b) ∙ go (in_word b) (in_figure b) refl refl
        where
          go : (w f : Bool) → in_word b ≡ w → in_figure b ≡ f → in_word b ≡ false
          go false f p q = p
          go true true p q = clash (ap₂ ◌&&◌ p q) d
          go true false p q = clash (starts b p q) n

  -- a byte that is neither a word's nor white space ends at once
  at_next : word_character a ≡ false → white_space a ≡ false → e ≡ i + 1
  at_next w f = go (dec_lt (i + 1) e)
    where
      no_w : in_word a ≡ false
      no_w = inside_words a ∙ ap (λ (t : Bool). ltb a 0x80 && t) w ∙ and-false (ltb a 0x80)

      no_f : in_figure a ≡ false
      no_f = sym (ap (λ (t : Bool). not t && in_figure a) no_w) ∙ (split a).1 ∙ ap (λ (t : Bool). ltb a 0x80 && t) f ∙ and-false (ltb a 0x80)

      go : Dec (i + 1 < e) → e ≡ i + 1
      go (no m) = omega arith
      go (yes m) =
          let q : i + 1 - 1 ≡ i = omega arith in
          let c : cuts (outside word_edges s (i + 1)) (outside figure_edges s (i + 1)) (not (in_word a)) (not (in_figure a)) ≡ false = subst (λ (k : ℕ). cuts (outside word_edges s (i + 1)) (outside figure_edges s (i + 1)) (outside word_edges s k) (outside figure_edges s k) ≡ false) q (none (i + 1) (omega arith) m) in
          absurd (other_off (in_word (get_or s (i + 1) 0)) (in_figure (get_or s (i + 1) 0))
          (subst (λ (u : Bool). cuts (outside word_edges s (i + 1)) (outside figure_edges s (i + 1)) true (not u) ≡ false) no_f (subst (λ (u : Bool). cuts (outside word_edges s (i + 1)) (outside figure_edges s (i + 1)) (not u) (not (in_figure a)) ≡ false) no_w c)))

  alone : BareWord < first_byte_kind a → first_byte_kind a < 0x80 → Is
  alone m n =
      let o = lead_operates a m in
      let v = lead_alone a m n in
      named (first_byte_kind a) refl (omega arith) (omega arith)
      (ap {B = Lexed} (λ (k : ℕ). record { kind = first_byte_kind a; end = k }) (at_next o.word o.space) ∙ told_alone (after_dot_at s i) s i h o v.0 (first_byte_kind a) v.1)

  longer : BareWord < first_byte_kind a → 0x80 ≤ first_byte_kind a → Is
  longer m n =
      let o = lead_operates a m in
      let q = at_next o.word o.space in
      let f : among before_equals a ≡ true → eqb (get_or s (i + 1) 0) equals ≡ false = λ z. subst (λ (k : ℕ). eqb (get_or s k 0) equals ≡ false) q (not-equals b (fits e) (of_equals a b (fits i) (fits e) t z)) in
      let g : among before_greater a ≡ true → eqb (get_or s (i + 1) 0) greater ≡ false = λ z. subst (λ (k : ℕ). eqb (get_or s k 0) greater ≡ false) q (not-greater b (fits e) (of_greater a b (fits i) (fits e) t z)) in
      let r : among before_others a ≡ true → among others (get_or s (i + 1) 0) ≡ false = λ z. subst (λ (k : ℕ). among others (get_or s k 0) ≡ false) q (not_other b (fits e) (of_others a b (fits i) (fits e) t z)) in
      let c = get_or s (i + 1) 0 in
      ap {B = Lexed} (λ (x : Lexed). x) (ends q)
      ∙ told-single (after_dot_at s i) s i h o (no_ship a c f g r (get_or s (i + 2) 0)) (other a c f g r dash dash refl refl) (other a c f g r slash star refl refl) 0 (sym (no_pair a c f g r (not-backslash a b (fits i) (fits e) t n))) refl (lead a % 64) (lead-longer a n ∙ rest)
    where
      ends : e ≡ i + 1 → ◌≡◌ {A = Lexed} (record { kind = lead a % 64; end = e }) (record { kind = lead a % 64; end = i + 1 })
      ends q = ap {B = Lexed} (λ (k : ℕ). record { kind = lead a % 64; end = k }) q

      rest : first_byte_kind a - 0x80 ≡ lead a % 64
      rest = omega (arith, kind_of a (fits i), kind_told a (λ z. omega arith), kind_small a (fits i))

  -- a `$` before a byte that is no tag's and no `$`
  dollars : a ≡ dollar → Is
  unfolding plain_kind
  dollars k =
      let u = of_dollar a b (fits i) (fits e) t k in
      let q = at_next (ascii_tag a (omega arith) ∙ ap tag_byte k) (ascii_space a (omega arith) ∙ ap (λ (x : ℕ). eqb x 0x20 || within 0x09 0x0D x) k) in
      let r : TagEnd s (i + 1) e = record { from = omega arith; upto = omega arith; tags = λ k m n. absurd (omega arith); over = not_tag b (fits e) u.0 u.1 } in
      ap {B = Lexed} (λ (n : ℕ). record { kind = n; end = e }) (kind_of a (fits i) ∙ ap (λ (x : Bool). cond x DollarSign (first_byte_kind a % 128)) (eq-eqb a dollar k))
      ∙ ap {B = Lexed} (λ (n : ℕ). record { kind = DollarSign; end = n }) q
      ∙ no_tag s i e r (λ z. clash (eq-eqb b dollar z) (not-dollar b (fits e) u.2))
      ∙ ap (ends_at i) (sym (by_dollar (after_dot_at s i) s i h (omega arith) k))

  pub plain : Is
  plain = go (eqb (first_byte_kind a) BareWord) (eqb (first_byte_kind a) Whitespace) (eqb (first_byte_kind a) Number) (eqb (first_byte_kind a) NoToken) (dec_lt (first_byte_kind a) 0x80) refl refl refl refl
    where
      other : (k : ℕ) → eqb (first_byte_kind a) k ≡ false → first_byte_kind a ≡ k → ⊥
      other k f q = clash (eq-eqb (first_byte_kind a) k q) f

      go : (u v w n : Bool) → Dec (first_byte_kind a < 0x80) → eqb (first_byte_kind a) BareWord ≡ u → eqb (first_byte_kind a) Whitespace ≡ v → eqb (first_byte_kind a) Number ≡ w → eqb (first_byte_kind a) NoToken ≡ n → Is
      go true v w n x p q r z = word (eqb-true p)
      go false true w n x p q r z = space (eqb-true q)
      go false false true n x p q r z = number (eqb-true r)
      go false false false true x p q r z = dollars (some_kind_lem a b (fits i) (fits e) t (eqb-true z))
      go false false false false (yes x) p q r z = alone (beyond a (other NoToken z) (other Whitespace q) (other Number r) (other BareWord p)) x
      go false false false false (no x) p q r z = longer (omega arith) (omega arith)
