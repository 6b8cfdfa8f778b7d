-- #103: the line ends of a text as parts of it, and the units between two indices: what a place is the count of. Assumes nothing.
use Prim.Native.Nat.{ℕ, ◌+◌, ◌≤◌, ◌<◌}
use native.Mathlib.Omega.{arith}
use mathlib.Core.Path.{◌≡◌, refl, ap, ◌∙◌}
use mathlib.Core.List.{List, [], ◌∷◌}
use mathlib.Core.Bool.{Bool, true, false, cond, ◌&&◌, and-false}
use mathlib.Core.Logic.{◌⊎◌, inl, inr}
use lib.Dec.{leb, eqb}
use borrow.Author.Tests.{le-leb, lt-leb, eq-eqb, ne_eqb, eqb-true, eqb-false}
use Rattle.rules.specs.Characters.{line_feed, carriage_return}
use Rattle.rules.specs.Utf8.{Char, width, chars}
use Rattle.rules.specs.Lexeme.{first}
use Rattle.rules.specs.Places.{units}

-- A line end: the bytes from one index up to another.
pub record LineEnd : Type 0 where
  pub from : ℕ
  pub upto : ℕ

abbrev pub bytes : ℕ → ℕ → LineEnd
bytes from upto = record { from = from; upto = upto }

-- "A line ends at LF, at CR LF taken together, or at CR alone": the line ends among characters, the first of which stands at an index.
-- An LF that is taken together with the CR before it is no other line end.
unfoldable pub line_ends_from : ℕ → Bool → List Char → List LineEnd
line_ends_from at taken [] = []
line_ends_from at taken (c ∷ cs) =
    elim (eqb c.code line_feed) [
      | true ↦ elim taken [ true ↦ line_ends_from (at + width c) false cs | false ↦ bytes at (at + 1) ∷ line_ends_from (at + width c) false cs ]
      | false ↦ elim (eqb c.code carriage_return) [
        | true ↦ elim (eqb (first cs) line_feed) [
          | true ↦ bytes at (at + 2) ∷ line_ends_from (at + width c) true cs
          | false ↦ bytes at (at + 1) ∷ line_ends_from (at + width c) false cs
        ]
        | false ↦ line_ends_from (at + width c) false cs
      ]
    ]

abbrev pub line_ends_of : List ℕ → List LineEnd
line_ends_of s = line_ends_from 0 false (chars s)

-- Those that lie wholly before an offset.
unfoldable pub wholly : ℕ → List LineEnd → List LineEnd
wholly offset [] = []
wholly offset (e ∷ es) = elim (leb e.upto offset) [ true ↦ e ∷ wholly offset es | false ↦ wholly offset es ]

-- Where the last of some line ends ends, or the start where there is none.
unfoldable pub last_end : ℕ → List LineEnd → ℕ
last_end start [] = start
last_end start (e ∷ es) = last_end e.upto es

-- The units of the characters that lie between two indices, among characters the first of which stands at an index.
unfoldable pub units_from : ℕ → ℕ → ℕ → List Char → ℕ
units_from at a b [] = 0
units_from at a b (c ∷ cs) = cond (leb a at && leb (at + width c) b) (units c) 0 + units_from (at + width c) a b cs

abbrev pub units_between : ℕ → ℕ → List ℕ → ℕ
units_between a b s = units_from 0 a b (chars s)

-- The line ends of each character.
module _ (at : ℕ) (c : Char) (cs : List Char) where
  pub feed_fresh : c.code ≡ line_feed → line_ends_from at false (c ∷ cs) ≡ bytes at (at + 1) ∷ line_ends_from (at + width c) false cs
  unfolding line_ends_from
  feed_fresh e = rw (eq-eqb c.code line_feed e, line_ends_from)

  pub feed_taken : c.code ≡ line_feed → line_ends_from at true (c ∷ cs) ≡ line_ends_from (at + width c) false cs
  unfolding line_ends_from
  feed_taken e = rw (eq-eqb c.code line_feed e, line_ends_from)

  module _ (taken : Bool) where
    pub return_feed : c.code ≡ carriage_return → first cs ≡ line_feed → line_ends_from at taken (c ∷ cs) ≡ bytes at (at + 2) ∷ line_ends_from (at + width c) true cs
    unfolding line_ends_from
    return_feed e f = rw (ne_eqb c.code line_feed (λ x. omega arith), eq-eqb c.code carriage_return e, eq-eqb (first cs) line_feed f, line_ends_from)

    pub return_alone : c.code ≡ carriage_return → (first cs ≡ line_feed → ⊥) → line_ends_from at taken (c ∷ cs) ≡ bytes at (at + 1) ∷ line_ends_from (at + width c) false cs
    unfolding line_ends_from
    return_alone e f = rw (ne_eqb c.code line_feed (λ x. omega arith), eq-eqb c.code carriage_return e, ne_eqb (first cs) line_feed f, line_ends_from)

    pub no_end : (c.code ≡ line_feed → ⊥) → (c.code ≡ carriage_return → ⊥) → line_ends_from at taken (c ∷ cs) ≡ line_ends_from (at + width c) false cs
    unfolding line_ends_from
    no_end e f = rw (ne_eqb c.code line_feed e, ne_eqb c.code carriage_return f, line_ends_from)

module _ (offset : ℕ) where
  module _ (e : LineEnd) (es : List LineEnd) where
    pub whole : e.upto ≤ offset → wholly offset (e ∷ es) ≡ e ∷ wholly offset es
    unfolding wholly
    whole h = rw (le-leb e.upto offset h, wholly)

    pub cut : offset < e.upto → wholly offset (e ∷ es) ≡ wholly offset es
    unfolding wholly
    cut h = rw (lt-leb e.upto offset h, wholly)

  module _ (at a : ℕ) (c : Char) (cs : List Char) where
    pub counts : a ≤ at → at + width c ≤ offset → units_from at a offset (c ∷ cs) ≡ units c + units_from (at + width c) a offset cs
    unfolding units_from
    counts h k = rw (le-leb a at h, le-leb (at + width c) offset k)

    pub counts_not : (at < a) ⊎ (offset < at + width c) → units_from at a offset (c ∷ cs) ≡ units_from (at + width c) a offset cs
    unfolding units_from
    counts_not (inl h) = rw (lt-leb a at h) (omega arith)
    counts_not (inr h) = rw (lt-leb (at + width c) offset h, and-false) (omega arith)

  -- Nothing counts past the offset.
  pub units_late : (at a : ℕ) (cs : List Char) → offset < at → units_from at a offset cs ≡ 0
  unfolding units_from
  units_late at a [] h = refl
  units_late at a (c ∷ cs) h = counts_not at a c cs (inr (omega arith)) ∙ units_late (at + width c) a cs (omega arith)

  pub ends_late : (at : ℕ) (taken : Bool) (cs : List Char) → offset ≤ at → wholly offset (line_ends_from at taken cs) ≡ []
  unfolding wholly line_ends_from
  ends_late at taken [] h = refl
  ends_late at taken (c ∷ cs) h = go taken (eqb c.code line_feed) (eqb c.code carriage_return) (eqb (first cs) line_feed) refl refl refl (λ t. ends_late (at + width c) t cs (omega arith))
    where
      go : (taken x y z : Bool) → eqb c.code line_feed ≡ x → eqb c.code carriage_return ≡ y → eqb (first cs) line_feed ≡ z
          → ((t : Bool) → wholly offset (line_ends_from (at + width c) t cs) ≡ []) → wholly offset (line_ends_from at taken (c ∷ cs)) ≡ []
      go true true y z p q r ih = ap (wholly offset) (feed_taken at c cs (eqb-true c.code line_feed p)) ∙ ih false
      go false true y z p q r ih =
          ap (wholly offset) (feed_fresh at c cs (eqb-true c.code line_feed p)) ∙ cut (bytes at (at + 1)) (line_ends_from (at + width c) false cs) (omega arith) ∙ ih false
      go t false true true p q r ih =
          ap (wholly offset) (return_feed at c cs t (eqb-true c.code carriage_return q) (eqb-true (first cs) line_feed r))
          ∙ cut (bytes at (at + 2)) (line_ends_from (at + width c) true cs) (omega arith)
          ∙ ih true
      go t false true false p q r ih =
          ap (wholly offset) (return_alone at c cs t (eqb-true c.code carriage_return q) (eqb-false (first cs) line_feed r))
          ∙ cut (bytes at (at + 1)) (line_ends_from (at + width c) false cs) (omega arith)
          ∙ ih false
      go t false false z p q r ih = ap (wholly offset) (no_end at c cs t (eqb-false c.code line_feed p) (eqb-false c.code carriage_return q)) ∙ ih false
