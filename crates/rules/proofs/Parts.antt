-- Token text and shown text: what is refused, and where a part lies. Assumes nothing.
use Prim.Native.Nat.{ℕ, ◌≤◌, ◌<◌}
use native.Mathlib.Omega.{arith}
use mathlib.Core.Path.{◌≡◌, refl, sym, subst}
use mathlib.Core.List.{List, []}
use mathlib.Core.Bool.{Bool, true, false, not, cond, ◌||◌}
use lib.Dec.{ltb, eqb}
use lib.ListN.{length, get_or}
use borrow.Author.Tests.{ltb-false, eqb-true, not-false}
use Rattle.rules.specs.Utf8.{utf8_tail}
use Rattle.rules.specs.Kinds.{hiding_kind, some_kind}
use Rattle.rules.specs.Answers.{Done, TooLong, NoPart, OtherLength, too_long, no_part, Part, refused_part, part_of, token_text, shown_text}
use Rattle.rules.proofs.Tests.{clash, cond_ind}

pub or_none : (a b : Bool) → (a || b) ≡ false → (a ≡ false) × (b ≡ false)
or_none false b e = (refl, e)
or_none true b e = clash refl e

pub part_inside : (s : List ℕ) (start end : ℕ) → no_part s start end ≡ false → (start ≤ end) × (end ≤ length s)
part_inside s start end e =
    let a = (or_none (ltb end start || ltb (length s) end || utf8_tail (get_or s start 0)) (utf8_tail (get_or s end 0)) e).0 in
    let b = (or_none (ltb end start || ltb (length s) end) (utf8_tail (get_or s start 0)) a).0 in
    let c = or_none (ltb end start) (ltb (length s) end) b in
    (ltb-false end start c.0, ltb-false (length s) end c.1)

-- What a caller may conclude from the number alone.
pub record Sound (source : List ℕ) (start end : ℕ) (p : Part) : Type 0 where
  pub done : p.number ≡ Done → (start ≤ end) × (end ≤ length source) × (p ≡ part_of source start end)
  pub refused : (p.number ≡ Done → ⊥) → p.bytes ≡ []

module _ (source : List ℕ) (start end : ℕ) where
  sound_refused : (number : ℕ) → 0 < number → Sound source start end (refused_part number)
  sound_refused number n = record { done = λ e. absurd (omega arith); refused = λ e. refl }

  sound_part : start ≤ end → end ≤ length source → Sound source start end (part_of source start end)
  sound_part l m = record { done = λ e. (l, m, refl); refused = λ e. absurd (e refl) }

pub token_sound : (text : List ℕ) (start end : ℕ) → Sound text start end (token_text text start end)
unfolding token_text
token_sound text start end =
    cond_ind (Sound text start end) (too_long text) _ _ (λ e. sound_refused text start end TooLong (omega arith))
    (λ e. cond_ind (Sound text start end) (no_part text start end) _ _ (λ f. sound_refused text start end NoPart (omega arith))
    (λ f. let i = part_inside text start end f in sound_part text start end i.0 i.1))

-- Text or copy, whichever the kind asks for.
abbrev pub source : List ℕ → List ℕ → ℕ → List ℕ
source text copy kind = cond (hiding_kind kind) copy text

pub shown_sound : (text copy : List ℕ) (kind start end : ℕ) → Sound (source text copy kind) start end (shown_text text copy kind start end)
unfolding shown_text
shown_sound text copy kind start end =
    cond_ind S (too_long text) _ _ (λ e. sound_refused s start end TooLong (omega arith))
    (λ e. cond_ind S (no_part text start end || not (some_kind kind)) _ _ (λ f. sound_refused s start end NoPart (omega arith))
    (λ f. cond_ind S (not (eqb (length copy) (length text))) _ _ (λ g. sound_refused s start end OtherLength (omega arith))
    (λ g. let i = part_inside text start end (or_none (no_part text start end) (not (some_kind kind)) f).0 in
    sound_part s start end i.0 (subst (λ (n : ℕ). end ≤ n) (sym (as_long (eqb-true _ _ (not-false _ g)))) i.1))))
  where
    s : List ℕ
    s = source text copy kind

    S : Part → Type 0
    S = Sound s start end

    as_long : length copy ≡ length text → length (source text copy kind) ≡ length text
    as_long e = go (hiding_kind kind)
      where
        go : (b : Bool) → length (cond b copy text) ≡ length text
        go true = e
        go false = refl
