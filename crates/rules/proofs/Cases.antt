-- Number and value tell the refusals apart, and so the answers: a contract that says what is written leaves one answer and one buffer.
-- Assumes nothing.
use Prim.Native.Nat.{ℕ, zero, suc}
use mathlib.Core.Path.{◌≡◌, refl, sym, ap, ap₂, ◌∙◌}
use mathlib.Core.List.{List, []}
use native.Mathlib.Omega.{arith}
use Rattle.std.specs.Prelude.{Result, Ok, Err}
use Rattle.rules.specs.Answers.{Written}
use Rattle.rules.specs.declared.refusal.Refusal.{Refusal}
use Rattle.rules.specs.declared.refusal.Refusal.TheVariants.{TooLong, NotUtf8, NoRoom, Beyond, NoPart, NoMode, OtherLength, Malformed, NoVersion}
use Rattle.rules.specs.Cases.{refusal_number, refusal_value, Answer, number_of, value_of, written}

refusal_of : ℕ → ℕ → Refusal
refusal_of zero n = NoVersion
refusal_of (suc zero) n = TooLong n
refusal_of (suc (suc zero)) n = NotUtf8 n
refusal_of (suc (suc (suc zero))) n = NoRoom n
refusal_of (suc (suc (suc (suc zero)))) n = Beyond
refusal_of (suc (suc (suc (suc (suc zero))))) n = NoPart
refusal_of (suc (suc (suc (suc (suc (suc zero)))))) n = NoMode
refusal_of (suc (suc (suc (suc (suc (suc (suc zero))))))) n = OtherLength
refusal_of (suc (suc (suc (suc (suc (suc (suc (suc zero)))))))) n = Malformed
refusal_of (suc (suc (suc (suc (suc (suc (suc (suc (suc k))))))))) n = NoVersion

back : (r : Refusal) → refusal_of (refusal_number r) (refusal_value r) ≡ r
unfolding refusal_of
back (TooLong n) = refl
back (NotUtf8 n) = refl
back (NoRoom n) = refl
back Beyond = refl
back NoPart = refl
back NoMode = refl
back OtherLength = refl
back Malformed = refl
back NoVersion = refl

pub one_refusal : (r q : Refusal) → refusal_number r ≡ refusal_number q → refusal_value r ≡ refusal_value q → r ≡ q
one_refusal r q n v = sym (back r) ∙ ap₂ refusal_of n v ∙ back q

pub not_done : (r : Refusal) → refusal_number r ≡ 0 → ⊥
not_done (TooLong n) e = omega (arith, e)
not_done (NotUtf8 n) e = omega (arith, e)
not_done (NoRoom n) e = omega (arith, e)
not_done Beyond e = omega (arith, e)
not_done NoPart e = omega (arith, e)
not_done NoMode e = omega (arith, e)
not_done OtherLength e = omega (arith, e)
not_done Malformed e = omega (arith, e)
not_done NoVersion e = omega (arith, e)

-- Two answers that look alike are equal, where what is looked at has the number and the value of a refusal, and of an Ok the number 0 and all that it holds.
pub one_result : {T X : Type 0} (look : Result T Refusal → X) (number value : X → ℕ) → ((r : Refusal) → (number (look (Err r)) ≡ refusal_number r) × (value (look (Err r)) ≡ refusal_value r)) → ((t : T) → number (look (Ok t)) ≡ 0)
    → ((t u : T) → look (Ok t) ≡ look (Ok u) → t ≡ u) → (a b : Result T Refusal) → look a ≡ look b → a ≡ b
one_result look number value refused done only (Ok t) (Ok u) e = ap Ok (only t u e)
one_result look number value refused done only (Ok t) (Err r) e = absurd (not_done r (sym (refused r).0 ∙ sym (ap number e) ∙ done t))
one_result look number value refused done only (Err r) (Ok t) e = absurd (not_done r (sym (refused r).0 ∙ ap number e ∙ done t))
one_result look number value refused done only (Err r) (Err q) e = ap Err (one_refusal r q (sym (refused r).0 ∙ ap number e ∙ (refused q).0) (sym (refused r).1 ∙ ap value e ∙ (refused q).1))

pub one-case : (a b : Answer) → number_of a ≡ number_of b → value_of a ≡ value_of b → a ≡ b
one-case a b n v = one_result (λ x. written x []) (λ w. w.number) (λ w. w.value) (λ r. (refl, refl)) (λ t. refl) (λ t u e. ap (λ (w : Written). w.value) e) a b (λ i. record { number = n i; value = v i; buffer = [] })

pub one_answer : (a b : Answer) (buffer buffer' : List ℕ) (w : Written) → written a buffer ≡ w → written b buffer' ≡ w → (a ≡ b) × (buffer ≡ buffer')
one_answer a b buffer buffer' w p q =
    let e = p ∙ sym q in
    (one-case a b (ap (λ (x : Written). x.number) e) (ap (λ (x : Written). x.value) e), ap (λ (x : Written). x.buffer) e)
