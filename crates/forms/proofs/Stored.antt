-- Records that are stored from the front on.
--     over i ts out    out, with the first i of ts over its first i: what a loop that stores ts has made of out after i turns
-- Assumes nothing.
use mathlib.Core.Path.{◌≡◌, refl, sym, ◌∙◌, ap, subst}
use Prim.Native.Nat.{ℕ, zero, suc, ◌+◌, ◌<◌, ◌≤◌}
use native.Mathlib.Nat.{not-suc-le-zero, le_of_suc-le-suc}
use native.Mathlib.Omega.{arith}
use native.Mathlib.Numerals.{add-one}
use mathlib.Core.List.{List, [], ◌∷◌, ◌++◌}
use lib.ListN.{length, get_or, set, drop, length-drop}
use Rattle.std.specs.Prelude.{Option, Some, None, Result}
use Rattle.rules.specs.declared.refusal.Refusal.{Refusal}
use Rattle.rules.specs.Tokens.{Token as Tok}
use Rattle.rules.specs.Records.{Outcome, outcome}
use Rattle.lexer.specs.declared.token.Token.{Token}
use Rattle.lists.specs.declared.listing.Plan.{Plan}
use Rattle.lists.specs.declared.picks.Picking.{Picking}
use Rattle.lists.specs.Plans.{plan_of}
use Rattle.lists.specs.Picks.{Fits, Ready, Picks, picked, answer_by, records_of, records_from}
use Rattle.forms.specs.Records.{recorded, records_by}

module _ {A : Type 0} where
  pub over : ℕ → List A → List A → List A
  over zero ts out = out
  over (suc i) [] out = out
  over (suc i) (t ∷ ts) [] = []
  over (suc i) (t ∷ ts) (x ∷ out) = t ∷ over i ts out

  pub over_none : (ts out : List A) → over 0 ts out ≡ out
  unfolding over
  over_none ts out = refl

  pub over_length : (i : ℕ) (ts out : List A) → length (over i ts out) ≡ length out
  unfolding over
  over_length zero ts out = refl
  over_length (suc i) [] out = refl
  over_length (suc i) (t ∷ ts) [] = refl
  over_length (suc i) (t ∷ ts) (x ∷ out) = ap suc (over_length i ts out)

  -- a turn: the next of those left is stored
  over_set : (i : ℕ) (ts out : List A) (t : A) (rest : List A) → drop i ts ≡ t ∷ rest → set (over i ts out) i t ≡ over (suc i) ts out
  unfolding over
  over_set zero [] out t rest e = absurd (omega (arith, ap length e))
  over_set zero (u ∷ ts) [] t rest e = refl
  over_set zero (u ∷ ts) (x ∷ out) t rest e = ap (λ (l : List A). get_or l 0 t ∷ out) (sym e)
  over_set (suc i) [] out t rest e = absurd (omega (arith, ap length e))
  over_set (suc i) (u ∷ ts) [] t rest e = refl
  over_set (suc i) (u ∷ ts) (x ∷ out) t rest e = ap (λ (zs : List A). u ∷ zs) (over_set i ts out t rest e)

  -- and those after it are left
  drop_next : (i : ℕ) (ts : List A) (t : A) (rest : List A) → drop i ts ≡ t ∷ rest → drop (suc i) ts ≡ rest
  drop_next zero [] t rest e = absurd (omega (arith, ap length e))
  drop_next zero (u ∷ ts) t rest e = ap (drop 1) e
  drop_next (suc i) [] t rest e = absurd (omega (arith, ap length e))
  drop_next (suc i) (u ∷ ts) t rest e = drop_next i ts t rest e

  -- all are stored
  over_all : (ts out : List A) → length ts ≤ length out → over (length ts) ts out ≡ ts ++ drop (length ts) out
  unfolding over
  over_all [] out l = refl
  over_all (t ∷ ts) [] l = absurd (not-suc-le-zero l)
  over_all (t ∷ ts) (x ∷ out) l = ap (λ (zs : List A). t ∷ zs) (over_all ts out (le_of_suc-le-suc l))

records-length : (ts : List Tok) → length (records_of ts) ≡ length ts
records-length [] = refl
records-length (t ∷ ts) = ap suc (records-length ts)

-- after i turns from what `begin` gave
pub record Reached (s : List ℕ) (begun : Picking) (i : ℕ) (at : Picking) (lone : List ℕ) : Type 0 where
  pub same_plan : at.plan ≡ begun.plan
  pub here : records_from begun.plan s at.cursor ≡ drop i (records_from begun.plan s 0)
  pub ready : Ready s at lone

-- after i turns the first i records of the list stand in the slice
pub record Stood (s : List ℕ) (begun : Picking) (ys : List Token) (i : ℕ) (at : Picking) (lone : List ℕ) (list : List Token) : Type 0 where
  pub reached : Reached s begun i at lone
  pub within : i ≤ length (records_from begun.plan s 0)
  pub holds : list ≡ over i (records_from begun.plan s 0) ys

-- what `begin` gave, of a list that fits the slice
module _ (plan : Result Plan Refusal) (s : List ℕ) (ys : List Token) (begun : Picking) (fits : Fits begun.plan s (outcome (plan_of plan s) (length ys)) (length ys)) where
  abbrev pub all : List Token
  all = records_from begun.plan s 0

  abbrev is : Outcome
  is = outcome (plan_of plan s) (length ys)

  all_length : length all ≡ length is.tokens
  all_length = ap length fits.tokens ∙ records-length is.tokens

  has_room : length all ≤ length ys
  has_room = omega (arith, all_length, fits.enough)

  reached_first : (lone : List ℕ) → begun.cursor ≡ 0 → Ready s begun lone → Reached s begun 0 begun lone
  reached_first lone c m = record { same_plan = refl; here = ap (records_from begun.plan s) c; ready = m }

  -- a turn
  module _ (i : ℕ) (at : Picking) (lone : List ℕ) (h : Reached s begun i at lone) (r : Picking) (lone' : List ℕ) (token : Option Token) (p : Picks s at r lone' token (records_from at.plan s)) where
    left : drop i all ≡ picked token (records_from begun.plan s r.cursor)
    left = sym h.here ∙ subst (λ (q : Result Plan Refusal). records_from q s at.cursor ≡ picked token (records_from q s r.cursor)) h.same_plan p.first

    turn_plan : r.plan ≡ begun.plan
    turn_plan = p.plan ∙ h.same_plan

    -- that picks a token
    module _ (t : Token) (e : token ≡ Some t) where
      next : drop i all ≡ t ∷ records_from begun.plan s r.cursor
      next = left ∙ ap (λ (o : Option Token). picked o (records_from begun.plan s r.cursor)) e

      turn_more : i < length all
      turn_more = omega (arith, ap length next, length-drop i all)

      turn_reached : Reached s begun (suc i) r lone'
      turn_reached = record { same_plan = turn_plan; here = sym (drop_next i all t (records_from begun.plan s r.cursor) next); ready = p.ready }

      turn-set : set (over i all ys) i t ≡ over (suc i) all ys
      turn-set = over_set i all ys t (records_from begun.plan s r.cursor) next

    -- or none
    turn_last : token ≡ None → length all ≤ i
    turn_last e = omega (arith, ap length (left ∙ ap (λ (o : Option Token). picked o (records_from begun.plan s r.cursor)) e), length-drop i all)

  -- when the turns are done, the slice is what the plan gives
  stored_done : recorded (answer_by begun.plan (length all)) (over (length all) all ys) ≡ records_by (plan_of plan s) ys
  stored_done =
      let n = ap (answer_by begun.plan) all_length in
      let a = fits.answer in
      ap (λ x. recorded x (over (length all) all ys)) n ∙ (λ j. record { number = a.0 j; value = a.1 j; records = content j })
    where
      content : over (length all) all ys ≡ records_of is.tokens ++ drop (length is.tokens) ys
      content = over_all all ys has_room ∙ ap (λ (ts : List Token). ts ++ drop (length all) ys) fits.tokens ∙ ap (λ (k : ℕ). records_of is.tokens ++ drop k ys) all_length

  pub stood_first : (lone : List ℕ) → begun.cursor ≡ 0 → Ready s begun lone → Stood s begun ys 0 begun lone ys
  stood_first lone c m = record { reached = reached_first lone c m; within = omega arith; holds = sym (over_none all ys) }

  module _ (i : ℕ) (at : Picking) (lone : List ℕ) (list : List Token) (h : Stood s begun ys i at lone list) (r : Picking) (lone' : List ℕ) (token : Option Token) (p : Picks s at r lone' token (records_from at.plan s)) where
    pub stood_more : (t : Token) → token ≡ Some t → Stood s begun ys (i + 1) r lone' (set list i t)
    stood_more t e =
        subst (λ (n : ℕ). Stood s begun ys n r lone' (set list i t)) (sym (add-one i))
        (record {
          reached = turn_reached i at lone h.reached r lone' token p t e;
          within = turn_more i at lone h.reached r lone' token p t e;
          holds = ap (λ (l : List Token). set l i t) h.holds ∙ turn-set i at lone h.reached r lone' token p t e;
        })

    -- where none is found, all are stored
    pub stood_done : token ≡ None → recorded (answer_by r.plan i) list ≡ records_by (plan_of plan s) ys
    stood_done e =
        let last : i ≡ length all = omega (arith, turn_last i at lone h.reached r lone' token p e, h.within) in
        ap (λ (q : Result Plan Refusal). recorded (answer_by q i) list) (turn_plan i at lone h.reached r lone' token p)
        ∙ ap (λ (l : List Token). recorded (answer_by begun.plan i) l) h.holds
        ∙ ap (λ (n : ℕ). recorded (answer_by begun.plan n) (over n all ys)) last
        ∙ stored_done
