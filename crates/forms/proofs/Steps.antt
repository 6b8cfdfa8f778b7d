-- Reading by steps: what a reader gives from edge to edge is the full list, and what a loop that packs it has made of a list after so many turns.
-- Assumes nothing.
use Prim.Native.Nat.{ℕ, zero, suc, ◌+◌, ◌-◌, ◌*◌, ◌<◌, ◌≤◌}
use native.Mathlib.Decide.{dec_lt}
use native.Mathlib.Nat.{not-suc-le-zero}
use native.Mathlib.Omega.{arith}
use mathlib.Core.Path.{◌≡◌, refl, sym, ap, subst, ◌∙◌}
use mathlib.Core.List.{List, [], ◌∷◌}
use mathlib.Core.Bool.{Bool, true, false, cond}
use borrow.Author.Tests.{ltb-false, le-leb, lt-leb}
use lib.ListN.{length, drop}
use lib.Seq.{sets}
use Rattle.rules.specs.Limits.{max_query_size, token_bytes}
use Rattle.rules.specs.Tokens.{Token, token, tokens, tokens_from, token_at}
use Rattle.std.specs.Prelude.{Result, Ok, Err}
use Rattle.rules.specs.declared.refusal.Refusal.{Refusal}
use Rattle.rules.proofs.Cases.{not_done}
use Rattle.lexer.specs.declared.token.Token.{Token as CodeToken}
use Rattle.rules.specs.Listing.{full, whole_list, pack_token, pack, room}
use Rattle.rules.specs.Answers as table
use Rattle.rules.specs.Answers.{too_long, filled, step, Stepped}
use Rattle.rules.specs.Records.{refusing, storing, steps_plan, outcome, packed_by}
use Rattle.rules.specs.Cases.{Answer, written}
use Rattle.rules.proofs.Edges.{from_start, from_end, from_step, step_fits}
use Rattle.rules.proofs.Stepping.{step_done}
use Rattle.steps.specs.Stepped.{stepped}
use Rattle.lists.specs.Choices.{chosen}
use Rattle.lists.specs.Plans.{stored_by}
use Rattle.lists.specs.Picks.{Answered}
use Rattle.lists.proofs.Choosing.{choice, whole_chosen}
use Rattle.forms.specs.Reading.{read_from}
use Rattle.forms.proofs.Outcomes.{list_of, stores, packed-outcome, none}
use Rattle.lists.proofs.Packing.{Filled, filled_none, filled-room, filled_more, filled_all}

-- A choice that drops nothing is the full list.
pub all_chosen : (s : List ℕ) → chosen (choice (length s) false false) s 0 ≡ tokens s
unfolding whole_list
all_chosen s = sym (whole_chosen full s)

-- Reading from an offset on gives the tokens from there on, if there are turns enough: one for each byte left is.
read_from_lem : (s : List ℕ) → length s ≤ max_query_size → (turns at : ℕ) → at ≤ length s → length s - at ≤ turns → read_from turns s at ≡ tokens_from s at
unfolding read_from
read_from_lem s short zero at within enough = sym (from_end s at (omega arith))
read_from_lem s short (suc turns) at within enough = go (dec_lt at (length s)) (read_from_lem s short turns)
  where
    go : Dec (at < length s) → ((to : ℕ) → to ≤ length s → length s - to ≤ turns → read_from turns s to ≡ tokens_from s to) → read_from (suc turns) s at ≡ tokens_from s at
    go (no h) ih = rw (le-leb (length s) at (omega arith), read_from) (sym (from_end s at (omega arith)))
    go (yes h) ih =
        let f = step_fits s at h in
        rw (lt-leb (length s) at h, read_from, step_done s at short within) (ap (λ (ts : List Token). token_at s at ∷ ts) (ih (token_at s at).end f.2 (omega arith)) ∙ sym (from_step s at h))

-- Reading a text to its end gives exactly the full list.
pub read_all_tokens : (s : List ℕ) → length s ≤ max_query_size → (turns : ℕ) → length s ≤ turns → read_from turns s 0 ≡ tokens s
read_all_tokens s short turns enough = read_from_lem s short turns 0 (omega arith) (omega arith) ∙ sym (from_start s)

-- After i turns: i tokens are packed, and those from the reader's offset on are left.
pub record Read (s list₀ : List ℕ) (i at : ℕ) (list : List ℕ) : Type 0 where
  pub within : at ≤ length s
  pub held : Filled (tokens s) list₀ list (i * token_bytes) (tokens_from s at)

pub read_none : (s list₀ : List ℕ) → Read s list₀ 0 0 list₀
read_none s list₀ = record { within = omega arith; held = subst (Filled (tokens s) list₀ list₀ 0) (from_start s) (filled_none (tokens s) list₀) }

-- The text of a plan that stores anything is not too long.
steps_list : (s : List ℕ) → 0 < length (list_of (steps_plan s)) → (length s ≤ max_query_size) × (list_of (steps_plan s) ≡ tokens s)
unfolding steps_plan
steps_list s h = go (too_long s) refl h
  where
    go : (b : Bool) → too_long s ≡ b → 0 < length (list_of (cond b (refusing table.TooLong 0) (storing (tokens s) table.Done)))
        → (length s ≤ max_query_size) × (list_of (cond b (refusing table.TooLong 0) (storing (tokens s) table.Done)) ≡ tokens s)
    go true e h = absurd (not-suc-le-zero h)
    go false e h = (ltb-false max_query_size (length s) e, refl)

module _ (s list₀ : List ℕ) (answer : Answer) (is : Answered answer (outcome (steps_plan s) (room list₀))) where
  -- a turn, at the step that the reader gives
  module _ (i at : ℕ) (list : List ℕ) (read : Read s list₀ i at list) (more : i < stored_by answer) where
    turn : (length s ≤ max_query_size) × (length (tokens s) * token_bytes ≤ length list₀) × (at < length s)
    turn =
        let p = stores (steps_plan s) (room list₀) (omega (arith, is.1)) in
        let k = ap length p.0 in
        let q = steps_list s (omega (arith, is.1)) in
        let n = ap length q.1 in
        (q.0, omega (arith, p.1), before (omega (arith, read.held.count)) (omega (arith, is.1)))
      where
        before : i * token_bytes + length (tokens_from s at) * token_bytes ≡ length (tokens s) * token_bytes → i < length (tokens s) → at < length s
        before c l = go (dec_lt at (length s))
          where
            go : Dec (at < length s) → at < length s
            go (yes h) = h
            go (no h) = absurd (omega (arith, c, l, ap length (from_end s at (omega arith))))

    left : tokens_from s at ≡ token_at s at ∷ tokens_from s (token_at s at).end
    left = from_step s at turn.2

    filled_here : Filled (tokens s) list₀ list (i * token_bytes) (token_at s at ∷ tokens_from s (token_at s at).end)
    filled_here = subst (Filled (tokens s) list₀ list (i * token_bytes)) left read.held

    -- there is room for the token
    pub turn-room : i * token_bytes + token_bytes ≤ length list
    turn-room = filled-room (tokens s) list₀ list (i * token_bytes) turn.1 (token_at s at) (tokens_from s (token_at s at).end) filled_here

    module _ (found : Result CodeToken Refusal) (e : stepped found at ≡ step s at) where
      done : stepped found at ≡ record { number = table.Done; value = (token_at s at).end; token = token_at s at; cursor = (token_at s at).end }
      done = e ∙ step_done s at turn.0 (omega (arith, turn.2))

      -- no step is refused
      pub turn_ok : (r : Refusal) → found ≡ Err r → ⊥
      turn_ok r q = not_done r (sym (ap (λ (x : Result CodeToken Refusal). (stepped x at).number) q) ∙ ap (λ (z : Stepped). z.number) done)

      -- and with its token one more is packed
      pub turn-read : (t : CodeToken) → found ≡ Ok t → (list' : List ℕ) → list' ≡ sets list (i * token_bytes) (pack_token (token t.kind t.start t.end)) → Read s list₀ (suc i) t.end list'
      turn-read t q list' f =
          let d = sym (ap (λ (x : Result CodeToken Refusal). stepped x at) q) ∙ done in
          let end = ap (λ (z : Stepped). z.cursor) d in
          record {
            within = omega (arith, end, step_fits s at turn.2);
            held =
                subst (λ (z : ℕ). Filled (tokens s) list₀ list' (suc i * token_bytes) (tokens_from s z)) (sym end)
                (filled_more (tokens s) list₀ list (i * token_bytes) turn.1 (token_at s at) (tokens_from s (token_at s at).end) filled_here list' (suc i * token_bytes) (omega arith)
                (f ∙ ap (λ (z : Stepped). sets list (i * token_bytes) (pack_token z.token)) d));
          }

  -- when the turns are done, the list is what reading gives
  pub read_done : (at : ℕ) (list : List ℕ) → Read s list₀ (stored_by answer) at list → written answer list ≡ packed_by (steps_plan s) list₀
  unfolding pack
  read_done at list read =
      (λ j. record { number = is.0.0 j; value = is.0.1 j; buffer = content (dec_lt 0 (stored_by answer)) j })
      ∙ sym (packed-outcome (steps_plan s) list₀)
    where
      content : Dec (0 < stored_by answer) → list ≡ filled (pack (outcome (steps_plan s) (room list₀)).tokens) list₀
      content (yes h) =
          let p = stores (steps_plan s) (room list₀) (omega (arith, is.1)) in
          let q = steps_list s (omega (arith, is.1, ap length p.0)) in
          let k : stored_by answer ≡ length (tokens s) = is.1 ∙ ap length (p.0 ∙ q.1) in
          let n = ap length q.1 in
          let r : tokens_from s at ≡ [] = none (tokens_from s at) (omega (arith, read.held.count)) in
          filled_all (tokens s) list₀ list (stored_by answer * token_bytes) (omega (arith, p.1)) (subst (Filled (tokens s) list₀ list (stored_by answer * token_bytes)) r read.held)
          ∙ ap (λ (ts : List Token). filled (pack ts) list₀) (sym (p.0 ∙ q.1))
      content (no h) =
          let z : stored_by answer ≡ 0 = omega arith in
          subst (λ (k : ℕ). drop (k * token_bytes) list ≡ drop (k * token_bytes) list₀) z read.held.back
          ∙ ap (λ (ts : List Token). filled (pack ts) list₀) (sym (none (outcome (steps_plan s) (room list₀)).tokens (omega (arith, is.1))))
