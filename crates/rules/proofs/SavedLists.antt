-- #101: what this library lists is never malformed: a full list is accepted with flag 0, and one up to a position with flag 1.
-- Assumes nothing.
use Prim.Native.Nat.{ℕ, zero, suc, ◌-◌, ◌*◌, ◌%◌, ◌^◌, ◌≤◌, ◌<◌}
use native.Mathlib.Decide.{dec_lt}
use native.Mathlib.Omega.{arith}
use mathlib.Core.Path.{◌≡◌, sym, ap, ◌∙◌, subst}
use mathlib.Core.List.{List, [], ◌∷◌, append-nil}
use mathlib.Core.Bool.{true, not}
use lib.ListN.{length, get_or, take, drop}
use lib.Dec.{ltb}
use lib.Seq.{drop-cons, take_at}
use borrow.Author.Tests.{lt-ltb, le-ltb, ltb-false, eq-eqb, not-false}
use Rattle.rules.specs.Utf8.{valid}
use Rattle.rules.specs.Limits.{max_query_size, token_bytes}
use Rattle.rules.specs.Tokens.{Token, tokens, tokens_from, token_at, after_dot_at}
use Rattle.rules.specs.Listing.{full, only, starts_before, whole_list, list_up_to, pack, unpack, room}
use Rattle.rules.specs.Answers.{Done, TooLong, too_long, Written, filled, stored, too_long_list, listing, listing_up_to}
use Rattle.rules.specs.Saved.{whole_flag, partial_flag, file_of, saved_kind, goes_on, chains, end_of, accepted, tokens_of, writable, stored_file, saving}
use Rattle.rules.proofs.Tests.{both, and_both, cond_ind}
use Rattle.rules.proofs.KnownKinds.{kind_saved}
use Rattle.rules.proofs.Edges.{Tiles, tiles, from_end, from_step, from_start, step_fits}
use Rattle.rules.proofs.Listing.{only_none, only_yes, late, length-pack}
use Rattle.rules.proofs.Unpacking.{AllFit32, fit_more, list_back}
use Rattle.rules.proofs.Chains.{chains_none, chains_more, end_none, end_more, goes_on_lem, goes_of, accepted_has}

-- the tokens of a text chain
module _ (s : List ℕ) where
  kind_at : (i : ℕ) → i < length s → saved_kind (token_at s i).kind ≡ true
  unfolding token_at
  kind_at i h = rw (drop-cons s i 0 h) (kind_saved (after_dot_at s i) (get_or s i 0) (drop (suc i) s))

  chains_by : (fuel i : ℕ) → length s - i ≤ fuel → chains (length s) i (tokens_from s i) ≡ true
  chains_by zero i k = rw (from_end s i (omega arith)) (chains_none (length s) i)
  chains_by (suc fuel) i k = go (dec_lt i (length s)) (λ j m. chains_by fuel j m)
    where
      go : Dec (i < length s) → ((j : ℕ) → length s - j ≤ fuel → chains (length s) j (tokens_from s j) ≡ true) → chains (length s) i (tokens_from s i) ≡ true
      go (no h) ih = rw (from_end s i (omega arith)) (chains_none (length s) i)
      go (yes h) ih =
          let f = step_fits s i h in
          let t = token_at s i in
          ap (chains (length s) i) (from_step s i h) ∙ chains_more (length s) i t (tokens_from s t.end)
          ∙ both (goes_on (length s) i t) _ (goes_of (length s) i t f.0 f.1 f.2 (kind_at i h)) (ih t.end (omega (arith, f.1)))

  pub tokens_chain : chains (length s) 0 (tokens s) ≡ true
  tokens_chain = ap (chains (length s) 0) (from_start s) ∙ chains_by (length s) 0 (omega arith)

tiles_end : (from : ℕ) (ts : List Token) (to : ℕ) → Tiles from ts to → end_of from ts ≡ to
tiles_end from [] to p = end_none from ∙ p
tiles_end from (t ∷ ts) to p = end_more 0 from t ts ∙ tiles_end t.end ts to p.2

chains_tiles : (size at : ℕ) (ts : List Token) → chains size at ts ≡ true → Tiles at ts (end_of at ts)
chains_tiles size at [] e = sym (end_none at)
chains_tiles size at (t ∷ ts) e =
    let a = and_both (goes_on size at t) _ (sym (chains_more size at t ts) ∙ e) in
    let g = goes_on_lem size at t a.0 in
    (g.start, g.rises, subst (Tiles t.end ts) (sym (end_more size at t ts)) (chains_tiles size t.end ts a.1))

-- so does the front of a list that does
front-chains : (position size at : ℕ) (ts : List Token) → chains size at ts ≡ true → chains size at (only (starts_before position) ts) ≡ true
front-chains position size at [] e = rw (only_none (starts_before position)) e
front-chains position size at (t ∷ ts) e = go (dec_lt t.start position) (λ f. front-chains position size t.end ts f)
  where
    a : (goes_on size at t ≡ true) × (chains size t.end ts ≡ true)
    a = and_both (goes_on size at t) _ (sym (chains_more size at t ts) ∙ e)

    go : Dec (t.start < position) → (chains size t.end ts ≡ true → chains size t.end (only (starts_before position) ts) ≡ true) → chains size at (only (starts_before position) (t ∷ ts)) ≡ true
    go (yes h) ih =
        ap (chains size at) (only_yes (starts_before position) t ts (lt-ltb t.start position h))
        ∙ chains_more size at t (only (starts_before position) ts) ∙ both (goes_on size at t) _ a.0 (ih a.1)
    go (no h) ih =
        let g = goes_on_lem size at t a.0 in
        ap (chains size at) (late position at (t ∷ ts) (end_of at (t ∷ ts)) (chains_tiles size at (t ∷ ts) e) (omega (arith, g.start))) ∙ chains_none size at

pub full-accepted : (s : List ℕ) → accepted (length s) (tokens s) whole_flag ≡ true
full-accepted s = rw (tokens_chain s, eq-eqb _ (length s) (tiles_end 0 (tokens s) (length s) (tiles s)))

pub up_to_accepted : (position : ℕ) (s : List ℕ) → accepted (length s) (list_up_to full position s) partial_flag ≡ true
unfolding list_up_to
up_to_accepted position s = rw (front-chains position (length s) 0 (tokens s) (tokens_chain s))

-- A list that chains in a text within the limit is read back from its packed bytes.
pub chains_fit : (size at : ℕ) (ts : List Token) → size < 2 ^ 32 → chains size at ts ≡ true → AllFit32 ts
chains_fit size at [] h e = record { each = λ n k. absurd (omega arith) }
chains_fit size at (t ∷ ts) h e =
    let a = and_both (goes_on size at t) _ (sym (chains_more size at t ts) ∙ e) in
    let g = goes_on_lem size at t a.0 in
    let i = g.inside in
    let r = g.rises in
    let k = g.kind in
    let b = g.start in
    fit_more t ts (record { kind = omega arith; start = omega arith; end = omega arith }) (chains_fit size t.end ts h a.1)

module _ (text : List ℕ) (l : length text ≤ max_query_size) (ts : List Token) (flag : ℕ) (e : accepted (length text) ts flag ≡ true) where
  room-pack : room (pack ts) ≡ length ts
  room-pack = omega (arith, length-pack ts)

  tokens_of_lem : tokens_of (pack ts) ≡ ts
  tokens_of_lem =
      ap (λ (n : ℕ). unpack n (pack ts)) room-pack
      ∙ ap (unpack (length ts)) (sym (append-nil (pack ts)))
      ∙ list_back ts [] (chains_fit (length text) 0 ts (omega arith) (accepted_has (length text) ts flag e).chain)

  pack-writable : writable text (pack ts) flag ≡ true
  pack-writable =
      let z : length (pack ts) % token_bytes ≡ 0 = omega (arith, length-pack ts) in
      rw (eq-eqb (length (pack ts) % token_bytes) 0 z, tokens_of_lem) e

  -- what the writer does with it
  pub pack_saves : (file : List ℕ) → valid text ≡ true → saving text (pack ts) flag file ≡ stored_file (file_of text ts flag) file
  unfolding saving
  pack_saves file v = rw (le-ltb max_query_size (length text) l, pack-writable, v, tokens_of_lem)

-- What a listing stored is saved: a host never sees 8 for what this library listed, nor 1 or 2.
module _ (text list : List ℕ) where
  abbrev Lists : ℕ → List Token → Written → Type 0
  Lists number ts w = w.number ≡ Done → (number ≡ Done) × (w ≡ record { number = Done; value = length ts; buffer = filled (pack ts) list })

  stored_lists : (ts : List Token) (number : ℕ) → Lists number ts (stored ts number list)
  unfolding stored
  stored_lists ts number =
      cond_ind (Lists number ts) (ltb (room list) (length ts)) _ _ (λ e f. absurd (omega (arith, f)))
      (λ e f. (f, λ i. record { number = f i; value = length ts; buffer = filled (pack ts) list }))

  -- the bytes that it stored
  abbrev listed : Written → List ℕ
  listed w = take (w.value * token_bytes) w.buffer

  abbrev Saved : List Token → ℕ → Written → Type 0
  Saved ts flag w = w.number ≡ Done → (file : List ℕ) → saving text (listed w) flag file ≡ stored_file (file_of text ts flag) file

  stored_saves : (ts : List Token) (flag : ℕ) → length text ≤ max_query_size → valid text ≡ true → accepted (length text) ts flag ≡ true → Saved ts flag (stored ts Done list)
  stored_saves ts flag l v a e file =
      ap (λ (w : Written). saving text (listed w) flag file) (stored_lists ts Done e).1
      ∙ ap (λ (x : List ℕ). saving text x flag file) (take_at (pack ts) (drop (length (pack ts)) list) (length ts * token_bytes) (length-pack ts))
      ∙ pack_saves text l ts flag a file v

  pub list_saves : Saved (tokens text) whole_flag (listing full text list)
  unfolding listing whole_list
  list_saves =
      cond_ind (Saved (tokens text) whole_flag) (too_long text) _ _ (λ a e. let n = (stored_lists too_long_list TooLong e).0 in absurd (omega (arith, n)))
      (λ a. cond_ind (Saved (tokens text) whole_flag) (not (valid text)) _ _ (λ v e. absurd (omega (arith, e)))
      (λ v. stored_saves (tokens text) whole_flag (ltb-false max_query_size (length text) a) (not-false (valid text) v) (full-accepted text)))

  pub list_up_to_saves : (position : ℕ) → Saved (list_up_to full position text) partial_flag (listing_up_to full position text list)
  unfolding listing_up_to
  list_up_to_saves position =
      let ts = list_up_to full position text in
      cond_ind (Saved ts partial_flag) (too_long text) _ _ (λ a e. absurd (omega (arith, e)))
      (λ a. cond_ind (Saved ts partial_flag) (not (valid text)) _ _ (λ v e. absurd (omega (arith, e)))
      (λ v. stored_saves ts partial_flag (ltb-false max_query_size (length text) a) (not-false (valid text) v) (up_to_accepted position text)))
