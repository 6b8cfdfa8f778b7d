-- What writer and reader answer, test by test in their order. Assumes nothing.
use Prim.Native.Nat.{ℕ, ◌+◌, ◌*◌, ◌%◌, ◌≤◌, ◌<◌}
use native.Mathlib.Omega.{arith}
use mathlib.Core.Path.{◌≡◌, sym, ap, ◌∙◌}
use mathlib.Core.List.{List, []}
use mathlib.Core.Bool.{true, false}
use lib.ListN.{length, get_or}
use lib.Dec.{eqb}
use lib.Seq.{length-take-le}
use borrow.Author.Tests.{lt-ltb, le-ltb, eq-eqb, ne_eqb}
use Rattle.rules.specs.Utf8.{valid_length}
use Rattle.rules.specs.Limits.{max_query_size, token_bytes}
use Rattle.rules.specs.Listing.{room}
use Rattle.rules.specs.Answers.{Done, TooLong, NotUtf8, NoRoom, refused, filled, Part}
use Rattle.rules.specs.Cases.{refusal_number, refusal_value}
use Rattle.rules.specs.declared.refusal.Refusal.{Refusal}
use Rattle.rules.proofs.Cases.{not_done}
use Rattle.rules.specs.Saved.{Malformed, NoVersion, version, end_bytes, record_bytes, trailer_bytes, file_of, trailer_at, offset_in, count_in, flag_in, version_in, zeros_in, text_in, list_in, accepted, tokens_of, writable, saving, readable, Verdict, verdict, opening, refused_load, loading, saved_text}
use Rattle.rules.proofs.Tests.{eqb-true, and_left, and_right}
use Rattle.rules.proofs.Saved.{Opens, opens_has, opens_of}

-- the writer
pub writable_has : (text list : List ℕ) (flag : ℕ) → writable text list flag ≡ true → accepted (length text) (tokens_of list) flag ≡ true
writable_has text list flag e = and_right (eqb (length list % token_bytes) 0) (accepted (length text) (tokens_of list) flag) e

module _ (text list : List ℕ) (flag : ℕ) (file : List ℕ) where
  pub saving_long : max_query_size < length text → saving text list flag file ≡ refused TooLong 0 file
  unfolding saving
  saving_long h = rw (lt-ltb max_query_size (length text) h)

  module _ (l : length text ≤ max_query_size) where
    pub saving_malformed : writable text list flag ≡ false → saving text list flag file ≡ refused Malformed 0 file
    unfolding saving
    saving_malformed w = rw (le-ltb max_query_size (length text) l, w)

    module _ (w : writable text list flag ≡ true) where
      pub saving-broken : (valid_length text ≡ length text → ⊥) → saving text list flag file ≡ refused NotUtf8 (valid_length text) file
      unfolding saving
      saving-broken v = rw (le-ltb max_query_size (length text) l, w, ne_eqb (valid_length text) (length text) v)

      module _ (v : valid_length text ≡ length text) where
        pub saving_no_room : length file < length (file_of text (tokens_of list) flag) → saving text list flag file ≡ refused NoRoom (length (file_of text (tokens_of list) flag)) file
        unfolding saving
        saving_no_room r = rw (le-ltb max_query_size (length text) l, w, eq-eqb (valid_length text) (length text) v, lt-ltb (length file) (length (file_of text (tokens_of list) flag)) r)

        pub saving_done : length (file_of text (tokens_of list) flag) ≤ length file
            → saving text list flag file ≡ record { number = Done; value = length (file_of text (tokens_of list) flag); buffer = filled (file_of text (tokens_of list) flag) file }
        unfolding saving
        saving_done r = rw (le-ltb max_query_size (length text) l, w, eq-eqb (valid_length text) (length text) v, le-ltb (length file) (length (file_of text (tokens_of list) flag)) r)

-- what the reader checks of lengths, zero bytes and list
module _ (file : List ℕ) where
  abbrev sized : ℕ
  sized = offset_in file + count_in file * record_bytes end_bytes + trailer_bytes

  pub readable_sized : readable file ≡ true → length file ≡ sized
  readable_sized e = eqb-true (and_left (eqb (length file) sized) (zeros_in file) (and_left _ (accepted (offset_in file) (list_in file) (flag_in file)) e))

  pub unsized : (length file ≡ sized → ⊥) → readable file ≡ false
  unsized h = rw (ne_eqb (length file) sized h)

  module _ (s : length file ≡ sized) where
    pub first-not-zero : (get_or file (trailer_at file + 10) 0 ≡ 0 → ⊥) → readable file ≡ false
    first-not-zero h = rw (eq-eqb (length file) sized s, ne_eqb (get_or file (trailer_at file + 10) 0) 0 h)

    module _ (z : get_or file (trailer_at file + 10) 0 ≡ 0) where
      pub second_not-zero : (get_or file (trailer_at file + 11) 0 ≡ 0 → ⊥) → readable file ≡ false
      second_not-zero h = rw (eq-eqb (length file) sized s, eq-eqb (get_or file (trailer_at file + 10) 0) 0 z, ne_eqb (get_or file (trailer_at file + 11) 0) 0 h)

      pub readable_by_list : get_or file (trailer_at file + 11) 0 ≡ 0 → readable file ≡ accepted (offset_in file) (list_in file) (flag_in file)
      readable_by_list y = rw (eq-eqb (length file) sized s, eq-eqb (get_or file (trailer_at file + 10) 0) 0 z, eq-eqb (get_or file (trailer_at file + 11) 0) 0 y)

-- the reader, before it asks for room
module _ (file : List ℕ) where
  pub opening_short : length file < trailer_bytes → opening file ≡ verdict Malformed 0
  unfolding opening
  opening_short h = rw (lt-ltb (length file) trailer_bytes h)

  module _ (a : trailer_bytes ≤ length file) where
    pub opening-version : (version_in file ≡ version → ⊥) → opening file ≡ verdict NoVersion 0
    unfolding opening
    opening-version h = rw (le-ltb (length file) trailer_bytes a, ne_eqb (version_in file) version h)

    module _ (v : version_in file ≡ version) where
      pub opening_long : max_query_size < offset_in file → opening file ≡ verdict TooLong 0
      unfolding opening
      opening_long h = rw (le-ltb (length file) trailer_bytes a, eq-eqb (version_in file) version v, lt-ltb max_query_size (offset_in file) h)

      module _ (s : offset_in file ≤ max_query_size) where
        pub opening_unreadable : readable file ≡ false → opening file ≡ verdict Malformed 0
        unfolding opening
        opening_unreadable r = rw (le-ltb (length file) trailer_bytes a, eq-eqb (version_in file) version v, le-ltb max_query_size (offset_in file) s, r)

        module _ (r : readable file ≡ true) where
          pub opening-broken : (valid_length (text_in file) ≡ length (text_in file) → ⊥) → opening file ≡ verdict NotUtf8 (valid_length (text_in file))
          unfolding opening
          opening-broken h = rw (le-ltb (length file) trailer_bytes a, eq-eqb (version_in file) version v, le-ltb max_query_size (offset_in file) s, r, ne_eqb (valid_length (text_in file)) (length (text_in file)) h)

          pub opening_done : valid_length (text_in file) ≡ length (text_in file) → opening file ≡ verdict Done (offset_in file)
          unfolding opening
          opening_done h = rw (le-ltb (length file) trailer_bytes a, eq-eqb (version_in file) version v, le-ltb max_query_size (offset_in file) s, r, eq-eqb (valid_length (text_in file)) (length (text_in file)) h)

-- and then
module _ (file list : List ℕ) where
  pub loading-refused : ((opening file).number ≡ Done → ⊥) → loading file list ≡ refused_load (opening file).number (opening file).value list
  unfolding loading
  loading-refused h = rw (ne_eqb (opening file).number Done h)

  pub loading_no_room : Opens file → room list < count_in file → loading file list ≡ refused_load NoRoom (count_in file) list
  unfolding loading
  loading_no_room o r = rw (opens_of file o, lt-ltb (room list) (count_in file) r)

-- the text of a file that is refused, and of one that is not
module _ (file : List ℕ) where
  pub text-refused : (n v : ℕ) → (n ≡ Done → ⊥) → opening file ≡ verdict n v → saved_text file ≡ record { number = n; value = v; bytes = [] }
  unfolding saved_text
  text-refused n v h e = rw (e, ne_eqb n Done h)

  pub text_given : opening file ≡ verdict Done (offset_in file) → saved_text file ≡ record { number = Done; value = length (text_in file); bytes = text_in file }
  unfolding saved_text
  text_given e =
      let o = opens_has file (eq-eqb (opening file).number Done (ap (λ (v : Verdict). v.number) e)) in
      let n : length (text_in file) ≡ offset_in file = length-take-le (offset_in file) file (omega (arith, o.sizes)) in
      rw (e, n)

  pub text_opens : (n : ℕ) (b : List ℕ) → record { number = Done; value = n; bytes = b } ≡ saved_text file → Opens file × (n ≡ offset_in file)
  unfolding saved_text
  text_opens n b e =
      let o = opens_has file (eq-eqb (opening file).number Done (sym (ap (λ (p : Part). p.number) e))) in
      (o, ap (λ (p : Part). p.value) e ∙ ap (λ (v : Verdict). v.value) (opens_of file o))

  -- and a list is refused as the text is
  pub list-refused : (r : Refusal) (list : List ℕ) → record { number = refusal_number r; value = refusal_value r; bytes = [] } ≡ saved_text file
      → loading file list ≡ refused_load (refusal_number r) (refusal_value r) list
  unfolding saved_text
  list-refused r list e =
      let n = ap (λ (p : Part). p.number) e in
      loading-refused file list (λ d. not_done r (n ∙ d)) ∙ (λ i. refused_load (sym n i) (sym (ap (λ (p : Part). p.value) e) i) list)
