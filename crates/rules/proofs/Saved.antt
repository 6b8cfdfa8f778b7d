-- #101: writer and reader are inverse to one another. What the writer makes is read back; every file that is accepted is the one that the writer makes
-- of what was read; and so two accepted files of one text, list and flag are equal. Assumes nothing.
use Prim.Native.Nat.{ℕ, zero, suc, ◌+◌, ◌*◌, ◌%◌, ◌^◌, ◌≤◌, ◌<◌}
use native.Mathlib.Omega.{arith}
use native.Mathlib.Nat.{add-zero, zero-mul, suc-mul}
use mathlib.Core.Path.{◌≡◌, refl, sym, ap, ap₂, ◌∙◌, subst}
use mathlib.Core.List.{List, [], ◌∷◌, ◌++◌, append_assoc}
use mathlib.Core.Bool.{true, not}
use lib.ListN.{length, get_or, take, drop, length-append, length-drop, take-append-drop, drop_of_length-le}
use lib.Dec.{ltb, eqb}
use lib.Seq.{get_or-drop, drop-cons, drop_at, take_at, take-add, drop-drop, length-take-le}
use borrow.Author.Tests.{le-ltb, ltb-false, eq-eqb, not-true, not-false}
use Rattle.rules.specs.Utf8.{valid}
use Rattle.rules.specs.Limits.{max_query_size, token_bytes}
use Rattle.rules.specs.Tokens.{Token, token}
use Rattle.rules.specs.Listing.{bytes_of32, pack, room, number_at}
use Rattle.rules.specs.Answers.{Done, too_long, Written, filled}
use Rattle.rules.specs.Saved.{version, end_bytes, record_bytes, records_of, trailer_of, trailer_bytes, file_of, end_in, tokens_in, trailer_at, offset_in, count_in, flag_in, version_in, zeros_in, text_in, list_in, goes_on, chains, accepted, tokens_of, writable, saving, stored_file, readable, Verdict, verdict, opening, opens, Loaded, loading, saved_text}
use Rattle.rules.proofs.Tests.{eqb-true, and_both, clash, cond_ind}
use Rattle.rules.proofs.Listing.{length-pack}
use Rattle.rules.proofs.Unpacking.{AllBytes, bytes_drop, length-unpack, number_dropped, number_bytes, four_back, pack-back}
use Rattle.rules.proofs.Chains.{chains_more, goes_on_lem, accepted_has}
use Rattle.rules.proofs.SavedLists.{pack_saves}

one_more : (n width : ℕ) → suc n * record_bytes width ≡ suc (width + n * record_bytes width)
one_more n width = suc-mul n (record_bytes width) ∙ omega arith

same_token : {a b c : ℕ} {t : Token} → a ≡ t.kind → b ≡ t.start → c ≡ t.end → token a b c ≡ t
same_token p q r i = record { kind = p i; start = q i; end = r i }

same_three : {a b c a' b' c' : ℕ} → a ≡ a' → b ≡ b' → c ≡ c' → ◌≡◌ {A = List ℕ} (a ∷ b ∷ c ∷ []) (a' ∷ b' ∷ c' ∷ [])
same_three p q r i = p i ∷ q i ∷ r i ∷ []

-- Records of any width that holds the ends of a text of some length.
pub record Holds (width size : ℕ) : Type 0 where
  pub length_end : (n : ℕ) → length (take width (bytes_of32 n)) ≡ width
  pub end_back : (n : ℕ) → n ≤ size → number_at (take width (bytes_of32 n)) 0 ≡ n
  pub bytes_back : (l : List ℕ) → AllBytes l → width ≤ length l → take width (bytes_of32 (number_at (take width l) 0)) ≡ take width l

-- "A record is a kind byte and the token's end": so many bytes.
pub length-records : (width : ℕ) → ((n : ℕ) → length (take width (bytes_of32 n)) ≡ width) → (ts : List Token) → length (records_of width ts) ≡ length ts * record_bytes width
unfolding records_of
length-records width e [] = sym (zero-mul (record_bytes width))
length-records width e (t ∷ ts) =
    ap suc (length-append (take width (bytes_of32 t.end)) (records_of width ts) ∙ ap₂ ◌+◌ (e t.end) (length-records width e ts)) ∙ sym (one_more (length ts) width)

module _ (width size : ℕ) (w : Holds width size) where
  -- reading undoes writing
  records-back : (ts : List Token) (at : ℕ) (rest : List ℕ) → chains size at ts ≡ true → tokens_in width (length ts) at (records_of width ts ++ rest) ≡ ts
  unfolding tokens_in records_of
  records-back [] at rest e = refl
  records-back (t ∷ ts) at rest e =
      let a = and_both (goes_on size at t) (chains size t.end ts) (sym (chains_more size at t ts) ∙ e) in
      let g = goes_on_lem size at t a.0 in
      let k = g.kind in
      let x = take width (bytes_of32 t.end) in
      let r = records_of width ts in
      let y = r ++ rest in
      let z = append_assoc x r rest in
      let n : number_at (take width ((x ++ r) ++ rest)) 0 ≡ t.end = ap (λ (l : List ℕ). number_at l 0) (ap (take width) z ∙ take_at x y width (w.length_end t.end)) ∙ w.end_back t.end g.inside in
      let d : drop width ((x ++ r) ++ rest) ≡ y = ap (drop width) z ∙ drop_at x y width (w.length_end t.end) in
      ap₂ {C = List Token} (λ (u : Token) (us : List Token). u ∷ us) (same_token (omega arith) (sym g.start) n)
      (ap₂ (λ (m : ℕ) (l : List ℕ). tokens_in width (length ts) m l) n d ∙ records-back ts t.end rest a.1)

  -- and writing reading
  bytes_of_records : (n at : ℕ) (l : List ℕ) → AllBytes l → n * record_bytes width ≤ length l → records_of width (tokens_in width n at l) ≡ take (n * record_bytes width) l
  unfolding tokens_in records_of
  bytes_of_records zero at l b h = ap (λ (m : ℕ). take m l) (sym (zero-mul (record_bytes width)))
  bytes_of_records (suc n) at [] b h = absurd (omega (arith, one_more n width))
  bytes_of_records (suc n) at (x ∷ l) b h =
      let x_small = b.each 0 in
      let m = one_more n width in
      let r = bytes_drop 1 (x ∷ l) b in
      let long : width ≤ length l = omega arith in
      let left : n * record_bytes width ≤ length (drop width l) = omega (arith, length-drop width l) in
      let e : x % 256 ≡ x = omega arith in
      ap₂ {C = List ℕ} (λ (y : ℕ) (ys : List ℕ). y ∷ ys) e
      (ap₂ ◌++◌ (w.bytes_back l r long) (bytes_of_records n (end_in width (x ∷ l)) (drop width l) (bytes_drop width l r) left)
      ∙ sym (take-add width (n * record_bytes width) l))
      ∙ ap (λ (k : ℕ). take k (x ∷ l)) (sym m)

-- Three bytes hold ends of 24 bits.
three : (size : ℕ) → size < 2 ^ 24 → Holds end_bytes size
three size h = record { length_end = λ n. refl; end_back = back; bytes_back = bytes }
  where
    back : (n : ℕ) → n ≤ size → number_at (take end_bytes (bytes_of32 n)) 0 ≡ n
    back n k = omega arith

    bytes : (l : List ℕ) → AllBytes l → end_bytes ≤ length l → take end_bytes (bytes_of32 (number_at (take end_bytes l) 0)) ≡ take end_bytes l
    bytes [] b k = absurd (omega arith)
    bytes (x ∷ []) b k = absurd (omega arith)
    bytes (x ∷ y ∷ []) b k = absurd (omega arith)
    bytes (x ∷ y ∷ z ∷ l) b k = let p = b.each 0 in let q = b.each 1 in let r = b.each 2 in same_three (omega arith) (omega arith) (omega arith)

-- The trailer of a file is the one that is written, if the fields are.
module _ (file front : List ℕ) (offset count flag : ℕ) (e : file ≡ front ++ trailer_of offset count flag) where
  at_trailer : trailer_at file ≡ length front
  at_trailer = let l = ap length e ∙ length-append front (trailer_of offset count flag) in omega arith

  there : drop (trailer_at file) file ≡ trailer_of offset count flag
  there = ap (drop (trailer_at file)) e ∙ drop_at front (trailer_of offset count flag) (trailer_at file) (sym at_trailer)

  number_there : (k : ℕ) → number_at file (trailer_at file + k) ≡ number_at (trailer_of offset count flag) k
  number_there k = number_dropped file (trailer_at file) k ∙ ap (λ (l : List ℕ). number_at l k) there

  byte_there : (k : ℕ) → get_or file (trailer_at file + k) 0 ≡ get_or (trailer_of offset count flag) k 0
  byte_there k = sym (get_or-drop (trailer_at file) file k 0) ∙ ap (λ (l : List ℕ). get_or l k 0) there

  offset_there : offset < 2 ^ 32 → offset_in file ≡ offset
  offset_there h = ap (number_at file) (sym (add-zero (trailer_at file))) ∙ number_there 0 ∙ four_back offset h

  count_there : count < 2 ^ 32 → count_in file ≡ count
  count_there h = number_there 4 ∙ four_back count h

same_trailer : {a b c a' b' c' : ℕ} → a ≡ a' → b ≡ b' → c ≡ c' → trailer_of a b c ≡ trailer_of a' b' c'
same_trailer p q r i = trailer_of (p i) (q i) (r i)

-- And every trailer whose marks are these is one that is written.
trailer_back : (l : List ℕ) → length l ≡ trailer_bytes → AllBytes l → get_or l 9 0 ≡ version → get_or l 10 0 ≡ 0 → get_or l 11 0 ≡ 0 → trailer_of (number_at l 0) (number_at l 4) (get_or l 8 0) ≡ l
trailer_back l n b v y z =
    let marks : drop 8 l ≡ get_or l 8 0 ∷ version ∷ 0 ∷ 0 ∷ [] =
    drop-cons l 8 0 (omega arith)
    ∙ ap (λ (x : List ℕ). get_or l 8 0 ∷ x) (drop-cons l 9 0 (omega arith)
    ∙ ap₂ {C = List ℕ} (λ (c : ℕ) (x : List ℕ). c ∷ x) v (drop-cons l 10 0 (omega arith)
    ∙ ap₂ {C = List ℕ} (λ (c : ℕ) (x : List ℕ). c ∷ x) y (drop-cons l 11 0 (omega arith)
    ∙ ap₂ {C = List ℕ} (λ (c : ℕ) (x : List ℕ). c ∷ x) z (drop_of_length-le l {i = 12} (omega arith))))) in
    ap₂ ◌++◌ (number_bytes l 0 b (omega arith))
    (ap₂ ◌++◌ (number_bytes l 4 b (omega arith)) (sym marks) ∙ ap (λ (x : List ℕ). take 4 (drop 4 l) ++ x) (sym (drop-drop 4 4 l)) ∙ take-append-drop 4 (drop 4 l))
    ∙ take-append-drop 4 l

-- What a file has that is accepted.
pub record Opens (file : List ℕ) : Type 0 where
  pub long : trailer_bytes ≤ length file
  pub known : version_in file ≡ version
  pub short : offset_in file ≤ max_query_size
  pub sizes : length file ≡ offset_in file + count_in file * record_bytes end_bytes + trailer_bytes
  pub zeros : (get_or file (trailer_at file + 10) 0 ≡ 0) × (get_or file (trailer_at file + 11) 0 ≡ 0)
  pub list : accepted (offset_in file) (list_in file) (flag_in file) ≡ true
  pub proper : valid (text_in file) ≡ true

pub opens_has : (file : List ℕ) → opens file ≡ true → Opens file
unfolding opening
opens_has file e =
    cond_ind F (ltb (length file) trailer_bytes) _ _ (λ a f. clash f refl)
    (λ a. cond_ind F (not (eqb (version_in file) version)) _ _ (λ c f. clash f refl)
    (λ c. cond_ind F (ltb max_query_size (offset_in file)) _ _ (λ d f. clash f refl)
    (λ d. cond_ind F (not (readable file)) _ _ (λ r f. clash f refl)
    (λ r. cond_ind F (not (valid (text_in file))) _ _ (λ v f. clash f refl)
    (λ v f.
    let q = and_both _ (accepted (offset_in file) (list_in file) (flag_in file)) (not-false (readable file) r) in
    let p = and_both (eqb (length file) (offset_in file + count_in file * record_bytes end_bytes + trailer_bytes)) (zeros_in file) q.0 in
    let z = and_both (eqb (get_or file (trailer_at file + 10) 0) 0) (eqb (get_or file (trailer_at file + 11) 0) 0) p.1 in
    record {
      long = ltb-false (length file) trailer_bytes a;
      known = eqb-true (not-false _ c);
      short = ltb-false max_query_size (offset_in file) d;
      sizes = eqb-true p.0;
      zeros = (eqb-true z.0, eqb-true z.1);
      list = q.1;
      proper = not-false _ v;
    }))))) e
  where
    F : Verdict → Type 0
    F v = eqb v.number Done ≡ true → Opens file

-- and what is answered then
pub opens_of : (file : List ℕ) → Opens file → opening file ≡ verdict Done (offset_in file)
unfolding opening
opens_of file o = rw (le-ltb (length file) trailer_bytes o.long, o.known, le-ltb max_query_size (offset_in file) o.short, eq-eqb (length file) _ o.sizes, o.zeros.0, o.zeros.1, o.list, o.proper)

pub length-tokens : (width n at : ℕ) (l : List ℕ) → length (tokens_in width n at l) ≡ n
unfolding tokens_in
length-tokens width zero at l = refl
length-tokens width (suc n) at l = ap suc (length-tokens width n (end_in width l) (drop (record_bytes width) l))

-- "Every accepted file is the one the writer makes of what was read": byte for byte.
pub one_file : (file : List ℕ) → AllBytes file → Opens file → file_of (text_in file) (list_in file) (flag_in file) ≡ file
one_file file b o =
    let off = offset_in file in
    let n = count_in file in
    let at = trailer_at file in
    let z = o.sizes in
    let l = o.long in
    let h = length-drop off file in
    let size : length (text_in file) ≡ off = length-take-le off file (omega arith) in
    let count : length (list_in file) ≡ n = length-tokens end_bytes n 0 (drop off file) in
    let records = bytes_of_records end_bytes off (three off (omega (arith, o.short))) n 0 (drop off file) (bytes_drop off file b) (omega arith) in
    let d = drop at file in
    let there : (k : ℕ) → number_at file (at + k) ≡ number_at d k = number_dropped file at in
    let byte : (k : ℕ) → get_or d k 0 ≡ get_or file (at + k) 0 = λ k. get_or-drop at file k 0 in
    let first : number_at file at ≡ number_at d 0 = ap (number_at file) (sym (add-zero at)) ∙ there 0 in
    let trailer : trailer_of off n (flag_in file) ≡ d =
    same_trailer first (there 4) (sym (byte 8))
    ∙ trailer_back d (omega (arith, length-drop at file)) (bytes_drop at file b) (byte 9 ∙ o.known) (byte 10 ∙ o.zeros.0) (byte 11 ∙ o.zeros.1) in
    let seam : at ≡ off + n * record_bytes end_bytes = omega arith in
    ap₂ (λ (x y : ℕ). text_in file ++ (records_of end_bytes (list_in file) ++ trailer_of x y (flag_in file))) size count
    ∙ ap (λ (x : List ℕ). text_in file ++ x)
    (ap₂ ◌++◌ records (trailer ∙ ap (λ (k : ℕ). drop k file) seam ∙ sym (drop-drop (n * record_bytes end_bytes) off file)) ∙ take-append-drop (n * record_bytes end_bytes) (drop off file))
    ∙ take-append-drop off file

-- "So .. two accepted files of one text, list and flag are equal."
pub same_file : (file other : List ℕ) → AllBytes file → AllBytes other → Opens file → Opens other → text_in file ≡ text_in other → list_in file ≡ list_in other → flag_in file ≡ flag_in other → file ≡ other
same_file file other b c o p t l f = sym (one_file file b o) ∙ (λ i. file_of (t i) (l i) (f i)) ∙ one_file other c p

-- "Reading a written file gives text and list back", and the flag.
pub record GivesBack (file text : List ℕ) (ts : List Token) (flag : ℕ) : Type 0 where
  pub opens : Opens file
  pub is-text : text_in file ≡ text
  pub size : offset_in file ≡ length text
  pub is_list : list_in file ≡ ts
  pub count : count_in file ≡ length ts
  pub is_flag : flag_in file ≡ flag

pub length_file : (text : List ℕ) (ts : List Token) (flag : ℕ) → length (file_of text ts flag) ≡ length text + length ts * record_bytes end_bytes + trailer_bytes
length_file text ts flag =
    let r = records_of end_bytes ts in
    let t = trailer_of (length text) (length ts) flag in
    let a = length-append text (r ++ t) in
    let b = length-append r t in
    let c = length-records end_bytes (λ n. refl) ts in
    omega arith

pub gives_back : (text : List ℕ) (ts : List Token) (flag : ℕ) → length text ≤ max_query_size → accepted (length text) ts flag ≡ true → valid text ≡ true → GivesBack (file_of text ts flag) text ts flag
gives_back text ts flag l a v =
    let f = file_of text ts flag in
    let r = records_of end_bytes ts in
    let t = trailer_of (length text) (length ts) flag in
    let has = accepted_has (length text) ts flag a in
    let few = has.few in
    let e : f ≡ (text ++ r) ++ t = sym (append_assoc text r t) in
    let byte = byte_there f (text ++ r) (length text) (length ts) flag e in
    let off : offset_in f ≡ length text = offset_there f (text ++ r) (length text) (length ts) flag e (omega arith) in
    let n : count_in f ≡ length ts = count_there f (text ++ r) (length text) (length ts) flag e (omega arith) in
    let is-text : text_in f ≡ text = ap (λ (k : ℕ). take k f) off ∙ take_at text (r ++ t) (length text) refl in
    let is_list : list_in f ≡ ts =
    ap₂ (λ (k m : ℕ). tokens_in end_bytes k 0 (drop m f)) n off
    ∙ ap (tokens_in end_bytes (length ts) 0) (drop_at text (r ++ t) (length text) refl)
    ∙ records-back end_bytes (length text) (three (length text) (omega arith)) ts 0 t has.chain in
    let z = length_file text ts flag in
    record {
      opens = record {
        long = omega arith;
        known = byte 9;
        short = omega arith;
        sizes = omega arith;
        zeros = (byte 10, byte 11);
        list = (λ i. accepted (off i) (is_list i) (byte 8 i)) ∙ a;
        proper = ap valid is-text ∙ v;
      };
      is-text = is-text;
      size = off;
      is_list = is_list;
      count = n;
      is_flag = byte 8;
    }

-- What the writer accepts, and what it answers then.
pub record Saves (text list : List ℕ) (flag : ℕ) : Type 0 where
  pub short : length text ≤ max_query_size
  pub whole : length list % token_bytes ≡ 0
  pub fits : accepted (length text) (tokens_of list) flag ≡ true
  pub proper : valid text ≡ true

module _ (text list : List ℕ) (flag : ℕ) (file : List ℕ) where
  abbrev made : List ℕ
  made = file_of text (tokens_of list) flag

  saves_has : (saving text list flag file).number ≡ Done → Saves text list flag × (saving text list flag file ≡ record { number = Done; value = length made; buffer = filled made file })
  unfolding saving
  saves_has e =
      cond_ind F (too_long text) _ _ (λ a f. absurd (omega (arith, f)))
      (λ a. cond_ind F (not (writable text list flag)) _ _ (λ w f. absurd (omega (arith, f)))
      (λ w. cond_ind F (not (valid text)) _ _ (λ v f. absurd (omega (arith, f)))
      (λ v. cond_ind F (ltb (length file) (length made)) _ _ (λ r f. absurd (omega (arith, f)))
      (λ r f.
      let q = and_both (eqb (length list % token_bytes) 0) (accepted (length text) (tokens_of list) flag) (not-false (writable text list flag) w) in
      (record { short = ltb-false max_query_size (length text) a; whole = eqb-true q.0; fits = q.1; proper = not-false (valid text) v }, refl))))) e
    where
      F : Written → Type 0
      F w = w.number ≡ Done → Saves text list flag × (w ≡ record { number = Done; value = length made; buffer = filled made file })

-- What the reader does with a file that is accepted.
pub load_done : (file list : List ℕ) → Opens file → count_in file ≤ room list → loading file list ≡ record { number = Done; value = count_in file; flag = flag_in file; buffer = filled (pack (list_in file)) list }
unfolding loading
load_done file list o r = rw (opens_of file o, le-ltb (room list) (count_in file) r)

pub text_done : (file : List ℕ) → Opens file → saved_text file ≡ record { number = Done; value = offset_in file; bytes = text_in file }
unfolding saved_text
text_done file o = rw (opens_of file o)

front_of : (bytes buffer : List ℕ) (n : ℕ) → length bytes ≡ n → take n (filled bytes buffer) ≡ bytes
front_of bytes buffer n e = take_at bytes (drop (length bytes) buffer) n e

-- Round trip: reading what the writer made gives text, list and flag back, for every text, list and flag that it accepts.
module _ (text list : List ℕ) (flag : ℕ) (file : List ℕ) (b : AllBytes list) (e : (saving text list flag file).number ≡ Done) where
  abbrev saved : List ℕ
  saved = take (saving text list flag file).value (saving text list flag file).buffer

  saved_is : saved ≡ file_of text (tokens_of list) flag
  saved_is = rw (saves_has text list flag file e).1 (front_of (file_of text (tokens_of list) flag) file _ refl)

  back : GivesBack saved text (tokens_of list) flag
  back =
      let s = (saves_has text list flag file e).0 in
      subst (λ (f : List ℕ). GivesBack f text (tokens_of list) flag) (sym saved_is) (gives_back text (tokens_of list) flag s.short s.fits s.proper)

  pub text-back : saved_text saved ≡ record { number = Done; value = length text; bytes = text }
  text-back = text_done saved back.opens ∙ (λ i. record { number = Done; value = back.size i; bytes = back.is-text i })

  -- the packed list, byte for byte, in any room that is enough for it
  pub list_again : (buffer : List ℕ) → room list ≤ room buffer → loading saved buffer ≡ record { number = Done; value = room list; flag = flag; buffer = filled list buffer }
  list_again buffer r =
      let z = (saves_has text list flag file e).0.whole in
      let c : count_in saved ≡ room list = back.count ∙ length-unpack (room list) list in
      let p : pack (list_in saved) ≡ list = ap pack back.is_list ∙ pack-back (room list) list b (omega arith) in
      load_done saved buffer back.opens (omega (arith, c)) ∙ (λ i. record { number = Done; value = c i; flag = back.is_flag i; buffer = filled (p i) buffer })

-- One file: what the writer makes of what was read is the file, byte for byte.
module _ (file list : List ℕ) (b : AllBytes file) (e : (loading file list).number ≡ Done) where
  abbrev read : List ℕ
  read = take ((loading file list).value * token_bytes) (loading file list).buffer

  loads_has : Opens file × (count_in file ≤ room list)
  unfolding loading
  loads_has =
      cond_ind F (not (opens file)) _ _ (λ o f. clash (eq-eqb (opening file).number Done f) (not-true (opens file) o))
      (λ o. cond_ind F (ltb (room list) (count_in file)) _ _ (λ r f. absurd (omega (arith, f)))
      (λ r f. (opens_has file (not-false (opens file) o), ltb-false (room list) (count_in file) r))) e
    where
      F : Loaded → Type 0
      F l = l.number ≡ Done → Opens file × (count_in file ≤ room list)

  pub file_again : (buffer : List ℕ) → length file ≤ length buffer → saving (saved_text file).bytes read (loading file list).flag buffer ≡ record { number = Done; value = length file; buffer = filled file buffer }
  file_again buffer r =
      let o = loads_has.0 in
      let h = load_done file list o loads_has.1 in
      let ts = list_in file in
      let z = o.sizes in
      let size : length (text_in file) ≡ offset_in file = length-take-le (offset_in file) file (omega arith) in
      let n : length (pack ts) ≡ count_in file * token_bytes = length-pack ts ∙ ap (λ (k : ℕ). k * token_bytes) (length-tokens end_bytes (count_in file) 0 (drop (offset_in file) file)) in
      let bytes : read ≡ pack ts = ap (λ (l : Loaded). take (l.value * token_bytes) l.buffer) h ∙ front_of (pack ts) list (count_in file * token_bytes) n in
      let fits : accepted (length (text_in file)) ts (flag_in file) ≡ true = ap (λ (k : ℕ). accepted k ts (flag_in file)) size ∙ o.list in
      (λ i. saving (text_done file o i).bytes (bytes i) (h i).flag buffer)
      ∙ pack_saves (text_in file) (omega (arith, o.short)) ts (flag_in file) fits buffer o.proper
      ∙ ap (λ (f : List ℕ). stored_file f buffer) (one_file file b o)
      ∙ rw (le-ltb (length buffer) (length file) r)
