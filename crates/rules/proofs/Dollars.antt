-- Rule 5: here-documents and lone dollars.
use Prim.Native.Nat.{ℕ, zero, suc, ◌+◌, ◌*◌, ◌<◌}
use native.Mathlib.Omega.{arith}
use mathlib.Core.Path.{◌≡◌, refl, sym, ap, ◌∙◌, subst}
use mathlib.Core.List.{List, [], ◌∷◌, ◌++◌, append_assoc}
use mathlib.Core.Bool.{Bool, true, false}
use mathlib.Core.Option.{Option, some, none}
use lib.Dec.{eqb}
use lib.ListN.{length, drop, length-append}
use Rattle.rules.specs.Utf8.{Char, width}
use Rattle.rules.specs.Characters.{dollar}
use Rattle.rules.specs.Kinds.{HereDoc, DollarSign}
use Rattle.rules.specs.Limits.{mask_byte}
use Rattle.rules.specs.Lexeme.{first}
use Rattle.rules.specs.Dollars.{tag_byte, tag_of, begins, find, delimiter, here_doc, dollar_lexeme}
use Rattle.rules.specs.Tokens.{rule, dollars, read, lexeme_of}
use Rattle.rules.specs.Masking.{before_dollar, tag_width, front, back}
use Rattle.rules.proofs.Reading.{flatten, widths, Read, flatten-append, widths_append}
use Rattle.rules.proofs.Proper.{Propers, propers, propers_left, propers_right, one_byte, one_wide}
use Rattle.rules.proofs.Masks.{Masks, end, keep, hide, kept_masks, hash, hashes}
use Rattle.rules.proofs.Step.{Step}
use Rattle.rules.proofs.Rules.{lexeme_by, rule-first, plain_step, hiding_step}
use Rattle.rules.proofs.Tests.{clash, eqb-true, eqb_same, and_left, and_right, apart, apart', tag_small}

-- the clauses of `tag_of`, by its tests
module _ (c : Char) (cs : List Char) where
  pub tag_end : eqb c.code dollar ≡ true → tag_of (c ∷ cs) ≡ some []
  unfolding tag_of
  tag_end e = rw (e, tag_of)

  pub tag_not : eqb c.code dollar ≡ false → tag_byte c.code ≡ false → tag_of (c ∷ cs) ≡ none
  unfolding tag_of
  tag_not e f = rw (e, f, tag_of)

  pub tag_none : eqb c.code dollar ≡ false → tag_byte c.code ≡ true → tag_of cs ≡ none → tag_of (c ∷ cs) ≡ none
  unfolding tag_of
  tag_none e f g = rw (e, f, g, tag_of)

  pub tag_more : (t : List ℕ) → eqb c.code dollar ≡ false → tag_byte c.code ≡ true → tag_of cs ≡ some t → tag_of (c ∷ cs) ≡ some (c.code ∷ t)
  unfolding tag_of
  tag_more t e f g = rw (e, f, g, tag_of)

-- ts spells the tag
abbrev Tags : List Char → List ℕ → Type 0
Tags [] [] = Unit {0}
Tags [] (n ∷ tag) = ⊥
Tags (c ∷ ts) [] = ⊥
Tags (c ∷ ts) (n ∷ tag) = (c.code ≡ n) × (tag_byte n ≡ true) × Tags ts tag

record Tagged (cs : List Char) (tag : List ℕ) : Type 0 where
  ts : List Char
  x : Char
  rest : List Char
  whole : cs ≡ ts ++ (x ∷ rest)
  tags : Tags ts tag
  ends : x.code ≡ dollar

abbrev Split : List Char → Option (List ℕ) → Type 0
Split cs none = Unit {0}
Split cs (some tag) = Tagged cs tag

tag_split : (cs : List Char) → Split cs (tag_of cs)
unfolding tag_of
tag_split [] = tt
tag_split (c ∷ cs) = go (eqb c.code dollar) (tag_byte c.code) (tag_of cs) refl refl refl (tag_split cs)
  where
    go : (x y : Bool) (o : Option (List ℕ)) → eqb c.code dollar ≡ x → tag_byte c.code ≡ y → tag_of cs ≡ o → Split cs o → Split (c ∷ cs) (tag_of (c ∷ cs))
    go true y o ex ey eo s = subst (Split (c ∷ cs)) (sym (tag_end c cs ex)) (record { ts = []; x = c; rest = cs; whole = refl; tags = tt; ends = eqb-true ex })
    go false false o ex ey eo s = subst (Split (c ∷ cs)) (sym (tag_not c cs ex ey)) tt
    go false true none ex ey eo s = subst (Split (c ∷ cs)) (sym (tag_none c cs ex ey eo)) tt
    go false true (some t) ex ey eo s = subst (Split (c ∷ cs)) (sym (tag_more c cs t ex ey eo)) (record { ts = c ∷ s.ts; x = s.x; rest = s.rest; whole = ap {B = List Char} (λ (l : List Char). c ∷ l) s.whole; tags = (refl, ey, s.tags); ends = s.ends })

tag_again : (ts : List Char) (tag : List ℕ) (x : Char) (vs : List Char) → Tags ts tag → x.code ≡ dollar → tag_of (ts ++ (x ∷ vs)) ≡ some tag
tag_again [] [] x vs t e = tag_end x vs (ap (λ (n : ℕ). eqb n dollar) e)
tag_again [] (n ∷ tag) x vs t e = absurd t
tag_again (c ∷ ts) [] x vs t e = absurd t
tag_again (c ∷ ts) (n ∷ tag) x vs t e =
    let b : tag_byte c.code ≡ true = ap tag_byte t.0 ∙ t.1 in
    tag_more c (ts ++ (x ∷ vs)) tag (apart tag_byte c.code dollar b refl) b (tag_again ts tag x vs t.2 e) ∙ ap {B = Option (List ℕ)} (λ (n : ℕ). some (n ∷ tag)) t.0

drop_tag : (ts : List Char) (tag : List ℕ) (x : Char) (vs : List Char) → Tags ts tag → drop (suc (length tag)) (ts ++ (x ∷ vs)) ≡ vs
drop_tag [] [] x vs t = refl
drop_tag [] (n ∷ tag) x vs t = absurd t
drop_tag (c ∷ ts) [] x vs t = absurd t
drop_tag (c ∷ ts) (n ∷ tag) x vs t = drop_tag ts tag x vs t.2

-- codes of ASCII that are no `#`
abbrev Clean : List ℕ → Type 0
Clean [] = Unit {0}
Clean (n ∷ d) = (eqb mask_byte n ≡ false) × (n < 128) × Clean d

clean_append : (d : List ℕ) → Clean d → Clean (d ++ (dollar ∷ []))
clean_append [] k = (refl, omega arith, tt)
clean_append (n ∷ d) k = (k.0, k.1, clean_append d k.2)

clean_delimiter : (tag : List ℕ) → Clean tag → Clean (delimiter tag)
clean_delimiter tag k = (refl, omega arith, clean_append tag k)

clean_tags : (ts : List Char) (tag : List ℕ) → Tags ts tag → Clean tag
clean_tags [] [] t = tt
clean_tags [] (n ∷ tag) t = absurd t
clean_tags (c ∷ ts) [] t = absurd t
clean_tags (c ∷ ts) (n ∷ tag) t = (apart' tag_byte mask_byte n refl t.1, tag_small n t.1, clean_tags ts tag t.2)

-- ds spells d
abbrev Spells : List ℕ → List Char → Type 0
Spells [] [] = Unit {0}
Spells [] (c ∷ cs) = ⊥
Spells (n ∷ d) [] = ⊥
Spells (n ∷ d) (c ∷ cs) = (c.code ≡ n) × Spells d cs

record Begun (d : List ℕ) (cs : List Char) : Type 0 where
  ds : List Char
  vs : List Char
  whole : cs ≡ ds ++ vs
  spells : Spells d ds

begins_split : (d : List ℕ) (cs : List Char) → begins d cs ≡ true → Begun d cs
unfolding begins
begins_split [] cs e = record { ds = []; vs = cs; whole = refl; spells = tt }
begins_split (n ∷ d) [] e = clash refl (sym e)
begins_split (n ∷ d) (c ∷ cs) e =
    let b = begins_split d cs (and_right (eqb c.code n) (begins d cs) e) in
    record { ds = c ∷ b.ds; vs = b.vs; whole = ap {B = List Char} (λ (l : List Char). c ∷ l) b.whole; spells = (eqb-true (and_left (eqb c.code n) (begins d cs) e), b.spells) }

begins_again : (d : List ℕ) (ds vs : List Char) → Spells d ds → begins d (ds ++ vs) ≡ true
unfolding begins
begins_again [] [] vs s = refl
begins_again [] (c ∷ ds) vs s = refl
begins_again (n ∷ d) [] vs s = absurd s
begins_again (n ∷ d) (c ∷ ds) vs s = rw (s.0, eqb_same n) (begins_again d ds vs s.1)

-- the clauses of `find`
module _ (d : List ℕ) (c : Char) (cs : List Char) where
  pub find_here : begins d (c ∷ cs) ≡ true → find d (c ∷ cs) ≡ some 0
  unfolding find
  find_here e = rw (e, find)

  pub find_none : begins d (c ∷ cs) ≡ false → find d cs ≡ none → find d (c ∷ cs) ≡ none
  unfolding find
  find_none e f = rw (e, f, find)

  pub find_later : (n : ℕ) → begins d (c ∷ cs) ≡ false → find d cs ≡ some n → find d (c ∷ cs) ≡ some (width c + n)
  unfolding find
  find_later n e f = rw (e, f, find)

record Found (d : List ℕ) (cs : List Char) (n : ℕ) : Type 0 where
  us : List Char
  ds : List Char
  vs : List Char
  whole : cs ≡ us ++ (ds ++ vs)
  spells : Spells d ds
  size : n ≡ widths us

abbrev Finds : List ℕ → List Char → Option ℕ → Type 0
Finds d cs none = Unit {0}
Finds d cs (some n) = Found d cs n

find_split : (d : List ℕ) (cs : List Char) → Finds d cs (find d cs)
unfolding find
find_split d [] = tt
find_split d (c ∷ cs) = go (begins d (c ∷ cs)) (find d cs) refl refl (find_split d cs)
  where
    go : (b : Bool) (o : Option ℕ) → begins d (c ∷ cs) ≡ b → find d cs ≡ o → Finds d cs o → Finds d (c ∷ cs) (find d (c ∷ cs))
    go true o eb eo f = let b = begins_split d (c ∷ cs) eb in subst (Finds d (c ∷ cs)) (sym (find_here d c cs eb)) (record { us = []; ds = b.ds; vs = b.vs; whole = b.whole; spells = b.spells; size = refl })
    go false none eb eo f = subst (Finds d (c ∷ cs)) (sym (find_none d c cs eb eo)) tt
    go false (some n) eb eo f = subst (Finds d (c ∷ cs)) (sym (find_later d c cs n eb eo)) (record { us = c ∷ f.us; ds = f.ds; vs = f.vs; whole = ap {B = List Char} (λ (l : List Char). c ∷ l) f.whole; spells = f.spells; size = ap (λ (n : ℕ). width c + n) f.size })

never : {A : Type 0} (n : ℕ) → ◌≡◌ {A = Option ℕ} (some n) none → A
never n e = absurd (let z : ◌≡◌ {A = ℕ} 0 1 = cc in omega arith)

-- the clauses of `here_doc`
module _ (cs : List Char) where
  pub here_none : tag_of cs ≡ none → here_doc cs ≡ none
  unfolding here_doc
  here_none e = rw (e, here_doc)

  pub here_lone : (tag : List ℕ) → tag_of cs ≡ some tag → find (delimiter tag) (drop (suc (length tag)) cs) ≡ none → here_doc cs ≡ none
  unfolding here_doc
  here_lone tag e f = rw (e, f, here_doc)

  pub here_some : (tag : List ℕ) (n : ℕ) → tag_of cs ≡ some tag → find (delimiter tag) (drop (suc (length tag)) cs) ≡ some n → here_doc cs ≡ some (n + 2 * length (delimiter tag))
  unfolding here_doc
  here_some tag n e f = rw (e, f, here_doc)

-- What the copy shows of a tag, a delimiter or a here-document stands in the text too.
begins-back : (d : List ℕ) {us vs : List Char} → Clean d → Masks us vs → begins d vs ≡ true → begins d us ≡ true
unfolding begins
begins-back [] k m e = refl
begins-back (n ∷ d) k end e = e
begins-back (n ∷ d) k (keep c {us} {vs} m) e =
    let p : eqb c.code n ≡ true = and_left (eqb c.code n) (begins d vs) e in
    rw p (begins-back d k.2 m (and_right (eqb c.code n) (begins d vs) e))
begins-back (n ∷ d) k (hide c j {us} {vs} w m) e = clash (and_left (eqb mask_byte n) (begins d (hashes j ++ vs)) e) k.0

hash_none : (d : List ℕ) (n : ℕ) (vs : List Char) → find (dollar ∷ d) vs ≡ none → find (dollar ∷ d) (hashes n ++ vs) ≡ none
unfolding begins
hash_none d zero vs e = e
hash_none d (suc n) vs e = find_none (dollar ∷ d) hash (hashes n ++ vs) refl (hash_none d n vs e)

find-back : (d : List ℕ) {us vs : List Char} → Clean (dollar ∷ d) → Masks us vs → find (dollar ∷ d) us ≡ none → find (dollar ∷ d) vs ≡ none
find-back d k end e = e
find-back d k (keep c {us} {vs} m) e = go (begins (dollar ∷ d) (c ∷ us)) (find (dollar ∷ d) us) (begins (dollar ∷ d) (c ∷ vs)) refl refl refl (λ h. find-back d k m h)
  where
    go : (b : Bool) (o : Option ℕ) (b' : Bool) → begins (dollar ∷ d) (c ∷ us) ≡ b → find (dollar ∷ d) us ≡ o → begins (dollar ∷ d) (c ∷ vs) ≡ b' → (find (dollar ∷ d) us ≡ none → find (dollar ∷ d) vs ≡ none) → find (dollar ∷ d) (c ∷ vs) ≡ none
    go true o b' eb eo eb' ih = never 0 (sym (find_here (dollar ∷ d) c us eb) ∙ e)
    go false (some n) b' eb eo eb' ih = never (width c + n) (sym (find_later (dollar ∷ d) c us n eb eo) ∙ e)
    go false none true eb eo eb' ih = clash (begins-back (dollar ∷ d) k (keep c m) eb') eb
    go false none false eb eo eb' ih = find_none (dollar ∷ d) c vs eb' (ih eo)
find-back d k (hide c n {us} {vs} w m) e = go (begins (dollar ∷ d) (c ∷ us)) (find (dollar ∷ d) us) refl refl (λ h. find-back d k m h)
  where
    go : (b : Bool) (o : Option ℕ) → begins (dollar ∷ d) (c ∷ us) ≡ b → find (dollar ∷ d) us ≡ o → (find (dollar ∷ d) us ≡ none → find (dollar ∷ d) vs ≡ none) → find (dollar ∷ d) (hash ∷ (hashes n ++ vs)) ≡ none
    go true o eb eo ih = never 0 (sym (find_here (dollar ∷ d) c us eb) ∙ e)
    go false (some j) eb eo ih = never (width c + j) (sym (find_later (dollar ∷ d) c us j eb eo) ∙ e)
    go false none eb eo ih = hash_none d (suc n) vs (ih eo)

abbrev Back : List Char → List Char → Option (List ℕ) → Type 0
Back us vs none = Unit {0}
Back us vs (some tag) = (tag_of us ≡ some tag) × Clean tag × Masks (drop (suc (length tag)) us) (drop (suc (length tag)) vs)

tag_back : {us vs : List Char} → Masks us vs → Back us vs (tag_of vs)
unfolding tag_of
tag_back end = tt
tag_back (hide c n w m) = tt
tag_back (keep c {us} {vs} m) = go (eqb c.code dollar) (tag_byte c.code) (tag_of vs) refl refl refl (tag_back m)
  where
    go : (x y : Bool) (o : Option (List ℕ)) → eqb c.code dollar ≡ x → tag_byte c.code ≡ y → tag_of vs ≡ o → Back us vs o → Back (c ∷ us) (c ∷ vs) (tag_of (c ∷ vs))
    go true y o ex ey eo s = subst (Back (c ∷ us) (c ∷ vs)) (sym (tag_end c vs ex)) (tag_end c us ex, tt, m)
    go false false o ex ey eo s = subst (Back (c ∷ us) (c ∷ vs)) (sym (tag_not c vs ex ey)) tt
    go false true none ex ey eo s = subst (Back (c ∷ us) (c ∷ vs)) (sym (tag_none c vs ex ey eo)) tt
    go false true (some t) ex ey eo s = subst (Back (c ∷ us) (c ∷ vs)) (sym (tag_more c vs t ex ey eo)) (tag_more c us t ex ey s.0, (apart' tag_byte mask_byte c.code refl ey, tag_small c.code ey, s.1), s.2)

lone_back : {us vs : List Char} → Masks us vs → here_doc us ≡ none → here_doc vs ≡ none
lone_back {us} {vs} m e = go (tag_of vs) refl (tag_back m)
  where
    more : (tag : List ℕ) → tag_of vs ≡ some tag → Back us vs (some tag) → (o : Option ℕ) → find (delimiter tag) (drop (suc (length tag)) us) ≡ o → here_doc vs ≡ none
    more tag et b none eo = here_lone vs tag et (find-back (tag ++ (dollar ∷ [])) (clean_delimiter tag b.1) b.2 eo)
    more tag et b (some n) eo = never (n + 2 * length (delimiter tag)) (sym (here_some us tag n b.0 eo) ∙ e)

    go : (o : Option (List ℕ)) → tag_of vs ≡ o → Back us vs o → here_doc vs ≡ none
    go none et b = here_none vs et
    go (some tag) et b = more tag et b (find (delimiter tag) (drop (suc (length tag)) us)) refl

-- the steps
reads : (d : Bool) (c : Char) (vs : List Char) → c.code ≡ dollar → lexeme_of d (c ∷ vs) ≡ dollar_lexeme (here_doc vs)
unfolding read
reads d c vs a = lexeme_by d c vs dollars (ap (λ (m : ℕ). rule m (first vs)) a ∙ (rule-first (first vs)).of_dollar)

lone_step : (d : Bool) (c : Char) (cs : List Char) → Read (c ∷ cs) → c.code ≡ dollar → here_doc cs ≡ none → Step d (c ∷ cs)
lone_step d c cs r a e =
    let wc : width c ≡ 1 = one_wide (propers (c ∷ cs) r).0 (omega arith) in
    plain_step d (c ∷ cs) c [] cs DollarSign 1 refl refl (omega arith) (λ after k. reads d c after a ∙ ap dollar_lexeme (lone_back (kept_masks k) e))

widths_spells : (d : List ℕ) (ds : List Char) → Clean d → Spells d ds → Propers ds → widths ds ≡ length d
widths_spells [] [] k s p = refl
widths_spells [] (c ∷ ds) k s p = absurd s
widths_spells (n ∷ d) [] k s p = absurd s
widths_spells (n ∷ d) (c ∷ ds) k s p =
    let w : width c ≡ 1 = one_wide p.0 (let h = k.1 in let g = s.0 in omega arith) in
    let h = widths_spells d ds k.2 s.1 p.1 in
    omega arith

widths_tags : (ts : List Char) (tag : List ℕ) → Tags ts tag → Propers ts → widths ts ≡ length tag
widths_tags [] [] t p = refl
widths_tags [] (n ∷ tag) t p = absurd t
widths_tags (c ∷ ts) [] t p = absurd t
widths_tags (c ∷ ts) (n ∷ tag) t p =
    let w : width c ≡ 1 = one_wide p.0 (let h = tag_small n t.1 in let g = t.0 in omega arith) in
    let h = widths_tags ts tag t.2 p.1 in
    omega arith

before_tags : (ts : List Char) (tag : List ℕ) (Y : List ℕ) → Tags ts tag → Propers ts → before_dollar (flatten ts ++ (dollar ∷ Y)) ≡ length tag
unfolding before_dollar
before_tags [] [] Y t p = refl
before_tags [] (n ∷ tag) Y t p = absurd t
before_tags (c ∷ ts) [] Y t p = absurd t
before_tags (c ∷ ts) (n ∷ tag) Y t p =
    let e : c.bytes ≡ n ∷ [] = one_byte p.0 n t.0 (tag_small n t.1) in
    let q : eqb n dollar ≡ false = apart tag_byte n dollar t.1 refl in
    rw e (rw (q, before_dollar) (ap suc (before_tags ts tag Y t.2 p.1)))

find_hashes : (d : List ℕ) (n : ℕ) (ds vs : List Char) → Spells (dollar ∷ d) ds → find (dollar ∷ d) (hashes n ++ (ds ++ vs)) ≡ some n
unfolding begins
find_hashes d zero [] vs s = absurd s
find_hashes d zero (c ∷ ds) vs s = find_here (dollar ∷ d) c (ds ++ vs) (begins_again (dollar ∷ d) (c ∷ ds) vs s)
find_hashes d (suc n) ds vs s = find_later (dollar ∷ d) hash (hashes n ++ (ds ++ vs)) n refl (find_hashes d n ds vs s) ∙ ap {B = Option ℕ} (λ (m : ℕ). some m) (omega arith)

module _ (d : Bool) (c : Char) (cs : List Char) (r : Read (c ∷ cs)) (a : c.code ≡ dollar) (tag : List ℕ) (T : Tagged cs tag) (n : ℕ) (F : Found (delimiter tag) T.rest n) (sought : find (delimiter tag) T.rest ≡ some n) where
  fs : List Char
  fs = T.ts ++ (T.x ∷ [])

  P : Propers (c ∷ cs)
  P = propers (c ∷ cs) r

  Q : Propers (T.ts ++ (T.x ∷ T.rest))
  Q = subst Propers T.whole P.1

  R : Propers (F.us ++ (F.ds ++ F.vs))
  R = subst Propers F.whole (propers_right T.ts (T.x ∷ T.rest) Q).1

  ec : c.bytes ≡ dollar ∷ []
  ec = one_byte P.0 dollar a (omega arith)

  ex : T.x.bytes ≡ dollar ∷ []
  ex = one_byte (propers_right T.ts (T.x ∷ T.rest) Q).0 dollar T.ends (omega arith)

  here_doc_lem : (Z : List Char) (m : ℕ) → find (delimiter tag) Z ≡ some m → here_doc (fs ++ Z) ≡ some (m + 2 * length (delimiter tag))
  unfolding fs
  here_doc_lem Z m e = rw append_assoc (here_some (T.ts ++ (T.x ∷ Z)) tag m (tag_again T.ts tag T.x Z T.tags T.ends) (ap (find (delimiter tag)) (drop_tag T.ts tag T.x Z T.tags) ∙ e))

  fs_whole : ◌≡◌ {A = List Char} (c ∷ cs) (c ∷ (fs ++ (F.us ++ (F.ds ++ F.vs))))
  unfolding fs
  fs_whole = ap {B = List Char} (λ (l : List Char). c ∷ l) (T.whole ∙ ap {B = List Char} (λ (l : List Char). T.ts ++ (T.x ∷ l)) F.whole ∙ sym (append_assoc T.ts (T.x ∷ []) (F.us ++ (F.ds ++ F.vs))))

  fs_width : widths fs ≡ length tag + 1
  unfolding fs
  fs_width = rw (widths_append, widths_tags T.ts tag T.tags (propers_left T.ts (T.x ∷ T.rest) Q), ex)

  delimiter-length : length (delimiter tag) ≡ length tag + 2
  delimiter-length = rw length-append (omega arith)

  ds_width : widths F.ds ≡ length (delimiter tag)
  ds_width = widths_spells (delimiter tag) F.ds (clean_delimiter tag (clean_tags T.ts tag T.tags)) F.spells (propers_left F.ds F.vs (propers_right F.us (F.ds ++ F.vs) R))

  tag_width_lem : (Y : List ℕ) → tag_width (c.bytes ++ (flatten fs ++ Y)) ≡ length tag + 2
  unfolding fs tag_width
  tag_width_lem Y = rw (ec, flatten-append) (rw (ex, append_assoc) (rw (before_tags T.ts tag Y T.tags (propers_left T.ts (T.x ∷ T.rest) Q))))

  here_step : Step d (c ∷ cs)
  unfolding front back
  here_step =
      let N : ℕ = n + 2 * length (delimiter tag) in
      let wc : width c ≡ 1 = ap length ec in
      let s = F.size in
      let wf = fs_width in
      let wd = ds_width in
      let wl = delimiter-length in
      hiding_step d (c ∷ cs) c fs F.us F.ds F.vs HereDoc N fs_whole (propers_left F.us (F.ds ++ F.vs) R) (omega arith)
      (tag_width_lem (flatten F.us ++ flatten F.ds) ∙ omega arith) (tag_width_lem (flatten F.us ++ flatten F.ds) ∙ omega arith) (λ h. omega arith)
      (reads d c (fs ++ (F.us ++ (F.ds ++ F.vs))) a ∙ ap dollar_lexeme (here_doc_lem (F.us ++ (F.ds ++ F.vs)) n (ap (find (delimiter tag)) (sym F.whole) ∙ sought)))
      (λ after k. reads d c (fs ++ (hashes (widths F.us) ++ (F.ds ++ after))) a ∙ ap dollar_lexeme (here_doc_lem (hashes (widths F.us) ++ (F.ds ++ after)) (widths F.us) (find_hashes (tag ++ (dollar ∷ [])) (widths F.us) F.ds after F.spells) ∙ ap {B = Option ℕ} (λ (m : ℕ). some (m + 2 * length (delimiter tag))) (sym s)))

pub sign_step : (d : Bool) (c : Char) (cs : List Char) → Read (c ∷ cs) → c.code ≡ dollar → Step d (c ∷ cs)
sign_step d c cs r a = go (tag_of cs) refl (tag_split cs)
  where
    more : (tag : List ℕ) → tag_of cs ≡ some tag → (T : Tagged cs tag) → (o : Option ℕ) → find (delimiter tag) T.rest ≡ o → Finds (delimiter tag) T.rest o → Step d (c ∷ cs)
    more tag et T none eo F = lone_step d c cs r a (here_lone cs tag et (ap (λ (l : List Char). find (delimiter tag) (drop (suc (length tag)) l)) T.whole ∙ ap (find (delimiter tag)) (drop_tag T.ts tag T.x T.rest T.tags) ∙ eo))
    more tag et T (some n) eo F = here_step d c cs r a tag T n F eo

    go : (o : Option (List ℕ)) → tag_of cs ≡ o → Split cs o → Step d (c ∷ cs)
    go none et T = lone_step d c cs r a (here_none cs et)
    go (some tag) et T = more tag et T (find (delimiter tag) T.rest) refl (find_split (delimiter tag) T.rest)
