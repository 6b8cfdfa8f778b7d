-- A contract determines what comes back: any two results of one call that it allows are equal, and so is what each lent buffer holds afterwards.
-- `ended` and `Learnt` are the toolchain's own for each function: how its parameters end, and what its contract tells a caller.
-- Every public function of the libraries is here but those that docs/PROMISES.md names: some leave a choice that no answer shows.
-- Assumes nothing.
use base.Fml.{Lft}
use mathlib.Core.Path.{◌≡◌, refl, sym, ap, ◌∙◌}
use Rattle.rules.proofs as rules
use Rattle.rules.specs.contracts as rules_says
use Rattle.rules.proofs.Cases.{one-case, one_result, one_answer}
use Rattle.utf8.proofs as utf8
use Rattle.utf8.specs.contracts as utf8_says
use Rattle.classes.proofs as classes
use Rattle.classes.specs.contracts as classes_says
use Rattle.probe.proofs as probe
use Rattle.probe.specs.contracts as probe_says
use Rattle.lexer.proofs.bytes as bytes
use Rattle.lexer.specs.contracts.bytes as bytes_says
use Rattle.lexer.proofs.token as token
use Rattle.lexer.specs.contracts.token as token_says
use Rattle.lexer.proofs.tokenizer as tokenizer
use Rattle.lexer.specs.contracts.tokenizer as tokenizer_says
use Rattle.steps.proofs as steps
use Rattle.steps.specs.contracts as steps_says
use Rattle.runs.proofs as runs
use Rattle.runs.specs.contracts as runs_says
use Rattle.blocks.proofs as blocks
use Rattle.blocks.specs.contracts as blocks_says
use Rattle.ahead.proofs as ahead
use Rattle.ahead.specs.contracts as ahead_says
use Rattle.ahead.specs.declared.Marks.{Marks}
use Rattle.edges.proofs as edges
use Rattle.edges.specs.contracts as edges_says
use Rattle.lists.proofs.listing as listing
use Rattle.lists.specs.contracts.listing as listing_says
use Rattle.lists.proofs.packed as packed
use Rattle.lists.specs.contracts.packed as packed_says
use Rattle.lists.proofs.picks as picks
use Rattle.lists.specs.contracts.picks as picks_says
use Rattle.lists.specs.declared.listing.Settings.{Settings}
use Rattle.forms.proofs.reader as reader
use Rattle.forms.specs.contracts.reader as reader_says
use Rattle.forms.proofs.records as records
use Rattle.forms.specs.contracts.records as records_says
use Rattle.forms.proofs.Same.{one-recorded}
use Rattle.forms.specs.declared.reader.Reader.{Reader}
use Rattle.masking.proofs.copy as copy
use Rattle.masking.specs.contracts.copy as copy_says
use Rattle.spans.proofs.parts as parts
use Rattle.spans.specs.contracts.parts as parts_says
use Rattle.spans.proofs.places as places
use Rattle.spans.specs.contracts.places as places_says
use Rattle.statements.proofs as statements
use Rattle.statements.specs.contracts as statements_says
use Rattle.saved.proofs.checks as checks
use Rattle.saved.specs.contracts.checks as checks_says
use Rattle.saved.proofs.layout as layout
use Rattle.saved.specs.contracts.layout as layout_says
use Rattle.saved.proofs.loader as loader
use Rattle.saved.specs.contracts.loader as loader_says
use Rattle.saved.proofs.saver as saver
use Rattle.saved.specs.contracts.saver as saver_says
use Rattle.giehtamun.proofs as giehtamun
use Rattle.giehtamun.specs.contracts as giehtamun_says
use Rattle.std.specs.Prelude.{ℕ, Result, Ok, Err, length}
use mathlib.Core.List.{List, []}
use native.Mathlib.Omega.{arith}
use Rattle.rules.specs.Cases.{part}
use Rattle.rules.specs.Saved.{Loaded as Files}
use Rattle.rules.specs.declared.refusal.Refusal.{Refusal}
use Rattle.lexer.specs.declared.token.Token.{Token}
use Rattle.steps.specs.Stepped.{stepped}
use Rattle.spans.specs.Placed.{placed}
use Rattle.spans.specs.declared.places.Position.{Position}
use Rattle.statements.specs.First.{first}
use Rattle.statements.specs.declared.First.{First}
use Rattle.saved.specs.Answered.{loaded}
use Rattle.saved.specs.declared.loader.Loaded.{Loaded}
use Rattle.promises.specs.Determined.{Determined, DeterminedAs}

same : {A : Type 0} {x y z : A} → x ≡ z → y ≡ z → x ≡ y
same p q = p ∙ sym q

both : {A B : Type 0} {x y z : A} {u v w : B} → (x ≡ z) × (u ≡ w) → (y ≡ z) × (v ≡ w) → (x ≡ y) × (u ≡ v)
both p q = (same p.0 q.0, same p.1 q.1)

-- One lent buffer, at its place among the parameters.
lent : {A B C : Type 0} {x y : A} {u v : B} (place : B → C) → (x ≡ y) × (u ≡ v) → (x ≡ y) × (place u ≡ place v)
lent place e = (e.0, ap place e.1)

one_settings : (r s : Settings) → (r.mode ≡ s.mode) × (r.position ≡ s.position) → r ≡ s
one_settings r s e i = record { mode = e.0 i; position = e.1 i }

one_reader : (r s : Reader) → (r.text ≡ s.text) × (r.at ≡ s.at) → r ≡ s
one_reader r s e i = record { text = e.0 i; at = e.1 i }

-- What comes back tells the answer, as each function's definition reads it.
one_step : (cursor : ℕ) (r s : Result Token Refusal) → stepped r cursor ≡ stepped s cursor → r ≡ s
one_step cursor =
    one_result (λ r. stepped r cursor) (λ x. x.number) (λ x. x.value) (λ r. (refl, refl)) (λ t. refl)
    (λ t u e i. record { kind = (e i).token.kind; start = (e i).token.start; end = (e i).token.end })

one_place : (offset : ℕ) (r s : Result Position Refusal) → placed r offset ≡ placed s offset → r ≡ s
one_place offset =
    one_result (λ r. placed r offset) (λ x. x.number) (λ x. x.value) (λ r. (refl, refl)) (λ t. refl)
    (λ t u e i. record { line = (e i).place.line; column = (e i).place.column })

one_first : (r s : Result First Refusal) → first r ≡ first s → r ≡ s
one_first =
    one_result first (λ x. x.number) (λ x. x.statement.bytes) (λ r. (refl, refl)) (λ t. refl)
    (λ t u e i. record { tokens = (e i).statement.tokens; bytes = (e i).statement.bytes; end = (e i).statement.end })

-- without what the lent buffer holds
alone : Files → Files
alone x = record { number = x.number; value = x.value; flag = x.flag; buffer = [] }

loaded-alone : (r : Result Loaded Refusal) (list : List ℕ) → (alone (loaded r list) ≡ loaded r []) × ((loaded r list).buffer ≡ list)
unfolding alone
loaded-alone (Ok l) list = (refl, refl)
loaded-alone (Err x) list = (refl, refl)

one_loaded : (r s : Result Loaded Refusal) (list list' : List ℕ) → loaded r list ≡ loaded s list' → (r ≡ s) × (list ≡ list')
one_loaded r s list list' e =
    let p = loaded-alone r list in
    let q = loaded-alone s list' in (
      one_result (λ r. loaded r []) (λ x. x.number) (λ x. x.value) (λ r. (refl, refl)) (λ t. refl) (λ t u e i. record { tokens = (e i).value; flag = (e i).flag }) r s (sym p.0 ∙ ap alone e ∙ q.0),
      sym p.1 ∙ ap (λ (x : Files). x.buffer) e ∙ q.1,
    )

pub max_query_size : Determined rules_says.max_query_size.ended rules.max_query_size.Reads.Learnt
max_query_size κs a r s u v p q = (same p q, refl)

pub token_bytes : Determined rules_says.token_bytes.ended rules.token_bytes.Reads.Learnt
token_bytes κs a r s u v p q = (same p q, refl)

pub mask_byte : Determined rules_says.mask_byte.ended rules.mask_byte.Reads.Learnt
mask_byte κs a r s u v p q = (same p q, refl)

pub refusal_number : Determined rules_says.refusal.Refusal.number.ended rules.refusal.Refusal.number.Reads.Learnt
refusal_number κs a r s u v p q = (same p q, refl)

pub refusal_value : Determined rules_says.refusal.Refusal.value.ended rules.refusal.Refusal.value.Reads.Learnt
refusal_value κs a r s u v p q = (same p q, refl)

pub byte_at : Determined utf8_says.byte_at.ended utf8.byte_at.Reads.Learnt
byte_at κs a r s u v p q = (same p q, refl)

pub is_tail : Determined utf8_says.is_tail.ended utf8.is_tail.Reads.Learnt
is_tail κs a r s u v p q = (same p q, refl)

pub unit_at : Determined utf8_says.unit_at.ended utf8.unit_at.Reads.Learnt
unit_at κs a r s u v p q = (same p q, refl)

pub unit_code : Determined utf8_says.unit_code.ended utf8.unit_code.Reads.Learnt
unit_code κs a r s u v p q = (same p q, refl)

pub unit_len : Determined utf8_says.unit_len.ended utf8.unit_len.Reads.Learnt
unit_len κs a r s u v p q = (same p q, refl)

pub len_at : Determined utf8_says.len_at.ended utf8.len_at.Reads.Learnt
len_at κs a r s u v p q = (same p q, refl)

pub valid_length : Determined utf8_says.valid_length.ended utf8.valid_length.Reads.Learnt
valid_length κs a r s u v p q = (same p q, refl)

pub is_white_space : Determined classes_says.is_white_space.ended classes.is_white_space.Reads.Learnt
is_white_space κs a r s u v p q = (same p q, refl)

pub is_alphabetic : Determined classes_says.is_alphabetic.ended classes.is_alphabetic.Reads.Learnt
is_alphabetic κs a r s u v p q = (same p q, refl)

pub is_alphanumeric : Determined classes_says.is_alphanumeric.ended classes.is_alphanumeric.Reads.Learnt
is_alphanumeric κs a r s u v p q = (same p q, refl)

pub probe_valid_length : Determined probe_says.probe_valid_length.ended probe.probe_valid_length.Reads.Learnt
probe_valid_length κs a r s u v p q = (same p q, refl)

pub probe_code_at : Determined probe_says.probe_code_at.ended probe.probe_code_at.Reads.Learnt
probe_code_at κs a r s u v p q = (same p q, refl)

pub probe_length_at : Determined probe_says.probe_length_at.ended probe.probe_length_at.Reads.Learnt
probe_length_at κs a r s u v p q = (same p q, refl)

pub probe_is_white_space : Determined probe_says.probe_is_white_space.ended probe.probe_is_white_space.Reads.Learnt
probe_is_white_space κs a r s u v p q = (same p q, refl)

pub probe_is_alphabetic : Determined probe_says.probe_is_alphabetic.ended probe.probe_is_alphabetic.Reads.Learnt
probe_is_alphabetic κs a r s u v p q = (same p q, refl)

pub probe_is_alphanumeric : Determined probe_says.probe_is_alphanumeric.ended probe.probe_is_alphanumeric.Reads.Learnt
probe_is_alphanumeric κs a r s u v p q = (same p q, refl)

pub next_token : Determined tokenizer_says.next_token.ended tokenizer.next_token.Reads.Learnt
next_token κs a r s u v p q = (same p q, refl)

pub is_tag_byte : Determined bytes_says.is_tag_byte.ended bytes.is_tag_byte.Reads.Learnt
is_tag_byte κs a r s u v p q = (same p q, refl)

pub new_lexed : Determined token_says.Lexed.new.ended token.Lexed.new.Reads.Learnt
new_lexed κs a r s u v p q = (same p q, refl)

pub read_string : Determined tokenizer_says.read_string.ended tokenizer.read_string.Reads.Learnt
read_string κs a r s u v p q = (same p q, refl)

pub eight : Determined runs_says.eight.ended runs.eight.Reads.Learnt
eight κs a r s u v p q = (same p q, refl)

pub copy_front : Determined runs_says.copy_front.ended runs.copy_front.Reads.Learnt
copy_front κs a r s u v p q = lent (λ l. (tt, (l, tt))) (refl, same p q)

pub others : Determined runs_says.others.ended runs.others.Reads.Learnt
others κs a r s u v p q = (same p q, refl)

pub block_edges : Determined blocks_says.edges.ended blocks.edges.Reads.Learnt
block_edges κs a r s u v p q = (same p q, refl)

pub wasted_by : Determined ahead_says.wasted_by.ended ahead.wasted_by.Reads.Learnt
wasted_by κs a r s u v p q = (same p.0 q.0, refl)

-- The token that is found: of whether a search was in vain the two contracts below say nothing.
pub read_dollar : DeterminedAs ahead_says.read_dollar.ended ahead.read_dollar.Reads.Learnt (λ κs r. r.token)
read_dollar κs a r s u v p q = (same p q, refl)

pub read_plainly : DeterminedAs edges_says.read.ended edges.read.Reads.Learnt (λ κs r. r.token)
read_plainly κs a r s u v p q = (same p q, refl)

-- That there are none before the first look: up to no offset, and no word of bits. Nothing is lent or taken, so the results alone are spoken of.
pub no_marks : (κs : Lft × Unit) (r s : Marks) → ahead.Marks.none.Reads.Learnt κs tt r tt → ahead.Marks.none.Reads.Learnt κs tt s tt → (r.until ≡ s.until) × (length r.lone.now ≡ length s.lone.now)
no_marks κs r s p q = (same p.0.0 q.0.0, same p.0.1 q.0.1)

-- Where a walk stands and stops, and over which text: the rest no other crate sees.
pub new_walk : DeterminedAs edges_says.walk.Walk.new.ended edges.walk.Walk.new.Reads.Learnt {S = λ κs. List ℕ × (ℕ × ℕ)} (λ κs w. (w.text.now, (w.cursor, w.stop)))
new_walk κs a r s u v p q =
    (λ i. (same p.0.text q.0.text i, (same p.1 q.1 i, same (p.0.still (omega (arith, p.1))) (q.0.still (omega (arith, q.1))) i)), refl)

pub is_long : Determined edges_says.is_long.ended edges.is_long.Reads.Learnt
is_long κs a r s u v p q = (same p q, refl)

pub step : Determined steps_says.step.ended steps.step.Reads.Learnt
step κs a r s u v p q = (one_step a.1.0 r s (same p q), refl)

pub new_settings : Determined listing_says.Settings.new.ended listing.Settings.new.Reads.Learnt
new_settings κs a r s u v p q = (one_settings r s (both p q), refl)

pub set_mode : Determined listing_says.Settings.set_mode.ended listing.Settings.set_mode.Reads.Learnt
set_mode κs a r s u v p q = (one_settings r s (both p q), refl)

pub set_include_whitespace : Determined listing_says.Settings.set_include_whitespace.ended listing.Settings.set_include_whitespace.Reads.Learnt
set_include_whitespace κs a r s u v p q = (one_settings r s (both p q), refl)

pub set_position : Determined listing_says.Settings.set_position.ended listing.Settings.set_position.Reads.Learnt
set_position κs a r s u v p q = (one_settings r s (both p q), refl)

pub tokenize : Determined listing_says.tokenize.ended listing.tokenize.Reads.Learnt
tokenize κs a r s u v p q = lent (λ l. (tt, (tt, (l, tt)))) (one_answer r s _ _ _ p q)

pub tokenize_up_to_position : Determined listing_says.tokenize_up_to_position.ended listing.tokenize_up_to_position.Reads.Learnt
tokenize_up_to_position κs a r s u v p q = lent (λ l. (tt, (tt, (l, tt)))) (one_answer r s _ _ _ p q)

pub reader_open : Determined reader_says.Reader.«open».ended reader.Reader.«open».Reads.Learnt
reader_open κs a r s u v p q = (one_reader r s (both p q), refl)

pub next : Determined reader_says.Reader.next.ended reader.Reader.next.Reads.Learnt
next κs a r s u v p q = (one_step a.0.at r s (same p q), refl)

pub at_end : Determined reader_says.Reader.at_end.ended reader.Reader.at_end.Reads.Learnt
at_end κs a r s u v p q = (same p q, refl)

pub moved : Determined reader_says.Reader.moved.ended reader.Reader.moved.Reads.Learnt
moved κs a r s u v p q = (one_reader r s (both p q), refl)

pub store_records : Determined records_says.store_records.ended records.store_records.Reads.Learnt
store_records κs a r s u v p q = lent (λ l. (tt, (tt, (l, tt)))) (one-recorded r s _ _ _ p q)

pub tokenize_records : Determined records_says.tokenize_records.ended records.tokenize_records.Reads.Learnt
tokenize_records κs a r s u v p q = lent (λ l. (tt, (tt, (l, tt)))) (one-recorded r s _ _ _ p q)

pub tokenize_up_to_position_records : Determined records_says.tokenize_up_to_position_records.ended records.tokenize_up_to_position_records.Reads.Learnt
tokenize_up_to_position_records κs a r s u v p q = lent (λ l. (tt, (tt, (l, tt)))) (one-recorded r s _ _ _ p q)

pub read_all : Determined reader_says.read_all.ended reader.read_all.Reads.Learnt
read_all κs a r s u v p q = lent (λ l. (tt, (l, tt))) (one_answer r s _ _ _ p q)

pub records_sixty_four : Determined records_says.records_64.ended records.records_64.Reads.Learnt
records_sixty_four κs a r s u v p q = (same p q, refl)

pub records_sixty_four_up_to : Determined records_says.records_64_up_to.ended records.records_64_up_to.Reads.Learnt
records_sixty_four_up_to κs a r s u v p q = (same p q, refl)

pub keeps : Determined listing_says.Choice.keeps.ended listing.Choice.keeps.Reads.Learnt
keeps κs a r s u v p q = (same p q, refl)

pub count : Determined listing_says.count.ended listing.count.Reads.Learnt
count κs a r s u v p q = (same p q, refl)

pub answer_in : Determined picks_says.answer_in.ended picks.answer_in.Reads.Learnt
answer_in κs a r s u v p q = (one-case r s (same p.0.0 q.0.0) (same p.0.1 q.0.1), refl)

pub answer_by : Determined picks_says.answer_by.ended picks.answer_by.Reads.Learnt
answer_by κs a r s u v p q = (same p q, refl)

pub stored_by : Determined picks_says.stored_by.ended picks.stored_by.Reads.Learnt
stored_by κs a r s u v p q = (same p q, refl)

pub put_u32 : Determined packed_says.put_u32.ended packed.put_u32.Reads.Learnt
put_u32 κs a r s u v p q = lent (λ l. (l, u.1)) (both p q)

pub get_u32 : Determined packed_says.get_u32.ended packed.get_u32.Reads.Learnt
get_u32 κs a r s u v p q = (same p q, refl)

pub get_token : Determined packed_says.get_token.ended packed.get_token.Reads.Learnt
get_token κs a r s u v p q = (same p q, refl)

pub put_token : Determined packed_says.put_token.ended packed.put_token.Reads.Learnt
put_token κs a r s u v p q = lent (λ l. (l, u.1)) (both p q)

pub mask : Determined copy_says.mask.ended copy.mask.Reads.Learnt
mask κs a r s u v p q = lent (λ l. (tt, (l, tt))) (one_answer r s _ _ _ p q)

pub put_record : Determined layout_says.put_record.ended layout.put_record.Reads.Learnt
put_record κs a r s u v p q = lent (λ l. (l, u.1)) (both p q)

pub get_record : Determined layout_says.get_record.ended layout.get_record.Reads.Learnt
get_record κs a r s u v p q = (same p q, refl)

pub put_trailer : Determined layout_says.put_trailer.ended layout.put_trailer.Reads.Learnt
put_trailer κs a r s u v p q = lent (λ l. (l, u.1)) (both p q)

pub list_fits : Determined checks_says.list_fits.ended checks.list_fits.Reads.Learnt
list_fits κs a r s u v p q = (same p q, refl)

pub records_fit : Determined checks_says.records_fit.ended checks.records_fit.Reads.Learnt
records_fit κs a r s u v p q = (same p q, refl)

pub save : Determined saver_says.save.ended saver.save.Reads.Learnt
save κs a r s u v p q = lent (λ l. (tt, (tt, (tt, (l, tt))))) (one_answer r s _ _ _ p q)

pub load : Determined loader_says.load.ended loader.load.Reads.Learnt
load κs a r s u v p q = lent (λ l. (tt, (l, tt))) (one_loaded r s _ _ (same p q))

pub saved_text_answer : DeterminedAs loader_says.saved_text_answer.ended loader.saved_text_answer.Reads.Learnt (λ κs r. part r (λ bytes. bytes.now))
saved_text_answer κs a r s u v p q = (same p q, refl)

pub saved_text : DeterminedAs loader_says.saved_text.ended loader.saved_text.Reads.Learnt (λ κs r. r.now)
saved_text κs a r s u v p q = (same p q, refl)

pub hides : Determined parts_says.hides.ended parts.hides.Reads.Learnt
hides κs a r s u v p q = (same p q, refl)

pub token_text_answer : DeterminedAs parts_says.token_text_answer.ended parts.token_text_answer.Reads.Learnt (λ κs r. part r (λ bytes. bytes.now))
token_text_answer κs a r s u v p q = (same p q, refl)

pub token_text : DeterminedAs parts_says.token_text.ended parts.token_text.Reads.Learnt (λ κs r. r.now)
token_text κs a r s u v p q = (same p q, refl)

pub shown_text_answer : DeterminedAs parts_says.shown_text_answer.ended parts.shown_text_answer.Reads.Learnt (λ κs r. part r (λ bytes. bytes.now))
shown_text_answer κs a r s u v p q = (same p q, refl)

pub shown_text : DeterminedAs parts_says.shown_text.ended parts.shown_text.Reads.Learnt (λ κs r. r.now)
shown_text κs a r s u v p q = (same p q, refl)

pub place : Determined places_says.place.ended places.place.Reads.Learnt
place κs a r s u v p q = (one_place a.1.0 r s (same p q), refl)

pub first_statement : Determined statements_says.first_statement.ended statements.first_statement.Reads.Learnt
first_statement κs a r s u v p q = (one_first r s (same p q), refl)

pub giehtamun_list : Determined giehtamun_says.giehtamun_list.ended giehtamun.giehtamun_list.Reads.Learnt
giehtamun_list κs a r s u v p q = lent (λ l. (tt, (tt, (l, tt)))) (both p q)

pub giehtamun_list_up_to : Determined giehtamun_says.giehtamun_list_up_to.ended giehtamun.giehtamun_list_up_to.Reads.Learnt
giehtamun_list_up_to κs a r s u v p q = lent (λ l. (tt, (tt, (tt, (l, tt))))) (both p q)

pub giehtamun_step : Determined giehtamun_says.giehtamun_step.ended giehtamun.giehtamun_step.Reads.Learnt
giehtamun_step κs a r s u v p q = (same p q, refl)

pub giehtamun_mask : Determined giehtamun_says.giehtamun_mask.ended giehtamun.giehtamun_mask.Reads.Learnt
giehtamun_mask κs a r s u v p q = lent (λ l. (tt, (l, tt))) (both p q)

pub giehtamun_token_text : Determined giehtamun_says.giehtamun_token_text.ended giehtamun.giehtamun_token_text.Reads.Learnt
giehtamun_token_text κs a r s u v p q = (same p q, refl)

pub giehtamun_shown_text : Determined giehtamun_says.giehtamun_shown_text.ended giehtamun.giehtamun_shown_text.Reads.Learnt
giehtamun_shown_text κs a r s u v p q = (same p q, refl)

pub giehtamun_place : Determined giehtamun_says.giehtamun_place.ended giehtamun.giehtamun_place.Reads.Learnt
giehtamun_place κs a r s u v p q = (same p q, refl)

pub giehtamun_first_statement : Determined giehtamun_says.giehtamun_first_statement.ended giehtamun.giehtamun_first_statement.Reads.Learnt
giehtamun_first_statement κs a r s u v p q = (same p q, refl)

pub giehtamun_statement_text : Determined giehtamun_says.giehtamun_statement_text.ended giehtamun.giehtamun_statement_text.Reads.Learnt
giehtamun_statement_text κs a r s u v p q = (same p q, refl)

pub giehtamun_save : Determined giehtamun_says.giehtamun_save.ended giehtamun.giehtamun_save.Reads.Learnt
giehtamun_save κs a r s u v p q = lent (λ l. (tt, (tt, (tt, (l, tt))))) (both p q)

pub giehtamun_load : Determined giehtamun_says.giehtamun_load.ended giehtamun.giehtamun_load.Reads.Learnt
giehtamun_load κs a r s u v p q = lent (λ l. (tt, (l, tt))) (both p q)

pub giehtamun_saved_text : Determined giehtamun_says.giehtamun_saved_text.ended giehtamun.giehtamun_saved_text.Reads.Learnt
giehtamun_saved_text κs a r s u v p q = (same p q, refl)
