use mathlib.Core.Path.{refl}
use Rattle.std.proofs.Common.{arith, ◌≡◌, ◌/◌, ◌++◌, ℕ, List, length, sym, ap, ◌∙◌}
use lib.ListN.{length-append}
use lib.Seq.{sets}
use Rattle.rules.specs.Listing.{room, unpack}
use Rattle.rules.specs.Answers.{filled}
use Rattle.rules.specs.Saved.{end_bytes, records_of, trailer_of}
use Rattle.rules.proofs.Unpacking.{length-unpack}
use Rattle.rules.proofs.Saved.{length-records}
use Rattle.lists.proofs.Packing.{put_both}
use Rattle.saved.proofs.Storing.{file_filled}
use Rattle.saved.proofs.saver.put_file.Goals as goal

pub returns : goal.returns
returns c =
    let text = c.args.text.now in
    let list = c.args.list.now in
    let file = c.args.file.now in
    let n : ℕ = length list / c.token_bytes.result in
    let tokens : n ≡ room list = ap (λ (k : ℕ). length list / k) c.token_bytes.ensures in
    let records : List ℕ = records_of end_bytes (unpack n list) in
    let trailer : List ℕ = trailer_of (length text) n c.args.flag in
    let m = length-records end_bytes (λ k. refl) (unpack n list) in
    let k = length-unpack n list in
    put_both c.copy_front.new.copy _ _ records trailer (length text) _ c.put_records-at.ensures.1 (omega (arith, c.put_records-at.ensures.0, m, k)) c.put_trailer.ensures.1
    ∙ ap (λ (f : List ℕ). sets f (length text) (records ++ trailer)) c.copy_front.ensures
    ∙ file_filled text (records ++ trailer) file (omega (arith, length-append records trailer, m, k, tokens, c.requires.3))
    ∙ (λ i. filled (text ++ (records_of end_bytes (unpack (tokens i) list) ++ trailer_of (length text) ((tokens ∙ sym (length-unpack (room list) list)) i) c.args.flag)) file)
