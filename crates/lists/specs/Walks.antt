-- How a walk over a text's tokens goes on, for the functions that do a part of it.
use Rattle.std.specs.Prelude.{ℕ, ◌+◌, ◌*◌, ◌≤◌, ◌<◌, ◌≡◌, List, ◌++◌, length, take, drop}
use Rattle.rules.specs.Limits.{token_bytes}
use Rattle.rules.specs.Tokens.{Token}
use Rattle.rules.specs.Listing.{pack}
use Rattle.lists.specs.declared.listing.Choice.{Choice}
use Rattle.lists.specs.declared.listing.Counted.{Counted}
use Rattle.lists.specs.declared.listing.Stored.{Stored}
use Rattle.lists.specs.Choices.{chosen}

-- The cursor stays in the text, and moves if there is anything to do.
pub record Moves (choice : Choice) (s : List ℕ) (from to : ℕ) : Type 0 where
  pub later : from ≤ to
  pub inside : to ≤ length s
  pub moved : from < choice.position → from < to

-- Counted on: those counted and those left are as many as before.
pub record CountedOn (choice : Choice) (s : List ℕ) (from to : Counted) : Type 0 where
  pub moves : Moves choice s from.cursor to.cursor
  pub few : to.tokens ≤ to.cursor
  pub same : to.tokens + length (chosen choice s to.cursor) ≡ from.tokens + length (chosen choice s from.cursor)

-- A list in which `at₀` bytes are written and `rest₀` is left to pack, and the same later on: what is written, with what is left, is the same,
-- and the bytes after it are as they were.
pub record Packs (list₀ : List ℕ) (at₀ : ℕ) (rest₀ : List Token) (list : List ℕ) (at : ℕ) (rest : List Token) : Type 0 where
  pub on : at₀ ≤ at
  pub len : length list ≡ length list₀
  pub count : at + length rest * token_bytes ≡ at₀ + length rest₀ * token_bytes
  pub front : take at list ++ pack rest ≡ take at₀ list₀ ++ pack rest₀
  pub back : drop at list ≡ drop at list₀

-- Stored on.
pub record StoredOn (choice : Choice) (s : List ℕ) (from : Stored) (list₀ : List ℕ) (to : Stored) (list : List ℕ) : Type 0 where
  pub moves : Moves choice s from.cursor to.cursor
  pub packs : Packs list₀ from.bytes (chosen choice s from.cursor) list to.bytes (chosen choice s to.cursor)
