-- Which file proves which sentence.
-- Tests and tables.
pub mod Tests
pub mod Ranges
pub mod Tables
-- RFC 3629: its examples, decoding at an index, a text as the bytes of its characters.
pub mod Utf8Examples
pub mod Decoding
pub mod Bytes
pub mod Formed
pub mod Reading
pub mod Proper
pub mod Validity
pub mod LongestValid
pub mod Broken
pub mod Cuts
-- What the proof of demand 3 asks of each rule.
pub mod Masks
pub mod Step
pub mod Rules
pub mod Delimited
-- The rules: 1 and 3, 1, 2, 4, 5, 6 and 7.
pub mod Runs
pub mod Comments
pub mod Operators
pub mod Quotes
pub mod Dollars
pub mod NumberParts
pub mod Numbers
-- The rules byte by byte, as code reads them: which one, then 2, 4, 5, 6 and 7.
pub mod RuleBytes
pub mod OperatorBytes
pub mod Bodies
pub mod HereDocs
pub mod NumberBytes
-- Demand 3.
pub mod Visible
pub mod Relex
pub mod Masked
-- Demand 2: the first token, the kinds, the edges, a step, the lists, the places, the statements, the saved lists, how large answers get, and the bench sheet.
pub mod FirstToken
pub mod KnownKinds
pub mod Edges
pub mod Stepping
pub mod Listing
pub mod Unpacking
pub mod Parts
pub mod Places
pub mod LineEnds
pub mod CountSteps
pub mod PlaceCounts
pub mod OldPlaces
pub mod PlaceSums
pub mod TokenEdges
pub mod Chains
pub mod SavedLists
pub mod Delimiters
pub mod Statements
pub mod NextStatements
pub mod SavedBytes
pub mod Saved
pub mod Bounds
pub mod Cases
pub mod Plans
pub mod Bench
pub mod PlaceCases
pub mod UnitCases
pub mod StatementCases
pub mod SavedCases
