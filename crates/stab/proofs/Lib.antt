-- Laws of the definitions.
pub mod Bools
pub mod Whole
pub mod Tests
pub mod Formed
pub mod Scans
pub mod Firsts
pub mod Searches
pub mod Findings
pub mod Trees
pub mod Decoded
pub mod Meanings
pub mod Alikes
pub mod Bounds
pub mod Ancestors
pub mod Ranges
-- The theorems of docs/THEOREMS.md.
pub mod Soundness
pub mod Exactness
pub mod Olders
pub mod AncestorLinks
pub mod OpenTargets
pub mod InOrders
pub mod OneValues
pub mod Wires
pub mod Texts
pub mod RowLines
pub mod Audit
pub mod Packed
pub mod Entries
-- The definitions computed.
pub mod Evaluate
pub mod Cases
pub mod Trials
