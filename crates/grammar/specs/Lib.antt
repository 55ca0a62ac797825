pub mod Refusals
pub mod Grammars
pub mod Derivations
pub mod Totals
pub mod Spans
pub mod Costs
pub mod Promises
