pub mod Lows
pub mod RuleRows
pub mod Sharers
