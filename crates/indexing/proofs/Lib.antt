pub mod RuleRows
pub mod ListLaws
pub mod RulesLaws
