pub mod Lines
pub mod RuleLaws
pub mod ReportLaws
