pub mod Puts
pub mod RuleRuns
pub mod WholeReport
