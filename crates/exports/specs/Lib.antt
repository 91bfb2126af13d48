pub mod Answers
pub mod Judging
pub mod Lists
pub mod Showing
pub mod RuleTexts
pub mod Runs
pub mod FormulaTexts
