pub mod FormulaPage
