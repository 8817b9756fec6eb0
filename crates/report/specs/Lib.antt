pub mod Outputs
pub mod Reports
