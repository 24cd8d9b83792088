pub mod Plans
pub mod Workers
pub mod FirstEntries
pub mod EngineTurns
pub mod Totals
pub mod Reports
pub mod ReportText
