pub mod Lines
pub mod Steps
pub mod Texts
pub mod ScheduleText
pub mod Standing
pub mod Scheduling
