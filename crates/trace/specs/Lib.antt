pub mod Requests
pub mod Replies
pub mod Traces
pub mod Accesses
pub mod Serving
pub mod Logs
pub mod LogLaws
pub mod Tellings
