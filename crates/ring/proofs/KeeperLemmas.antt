pub mod Seated
pub mod Growing
pub mod Lending
pub mod Returning
pub mod Asking
