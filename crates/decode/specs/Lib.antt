pub mod CommandText
pub mod DecodeText
