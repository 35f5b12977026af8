pub mod SetBits
pub mod SetBytes
pub mod ClaimsChange
pub mod ClaimsDecision
