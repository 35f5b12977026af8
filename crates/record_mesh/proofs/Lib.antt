pub mod ByteCopies
pub mod WordCopies
