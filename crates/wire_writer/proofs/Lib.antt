pub mod FieldOrder
pub mod PlacedFields
pub mod PlacedRecord
pub mod FieldArraySum
pub mod TagTable
