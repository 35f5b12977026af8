pub mod KindTags
pub mod FieldSum
