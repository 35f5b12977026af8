pub mod FieldParsing
pub mod BodyParsing
pub mod RecordParsing
