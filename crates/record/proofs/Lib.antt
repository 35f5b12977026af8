pub mod FieldBytes
pub mod Sequencing
pub mod FieldOffsets
pub mod FieldAccess
pub mod FieldWrites
pub mod MeshBytes
pub mod Needs
