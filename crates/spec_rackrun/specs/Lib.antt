pub mod Rackrun
pub mod RuledText
pub mod Printed
