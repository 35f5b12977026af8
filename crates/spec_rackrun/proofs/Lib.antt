pub mod RuledText
pub mod Printed
