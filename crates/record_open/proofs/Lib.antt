pub mod FreshBytes
