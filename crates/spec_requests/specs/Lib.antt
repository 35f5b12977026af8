pub mod Served
pub mod HomeLoads
pub mod CleanOwner
pub mod Exclusive
