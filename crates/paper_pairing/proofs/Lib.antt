pub mod Counting
pub mod Pairing
pub mod Files
pub mod Regroups
pub mod Six
pub mod Order
