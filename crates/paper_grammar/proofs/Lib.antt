-- The written form: the reading of `paper` decides the grammar, and where it stops is the offset of refusal 2. The offsets in the tree are true of the bytes.
pub mod Leads
pub mod Tags
pub mod Complete
pub mod Sound
pub mod Stops
pub mod Decides
pub mod AllBytes
pub mod Standing
pub mod InPlace
