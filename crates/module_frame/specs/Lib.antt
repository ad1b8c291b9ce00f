-- The states of a frame: what each keeps and how wide it is, and a frame as states are added.
pub mod Slots
pub mod Drafts
pub mod Bits
pub mod BitLaws
