-- Texts put in turn, and bytes read and written in turn.
pub mod PieceLemmas
pub mod ByteLemmas
