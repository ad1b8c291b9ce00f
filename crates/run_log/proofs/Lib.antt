-- Wires of the ports alone, and rows that are taken one by one.
pub mod PortWires
pub mod RowsTaken
-- One cycle, and the lines so far.
pub mod Cycles
