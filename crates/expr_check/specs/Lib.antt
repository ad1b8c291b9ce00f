-- What the code knows where an act stands, as the definitions see it; and the tests by which its tables are searched.
pub mod Tables
pub mod Known
