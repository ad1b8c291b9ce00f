-- What a module has of its process, and the threads of a process as they are drawn.
pub mod ModuleOf
pub mod Drafts
