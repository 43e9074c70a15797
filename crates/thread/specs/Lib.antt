pub mod Held
pub mod Thread
pub mod ThreadLaws
