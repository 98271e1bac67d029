pub mod Limits
pub mod Server
pub mod RequestLine
pub mod Log
pub mod Served
pub mod Trace
pub mod Between
pub mod Accepted
