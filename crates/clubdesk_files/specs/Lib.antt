pub mod Folder
pub mod Kinds
pub mod Retried
pub mod Named
pub mod Opened
