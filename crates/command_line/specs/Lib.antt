pub mod Application
pub mod Arguments
pub mod Process
pub mod Given
pub mod Table
pub mod Job
pub mod Lines
