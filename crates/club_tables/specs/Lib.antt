pub mod Schema
pub mod Columns
pub mod Tables
pub mod ChangeStatements
pub mod ReadsAndChanges
pub mod Answers
pub mod Transaction
pub mod Opening
