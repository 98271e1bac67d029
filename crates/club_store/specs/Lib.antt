pub mod Opening
pub mod Failing
-- Re-exports the definitions of tables, reads and changes.
pub use Rattle.club_tables.specs.Tables
pub use Rattle.club_tables.specs.ReadsAndChanges
pub mod Widened
