pub mod Output
pub mod Does
pub mod HandedCommand
pub mod OfficeDesk
pub mod Events
pub mod Run
pub mod Laws
