pub mod FirstPlaces
pub mod ClaimTables
pub mod HubWires
pub mod InRange
pub mod NameTables
pub mod OpenPorts
pub mod OutRows
pub mod PortTables
