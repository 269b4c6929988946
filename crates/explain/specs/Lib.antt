pub mod Found
pub mod SessionContext
pub mod Listing
pub mod Missing
pub mod Reads
pub mod Walk
