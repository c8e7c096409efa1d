pub mod Loading
pub mod Taking
pub mod Opened
pub mod AliasLoading
pub mod Listing
pub mod Submitted
