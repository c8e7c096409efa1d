pub use Rattle.ruleset_run.specs.Sets
pub mod Aims
pub mod Checks
pub mod Errors
pub mod Forms
pub mod Routes
pub mod Senders
pub mod inner
