pub mod Dated
