pub mod Purposes
