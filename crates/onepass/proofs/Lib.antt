pub mod Unbroken
