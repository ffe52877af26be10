pub mod Grounds
pub mod Laying
pub mod Examples
