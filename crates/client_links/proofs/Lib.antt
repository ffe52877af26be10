pub mod Giving
pub mod Coming
pub mod Totals
