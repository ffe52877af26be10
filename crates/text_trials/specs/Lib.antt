pub mod Trials
pub mod ShelfTrials
