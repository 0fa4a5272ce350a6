pub mod Fit
pub mod Outside
pub mod Step
