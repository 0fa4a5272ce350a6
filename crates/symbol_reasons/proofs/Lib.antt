pub mod Carried
pub mod Numbers
pub mod Shown
pub mod LineBehind
pub mod Cases
