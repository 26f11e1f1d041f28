pub mod Choice
pub mod Squares
pub mod Places
pub mod Plans
pub mod References
