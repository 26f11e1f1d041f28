-- how a program ends
pub mod ExitStatus
