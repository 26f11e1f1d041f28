pub mod HeadFields
pub mod ConnectionOptions
pub mod Rules
pub mod Messages
pub mod Layouts
pub mod Streams
pub mod Readings
pub mod Laws
