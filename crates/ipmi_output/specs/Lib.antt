pub mod Failure
pub mod Received
pub mod Sink
pub mod Writer
