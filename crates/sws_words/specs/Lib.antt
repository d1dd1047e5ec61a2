pub mod Command
pub mod Given
pub mod Lines
pub mod Options
pub mod Rules
pub mod Task
pub mod Values
