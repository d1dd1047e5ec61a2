pub mod Component
pub mod Layouts
pub mod Frame
pub mod Shape
