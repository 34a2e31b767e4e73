pub mod Shrinking
pub mod StepReading
