pub mod Named
pub mod NewsLists
pub mod NewsLoops
pub mod RoundSteps
pub mod Settling
