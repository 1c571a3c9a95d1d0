pub mod Cuts
pub mod StageSteps
pub mod Tests
