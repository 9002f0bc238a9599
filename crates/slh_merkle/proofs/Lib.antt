pub mod Powers
pub mod CostSteps
pub mod TreehashSteps
pub mod Rows
pub mod Climbs
pub mod Layers
pub mod Forests
pub mod Ascents
