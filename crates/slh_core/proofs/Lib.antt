pub mod DigitSteps
pub mod Joins
pub mod ActiveLists
pub mod Chains
pub mod ActiveSteps
pub mod Incomparable
pub mod Refusals
