pub mod Ders
pub mod Searches
pub mod Rows
pub mod Symbols
pub mod HeadTable
pub mod RoundTrip
pub mod Genuine
pub mod ReadBack
pub mod OwnKeys
pub mod UnderPassphrase
pub mod WordsBack
mod Following
mod Read
mod Handing
mod Passed
mod Causes
mod Answered
mod Accepting
mod Signed
mod Audits
pub mod Texts
mod Escapes
mod Names
mod Keys
mod Opened
mod Checks
mod LogReading
