mod Accepted
mod Sealed
