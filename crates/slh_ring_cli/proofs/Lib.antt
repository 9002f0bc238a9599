mod Paths
mod Adds
mod Texts
