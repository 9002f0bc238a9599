mod InPairs
mod Replied
