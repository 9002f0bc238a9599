mod Pieces
mod Beside
