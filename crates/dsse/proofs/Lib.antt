mod Canonical
mod Encodings
mod Decoding
mod Lists
mod Texts
mod ReadBack
