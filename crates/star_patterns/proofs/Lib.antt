mod Filled
mod FirstStar
pub mod Pieces
mod Places
mod Worked
