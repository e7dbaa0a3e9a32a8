pub mod OneFile
pub mod Each
pub mod OtherContents
pub mod Files
pub mod Carried
pub mod Counted
