pub mod ContentsBlocks
pub mod LaidSizes
pub mod Lower
pub mod Payloads
pub mod Positions
pub mod ReadBack
pub mod SoundFiles
