pub mod FullPieces
pub mod PiecesPassed
pub mod FileOrder
pub mod BytesFound
pub mod WholeTested
pub mod FrontReads
