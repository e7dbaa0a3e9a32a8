pub mod RunWords
pub mod Found
pub mod Normal
pub mod Worked
pub mod FoundShapes
pub mod ShapeWalk
pub mod WalkSteps
pub mod ValueEntries
pub mod WorkedTables
mod ReaderFaults
mod LeafSteps
mod Numbers
