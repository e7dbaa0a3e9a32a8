pub mod NamesInOrder
