pub mod ShrunkNode
