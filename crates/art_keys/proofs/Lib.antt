pub mod RaisedHeads
pub mod FloatBits
