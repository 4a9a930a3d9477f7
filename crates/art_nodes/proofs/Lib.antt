pub mod BuilderLaws
mod BuilderLemmas
mod ByteSetLemmas
pub mod ChildMapLaws
mod ChildMapLemmas
mod ChildTableLemmas
mod ConversionLemmas
mod DirectLemmas
mod IndexTableLemmas
mod IndirectLemmas
mod ListLemmas
pub mod KindLaws
mod KindLemmas
mod SortedLemmas
mod TableLemmas
mod PairLemmas
mod PlaceLemmas
mod PrefixLemmas
mod PushLemmas
mod RangeLemmas
