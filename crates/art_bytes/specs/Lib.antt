pub mod CString
pub mod CStringKey
pub mod CStringLaws
pub mod Laws
pub mod SliceKey
pub mod StrKey
pub mod Text
