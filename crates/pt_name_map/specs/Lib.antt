pub mod NameMap
