pub mod BuiltIns
