pub mod Bound
pub mod Binding
pub mod BindingLemmas
