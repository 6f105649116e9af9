pub mod OpensNested
