mod Source
mod Nesting
