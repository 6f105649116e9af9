mod Calls
mod Settling
