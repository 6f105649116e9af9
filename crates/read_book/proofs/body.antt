mod OneParam
pub mod Judge
