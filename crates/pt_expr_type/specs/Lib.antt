pub mod TypeEnv
