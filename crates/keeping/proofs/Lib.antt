pub mod SearchKeep
