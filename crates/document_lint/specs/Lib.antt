pub mod IdleTasks
