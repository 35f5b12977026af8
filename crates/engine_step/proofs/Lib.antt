pub mod ReadyForStep
