pub mod ClaimsInRecord
pub mod StepOutcome
pub mod RackBounds
pub mod CheckFacts
pub mod CheckLaws
