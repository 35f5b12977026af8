pub mod LetterLaws
pub mod LetterCell
