pub mod CountedAnswers
pub mod History
