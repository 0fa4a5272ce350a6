pub mod AnswersWith
pub mod SameAnswers
