-- Laws of writing plain rows, and of the converter's answer.
pub mod WriteLaws
pub mod GivenLaws
pub mod ImageLaws
pub mod AnswerLaws
