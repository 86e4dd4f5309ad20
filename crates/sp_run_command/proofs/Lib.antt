mod ReadingLaws
mod AnswerLaws
mod RunLaws
