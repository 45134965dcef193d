mod NameLaws
mod AnswerLaws
mod ArgumentLaws
mod GivenLaws
