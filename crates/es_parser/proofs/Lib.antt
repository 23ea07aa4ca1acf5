mod AnswerLemmas
mod RowLemmas
