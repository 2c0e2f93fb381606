mod Placed
mod Answers
