pub mod Unanswered
