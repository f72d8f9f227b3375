pub mod SearchWordsOf
pub mod Drawn
