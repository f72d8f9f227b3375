pub mod Agreement
pub mod Next
pub mod Words
