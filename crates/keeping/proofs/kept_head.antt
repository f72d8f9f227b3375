pub mod SearchOpeningIn
