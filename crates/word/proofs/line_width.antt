pub mod SearchWidthOf
