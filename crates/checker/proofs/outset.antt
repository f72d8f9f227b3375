pub mod SearchFound
