pub mod OnBands
