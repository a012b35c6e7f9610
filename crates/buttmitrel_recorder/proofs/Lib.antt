pub mod SixNumbers
pub mod KeptNumbers
