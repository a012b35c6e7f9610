pub mod KeptInNumbers
