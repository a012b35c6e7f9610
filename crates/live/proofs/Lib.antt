pub mod GoodStates
pub mod Stepping
pub mod StaysGood
pub mod FedTrace
