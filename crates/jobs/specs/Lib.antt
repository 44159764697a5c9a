pub mod Job
pub mod JobVerdict
pub mod LeastEntries
pub mod Inference
pub mod Guarantee
pub mod Inner
