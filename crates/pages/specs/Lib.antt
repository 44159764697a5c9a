pub mod Items
pub mod ItemReading
pub mod RightPages
pub mod PageVerdict
pub mod Written
pub mod Inner
