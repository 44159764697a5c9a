pub mod Uses
pub mod GapSets
pub mod AttributeGaps
pub mod GapNumbers
pub mod Lines
pub mod Lists
pub mod RoundLaws
pub mod Settling
