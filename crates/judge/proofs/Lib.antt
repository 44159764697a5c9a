pub mod BlankLaws
pub mod PageLaws
