-- What the layers above cite.
pub use Rattle.programs.proofs.Agreement.{agrees_map, WholeAs, agrees_whole, whole_then, agrees_refuses, agrees_refused, whole_agrees, refused_agrees}
pub use Rattle.programs.proofs.Agreement.{agrees_with_map, agrees_with_whole, agrees_with_refuses, agrees_with_refused, whole_agrees_with, refused_agrees_with}
pub use Rattle.programs.proofs.Agreement.{enough_enough, enough_after, fewer_left, Stay, stay_below}
pub use Rattle.programs.proofs.Ranges.{variable_low, gap_low_lem, string_low, entry_low}
unfoldable pub use Rattle.programs.proofs.Ranges.{nth}
