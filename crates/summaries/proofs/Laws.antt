-- What the layers above cite.
pub use Rattle.summaries.proofs.Here.{HoldingStands}
pub use Rattle.summaries.proofs.Reading.{holdings_same, FirstHolding, no_holding, first_holding}
pub use Rattle.summaries.proofs.Heads.{zeros}
