pub mod Proposal
pub mod ProposalReading
pub mod WrittenProposal
pub mod Summaries
pub mod Covering
pub mod Languages
pub mod ProposalOf
pub mod Inner
