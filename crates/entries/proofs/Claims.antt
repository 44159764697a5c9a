-- What an item says of claims, as the crates above name it.
pub use Rattle.graphs.proofs.Claims.{says_itself, says_alone, says_any}
