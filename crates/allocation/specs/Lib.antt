-- The rules of sharing out an auction's contracts, and the values of an auction, a file a topic. LevelSteps, Plans and Walk are
-- words for the code's inner steps.
pub mod Cause
pub mod Response
pub mod Order
pub mod Refusal
pub mod Ranking
pub mod Share
pub mod Split
pub mod Levels
pub mod Arrange
pub mod Fill
pub mod FillLaws
pub mod ContraLaws
pub mod OnlyShares
pub mod RowLaws
pub mod OnlyRows
pub mod LevelSteps
pub mod Plans
pub mod Walk
pub mod Table
pub mod AuctionInvariant
pub mod Auction
