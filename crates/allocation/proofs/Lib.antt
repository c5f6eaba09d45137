-- How an auction's contracts are shared: the code writes the fill list, which keeps its laws (FillProved), and only its shares
-- keep them (LawsDecide); and an auction stays one as responses come, change and go (AuctionKept, OwnsKept,
-- StandTogether).
mod LevelShape
mod LevelFacts
mod ShareFacts
mod SplitFacts
mod ContraSplits
mod SharesDecided
mod RowCounts
mod LawsDecide
mod RowLists
mod ClassRows
pub mod Mates
mod LevelRows
mod ContraRows
mod FillFacts
mod InOrder
mod RowOrder
mod StoodApart
mod RowsDecide
mod ContraFacts
mod Writes
mod Insertions
mod WalkSteps
mod WalkFacts
pub mod FillProved
mod AuctionFills
mod Indexes
pub mod OwnResponses
pub mod AuctionKept
pub mod OwnsKept
mod StandTogether
mod FewResponses
pub mod ByOwnNumber
