-- The rules of markets and of the range that they permit an order, a file a topic. FaultsApart, LegsBounded
-- and BetterOfLaws have lemmas, by which the named markets keep the laws of a market.
pub mod Limits
pub mod Side
pub mod Fault
pub mod Refusal
pub mod Market
pub mod Touch
pub mod Improve
pub mod BetterOf
pub mod Leg
pub mod Legs
pub mod Cube
pub mod CubeHistory
pub mod Range
pub mod RangeLaws
pub mod FaultsApart
pub mod LegsBounded
pub mod BetterOfLaws
