-- What an auction keeps is what the laws of its fill list and the order of its levels rest on.
use Rattle.std.proofs.Common.{Bool}
use Rattle.allocation.specs.declared.auction.Auction.{Auction}
use Rattle.allocation.specs.declared.response.Key.{Key}
use Rattle.allocation.specs.Auction.{auction_values, LevelsInRankingOrder}
use Rattle.allocation.specs.Table.{standing}
use Rattle.allocation.proofs.FillProved.{Fillable, Ranks, terms_hold}
use Rattle.allocation.proofs.LevelFacts.{ordered_classes}
use Rattle.allocation.proofs.StoodApart.{are_apart}

-- what an auction keeps is what its fill list rests on
pub fillable : (a : Auction) → Fillable (auction_values a)
fillable a = let t = terms_hold a.order a.floor a.initiating a.terms in record {
  in_order = t.in_order;
  guaranteed_at = t.guaranteed_at;
  stop_at = t.stop_at;
  standing = a.responses;
  arrivals = a.apart;
  owns = a.owns;
}

-- arrivals differ, so each class of each level is in ranking order
pub in_ranking_order : (ahead : Key → Key → Bool) → Ranks ahead → (a : Auction) → LevelsInRankingOrder ahead (auction_values a)
in_ranking_order ahead ranks a = ordered_classes ahead ranks.one_ahead ranks.carries_on _ (standing a.table) (are_apart (standing a.table) a.apart)
