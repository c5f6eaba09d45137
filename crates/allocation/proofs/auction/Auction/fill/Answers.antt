-- Refused or not, each class of each level is in ranking order; what is written without a refusal is lawful, and rows past it
-- stay.
use Rattle.std.proofs.Common.{arith}
use Rattle.allocation.specs.Auction.{auction_values, auction_fills}
use Rattle.allocation.specs.Ranking.{by_key}
use Rattle.allocation.proofs.AuctionFills.{in_ranking_order}
use Rattle.allocation.proofs.FillProved.{written_past}
use Rattle.allocation.proofs.auction.Auction.fill.Goals as goal

pub returns-then-rows-lt-LEAST_ROWS-clause-ranked : goal.returns-then-rows-lt-LEAST_ROWS-clause-ranked
returns-then-rows-lt-LEAST_ROWS-clause-ranked g c =
    let ranking = c.args.ranking.now in
    in_ranking_order (g.R.Ranking.ahead ranking) (record { one_ahead = g.met.R.Ranking.one_ahead ranking; carries_on = g.met.R.Ranking.carries_on ranking }) c.args.self.now

pub returns-clause-ranked : goal.returns-clause-ranked
returns-clause-ranked g c = c.write_fills.ensures.ranked

pub returns-clause-laws : goal.returns-clause-laws
returns-clause-laws g c =
    let fs = auction_fills (by_key (g.R.Ranking.ahead c.args.ranking.now)) (auction_values c.args.self.now) in
    let past = written_past fs c.args.rows.now c.write_fills.new.rows c.write_fills.result c.write_fills.ensures.count c.write_fills.ensures.rows in
    (c.write_fills.ensures.laws, past.0, past.1, omega arith)
