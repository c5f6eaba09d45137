-- The terms are the laws of the three interfaces.
use Rattle.room.specs.Rooms.{world_of}
use Rattle.session.proofs.DeskInTurn.{desk_calls}
use Rattle.session.proofs.laws.desk_calls_keep_the_promise.Goals as goal

pub returns : goal.returns
returns g c =
    desk_calls (λ (ranking : g.row.R.Denot). world_of g.M.Market.meaning g.S.IntervalSource.meaning (g.R.Ranking.ahead ranking)) g.M.Market.position g.S.IntervalSource.position g.M.Market.told
    (λ ranking. record {
      refused_leaves = g.met.M.Market.refused;
      drawn_within = g.met.S.IntervalSource.in_limits;
      one_ahead = g.met.R.Ranking.one_ahead ranking;
      carries_on = g.met.R.Ranking.carries_on ranking;
    })
