-- The terms are the laws of the three interfaces.
use Rattle.room.specs.Rooms.{world_of}
use Rattle.session.proofs.Promises.{promised}
use Rattle.session.proofs.laws.model_keeps_the_promise.Goals as goal

pub returns : goal.returns
returns g c =
    let ranking = c.args.ranking.now in
    promised (world_of g.M.Market.meaning g.S.IntervalSource.meaning (g.R.Ranking.ahead ranking))
    (record {
      refused_leaves = g.met.M.Market.refused;
      drawn_within = g.met.S.IntervalSource.in_limits;
      one_ahead = g.met.R.Ranking.one_ahead ranking;
      carries_on = g.met.R.Ranking.carries_on ranking;
    })
