-- The terms are the laws of the three interfaces.
use Rattle.room.specs.Rooms.{world_of}
use Rattle.session.proofs.InTurn.{calls_in_turn}
use Rattle.session.proofs.laws.calls_in_turn_are_a_run.Goals as goal

pub returns : goal.returns
returns g c =
    calls_in_turn (λ (ranking : g.row.R.Denot). world_of g.M.Market.meaning g.S.IntervalSource.meaning (g.R.Ranking.ahead ranking)) g.M.Market.position g.S.IntervalSource.position g.M.Market.told
    (λ ranking. record {
      refused_leaves = g.met.M.Market.refused;
      drawn_within = g.met.S.IntervalSource.in_limits;
      one_ahead = g.met.R.Ranking.one_ahead ranking;
      carries_on = g.met.R.Ranking.carries_on ranking;
    })
