-- The terms are the laws of the three interfaces.
use Rattle.session.proofs.RunLaws.{run_laws}
use Rattle.session.proofs.laws.run_laws_hold.Goals as goal

pub returns : goal.returns
returns g c =
    let ranking = c.args.ranking.now in
    run_laws (record { market = g.M.Market.meaning; source = g.S.IntervalSource.meaning; ahead = g.R.Ranking.ahead ranking })
    (record {
      refused_leaves = g.met.M.Market.refused;
      drawn_within = g.met.S.IntervalSource.in_limits;
      one_ahead = g.met.R.Ranking.one_ahead ranking;
      carries_on = g.met.R.Ranking.carries_on ranking;
    })
