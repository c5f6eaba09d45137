-- At most 6,400,000 contracts times a size stays inside 64 bits.
use Rattle.std.proofs.Common.{arith}
use Rattle.std.proofs.lemmas.Nat.{mul-le}
use Rattle.allocation.proofs.ShareFacts.{total_most}
use Rattle.allocation.proofs.share.Deal.whole_part.Goals as goal

pub overflow_mul-result : goal.overflow_mul-result
overflow_mul-result c =
    let d = c.args.self.now in
    let few = total_most d.among.responses.now d.among.sound.1 in
    let fits = mul-le d.contracts c.from.result 6400000 4294967295 (omega (arith, d.within, d.all, d.among.sound.0)) (omega arith) in
    omega arith
