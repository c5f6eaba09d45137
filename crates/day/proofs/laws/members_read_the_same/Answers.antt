-- The law holds of any two scripts, and each is alike to itself.
use Rattle.day.proofs.Alike.{reads_the_same, script_alike_to_itself}
use Rattle.day.proofs.laws.members_read_the_same.Goals as goal

pub returns : goal.returns
returns c = record { same = reads_the_same; alike_to_itself = script_alike_to_itself }
