-- The text may be cut behind the blanks in front.
use Rattle.script.proofs.Cuts.{cut_behind, blanks_are_ascii}
use Rattle.script.proofs.words.past_blanks.Goals as goal

pub split_at-requires : goal.split_at-requires
split_at-requires c = rw c.length_of_blanks.ensures (cut_behind _ _ blanks_are_ascii c.utf8.text)
