-- The line may be cut where the comment begins.
use Rattle.script.proofs.Cuts.{cut_before, comments_are_ascii}
use Rattle.script.proofs.words.Words.of.Goals as goal

pub split_at-requires : goal.split_at-requires
split_at-requires c = rw c.length_before_comment.ensures (cut_before _ _ comments_are_ascii)
