-- Each statement's words are plain, and say it.
use Rattle.script.proofs.ReadAgain.{statement_again}
use Rattle.script.proofs.write.statements_read_again.Goals as goal

pub returns : goal.returns
returns c = statement_again
