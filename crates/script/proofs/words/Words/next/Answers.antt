-- The text may be cut before a blank; what is left behind the first word has the other words.
use Rattle.std.proofs.Common.{◌∙◌, sym}
use Rattle.script.proofs.Cuts.{cut_before, blanks_are_ascii}
use Rattle.script.proofs.Pieces.{takes_word, takes_none}
use Rattle.script.specs.Words.{is_blank}
use Rattle.script.proofs.words.Words.next.Goals as goal

pub split_at-requires : goal.split_at-requires
split_at-requires c = rw c.length_of_word.ensures (cut_before _ _ blanks_are_ascii)

pub returns-then-is_empty : goal.returns-then-is_empty
returns-then-is_empty c =
    let none = takes_none is_blank c.self.inside.rest.now c.past_blanks-text.result.now c.split_at.result.0.now c.split_at.result.1.now c.length_of_word.result
    c.past_blanks-text.ensures c.length_of_word.ensures c.split_at.ensures.front c.split_at.ensures.back (sym c.is_empty.ensures ∙ c.if-is_empty.true) in
    (sym c.self.view_is ∙ none.0, none.1)

pub returns : goal.returns
returns c = sym c.self.view_is ∙ takes_word is_blank c.self.inside.rest.now c.past_blanks-text.result.now c.split_at.result.0.now c.split_at.result.1.now c.length_of_word.result
    c.past_blanks-text.ensures c.length_of_word.ensures c.split_at.ensures.front c.split_at.ensures.back (sym c.is_empty.ensures ∙ c.if-is_empty.false)
