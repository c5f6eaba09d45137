-- What statements are answered, as it is told, and the text of it.
use Rattle.std.specs.Prelude.{ℕ, List, ◌++◌, codes, Some, Result, Ok, Err}
use Rattle.std.specs.Fmt.{decimal}
use Rattle.market.specs.Range.{RangePrices}
use Rattle.market.specs.Refusal.{range_number}
use Rattle.script.specs.declared.transcript.not_understood.NotUnderstood.{NotUnderstood as WhyNot}
use Rattle.script.specs.declared.transcript.not_understood.NotUnderstood.TheVariants as why
use Rattle.script.specs.declared.transcript.reply.Reply.{Reply as CodeReply}
use Rattle.script.specs.declared.transcript.reply.Reply.TheVariants as code
use Rattle.script.specs.declared.transcript.range.RangeTold.{RangeTold}
use Rattle.script.specs.Misread.{not_understood_text}
use Rattle.script.specs.Range.{range_told}
use Rattle.script.specs.SettingRefusal.{FailureTold, Refused, AfterFirstCall, setting_refusal_number}
use Rattle.script.specs.Answer.{answer_text, range_text}
use Rattle.script.specs.Told.{AnswerTold, answer_told}
use Rattle.session.specs.Runs.{Accepted}

-- What a statement is answered: a call, or a setting that is taken, as calls are; a question by a range; a setting or a
-- question that is refused, by the refusal's number; or why it is not understood.
pub data Reply : Type 0 where
  Answered : AnswerTold → Reply
  SettingRefused : ℕ → Reply
  Permitted : RangeTold → Reply
  RangeRefused : ℕ → Reply
  NotUnderstood : WhyNot → Reply

-- What is told of a reply in code.
abbrev pub reply_told : CodeReply → Reply
reply_told (code.Answered a) = Answered (answer_told a)
reply_told (code.SettingRefused e) = SettingRefused (setting_refusal_number e)
reply_told (code.Permitted r) = Permitted r
reply_told (code.RangeRefused e) = RangeRefused (range_number e)
reply_told (code.NotUnderstood e) = NotUnderstood e

-- The text of a reply.
abbrev pub reply_text : Reply → List ℕ
reply_text (Answered a) = answer_text a
reply_text (SettingRefused n) = codes "refused " ++ decimal n
reply_text (Permitted r) = range_text r
reply_text (RangeRefused n) = codes "refused " ++ decimal n
reply_text (NotUnderstood e) = codes "not understood: " ++ not_understood_text e

-- A setting is accepted or refused, or comes too late to be understood.
abbrev pub setting_reply : Result (Unit {0}) FailureTold → Reply
setting_reply (Ok x) = Answered (Some Accepted)
setting_reply (Err (Refused n)) = SettingRefused n
setting_reply (Err AfterFirstCall) = NotUnderstood why.AfterFirstCall

-- A question is answered by a range, or refused.
abbrev pub range_reply : Result RangePrices ℕ → Reply
range_reply (Ok r) = Permitted (range_told r)
range_reply (Err n) = RangeRefused n
