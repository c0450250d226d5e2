-- What each answer of reading returns: 0 where nothing is refused, else the number (01, "Numbers that refuse") with its place (02, (i)).
use Rattle.std.specs.Prelude.{ℕ, Result, Ok, Err}
use Rattle.refusal.specs.Refusal.{answer_of}
use Rattle.message.specs.declared.announce.Heard.{Heard}
use Rattle.message.specs.declared.fields.Message.{Message}
use Rattle.refusal.specs.declared.Refusal.{Refusal}

abbrev pub read_code : Result Message Refusal → ℕ
read_code (Ok m) = 0
read_code (Err x) = answer_of x

abbrev pub announced_code : Result Heard Refusal → ℕ
announced_code (Ok h) = 0
announced_code (Err x) = answer_of x
