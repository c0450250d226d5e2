-- What each answer of a call over the tail returns: 0 where nothing is refused, else the number (01, "Numbers that refuse") with its place (02, (i)).
use Rattle.std.specs.Prelude.{ℕ, Option, Some, None, Result, Ok, Err}
use Rattle.refusal.specs.Refusal.{answer_of}
use Rattle.tlv.specs.declared.wr.LinkMessage.{LinkMessage}
use Rattle.refusal.specs.declared.Refusal.{Refusal}
use Rattle.contents.specs.declared.tlvs.Tlv.{Tlv}

abbrev pub tlv_code : Result (Option ℕ) Refusal → ℕ
tlv_code (Ok (Some at)) = 0
tlv_code (Ok None) = 0
tlv_code (Err x) = answer_of x

abbrev pub walked_code : Result (Option Tlv) Refusal → ℕ
walked_code (Ok (Some x)) = 0
walked_code (Ok None) = 0
walked_code (Err x) = answer_of x

abbrev pub suffix_code : Result (Option ℕ) Refusal → ℕ
suffix_code (Ok (Some n)) = 0
suffix_code (Ok None) = 0
suffix_code (Err x) = answer_of x

abbrev pub link_code : Result (Option LinkMessage) Refusal → ℕ
link_code (Ok (Some m)) = 0
link_code (Ok None) = 0
link_code (Err x) = answer_of x
