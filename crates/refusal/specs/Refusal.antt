-- The numbers that refuse (01, "Numbers that refuse"; 19 and 20 are 02's, (iv), and 21 and 22, (vi)), and the places that two of them have (02, (i)).
use Rattle.std.specs.Prelude.{ℕ, ◌+◌, ◌*◌, Result, Ok, Err}
use Rattle.refusal.specs.declared.Refusal.{Refusal}
use Rattle.refusal.specs.declared.Refusal.TheVariants.{Short, Version, «Type», Length, Stamp, Tlv, WrBad, Port, Domain, Own, Backward, Stale, Full, Range, Unranked, Room, Many, Field, Long, Block, Pcap, Export}

-- "| No. | Name | Given exactly when |"
abbrev pub number_of : Refusal → ℕ
number_of Short = 1
number_of Version = 2
number_of «Type» = 3
number_of Length = 4
number_of Stamp = 5
number_of (Tlv p) = 6
number_of (WrBad p) = 7
number_of Port = 8
number_of Domain = 9
number_of Own = 10
number_of Backward = 11
number_of Stale = 12
number_of Full = 13
number_of Range = 14
number_of Unranked = 15
number_of Room = 16
number_of Many = 17
number_of Field = 18
number_of Long = 19
number_of Block = 20
number_of Pcap = 21
number_of Export = 22

-- "6 and 7 now return this offset too": where in the message the fault stands; 0 of every refusal that returns its number alone
abbrev pub place_of : Refusal → ℕ
place_of (Tlv p) = p
place_of (WrBad p) = p
place_of _ = 0

-- a number with a place: the number in the low eight bits, the place above them
abbrev pub placed : ℕ → ℕ → ℕ
placed number place = number + 256 * place

-- what a refusal returns
abbrev pub answer_of : Refusal → ℕ
answer_of x = placed (number_of x) (place_of x)

-- 0 where the work is done, else what the refusal returns
abbrev pub code_of : Result (Unit {0}) Refusal → ℕ
code_of (Ok tt) = 0
code_of (Err x) = answer_of x
