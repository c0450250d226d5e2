-- What a refusal returns: its number is none of 0 and has room in eight bits, so that number and place can be told apart.
use Prim.Native.Nat.{◌/◌, ◌%◌, ◌<◌}
use mathlib.Core.Path.{◌≡◌}
use native.Mathlib.Omega.{arith}
use Rattle.refusal.specs.Refusal.{number_of, place_of, answer_of}
use Rattle.refusal.specs.declared.Refusal.{Refusal}
use Rattle.refusal.specs.declared.Refusal.TheVariants.{Short, Version, «Type», Length, Stamp, Tlv, WrBad, Port, Domain, Own, Backward, Stale, Full, Range, Unranked, Room, Many, Field, Long, Block, Pcap, Export}

-- every refusal has a number above 0, in eight bits
pub counted : (x : Refusal) → (0 < number_of x) × (number_of x < 256)
counted Short = (omega arith, omega arith)
counted Version = (omega arith, omega arith)
counted «Type» = (omega arith, omega arith)
counted Length = (omega arith, omega arith)
counted Stamp = (omega arith, omega arith)
counted (Tlv p) = (omega arith, omega arith)
counted (WrBad p) = (omega arith, omega arith)
counted Port = (omega arith, omega arith)
counted Domain = (omega arith, omega arith)
counted Own = (omega arith, omega arith)
counted Backward = (omega arith, omega arith)
counted Stale = (omega arith, omega arith)
counted Full = (omega arith, omega arith)
counted Range = (omega arith, omega arith)
counted Unranked = (omega arith, omega arith)
counted Room = (omega arith, omega arith)
counted Many = (omega arith, omega arith)
counted Field = (omega arith, omega arith)
counted Long = (omega arith, omega arith)
counted Block = (omega arith, omega arith)
counted Pcap = (omega arith, omega arith)
counted Export = (omega arith, omega arith)

-- so nothing but what is done returns 0
pub answered : (x : Refusal) → 0 < answer_of x
answered x = omega (arith, (counted x).0)

-- THE NUMBER is what the low eight bits hold
pub number_back : (x : Refusal) → answer_of x % 256 ≡ number_of x
number_back x = omega (arith, (counted x).1)

-- THE PLACE is what stands above them
pub place_back : (x : Refusal) → answer_of x / 256 ≡ place_of x
place_back x = omega (arith, (counted x).1)
