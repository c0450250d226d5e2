-- What each refusal returns: the table's numbers, and those of 6 and 7 below a place.
use mathlib.Core.Path.{◌≡◌, refl}
use mathlib.Core.List.{[], ◌∷◌, map}
use Rattle.refusal.specs.Refusal.{answer_of}
use Rattle.refusal.specs.declared.Refusal.TheVariants.{Short, Version, «Type», Length, Stamp, Tlv, WrBad, Port, Domain, Own, Backward, Stale, Full, Range, Unranked, Room, Many, Field, Long, Block, Pcap, Export}

pub returned : map answer_of (
    Short ∷ Version ∷ «Type» ∷ Length ∷ Stamp ∷ Tlv 64 ∷ WrBad 70 ∷ Port ∷ Domain ∷ Own ∷ Backward ∷ Stale ∷ Full ∷ Range ∷ Unranked ∷ Room ∷ Many ∷ Field ∷ Long ∷ Block ∷ Pcap ∷ Export ∷ [])
    ≡ 1 ∷ 2 ∷ 3 ∷ 4 ∷ 5 ∷ 16390 ∷ 17927 ∷ 8 ∷ 9 ∷ 10 ∷ 11 ∷ 12 ∷ 13 ∷ 14 ∷ 15 ∷ 16 ∷ 17 ∷ 18 ∷ 19 ∷ 20 ∷ 21 ∷ 22 ∷ []
returned = refl
