-- The contract of each public function fixes its answer: any two results that it allows are equal.
use mathlib.Core.Path.{◌∙◌, refl, sym}
use Prim.Native.Nat.{ℕ}
use mir.Val.{Fits}
use mir.Syntax.{w64}
use denote.Param.{number}
use Rattle.laws.proofs.Fixes.{Fixes}
use Rattle.words.specs.contracts as contracts
use Rattle.words.proofs as its

pub word_of_i8_determined : Fixes contracts.word_of_i8.ended its.word_of_i8.Reads.Post
word_of_i8_determined κs a x y v w p q = (p ∙ sym q, refl)

pub word_of_i16_determined : Fixes contracts.word_of_i16.ended its.word_of_i16.Reads.Post
word_of_i16_determined κs a x y v w p q = (p ∙ sym q, refl)

pub port_of_determined : Fixes contracts.port_of.ended its.port_of.Reads.Post
port_of_determined κs a x y v w p q = (p ∙ sym q, refl)

pub put_determined : (N : ℕ) (fits : Fits w64 N) → Fixes (contracts.put.ended (number N)) (its.put.Reads.Post N fits)
put_determined N fits κs a x y v w p q = (p.0 ∙ sym q.0, λ i. ((p.1 ∙ sym q.1) i, w.1))
