-- `with_place` meets its contract: no place changes nothing; else it is put where it belongs.
use native.Mathlib.Omega.{arith}
use lib.ListN.{length-take}
use Rattle.election.specs.Places.{top_of}
use Rattle.election.proofs.Gathering.{among_few}
use Rattle.election.proofs.with_place.Goals as goal

pub put_at-requires : goal.put_at-requires
put_at-requires c =
    let x = c.args.top in
    (c.requires.small, omega (arith, c.position.ensures, among_few c.args.words.now c.args.a (top_of x), length-take x.len x.places))
