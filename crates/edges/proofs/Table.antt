-- 01's twelve rows hold: each is computed.
use mathlib.Core.Path.{refl}
use Rattle.refusal.specs.Choice.{refuse}
use Rattle.octets.specs.Be.{be}
use Rattle.tlv.specs.Walk.{next_of, walk_by, walk}
use Rattle.tlv.specs.Form.{HasForm, numbered, suffix_at}
use Rattle.tlv.specs.Faults.{fault_of}
use Rattle.tlv.specs.Wr.{suffix_in}
use Rattle.senders.specs.Port.{tab, plan_of, first}
use Rattle.decide.specs.Comparing.{fewer_of, same_of, compare_of}
use Rattle.delay.specs.Delay.{t1, t2, t3, t4, share, delay, offset}
use Rattle.delay.specs.Range.{stamp_good, stamps_good, corrections_good, latencies_good, differences_good, inputs_good, in_range}
use Rattle.edges.specs.Edges.{All, table}

pub edges : All table
unfolding be suffix_in suffix_at numbered HasForm next_of walk_by walk fault_of refuse tab plan_of first compare_of same_of fewer_of t1 t2 t3 t4 share delay offset stamp_good stamps_good corrections_good latencies_good differences_good inputs_good in_range
edges = (refl, (refl, (refl, (refl, (refl, (refl, (refl, (refl, (refl, (refl, (refl, (refl, tt))))))))))))
