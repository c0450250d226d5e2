-- The calls of a host on the words of eighteen links, one after another, newest first, from zeroed words. What has happened to a port's link is that
-- port's own events, each under the settings of its moment.
use Rattle.std.specs.Prelude.{ℕ, ◌<◌, false, ◌&&◌, List, [], ◌∷◌, eqb, leb, replicate}
use Rattle.refusal.specs.Choice.{pick}
use Rattle.link.specs.declared.Settings.{Settings}
use Rattle.link.specs.declared.Event.{Event}
use Rattle.link.specs.Run.{Happened}
use Rattle.links.specs.Words.{setting_words, take_words}

-- settings for a port; an event on a port
pub data Call : Type 0 where
  setting : ℕ → Settings → Call
  taking : ℕ → Event → Call

-- the words after the calls
unfoldable pub words_after : List Call → List ℕ
words_after [] = replicate 72 0
words_after (setting port s ∷ older) = setting_words (words_after older) port s
words_after (taking port e ∷ older) = take_words (words_after older) port e

-- what zeroed words say
abbrev pub unset : Settings
unset = record { config = 0; calibrate = false; retry = 0; period = 0; tx = 0; rx = 0 }

-- a port's settings: the last that were not refused
unfoldable pub last_set : ℕ → List Call → Settings
last_set q [] = unset
last_set q (setting port s ∷ older) = pick (eqb port q && leb s.config 3) s (last_set q older)
last_set q (taking port e ∷ older) = last_set q older

-- a port's own events
unfoldable pub happened : ℕ → List Call → List Happened
happened q [] = []
happened q (setting port s ∷ older) = happened q older
happened q (taking port e ∷ older) =
    pick (eqb port q) (record { under = last_set q older; event = e } ∷ happened q older) (happened q older)

-- what the types of the settings say: retry has eight bits, period 32
abbrev pub Typed : Call → Type 0
Typed (setting port s) = (s.retry < 256) × (s.period < 4294967296)
Typed (taking port e) = Unit {0}

unfoldable pub AllTyped : List Call → Type 0
AllTyped [] = Unit {0}
AllTyped (c ∷ older) = Typed c × AllTyped older
