-- A capture handed in frame by frame: what the calls of `keep` come to, one after another from zeroed words on, with the blocks that come out put together.
use Rattle.std.specs.Prelude.{ℕ, List, [], ◌∷◌, ◌++◌}
use Rattle.refusal.specs.Choice.{pick}
use Rattle.recording.specs.Recording.{is_open, finished}
use Rattle.pcap.specs.File.{Frame}
use Rattle.importing.specs.Importing.{frame_recorded, open_behind, words_behind, out_behind, came_out, fresh_words}

-- all that is lent to the calls, and the octets that were put together
pub record Stream : Type 0 where
  pub opened : List ℕ
  pub words : List ℕ
  pub out : List ℕ
  pub given : List ℕ

-- one call, and one after another
abbrev pub streamed_with : ℕ → Stream → Frame → Stream
streamed_with port s x =
    record {
      opened = open_behind s.opened s.words port x;
      words = words_behind s.words port x;
      out = out_behind s.opened s.words port x s.out;
      given = s.given ++ came_out (frame_recorded s.words port x) (out_behind s.opened s.words port x s.out);
    }

unfoldable pub streamed_all : ℕ → Stream → List Frame → Stream
streamed_all port s [] = s
streamed_all port s (x ∷ xs) = streamed_all port (streamed_with port s x) xs

-- at the end: the open block too, where recording's `finish` says that there is one
abbrev pub stream_of : Stream → List ℕ
stream_of s = s.given ++ pick (is_open s.words) (finished s.opened s.words s.out) []

-- zeroed words; what the blocks held before does not matter
abbrev pub fresh_stream : List ℕ → List ℕ → Stream
fresh_stream opened out = record { opened = opened; words = fresh_words; out = out; given = [] }
