-- Eighteen ports in 1764 words: ports are numbered from 1, and each has 98 words.
use Rattle.std.specs.Prelude.{ℕ, ◌-◌, ◌*◌, List}
use Rattle.refusal.specs.Limits.{port_count}
use Rattle.senders.specs.Port.{Port}
use Rattle.slots.specs.Words.{port_words, block, splice, port_of}

-- what all ports take
abbrev pub all_words : ℕ
all_words = port_count * port_words

-- the words of a port's own, and the words with others in their place
abbrev pub own : List ℕ → ℕ → List ℕ
own ws port = block ws (port_words * (port - 1)) port_words

abbrev pub with : List ℕ → ℕ → List ℕ → List ℕ
with ws port vs = splice ws (port_words * (port - 1)) port_words vs

-- the port that its words are
abbrev pub port_at : List ℕ → ℕ → Port
port_at ws port = port_of (own ws port)
