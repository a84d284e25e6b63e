-- What a slot told, line by line: the transfer under way, and the one that came to its end (02, E9). Assumes nothing.
use Rattle.std.specs.Prelude.{List, [], ◌∷◌, map, ℕ, get_or, Option, Some, None}
use Rattle.station.specs.Events.{Word, owns, taken, failed, free, given, answer, Event}
use Rattle.bus.specs.Events.{Line, events}
use Rattle.bus.specs.declared.bus.Bus.{Bus}
use Rattle.pairs.specs.declared.Counts.{Counts}
use Rattle.pairs.specs.declared.Heard.{Heard}
use Rattle.pairs.specs.declared.Transfer.{Transfer}
use Rattle.pairs.specs.declared.UnderWay.{UnderWay}
use Rattle.pairs.specs.UnderWay.{nothing_known, begun, taken_by, answered_in, is_taken}

abbrev pub heard : Counts → UnderWay → Option Transfer → Heard
heard c u f = record { before = c; current = u; freed = f }

abbrev pub transfer : ℕ → ℕ → UnderWay → ℕ → Transfer
transfer qq zz u a = record { qq = qq; zz = zz; taken = is_taken u a zz }

-- a slot has one free line at most (`one-free-line`): a second would not count
abbrev pub or_freed : Option Transfer → Transfer → Option Transfer
or_freed None x = Some x
or_freed (Some y) x = Some y

-- a free line ends the transfer of the telegram that it lets go
unfoldable pub ended_by : Heard → ℕ → ℕ → ℕ → Heard
ended_by h a qq zz = heard h.before nothing_known (or_freed h.freed (transfer qq zz h.current a))

-- one line more
abbrev pub heard_as : Word → Heard → Event → Heard
heard_as owns h e = heard h.before (begun e.station) h.freed
heard_as taken h e = heard h.before (taken_by h.current e.station) h.freed
heard_as failed h e = h
heard_as free h e = ended_by h e.station (get_or e.leaving 0 0) (get_or e.leaving 1 0)
heard_as given h e = h
heard_as answer h e = heard h.before (answered_in h.current) h.freed

-- one after the other
unfoldable pub heard_events : Heard → List Event → Heard
heard_events h [] = h
heard_events h (e ∷ es) = heard_events (heard_as e.word h e) es

-- the events that lines show: of their times nothing is asked
abbrev pub events_in : List Line → List Event
events_in ls = map (λ (l : Line). l.event) ls

-- the slot that the bus has just run
unfoldable pub heard_of : Counts → Bus → Heard
heard_of c b = heard_events (heard c c.current None) (events_in (events b))
