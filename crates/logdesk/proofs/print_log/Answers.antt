use Rattle.std.proofs.Common.{◌≡◌, ℕ, List, length-take, arith}
use Rattle.walk.specs.Moments.{moments}
use Rattle.buslog.specs.Latest.{joined}
use Rattle.buslog.specs.Ring.{ring}
use Rattle.scenario.specs.Pen.{blank}
use Rattle.scenario.proofs.Written.{blank_whole}
use Rattle.walk.specs.Field.{Bytes}
use Rattle.diary.specs.Fill.{Prints}
use Rattle.diary.specs.Follow.{told_buses}
use Rattle.diary.specs.Output.{lines_of, held_lines}
use Rattle.diary.proofs.FillsAreLines.{fills_are_lines}
use Rattle.diary.proofs.LinesOfRecords.{lines_of_records}
use Rattle.diary.proofs.WirelogPrints.{held_short}
use Rattle.printed.proofs.Reached.{moments_reached}
use Rattle.listener.proofs.Prints.{told_roomy}
use Rattle.logdesk.proofs.Playing.{read_most, read_all}
use Rattle.logdesk.proofs.print_log.Goals as goal

-- Of what a log of k bytes holds at a scenario's end the fills print the lines.
lines_print : (k : ℕ) (s : List ℕ) {held : List ℕ} → Bytes s → held ≡ joined (held_lines k s)
    → (n : ℕ) × Prints held 0 blank.page n (lines_of (held_lines k s))
lines_print k s all e =
    let ls = held_lines k s in
    let p = fills_are_lines ls blank.page blank_whole (held_short k (told_buses (moments s)) (told_roomy (moments_reached s all))) in
    rw (e, ← lines_of_records ls) (p.fills, p.prints)

pub slice_bounds-held-end : goal.slice_bounds-held-end
slice_bounds-held-end g c = omega (arith, read_most _ _ c.read.ensures c.unwrap_or-n.ensures)

pub slice_bounds-print-end : goal.slice_bounds-print-end
slice_bounds-print-end g c = omega (arith, read_most _ _ c.read.ensures c.unwrap_or-n.ensures, length-take c.unwrap_or-n.result c.read.new.out)

pub returns-clause-ok : goal.returns-clause-ok
returns-clause-ok g c = λ k s all sound held.
    c.print.ensures.ok (lines_of (held_lines k s))
    (lines_print k s all (read_all (ring c.args.bytes.now c.args.l) (held_lines k s) _ c.read.ensures c.unwrap_or-n.ensures (omega arith) sound held))
