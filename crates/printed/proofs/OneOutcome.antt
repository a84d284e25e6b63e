-- Two outcomes that a contract allows are the same: the result, and every byte of the lent buffer at exit (01, "How tight the promises
-- are"). Each hypothesis is the equation of a public function's contract, with `before` for the pen, or for what its buffer held, at
-- entry, and `q` and `r` for the pen at exit: its whole buffer and its place. A buffer is lent to be read only where the contract names
-- no exit. Assumes nothing.
use mathlib.Core.Bool.{true≢false}
use mathlib.Core.Path.{◌≡◌, refl, sym, ap}
use mathlib.Core.List.{List}
use Prim.Native.Nat.{ℕ}
use Rattle.bus.specs.Queue.{queues}
use Rattle.bus.specs.Bus.{Answer, answer}
use Rattle.bus.specs.Run.{Stop, stopped}
use Rattle.bus.specs.declared.bus.Bus.{Bus}
use Rattle.std.specs.Prelude.{Result, ⊤, Ok, Err, is_ok}
use Rattle.bus.specs.declared.refusal.Refusal.{Refusal}
use Rattle.station.specs.Outbox.{Accepted, taking}
use Rattle.station.specs.Replies.{Written, writing}
use Rattle.station.specs.declared.outbox.Outbox.{Outbox}
use Rattle.station.specs.declared.outbox.Full.{Full}
use Rattle.station.specs.declared.replies.ReplyBook.{ReplyBook}
use Rattle.walk.specs.Walk.{Step, stepped}
use Rattle.walk.specs.declared.form.FormError.{FormError}
use Rattle.walk.specs.declared.walk.Moment.{Moment}
use Rattle.walk.specs.declared.walk.Place.{Place}
use Rattle.scenario.specs.Fill.{Fill, filling, started, filled}
use Rattle.scenario.specs.Lines.{slot_text, verdict_text, form_text, end_text}
use Rattle.scenario.specs.declared.pen.Pen.{Pen}
use Rattle.scenario.specs.Pen.{penned}
use Rattle.scenario.specs.declared.fill.Printing.{Printing}
use Rattle.promises.proofs.Tight.{one_result}

-- whoever is lent a pen: the place behind the last byte written, and the whole buffer
pub one_pen : {q r d : Pen} → q ≡ d → r ≡ d → (q.at ≡ r.at) × (q.page ≡ r.page)
one_pen e f = let g = one_result e f in (ap (λ (p : Pen). p.at) g, ap (λ (p : Pen). p.page) g)

module _ (before : Pen) {q r : Pen} where
  -- scenario::fill::slot_lines
  pub slot_lines_one_outcome : (b : Bus) → q ≡ penned before (slot_text b) → r ≡ penned before (slot_text b) → q ≡ r
  slot_lines_one_outcome b e f = one_result e f

  -- scenario::lines::verdict_line
  pub verdict_line_one_outcome : (v : Result ⊤ Refusal) → q ≡ penned before (verdict_text v) → r ≡ penned before (verdict_text v) → q ≡ r
  verdict_line_one_outcome v e f = one_result e f

  -- scenario::lines::form_line
  pub form_line_one_outcome : (g : Result ⊤ FormError) → q ≡ penned before (form_text g) → r ≡ penned before (form_text g) → q ≡ r
  form_line_one_outcome g e f = one_result e f

  -- scenario::lines::end_line
  pub end_line_one_outcome : (slot : ℕ) → q ≡ penned before (end_text slot) → r ≡ penned before (end_text slot) → q ≡ r
  end_line_one_outcome slot e f = one_result e f

-- scenario::fill::Printing::fill
pub fill_one_outcome : (before : List ℕ) (g : Printing) (input : List ℕ) {h k : Printing} {q r : Pen} → filling h q ≡ filled g input before
    → filling k r ≡ filled g input before → (h ≡ k) × (q ≡ r)
fill_one_outcome before g input e f =
    let w = one_result e f in (ap (λ (x : Fill). x.printing) w, ap (λ (x : Fill). x.pen) w)

-- scenario::fill::Printing::start, and every other public function whose contract is `r ≡ definition ..`
pub start_one_outcome : (input : List ℕ) {r s : Printing} → r ≡ started input → s ≡ started input → r ≡ s
start_one_outcome input e f = one_result e f

-- a call on a borrowed bus (attach_master, attach_slave, queue, reply, and walk::apply::apply), refused or done: the bus at exit and the answer
pub call_one_outcome : {a : Answer} {c d : Bus} {v w : Result ⊤ Refusal} → answer c v ≡ a → answer d w ≡ a → (c ≡ d) × (v ≡ w)
call_one_outcome e f = let h = one_result e f in (ap (λ (x : Answer). x.bus) h, ap (λ (x : Answer). x.verdict) h)

-- bus::Bus::queue
pub queue_one_outcome : (b : Bus) (qq zz pb sb : ℕ) (bytes : List ℕ) {c d : Bus} {v w : Result ⊤ Refusal} → answer c v ≡ queues b qq zz pb sb bytes
    → answer d w ≡ queues b qq zz pb sb bytes → (c ≡ d) × (v ≡ w)
queue_one_outcome b qq zz pb sb bytes e f = call_one_outcome e f

-- bus::Bus::run: the bus at exit and the slots that are left
pub run_one_outcome : {a : Stop} {c d : Bus} {m n : ℕ} → stopped c m ≡ a → stopped d n ≡ a → (c ≡ d) × (m ≡ n)
run_one_outcome e f = let h = one_result e f in (ap (λ (x : Stop). x.bus) h, ap (λ (x : Stop). x.left) h)

-- walk::walk::onward: bus and place at exit, and the moment
pub onward_one_outcome : {a : Step} {c d : Bus} {p q : Place} {m n : Moment} → stepped c p m ≡ a → stepped d q n ≡ a → (c ≡ d) × (p ≡ q) × (m ≡ n)
onward_one_outcome e f = let h = one_result e f in (ap (λ (x : Step). x.bus) h, ap (λ (x : Step). x.place) h, ap (λ (x : Step). x.moment) h)

-- whether a station has room says the whole answer
one_fullness : (r s : Result ⊤ Full) → is_ok r ≡ is_ok s → r ≡ s
one_fullness (Ok x) (Ok y) e = refl
one_fullness (Ok x) (Err g) e = absurd (true≢false e)
one_fullness (Err f) (Ok y) e = absurd (true≢false (sym e))
one_fullness (Err f) (Err g) e = refl

-- station::outbox::Outbox::accept
pub accept_one_outcome : {a : Accepted} {o p : Outbox} (r s : Result ⊤ Full) → taking o r ≡ a → taking p s ≡ a → (o ≡ p) × (r ≡ s)
accept_one_outcome r s e f = let h = one_result e f in (ap (λ (x : Accepted). x.outbox) h, one_fullness r s (ap (λ (x : Accepted). x.taken) h))

-- station::replies::ReplyBook::write
pub write_one_outcome : {a : Written} {b c : ReplyBook} (r s : Result ⊤ Full) → writing b r ≡ a → writing c s ≡ a → (b ≡ c) × (r ≡ s)
write_one_outcome r s e f = let h = one_result e f in (ap (λ (x : Written). x.book) h, one_fullness r s (ap (λ (x : Written). x.taken) h))
