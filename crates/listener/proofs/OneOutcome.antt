-- Two outcomes that a contract of the log or of what `wirelog` prints allows are the same: the result, and every byte of the lent buffer at
-- exit. Each hypothesis is the contract's equation; `bytes`, `out`, `page` are a lent buffer at exit, `other` in a second outcome. Assumes nothing.
use mathlib.Core.Path.{◌≡◌, ap}
use mathlib.Core.List.{List}
use Prim.Native.Nat.{ℕ}
use Rattle.bus.specs.declared.bus.Bus.{Bus}
use Rattle.std.specs.Prelude.{Result, ⊤}
use Rattle.walk.specs.declared.form.FormError.{FormError}
use Rattle.buslog.specs.Note.{Keeping, kept, note_in}
use Rattle.buslog.specs.Read.{Copying, copying, read_into, record_into}
use Rattle.buslog.specs.Ring.{Ring, ring}
use Rattle.buslog.specs.declared.log.BadLength.{BadLength}
use Rattle.buslog.specs.declared.log.Log.{Log}
use Rattle.buslog.specs.declared.log.OtherLength.{OtherLength}
use Rattle.buslog.specs.declared.log.ReadError.{ReadError}
use Rattle.scenario.specs.declared.pen.Pen.{Pen}
use Rattle.scenario.specs.Pen.{penned}
use Rattle.promises.proofs.Tight.{one_result}
use Rattle.diary.specs.Fill.{Fill, filling, filled}
use Rattle.diary.specs.Follow.{followed}
use Rattle.diary.specs.Output.{opening_text}

-- log::Log::note
pub note_one_outcome : (d : Ring) (b : Bus) {bytes other : List ℕ} {l m : Log} {r s : Result Unit OtherLength}
    → kept (ring bytes l) r ≡ note_in d b → kept (ring other m) s ≡ note_in d b → (r ≡ s) × (l ≡ m) × (bytes ≡ other)
note_one_outcome d b e f =
    let h = one_result e f in (ap (λ (k : Keeping). k.said) h, ap (λ (k : Keeping). k.ring.log) h, ap (λ (k : Keeping). k.ring.bytes) h)

-- log::Log::read
pub read_one_outcome : (d : Ring) (before : List ℕ) {out other : List ℕ} {r s : Result ℕ ReadError} → copying out r ≡ read_into d before → copying other s ≡ read_into d before
    → (r ≡ s) × (out ≡ other)
read_one_outcome d before e f = let h = one_result e f in (ap (λ (c : Copying). c.copied) h, ap (λ (c : Copying). c.out) h)

-- log::Log::record
pub record_one_outcome : (d : Ring) (k : ℕ) (before : List ℕ) {out other : List ℕ} {r s : Result ℕ ReadError} → copying out r ≡ record_into d k before
    → copying other s ≡ record_into d k before → (r ≡ s) × (out ≡ other)
record_one_outcome d k before e f = let h = one_result e f in (ap (λ (c : Copying). c.copied) h, ap (λ (c : Copying). c.out) h)

-- diary::follow::follow
pub follow_one_outcome : (d : Ring) (input : List ℕ) {bytes other : List ℕ} {r s : Log} → ring bytes r ≡ followed d input → ring other s ≡ followed d input
    → (r ≡ s) × (bytes ≡ other)
follow_one_outcome d input e f = let h = one_result e f in (ap (λ (v : Ring). v.log) h, ap (λ (v : Ring). v.bytes) h)

-- diary::lines::Records::fill
pub lines_one_outcome : (held before : List ℕ) (at : ℕ) {n m : ℕ} {q r : Pen} → filling n q ≡ filled held at before
    → filling m r ≡ filled held at before → (n ≡ m) × (q ≡ r)
lines_one_outcome held before at e f = let h = one_result e f in (ap (λ (x : Fill). x.next) h, ap (λ (x : Fill). x.pen) h)

-- diary::opening::opening
pub opening_one_outcome : (u : Result Log BadLength) (g : Result ⊤ FormError) (before : Pen) {q r : Pen} → q ≡ penned before (opening_text u g)
    → r ≡ penned before (opening_text u g) → q ≡ r
opening_one_outcome u g before e f = one_result e f
