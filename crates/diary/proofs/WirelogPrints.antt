-- What `wirelog` is handed to write is exactly its defined output, for every length and every scenario. Assumes nothing.
use mathlib.Core.Path.{◌≡◌, refl, ap, subst, ◌∙◌}
use mathlib.Core.Bool.{Bool, true, false, cond}
use mathlib.Core.List.{List, [], ◌∷◌, ◌++◌}
use Prim.Native.Nat.{ℕ, ◌-◌, ◌≤◌}
use native.Mathlib.Omega.{arith}
use borrow.Author.Tests.{le-leb}
use lib.ListN.{length, take, drop, length-append}
use lib.Seq.{take-append_seam}
use Rattle.laws.proofs.FirstIs.{Every, every_behind}
use Rattle.bus.specs.declared.bus.Bus.{Bus}
use Rattle.walk.specs.Field.{Bytes}
use Rattle.walk.specs.Form.{form_of}
use Rattle.walk.specs.Moments.{moments}
use Rattle.std.specs.Prelude.{Result, ⊤, Ok, Err}
use Rattle.walk.specs.declared.form.FormError.{FormError}
use Rattle.walk.specs.declared.form.FormError.TheVariants.{BadField, TooLong}
use Rattle.buslog.specs.Fitting.{fitting_run}
use Rattle.bus.specs.Events.{Line}
use Rattle.buslog.specs.Latest.{joined, longest_run, all_lines}
use Rattle.buslog.specs.Log.{within_limits, fresh_for, bad_length, set_up_for}
use Rattle.buslog.specs.Read.{Copying, copying, read_into}
use Rattle.buslog.specs.Record.{record_of}
use Rattle.buslog.specs.Ring.{Ring, ring, held_bytes}
use Rattle.buslog.specs.Roomy.{AllRoomy}
use Rattle.buslog.specs.Sound.{Sound}
use Rattle.buslog.proofs.Formed.{Short28}
use Rattle.buslog.proofs.HoldsTheLatest.{log_after, log_holds_the_latest, log_stays_sound, longest_of_all}
use Rattle.buslog.proofs.Longest.{length_first, goes_oldest_first, run_fits}
use Rattle.buslog.proofs.ReadsWhole.{reads}
use Rattle.scenario.specs.Lines.{refused_text, newline, form_text}
use Rattle.scenario.specs.Pen.{room, pen, penned, decimal_text}
use Rattle.scenario.proofs.Fills.{written_bytes}
use Rattle.scenario.proofs.Fits.{decimal_most, form_most}
use Rattle.diary.specs.Follow.{followed, told_buses}
use Rattle.diary.specs.Lines.{lines_text}
use Rattle.diary.specs.Output.{refused16, opening_text, held_lines, logged_of, wirelog_output}
use Rattle.diary.specs.Writes.{is_played, Writes, refused, logged}
use Rattle.diary.proofs.FillsAreLines.{fills_are_lines}
use Rattle.diary.proofs.FollowsTheMoments.{follows_the_moments}
use Rattle.diary.proofs.LinesOfRecords.{lines_of_records}

-- ---- what is read from a log

-- where all fit, all are read
all_fit : (n : ℕ) (ls : List Line) → length (joined ls) ≤ n → fitting_run n ls ≡ ls
unfolding fitting_run
all_fit n [] h = refl
all_fit n (l ∷ ls) h =
    let first = length_first l ls in
    simp (le-leb (length (record_of l)) n (omega (arith, first)), all_fit (n - length (record_of l)) ls (omega (arith, first)))

abbrev pub read_whole : List Line → List ℕ → Copying
read_whole ls into = copying (joined ls ++ drop (length (joined ls)) into) (Ok (length (joined ls)))

pub read_whole_lem : (d : Ring) (ls : List Line) (into : List ℕ) → Sound d → held_bytes d ≡ joined ls → length (joined ls) ≤ length into
    → read_into d into ≡ read_whole ls into
read_whole_lem d ls into s e h =
    reads d ls into s e ∙ ap (λ (v : List Line). read_whole v into) (all_fit (length into) ls h)

-- of the lines that are held none has more than 28 bytes
pub held_short : (n : ℕ) (bs : List Bus) → AllRoomy bs → Every Short28 (longest_run n (all_lines bs))
held_short n bs rs =
    let gone = goes_oldest_first n (all_lines bs) in
    every_behind gone.0 (subst (λ (v : List Line). Every Short28 v) gone.1 (longest_of_all bs rs))

-- the line of a bad length
pub refused_most : length refused16 ≤ 40
refused_most = omega (arith, length-append (refused_text ++ decimal_text 16) newline, length-append refused_text (decimal_text 16), decimal_most 16)

-- ---- the log after a scenario

abbrev log_of : List ℕ → List ℕ → Ring
log_of bytes s = followed (ring bytes (fresh_for (length bytes))) s

module _ (bytes s into buffer : List ℕ) (all : Bytes s) (whole : length buffer ≡ room) (rs : AllRoomy (told_buses (moments s))) where
  abbrev ls : List Line
  ls = held_lines (length bytes) s

  ready : within_limits (length bytes) ≡ true → set_up_for (length bytes) ≡ Ok (fresh_for (length bytes))
  unfolding set_up_for
  ready w = simp w

  refuses : within_limits (length bytes) ≡ false → set_up_for (length bytes) ≡ Err bad_length
  unfolding set_up_for
  refuses w = simp w

  -- played to its end
  plays : within_limits (length bytes) ≡ true → form_of s ≡ Ok tt → length (joined ls) ≤ length into
      → Writes bytes s into buffer (logged_of (Ok tt) (length bytes) s)
  plays w g h =
      let bs = told_buses (moments s) in
      let same : log_of bytes s ≡ log_after bytes bs = follows_the_moments s (ring bytes (fresh_for (length bytes))) all g in
      let sound : Sound (log_of bytes s) = rw same (log_stays_sound bytes bs w rs) in
      let held : held_bytes (log_of bytes s) ≡ joined ls = rw same (log_holds_the_latest bytes bs w rs) in
      let fills = fills_are_lines ls buffer whole (held_short (length bytes) bs rs) in
      let front : take (length (joined ls)) (joined ls ++ drop (length (joined ls)) into) ≡ joined ls = take-append_seam (joined ls) (drop (length (joined ls)) into) in
      rw (← lines_of_records ls)
      (logged {n = fills.fills} {x = lines_text (joined ls)} (ready w) g (read_whole_lem (log_of bytes s) ls into sound held h) (rw front fills.prints))

  -- the opening alone
  opens : (x : List ℕ) → is_played (set_up_for (length bytes)) (form_of s) ≡ false → opening_text (set_up_for (length bytes)) (form_of s) ≡ x → length x ≤ 40
      → Writes bytes s into buffer x
  opens x p e h =
      subst (λ (v : List ℕ). Writes bytes s into buffer v) (written_bytes buffer x whole (omega arith))
      (refused p (ap (λ (v : List ℕ). penned (pen buffer 0) v) e))

  by_form : (f : Result ⊤ FormError) → form_of s ≡ f → within_limits (length bytes) ≡ true → length (joined ls) ≤ length into
      → Writes bytes s into buffer (logged_of f (length bytes) s)
  by_form (Ok tt) g w h = plays w g h
  by_form (Err (BadField at)) g w h = opens (form_text (Err (BadField at))) (simp (ready w, g)) (simp (ready w, g)) (form_most (Err (BadField at)))
  by_form (Err TooLong) g w h = opens (form_text (Err TooLong)) (simp (ready w, g)) (simp (ready w, g)) (form_most (Err TooLong))

  by_length : (t : Bool) → within_limits (length bytes) ≡ t → length (joined ls) ≤ length into
      → Writes bytes s into buffer (cond t (logged_of (form_of s) (length bytes) s) refused16)
  by_length true w h = by_form (form_of s) refl w h
  by_length false w h = opens refused16 (simp (refuses w)) (simp (refuses w)) refused_most

-- with any buffer for the log, any to fill, and one to read into that has room for what the log holds
pub wirelog_prints : (bytes s into buffer : List ℕ) → Bytes s → length buffer ≡ room → AllRoomy (told_buses (moments s))
    → length (joined (held_lines (length bytes) s)) ≤ length into → Writes bytes s into buffer (wirelog_output (length bytes) s)
unfolding wirelog_output
wirelog_prints bytes s into buffer all whole rs h =
    by_length bytes s into buffer all whole rs (within_limits (length bytes)) refl h

-- one that is as long as the log's has it
pub wirelog_prints_whole : (bytes s into buffer : List ℕ) → Bytes s → length buffer ≡ room → AllRoomy (told_buses (moments s))
    → length bytes ≤ length into → Writes bytes s into buffer (wirelog_output (length bytes) s)
wirelog_prints_whole bytes s into buffer all whole rs h =
    wirelog_prints bytes s into buffer all whole rs (omega (arith, run_fits (length bytes) (all_lines (told_buses (moments s)))))
